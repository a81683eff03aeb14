use Rattle.std.proofs.Common.{rules, ◌<◌}
use Rattle.std.proofs.iter.runs.Sources.{ranges, range_runs}
use Rattle.game.specs.Prefixes.{words_of}
use Rattle.layer_rules.proofs.Repeats.{any_found}
use Rattle.layers.proofs.repeat.any_earlier.Goals as goal

pub returns : goal.returns
returns g c p computes =
    let m = g.G.Game.means c.args.game.now in
    let l = g.G.Game.line c.args.game.now in
    let r = c.any.ensures.runs.0 in
    any_found (λ q. p (words_of m q)) l c.any.result
    (λ e. search (rules, ranges))
    (λ e n less.
    let all : n < r.len = search (rules, ranges) in
    let there = (range_runs r r.seen).3 n all in
    search (rules, ranges))
