use Rattle.std.proofs.Common.{◌*◌, sym, ap, ◌∙◌, rules, arith}
use borrow.Author.Tests.{tests}
use Rattle.std.proofs.lemmas.Iterator.{YieldsList-from_range}
use Rattle.std.proofs.lemmas.Iterator.Search.{find_from_yields_List}
use Rattle.std.proofs.lemmas.Iterator.Adapters.{option_map_id}
use Rattle.point_sets.specs.Points.{has}
use Rattle.go_rules.specs.Rules.{living}
use Rattle.go_rules.proofs.Texts.{dead_found}
use Rattle.go_rules.proofs.text.dead_point.Goals as goal

pub returns : goal.returns
returns c =
    let n = c.args.board.now.n in
    let b = c.args.black in
    let w = c.args.white in
    let ours = c.living_stones in
    let theirs = c.living_stones-2 in
    sym (option_map_id c.find.result)
    ∙ find_from_yields_List (has _) _ _ _ c.find.ensures.ran (YieldsList-from_range 0 (n * n) (n * n) (cc) (omega arith)) (λ x b q k. search (rules, tests))
    ∙ dead_found n b w ours.result theirs.result c.ranges.black.fits c.ranges.white.fits ours.type_inv theirs.type_inv
    (ours.ensures.is ∙ ap (living n b) c.free_points-free.ensures) (theirs.ensures.is ∙ ap (living n w) c.free_points-free.ensures)
