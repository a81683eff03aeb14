use Rattle.std.proofs.Common.{◌+◌, ◌-◌, ◌%◌, ◌^◌, arith, rules, ap, ◌∙◌}
use borrow.Author.Tests.{tests}
use lib.Bits.{bit_and}
use Rattle.std.proofs.lemmas.Iterator.{YieldsList-from_range}
use Rattle.std.proofs.lemmas.Iterator.Consumers.{fold_from_yields_List}
use Rattle.point_sets.specs.Points.{has, list_of}
use Rattle.point_sets.proofs.Firsts.{after_turns}
use Rattle.point_sets.proofs.points.after_first.Goals as goal

pub returns : goal.returns
returns c = λ s.
    let n = c.min.result in
    let folded =
    fold_from_yields_List _ (λ x _. bit_and x ((x + (2 ^ 64 - 1)) % 2 ^ 64)) c.args.m c.fold.result c.fold.ensures.ran
    (YieldsList-from_range 0 n n (cc) (omega arith)) (λ a x b q k. search (rules, tests)) in
    ap (λ r. list_of s (has r)) folded ∙ after_turns s c.args.m c.args.k n c.ranges.m.fits c.min.ensures
