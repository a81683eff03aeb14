use Rattle.std.proofs.Common.{◌*◌, ◌%◌, ◌^◌, cond, ◌∙◌, arith, rules}
use borrow.Author.Tests.{tests}
use lib.Bits.{bit_or}
use Rattle.std.proofs.lemmas.Iterator.{YieldsList-from_range}
use Rattle.std.proofs.lemmas.Iterator.Consumers.{fold_from_yields_List}
use Rattle.point_sets.proofs.Lists.{set_gathered}
use Rattle.go_rules.proofs.board.points_where.Goals as goal

pub returns : goal.returns
returns g c = λ f says.
    let n = c.args.size in
    fold_from_yields_List _ (λ m p. cond (f p) (bit_or m (1 * 2 ^ p % 2 ^ 64)) m) 0 c.fold.result c.fold.ensures.ran
    (YieldsList-from_range 0 n n (cc) (omega arith)) (λ a x b q k. search (rules, tests, says))
    ∙ set_gathered f n c.requires.small
