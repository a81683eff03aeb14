use Rattle.std.proofs.Common.{arith, take_all}
use Rattle.std.proofs.lemmas.List.{take_more_set}
use Rattle.search.proofs.Judging.{judging_more, judging_exhausted, judging_all}
use Rattle.search.proofs.searcher.Searcher.evaluate.Goals as goal

pub returns-in_err-pair : goal.returns-in_err-pair
returns-in_err-pair g c = rw c.from_residual.ensures (judging_exhausted c.loop-k-test.true c.requires.all c.loop-k.invariant c.in_err-pair.ensures)

pub loop-k-preserved : goal.loop-k-preserved
loop-k-preserved g c =
    judging_more c.loop-k-test.true (take_more_set c.loop-k.pairs c.loop-k.k c.in_ok-pair.field-0 (omega arith)) c.loop-k.invariant c.in_ok-pair.ensures

pub returns : goal.returns
returns g c = judging_all (omega arith) c.requires.all (take_all _ _ (omega arith)) c.loop-k.invariant
