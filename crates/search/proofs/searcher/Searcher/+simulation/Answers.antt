use Rattle.std.proofs.Common.{sym, ◌∙◌, arith}
use Rattle.search.proofs.Doing.{reads_give}
use Rattle.search.proofs.Trying.{simulates, trying_more, trying_fails, trying_exhausted, trying_all}
use Rattle.search.proofs.searcher.Searcher.+simulation.Goals as goal

pub simulate-returns-in-Stop : goal.simulate-returns-in-Stop
simulate-returns-in-Stop g t c =
    simulates c.args.yes c.args.found (g.met.G.Bounded.bounded _) (g.met.G.Bounded.room _) c.requires.going (sym c.in-Stop.is ∙ c.step.ensures) (reads_give c.in-Stop.held c.args.self.now)

pub simulate-returns-in-One : goal.simulate-returns-in-One
simulate-returns-in-One g t c =
    simulates c.args.yes c.args.found (g.met.G.Bounded.bounded _) (g.met.G.Bounded.room _) c.requires.going (sym c.in-One.is ∙ c.step.ensures) c.try_move.ensures

pub simulate-returns-in-All : goal.simulate-returns-in-All
simulate-returns-in-All g t c =
    simulates c.args.yes c.args.found (g.met.G.Bounded.bounded _) (g.met.G.Bounded.room _) c.requires.going (sym c.in-All.is ∙ c.step.ensures) c.try_all.ensures

pub try_all-returns-in_err-try_move : goal.try_all-returns-in_err-try_move
try_all-returns-in_err-try_move g t c = rw c.from_residual.ensures (trying_exhausted c.loop-k-test.true c.loop-k.invariant c.in_err-try_move.ensures)

pub try_all-returns-then-not-branch : goal.try_all-returns-then-not-branch
try_all-returns-then-not-branch g t c = trying_fails c.loop-k-test.true c.loop-k.invariant (rw c.if-not-branch.true at c.in_ok-try_move.ensures)

pub try_all-loop-k-preserved : goal.try_all-loop-k-preserved
try_all-loop-k-preserved g t c = trying_more c.loop-k-test.true c.loop-k.invariant (rw c.if-not-branch.false at c.in_ok-try_move.ensures)

pub try_all-returns : goal.try_all-returns
try_all-returns g t c = trying_all (omega arith) c.loop-k.invariant
