use Rattle.search.proofs.Judging.{confirmed, unconfirmed}
use Rattle.search.proofs.searcher.Searcher.confirm.Goals as goal

pub returns-in_err-simulate : goal.returns-in_err-simulate
returns-in_err-simulate g c = rw c.from_residual.ensures (unconfirmed c.args.entry c.args.yes c.in_err-simulate.ensures)

pub returns-then-branch : goal.returns-then-branch
returns-then-branch g c = confirmed c.args.entry c.args.yes c.in_ok-simulate.ensures (rw c.if-branch.true c.verdict_pair.ensures)

pub returns-else-branch : goal.returns-else-branch
returns-else-branch g c = confirmed c.args.entry c.args.yes c.in_ok-simulate.ensures (rw c.if-branch.false)
