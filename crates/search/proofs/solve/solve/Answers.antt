use Rattle.search_method.proofs.Bound.{budget_enough}
use Rattle.search_method.proofs.Truth.{verdicts_true}
use Rattle.search.proofs.solve.solve.Goals as goal

pub returns-in_err-floor-clause-sound : goal.returns-in_err-floor-clause-sound
returns-in_err-floor-clause-sound g c = verdicts_true g.S.Store.store

pub returns-in_err-floor-clause-enough : goal.returns-in_err-floor-clause-enough
returns-in_err-floor-clause-enough g c = budget_enough

pub returns-clause-sound : goal.returns-clause-sound
returns-clause-sound g c = verdicts_true g.S.Store.store

pub returns-clause-enough : goal.returns-clause-enough
returns-clause-enough g c = budget_enough
