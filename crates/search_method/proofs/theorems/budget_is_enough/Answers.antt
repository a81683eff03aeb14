use Rattle.search_method.proofs.Bound.{budget_enough}
use Rattle.search_method.proofs.theorems.budget_is_enough.Goals as goal

pub returns : goal.returns
returns c = budget_enough
