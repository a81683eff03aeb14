use Rattle.search_method.proofs.Bound.{worked_bounds}
use Rattle.search_method.proofs.theorems.worked_bounds.Goals as goal

pub returns : goal.returns
returns c = worked_bounds
