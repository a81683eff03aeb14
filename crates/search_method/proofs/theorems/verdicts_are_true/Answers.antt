use Rattle.search_method.proofs.Truth.{verdicts_true}
use Rattle.search_method.proofs.theorems.verdicts_are_true.Goals as goal

pub returns : goal.returns
returns g c = verdicts_true g.S.Store.store
