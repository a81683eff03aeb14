use Rattle.proof_method.proofs.Write.{no_stray}
use Rattle.proof_method.proofs.no_stray_move.Goals as goal

pub returns : goal.returns
returns g c = no_stray g.S.Store.store
