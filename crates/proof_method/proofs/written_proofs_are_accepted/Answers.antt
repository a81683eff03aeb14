use Rattle.proof_method.proofs.Write.{writes_proofs}
use Rattle.proof_method.proofs.written_proofs_are_accepted.Goals as goal

pub returns : goal.returns
returns g c = writes_proofs g.S.Store.store
