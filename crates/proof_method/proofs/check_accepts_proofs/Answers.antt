use Rattle.proof_method.proofs.Accepting.{accepts_proofs}
use Rattle.proof_method.proofs.check_accepts_proofs.Goals as goal

pub returns : goal.returns
returns c = accepts_proofs
