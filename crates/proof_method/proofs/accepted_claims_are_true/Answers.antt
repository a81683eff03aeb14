use Rattle.proof_method.proofs.Accepting.{claims_true}
use Rattle.proof_method.proofs.accepted_claims_are_true.Goals as goal

pub returns : goal.returns
returns c = claims_true
