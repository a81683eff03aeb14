use Rattle.proof_method.proofs.Write.{claim_found}
use Rattle.proof_method.proofs.claims_are_found_again.Goals as goal

pub returns : goal.returns
returns g c = claim_found g.S.Store.store
