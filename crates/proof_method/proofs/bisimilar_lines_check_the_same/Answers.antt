use Rattle.proof_method.proofs.Bisimilar.{bisimilar_checked}
use Rattle.proof_method.proofs.bisimilar_lines_check_the_same.Goals as goal

pub returns : goal.returns
returns c = bisimilar_checked
