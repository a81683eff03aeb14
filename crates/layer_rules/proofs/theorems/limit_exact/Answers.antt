use Rattle.layer_rules.proofs.Limits.{limited_short, limited_exact}
use Rattle.layer_rules.proofs.theorems.limit_exact.Goals as goal

pub returns : goal.returns
returns c n m l reached = (limited_short n m l reached, limited_exact n m l reached)
