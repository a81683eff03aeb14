use Rattle.layer_rules.proofs.Limits.{limited_lawful}
use Rattle.layer_rules.proofs.Repeats.{repeated_lawful}
use Rattle.layer_rules.proofs.theorems.laws_kept.Goals as goal

pub returns : goal.returns
returns c m lawful = (repeated_lawful m lawful, λ n low. limited_lawful n m low lawful)
