use Rattle.go_rules.proofs.Rulebook.{all_told}
use Rattle.go_rules.proofs.theorems.told_by_rules.Goals as goal

pub returns : goal.returns
returns c = all_told
