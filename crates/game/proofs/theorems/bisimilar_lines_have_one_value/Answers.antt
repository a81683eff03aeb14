use Rattle.game.proofs.Value.{bisimilar_values}
use Rattle.game.proofs.theorems.bisimilar_lines_have_one_value.Goals as goal

pub returns : goal.returns
returns c m n h g lawful bounded lawful' bounded' = bisimilar_values m n h g lawful bounded lawful' bounded'
