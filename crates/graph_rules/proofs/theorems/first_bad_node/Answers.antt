use Rattle.graph_rules.proofs.Allowed.{first_bad_lem}
use Rattle.graph_rules.proofs.theorems.first_bad_node.Goals as goal

pub returns : goal.returns
returns c ns i = first_bad_lem ns i
