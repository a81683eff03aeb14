use Rattle.worked_examples.proofs.Table.{table}
use Rattle.worked_examples.proofs.worked_examples.Goals as goal

pub returns : goal.returns
returns c = table
