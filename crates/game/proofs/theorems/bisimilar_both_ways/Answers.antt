use Rattle.game.proofs.Value.{bisimilar_back}
use Rattle.game.proofs.theorems.bisimilar_both_ways.Goals as goal

pub returns : goal.returns
returns c = bisimilar_back
