use Rattle.layer_rules.proofs.Limits.{limited_bounded}
use Rattle.layer_rules.proofs.Repeats.{repeated_bounded}
use Rattle.layer_rules.proofs.theorems.heights.Goals as goal

pub returns : goal.returns
returns c m h = (limited_bounded h m, repeated_bounded m h)
