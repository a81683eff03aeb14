use Rattle.std.proofs.Common.{◌+◌, ◌*◌}
use Rattle.session_walk.proofs.+best_of_value_of.Given as goal

abbrev pub decreases-best_of : goal.decreases-best_of
decreases-best_of g l = 2 * l.depth

abbrev pub decreases-value_of : goal.decreases-value_of
decreases-value_of g l = 2 * l.depth + 1
