use Rattle.game.proofs.Plays.{played_reachable, shorter_reachable}
use Rattle.game.proofs.theorems.stays_reachable.Goals as goal

pub returns : goal.returns
returns c m l k reached = (played_reachable m l k reached, shorter_reachable m l reached)
