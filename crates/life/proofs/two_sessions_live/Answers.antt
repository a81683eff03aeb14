use Rattle.life.proofs.Example.{two_live}
use Rattle.life.proofs.two_sessions_live.Goals as goal

pub returns : goal.returns
returns c = two_live
