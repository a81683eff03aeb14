use Rattle.life.proofs.Keeping.{promised}
use Rattle.life.proofs.sessions_keep_the_promise.Goals as goal

pub returns : goal.returns
returns g c = promised g.S.Store.store g.R.Store.store
