use Rattle.life.proofs.Keeping.{promised as keeps}
use Rattle.session.proofs.run.requests_in_two_sessions.Goals as goal

pub returns-clause-promised : goal.returns-clause-promised
returns-clause-promised g c = keeps g.S.Store.store g.R.Store.store
