use Rattle.std.proofs.Common.{◌∙◌}
use Rattle.history.proofs.Walks.{at_stands}
use Rattle.history.proofs.history.History.at.Goals as goal

pub returns-clause-stands : goal.returns-clause-stands
returns-clause-stands g c = λ stands f. c.place_at.ensures ∙ at_stands stands c.args.self.now f c.args.n
