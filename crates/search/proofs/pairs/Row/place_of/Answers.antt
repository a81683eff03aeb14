use Rattle.std.proofs.Common.{◌∙◌, length, ap, unwrap_or}
use Rattle.search.proofs.Rows.{place_is}
use Rattle.search.proofs.pairs.Row.place_of.Goals as goal

pub returns-clause-is : goal.returns-clause-is
returns-clause-is c =
    c.unwrap_or.ensures
    ∙ (ap (λ r. unwrap_or r (length c.args.self.now.pairs.now)) c.position_of.ensures ∙ place_is c.args.self.now.black c.args.x c.args.self.now.pairs.now)
