use Rattle.std.proofs.Common.{◌≡◌, ◌∙◌, min, reverse, rules}
use Rattle.std.specs.List.{fold}
use Rattle.search_method.specs.Pairs.{INF, seen}
use Rattle.search.proofs.Rows.{least_folds}
use Rattle.search.proofs.pairs.Row.least.Goals as goal

pub returns : goal.returns
returns c =
    let e : c.fold.result ≡ fold (λ n p. min (seen c.args.self.now.black p).pn n) INF (reverse c.args.self.now.pairs.now) = search rules in
    e ∙ least_folds c.args.self.now.black c.args.self.now.pairs.now
