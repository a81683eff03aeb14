use Rattle.std.proofs.Common.{◌≡◌, ◌∙◌, reverse, rules}
use Rattle.std.specs.List.{fold}
use Rattle.search_method.specs.Pairs.{seen}
use Rattle.search.specs.Numbers.{plus}
use Rattle.search.proofs.Rows.{total_folds}
use Rattle.search.proofs.pairs.Row.total.Goals as goal

pub returns : goal.returns
returns c =
    let e : c.fold.result ≡ fold (λ n p. plus (seen c.args.self.now.black p).dn n) 0 (reverse c.args.self.now.pairs.now) = search rules in
    e ∙ total_folds c.args.self.now.black c.args.self.now.pairs.now
