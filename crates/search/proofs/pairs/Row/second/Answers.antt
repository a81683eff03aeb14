use Rattle.std.proofs.Common.{◌≡◌, suc, ◌+◌, min, length, drop, ap, ◌∙◌, ap₂, arith}
use Rattle.std.proofs.lemmas.Slice.{between_to_end}
use Rattle.search_method.specs.Pairs.{least}
use Rattle.search.specs.Numbers.{mine}
use Rattle.search.proofs.Rows.{least_others}
use Rattle.search.proofs.pairs.Row.second.Goals as goal

pub returns : goal.returns
returns c =
    let e : c.args.k + 1 ≡ suc c.args.k = omega arith in
    c.min.ensures
    ∙ (ap₂ min
    c.least.ensures
    (c.least-2.ensures
    ∙ (ap (λ ps. least (mine c.args.self.now.black ps)) (between_to_end c.args.self.now.pairs.now (c.args.k + 1) (length c.args.self.now.pairs.now) (omega arith))
    ∙ ap (λ n. least (mine c.args.self.now.black (drop n c.args.self.now.pairs.now))) e))
    ∙ least_others c.args.self.now.black c.args.self.now.pairs.now c.args.k c.requires)
