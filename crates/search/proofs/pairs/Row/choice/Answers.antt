use Rattle.std.proofs.Common.{◌<◌, subst₂, sym, ap, ◌∙◌}
use Rattle.search_method.specs.Pairs.{first}
use Rattle.search.specs.Numbers.{mine}
use Rattle.search.proofs.Rows.{first_least, below_limits, mine_length}
use Rattle.search.proofs.pairs.Row.choice.Goals as goal

pub returns-clause-within : goal.returns-clause-within
returns-clause-within c =
    subst₂ (λ k n. k < n) (sym (c.place_of.ensures.is ∙ ap (λ x. first x (mine c.args.self.now.black c.args.self.now.pairs.now)) c.least.ensures)) (mine_length c.args.self.now.black c.args.self.now.pairs.now)
    (first_least (mine c.args.self.now.black c.args.self.now.pairs.now) (below_limits c.args.self.now.black c.args.limit c.args.self.now.pairs.now c.requires.capped c.requires.below))
