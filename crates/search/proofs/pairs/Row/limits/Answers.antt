use Rattle.search.proofs.Rows.{limits_fit}
use Rattle.search.proofs.pairs.Row.limits.Goals as goal

pub other_limit-dn-requires : goal.other_limit-dn-requires
other_limit-dn-requires c =
    record {
      within = limits_fit c.args.self.now.black c.args.limit c.args.self.now.pairs.now c.args.k
          c.seen-lim.ensures c.seen-own.ensures c.total.ensures c.requires.capped c.requires.below c.requires.small c.requires.within;
    }
