use Rattle.std.proofs.Common.{rules, nat_eq}
use Rattle.layers.proofs.repeat.stayed.Goals as goal

pub returns : goal.returns
returns g c = let found = c.any_earlier.ensures (λ w. nat_eq w.level c.args.level) (λ w b e. search rules) in search rules
