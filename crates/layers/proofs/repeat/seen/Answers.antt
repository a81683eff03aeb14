use Rattle.std.proofs.Common.{rules}
use Rattle.layer_rules.specs.Layers.{same_position}
use Rattle.layers.proofs.repeat.seen.Goals as goal

pub returns : goal.returns
returns g c = let found = c.any_earlier.ensures (λ w. same_position w c.args.a c.args.b) (λ w b e. search rules) in search rules
