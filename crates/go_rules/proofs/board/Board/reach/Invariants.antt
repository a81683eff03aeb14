use Rattle.std.proofs.Common.{◌≡◌, ◌-◌}
use lib.Bits.{bit_and}
use Rattle.go_rules.specs.Groups.{reach, spread}
use Rattle.go_rules.proofs.board.Board.reach.Given as goal

abbrev pub invariant-loop-g : goal.invariant-loop-g
invariant-loop-g l = (bit_and l.g l.s ≡ l.g) × (spread l.s l.self.n l.s l.g ≡ reach l.self.n l.s l.from)

abbrev pub decreases-loop-g : goal.decreases-loop-g
decreases-loop-g l = l.s - l.g
