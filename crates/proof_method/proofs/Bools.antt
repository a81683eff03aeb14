-- Two booleans compared.
use Rattle.std.proofs.Common.{◌≡◌, Bool, true, false, not, arith}
use mathlib.Core.Bool.{beq}

pub beq_same : (a b : Bool) → beq a b ≡ true → a ≡ b
beq_same a b e = grind arith

pub beq_other : (a b : Bool) → beq a b ≡ false → a ≡ not b
beq_other a b e = grind arith
