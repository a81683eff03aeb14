-- Bisimilar lines have the same answer of check.
use Rattle.std.proofs.Common.{◌≡◌, ℕ, zero, suc, ◌+◌, ◌<◌, ◌≤◌, Bool, List, [], ◌∷◌, length, Some, None, Option, refl, ap₂, arith}
use mathlib.Core.Bool.{beq}
use Rattle.codec.specs.Numbers.{Read, number, refused, read}
use Rattle.game.specs.declared.kinds.Score.{Score}
use Rattle.game.specs.Meaning.{Line, Meaning, Reachable, Bisimilar}
use Rattle.game.specs.Value.{black_moves}
use Rattle.game.proofs.Value.{bisimilar_next}
use Rattle.proof_method.specs.Check.{Step, choose, played, own, each, at_line, walk, check}
use Rattle.proof_method.specs.Theorems.{BisimilarChecked}

-- a line's part of the walk asks only for its legal moves
module _ (whole d moves : ℕ) (go to : ℕ → Step) (same : (k : ℕ) → k < moves → (rest : List ℕ) (n : ℕ) → go k rest n ≡ to k rest n) where
  played_same : (k : ℕ) → k < moves → (rest : List ℕ) (n : ℕ) → played whole d (go k) rest n ≡ played whole d (to k) rest n
  played_same k h rest zero = refl
  played_same k h rest (suc n) = same k h rest n

  own_same : (rest : List ℕ) (n : ℕ) (x : Read) → own whole d moves go rest n x ≡ own whole d moves to rest n x
  own_same rest n refused = refl
  own_same rest n (number k after) = grind (arith, played_same)

  each_same : (r k : ℕ) → r + k ≤ moves → (rest : List ℕ) (n : ℕ) → each whole d go k r rest n ≡ each whole d to k r rest n
  each_same zero k h rest n = refl
  each_same (suc r) k h rest n =
      let later = each_same r (suc k) (omega arith) in
      grind (arith, played_same, later)

  line_same : (floor : ℕ) (v b : Bool) (o : Option Score) (rest : List ℕ) (n : ℕ) →
      at_line whole floor v d b moves go o rest n ≡ at_line whole floor v d b moves to o rest n
  line_same floor v b (Some s) rest n = refl
  line_same floor v b None rest n = ap₂ (choose (beq b v)) (own_same rest n (read rest)) (each_same moves 0 (omega arith) rest n)

module _ (whole : ℕ) (m n : Meaning) (floor : ℕ) (v : Bool) where
  walk_bisimilar : (f d : ℕ) (p q : Line) → Reachable m p → Bisimilar m p n q → (rest : List ℕ) (c : ℕ) →
      walk whole m floor v f d p rest c ≡ walk whole n floor v f d q rest c
  unfolding walk
  walk_bisimilar zero d p q r h rest c = refl
  walk_bisimilar (suc f) d p q r h rest c =
      let same = (h [] r).1 in
      let line =
      line_same whole d (m.view p).moves (λ k. walk whole m floor v f (suc d) (k ∷ p)) (λ k. walk whole n floor v f (suc d) (k ∷ q))
      (λ k x. walk_bisimilar f (suc d) (k ∷ p) (k ∷ q) (r, x) (bisimilar_next m n p q k h))
      floor v (black_moves (m.view p)) (m.view p).score rest c in
      rw (line, same.turn, same.moves, same.score)

pub bisimilar_checked : BisimilarChecked
unfolding check
bisimilar_checked m n p q r h bytes budget =
    let walks = walk_bisimilar (length bytes) m n in
    grind (arith, walks)
