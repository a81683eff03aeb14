-- The neighbours of a set by shifts and masks.
use Rattle.std.proofs.Common.{◌≡◌, ℕ, ◌+◌, ◌-◌, ◌*◌, ◌/◌, ◌%◌, ◌^◌, ◌<◌, ◌≤◌, Bool, true, ◌&&◌, ◌||◌, ltb, leb, sym, ap, ◌∙◌, ap₂, lt_of_le_of_lt, add_comm, arith}
use native.Mathlib.Nat.{mod-le}
use lib.Bits.{bit_and, bit_or, and_le_r, or_lt}
use Rattle.std.proofs.lemmas.Nat.{mul-le}
use Rattle.std.proofs.lemmas.Bool.Decides.{nat_tests}
use Rattle.std.proofs.Math.Bool.{and_comm, and-true}
use Rattle.point_sets.specs.Points.{has, set_of}
use Rattle.go_rules.specs.Groups.{touches, around, points, left_ones, right_ones}
use Rattle.point_sets.proofs.Sets.{has_and, has_or, has_shr, has_shl, has_set, set_lt, same_set}

pub small_board : (n : ℕ) → n ≤ 7 → n * n ≤ 49
small_board n h = mul-le n n 7 7 h h

abbrev shifted : ℕ → ℕ → ℕ
shifted n m =
    bit_or (bit_or (bit_and (m * 2 ^ 1 % 2 ^ 64) (left_ones n)) (bit_and (m / 2 ^ 1) (right_ones n)))
    (bit_and (bit_or (m * 2 ^ n % 2 ^ 64) (m / 2 ^ n)) (points n))

shifted_lt : (n m : ℕ) → shifted n m < 2 ^ (n * n)
shifted_lt n m =
    let inside : (x : ℕ) (f : ℕ → Bool) → bit_and x (set_of (n * n) f) < 2 ^ (n * n) =
    λ x f. lt_of_le_of_lt (and_le_r x (set_of (n * n) f)) (set_lt (n * n) f) in
    or_lt (n * n) (bit_or (bit_and (m * 2 ^ 1 % 2 ^ 64) (left_ones n)) (bit_and (m / 2 ^ 1) (right_ones n)))
    (bit_and (bit_or (m * 2 ^ n % 2 ^ 64) (m / 2 ^ n)) (points n))
    (or_lt (n * n) (bit_and (m * 2 ^ 1 % 2 ^ 64) (left_ones n)) (bit_and (m / 2 ^ 1) (right_ones n))
    (inside (m * 2 ^ 1 % 2 ^ 64) (λ p. ltb 0 (p % n))) (inside (m / 2 ^ 1) (λ p. ltb (p % n + 1) n)))
    (inside (bit_or (m * 2 ^ n % 2 ^ 64) (m / 2 ^ n)) (λ p. true))

module _ (n m p : ℕ) (small : n ≤ 7) (on : p < n * n) where
  left : has (bit_and (m * 2 ^ 1 % 2 ^ 64) (left_ones n)) p ≡ (ltb 0 (p % n) && has m (p - 1))
  left =
      has_and (m * 2 ^ 1 % 2 ^ 64) (left_ones n) p
      ∙ ap₂ ◌&&◌ (has_shl m 1 64 p (omega (arith, small_board n small))) (has_set (n * n) _ p on)
      ∙ grind (arith, nat_tests, mod-le p n)

  right : has (bit_and (m / 2 ^ 1) (right_ones n)) p ≡ (ltb (p % n + 1) n && has m (p + 1))
  right =
      has_and (m / 2 ^ 1) (right_ones n) p
      ∙ ap₂ ◌&&◌ (has_shr m 1 p ∙ ap (has m) (add_comm 1 p)) (has_set (n * n) _ p on)
      ∙ and_comm (has m (p + 1)) (ltb (p % n + 1) n)

  upright : has (bit_and (bit_or (m * 2 ^ n % 2 ^ 64) (m / 2 ^ n)) (points n)) p ≡ ((leb n p && has m (p - n)) || has m (p + n))
  upright =
      has_and (bit_or (m * 2 ^ n % 2 ^ 64) (m / 2 ^ n)) (points n) p
      ∙ ap (λ b. has (bit_or (m * 2 ^ n % 2 ^ 64) (m / 2 ^ n)) p && b) (has_set (n * n) _ p on)
      ∙ and-true _
      ∙ has_or (m * 2 ^ n % 2 ^ 64) (m / 2 ^ n) p
      ∙ ap₂ ◌||◌ (has_shl m n 64 p (omega (arith, small_board n small))) (has_shr m n p ∙ ap (has m) (add_comm n p))

  has_shifted : has (shifted n m) p ≡ touches n m p
  has_shifted =
      has_or _ _ p ∙ ap₂ ◌||◌ (has_or _ _ p ∙ ap₂ ◌||◌ left right) upright

shifted_is : (n m : ℕ) → n ≤ 7 → shifted n m ≡ around n m
unfolding around
shifted_is n m small =
    same_set (n * n) (shifted n m) (set_of (n * n) (touches n m)) (shifted_lt n m) (set_lt (n * n) (touches n m))
    (λ p on. has_shifted n m p small on ∙ sym (has_set (n * n) (touches n m) p on))

-- as a board's routine finds them, by the words of the board
pub around_is : (n m all lefts rights : ℕ) → n ≤ 7 → all ≡ points n → lefts ≡ left_ones n → rights ≡ right_ones n →
    bit_or (bit_or (bit_and (m * 2 ^ 1 % 2 ^ 64) lefts) (bit_and (m / 2 ^ 1) rights)) (bit_and (bit_or (m * 2 ^ n % 2 ^ 64) (m / 2 ^ n)) all) ≡ around n m
around_is n m all lefts rights small a l r = simp (a, l, r) (shifted_is n m small)
