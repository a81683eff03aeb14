-- Bits of a set: what each operation on words does to a point.
use Rattle.std.proofs.Common.{◌≡◌, ℕ, zero, suc, ◌+◌, ◌-◌, ◌*◌, ◌/◌, ◌%◌, ◌^◌, ◌<◌, ◌≤◌, Bool, true, false, cond, not, ◌&&◌, ◌||◌, eqb, ltb, leb, ◌⊎◌, sym, refl, ap, ◌∙◌, subst, inl, inr, add-zero, pow-suc, arith, lit<}
use lib.Bits.{bit_and, bit_or}
use Rattle.std.specs.Int.{bit_at, w64}
use Rattle.std.proofs.lemmas.Nat.{one_shl, or_comm, or_shifted, shr-shr, and_mask, pow_pos}
use Rattle.std.proofs.lemmas.Nat.Bits.{bit_at-zero, bit_at_and, bit_at_or, bit_at_not, bit_at-pow_same, bit_at-pow_other, bit_at_ones, bit_at-lt, bit_at_above, bit_at_cat_low, bit_at_cat_high, shr_and_one, same_from_bits, same_from_bits_below}
use Rattle.std.proofs.lemmas.Bool.{cases_lt, cases_eq, true≢false, cond_both, lt-leb, le-leb, le-ltb, and_left}
use Rattle.std.proofs.lemmas.Bool.Decides.{nat_tests}
use Rattle.point_sets.specs.Points.{has, set_of}

-- has, by the library's word for a bit
at : (m p : ℕ) → has m p ≡ eqb (bit_at m p) 1
unfolding has
at m p = refl

pub has_and : (a b p : ℕ) → has (bit_and a b) p ≡ (has a p && has b p)
unfolding has
has_and a b p = grind (arith, nat_tests, bit_at_and a b p, bit_at-lt a p, bit_at-lt b p)

pub has_or : (a b p : ℕ) → has (bit_or a b) p ≡ (has a p || has b p)
unfolding has
has_or a b p = grind (arith, nat_tests, bit_at_or a b p, bit_at-lt a p, bit_at-lt b p)

-- the points of a that are not in b, in words of 64 bits
pub has_and_not : (a b p : ℕ) → a < 2 ^ 64 → b < 2 ^ 64 → has (bit_and a (2 ^ 64 - 1 - b)) p ≡ (has a p && not (has b p))
unfolding has
has_and_not a b p ha hb =
    elim (cases_lt p 64) [
      | inl l ↦ grind (arith, nat_tests, bit_at_and a (2 ^ 64 - 1 - b) p, bit_at_not w64 b p hb l, bit_at-lt a p, bit_at-lt b p)
      | inr g ↦ grind (arith, nat_tests, bit_at_and a (2 ^ 64 - 1 - b) p, bit_at_above a 64 p ha g)
    ]

pub has_shr : (a k p : ℕ) → has (a / 2 ^ k) p ≡ has a (k + p)
unfolding has
has_shr a k p = ap (λ (x : ℕ). eqb (x % 2) 1) (shr-shr a k p)

pub has_zero : (p : ℕ) → has 0 p ≡ false
unfolding has
has_zero p = ap (λ x. eqb x 1) (bit_at-zero p)

pub has_none : (k a p : ℕ) → a < 2 ^ k → k ≤ p → has a p ≡ false
unfolding has
has_none k a p h g = ap (λ x. eqb x 1) (bit_at_above a k p h g)

pub has_mod : (a w p : ℕ) → p < w → has (a % 2 ^ w) p ≡ has a p
unfolding has
has_mod a w p h = grind (arith, nat_tests, and_mask a w, bit_at_and a (2 ^ w - 1) p, bit_at_ones w p h, bit_at-lt a p)

-- the points of r below k, and those of a above them
has_low : (a k r p : ℕ) → p < k → has (a * 2 ^ k + r) p ≡ has r p
unfolding has
has_low a k r p h = ap (λ x. eqb x 1) (bit_at_cat_low a k r p h)

pub has_high : (a k r p : ℕ) → r < 2 ^ k → k ≤ p → has (a * 2 ^ k + r) p ≡ has a (p - k)
unfolding has
has_high a k r p h g = ap (λ x. eqb x 1) (bit_at_cat_high a k r p h g)

-- a shift to the left, in a word of w bits
pub has_shl : (a k w p : ℕ) → p < w → has (a * 2 ^ k % 2 ^ w) p ≡ (leb k p && has a (p - k))
has_shl a k w p h =
    has_mod (a * 2 ^ k) w p h ∙ ap (λ (x : ℕ). has x p) (sym (add-zero (a * 2 ^ k)))
    ∙ elim (cases_lt p k) [
      | inl l ↦ has_low a k 0 p l ∙ has_zero p ∙ sym (and_left (leb k p) (has a (p - k)) (lt-leb k p l))
      | inr g ↦ has_high a k 0 p (pow_pos k) g ∙ ap (λ b. b && has a (p - k)) (sym (le-leb k p g))
    ]

-- equal tests of two bits
bit_same : (a b p : ℕ) → has a p ≡ has b p → bit_at a p ≡ bit_at b p
unfolding has
bit_same a b p e = grind (arith, nat_tests, bit_at-lt a p, bit_at-lt b p)

-- sets with the same points are equal
pub same_set : (k a b : ℕ) → a < 2 ^ k → b < 2 ^ k → ((p : ℕ) → p < k → has a p ≡ has b p) → a ≡ b
same_set k a b ha hb e = same_from_bits_below k a b ha hb (λ p h. bit_same a b p (e p h))

pub same_bits : (a b : ℕ) → ((p : ℕ) → has a p ≡ has b p) → a ≡ b
same_bits a b e = same_from_bits a b (λ p. bit_same a b p (e p))

pub set_lt : (k : ℕ) (f : ℕ → Bool) → set_of k f < 2 ^ k
set_lt zero f = lit< tt
set_lt (suc k) f =
    cond_both (f k) (2 ^ k) 0 (λ (x : ℕ). set_of k f + x < 2 ^ suc k)
    (λ _. omega (arith, set_lt k f, pow-suc 2 k)) (λ _. omega (arith, set_lt k f, pow-suc 2 k))

pub next_set : (k : ℕ) (f : ℕ → Bool) → set_of (suc k) f ≡ cond (f k) 1 0 * 2 ^ k + set_of k f
next_set k f =
    elim (f k) as (λ b. set_of k f + cond b (2 ^ k) 0 ≡ cond b 1 0 * 2 ^ k + set_of k f) [
      | true ↦ omega arith
      | false ↦ omega arith
    ]

lowest : (b : Bool) → has (cond b 1 0) 0 ≡ b
unfolding has
lowest true = refl
lowest false = refl

pub has_set : (k : ℕ) (f : ℕ → Bool) (p : ℕ) → p < k → has (set_of k f) p ≡ f p
has_set zero f p h = absurd (omega arith)
has_set (suc k) f p h =
    ap (λ (x : ℕ). has x p) (next_set k f)
    ∙ elim (cases_lt p k) [
      | inl l ↦ has_low (cond (f k) 1 0) k (set_of k f) p l ∙ has_set k f p l
      | inr g ↦
          let e : k ≡ p = omega arith in
          let z : p - k ≡ 0 = omega arith in
          has_high (cond (f k) 1 0) k (set_of k f) p (set_lt k f) g ∙ ap (has (cond (f k) 1 0)) z ∙ lowest (f k) ∙ ap f e
    ]

pub has_pow : (p q : ℕ) → has (2 ^ p) q ≡ eqb q p
unfolding has
has_pow p q =
    elim (cases_eq q p) [
      | inl e ↦ grind (arith, nat_tests, bit_at-pow_same p)
      | inr e ↦ grind (arith, nat_tests, bit_at-pow_other p q e)
    ]

-- what a program tests
pub has_test : (m p : ℕ) → eqb (bit_and (m / 2 ^ p) 1) 1 ≡ has m p
unfolding has
has_test m p = ap (λ (x : ℕ). eqb x 1) (shr_and_one m p)

-- a point of a set of points below k is below k
pub has_inside : (k m q : ℕ) → m < 2 ^ k → has m q ≡ true → q < k
has_inside k m q h e =
    elim (cases_lt q k) [ inl l ↦ l | inr g ↦ absurd (true≢false (sym e ∙ has_none k m q h g)) ]

-- two sets agree, or differ at a point
pub cases_differ : (k a b : ℕ) → ((p : ℕ) → p < k → has a p ≡ has b p) ⊎ ((p : ℕ) × (p < k) × (((has a p ≡ true) × (has b p ≡ false)) ⊎ ((has a p ≡ false) × (has b p ≡ true))))
cases_differ zero a b = inl (λ p h. absurd (omega arith))
cases_differ (suc k) a b =
    elim (cases_differ k a b) [
      | inr d ↦ inr (d.0, omega (arith, d.1), d.2)
      | inl same ↦
          elim (top (has a k) (has b k)) [
            | inl e ↦
                inl (λ p h.
                elim (cases_lt p k) [
                  | inl l ↦ same p l
                  | inr g ↦ let last : k ≡ p = omega arith in subst (λ (q : ℕ). has a q ≡ has b q) last e
                ])
            | inr d ↦ inr (k, omega arith, d)
          ]
    ]
  where
    top : (x y : Bool) → (x ≡ y) ⊎ (((x ≡ true) × (y ≡ false)) ⊎ ((x ≡ false) × (y ≡ true)))
    top x y = grind arith

-- one more point, as a program puts it in
pub set_one_more : (p m : ℕ) → m < 2 ^ p → p < 64 → bit_or m (1 * 2 ^ p % 2 ^ 64) ≡ m + 2 ^ p
set_one_more p m low h = ap (bit_or m) (one_shl p 64 h ∙ omega arith) ∙ or_comm m (1 * 2 ^ p) ∙ or_shifted 1 p m low ∙ omega arith

pub set_more : (p m : ℕ) → m < 2 ^ p → p < 64 → bit_or m (1 * 2 ^ (p % 64) % 2 ^ 64) ≡ m + 2 ^ p
set_more p m low h =
    let small : p % 64 ≡ p = omega arith in
    ap (λ (k : ℕ). bit_or m (1 * 2 ^ k % 2 ^ 64)) small ∙ set_one_more p m low h

-- no word has a place from 64 on
pub past_word : (m p : ℕ) → m < 2 ^ 64 → 64 ≤ p → ltb p 64 ≡ has m p
past_word m p h g = le-ltb p 64 g ∙ sym (has_none 64 m p h g)
