-- Free points, liberties and legal moves.
use Rattle.std.proofs.Common.{◌≡◌, ℕ, ◌-◌, ◌<◌, ◌*◌, ◌/◌, ◌%◌, ◌^◌, ◌≤◌, true, not, ◌&&◌, ◌||◌, sym, refl, ap, ◌∙◌, inl, inr, arith, lit≤, lt_of_lt_of_le}
use native.Mathlib.Nat.{pow-le-pow_right}
use lib.Bits.{bit_and, bit_or, or_lt}
use Rattle.std.proofs.lemmas.Bool.{cases_lt, ne_eqb, eq-eqb, or_left, or_right, and_parts, and_from}
use Rattle.point_sets.specs.Points.{has, set_of}
use Rattle.go_rules.specs.Groups.{points, Neighbours, around}
use Rattle.go_rules.specs.Rules.{free_of, living, with_stone, leaves_one, may_fill, legal}
use Rattle.point_sets.proofs.Sets.{same_bits, has_and, has_and_not, has_or, has_set, has_none, set_lt, has_pow}
use Rattle.go_rules.proofs.Around.{small_board}
use Rattle.go_rules.proofs.Chains.{around_from, around_to, reach_start}

pub free_is : (n s t all : ℕ) → n ≤ 7 → all ≡ points n → s < 2 ^ 64 → t < 2 ^ 64 → bit_and all (2 ^ 64 - 1 - bit_or s t) ≡ free_of n s t
unfolding free_of
free_is n s t all small whole hs ht =
    let fits : n * n ≤ 64 = omega (arith, small_board n small) in
    let low : points n < 2 ^ 64 = lt_of_lt_of_le (set_lt (n * n) (λ p. true)) (pow-le-pow_right (lit≤ tt) fits) in
    simp whole (same_bits (bit_and (points n) (2 ^ 64 - 1 - bit_or s t)) (set_of (n * n) (λ p. not (has s p || has t p))) (λ p.
    has_and_not (points n) (bit_or s t) p low (or_lt 64 s t hs ht)
    ∙ ap (λ b. has (points n) p && not b) (has_or s t p)
    ∙ elim (cases_lt p (n * n)) [
      | inl l ↦
          ap (λ a. a && not (has s p || has t p)) (has_set (n * n) (λ q. true) p l)
          ∙ sym (has_set (n * n) (λ q. not (has s q || has t q)) p l)
      | inr g ↦
          ap (λ a. a && not (has s p || has t p)) (has_none (n * n) (points n) p (set_lt (n * n) (λ q. true)) g)
          ∙ sym (has_none (n * n) (set_of (n * n) (λ q. not (has s q || has t q))) p (set_lt (n * n) (λ q. not (has s q || has t q))) g)
    ]))

-- no point is its own neighbour
apart : (n q p : ℕ) → Neighbours n q p → q ≡ p → ⊥
apart n q p b e = grind (arith, b.near, ap (λ (x : ℕ). x / n) e, ap (λ (x : ℕ). x % n) e)

-- a free point with a free neighbour: a stone there has a liberty
open_leaves : (n own foe p : ℕ) → has (around n (free_of n own foe)) p ≡ true → leaves_one n own foe p ≡ true
unfolding free_of living
open_leaves n own foe p e =
    let f = λ (q : ℕ). not (has own q || has foe q) in
    let f' = λ (q : ℕ). not (has (with_stone own p) q || has foe q) in
    let b = around_from n (set_of (n * n) f) p (set_lt (n * n) f) e in
    let q_on = b.2.on_board in
    let q_free : f b.0 ≡ true = sym (has_set (n * n) f b.0 q_on) ∙ b.1 in
    let q_still : f' b.0 ≡ true = grind (arith, q_free, has_or own (2 ^ p) b.0, has_pow p b.0, ne_eqb b.0 p (apart n b.0 p b.2)) in
    reach_start n (with_stone own p) (around n (set_of (n * n) f')) p
    (around_to n (set_of (n * n) f') p b.0 (has_set (n * n) f' b.0 q_on ∙ q_still) b.2)
    (has_or own (2 ^ p) p ∙ or_right _ _ (has_pow p p ∙ eq-eqb p p refl))

pub open_legal : (n own foe p : ℕ) → has (bit_and (free_of n own foe) (around n (free_of n own foe))) p ≡ true → legal n own foe p ≡ true
unfolding legal may_fill
open_legal n own foe p e =
    let x = and_parts _ _ (sym (has_and (free_of n own foe) (around n (free_of n own foe)) p) ∙ e) in
    and_from _ _ x.0 (or_left _ _ (open_leaves n own foe p x.1))
