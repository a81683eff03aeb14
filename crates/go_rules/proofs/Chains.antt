-- What growth reaches is what chains of neighbours reach.
use Rattle.std.proofs.Common.{◌≡◌, ℕ, zero, suc, ◌+◌, ◌-◌, ◌*◌, ◌/◌, ◌%◌, ◌^◌, ◌<◌, ◌≤◌, true, sym, ap, ◌∙◌, subst, inl, inr, lt_of_le_of_lt, arith}
use lib.Bits.{bit_and, bit_or, and_le_r}
use Rattle.std.proofs.Math.Nat.{add-mod_right, add-div_right}
use Rattle.std.proofs.lemmas.Nat.{div-add-mod', mod_below, div-mul-add, mod-mul-add}
use Rattle.std.proofs.lemmas.Bool.Decides.{nat_tests}
use Rattle.std.proofs.lemmas.Bool.{cases_eq, or_cases, or_right, and_parts, and_from, ltb-true, leb-true}
use Rattle.point_sets.specs.Points.{has, set_of}
use Rattle.go_rules.specs.Groups.{Neighbours, Joined, here, step, touches, around, grown, spread, reach, OnBoard, Chained}
use Rattle.point_sets.proofs.Sets.{has_and, has_or, has_set, has_inside, set_lt}
use Rattle.go_rules.proofs.Reach.{spread_stop, spread_go, grows, grown_le, grown_within, start_within}

-- the row and the column of the points beside p, on a board of n lines
module _ (n p : ℕ) (some : 0 < n) where
  place : (q a b : ℕ) → q ≡ a * n + b → b < n → (q / n ≡ a) × (q % n ≡ b)
  place q a b e h = (ap (λ (x : ℕ). x / n) e ∙ div-mul-add a n b h, ap (λ (x : ℕ). x % n) e ∙ mod-mul-add a n b h)

  left_of : 0 < p % n → ((p - 1) / n ≡ p / n) × ((p - 1) % n + 1 ≡ p % n)
  left_of h =
      let at = place (p - 1) (p / n) (p % n - 1) (omega (arith, div-add-mod' p n)) (omega (arith, mod_below p n some)) in
      (at.0, omega (arith, at.1))

  right_of : p % n + 1 < n → ((p + 1) / n ≡ p / n) × (p % n + 1 ≡ (p + 1) % n)
  right_of h =
      let at = place (p + 1) (p / n) (p % n + 1) (omega (arith, div-add-mod' p n)) h in
      (at.0, sym at.1)

  under_it : ((p + n) % n ≡ p % n) × (p / n + 1 ≡ (p + n) / n)
  under_it = (add-mod_right p n, sym (add-div_right p some))

over_it : (n p : ℕ) → 0 < n → n ≤ p → ((p - n) % n ≡ p % n) × ((p - n) / n + 1 ≡ p / n)
over_it n p some h =
    let e : (p - n) + n ≡ p = omega arith in
    let at = under_it n (p - n) some in
    (sym at.0 ∙ ap (λ (x : ℕ). x % n) e, at.1 ∙ ap (λ (x : ℕ). x / n) e)

-- and the places of the neighbours of p
module _ (n p q : ℕ) where
  from_left : q / n ≡ p / n → q % n + 1 ≡ p % n → (q ≡ p - 1) × (0 < p % n)
  from_left h k = omega (arith, div-add-mod' p n, div-add-mod' q n, ap (λ (x : ℕ). x * n) h)

  from_right : q / n ≡ p / n → p % n + 1 ≡ q % n → q ≡ p + 1
  from_right h k = omega (arith, div-add-mod' p n, div-add-mod' q n, ap (λ (x : ℕ). x * n) h)

  from_over : q % n ≡ p % n → q / n + 1 ≡ p / n → (q ≡ p - n) × (n ≤ p)
  from_over h k = omega (arith, div-add-mod' p n, div-add-mod' q n, ap (λ (x : ℕ). x * n) k)

  from_under : q % n ≡ p % n → p / n + 1 ≡ q / n → q ≡ p + n
  from_under h k = omega (arith, div-add-mod' p n, div-add-mod' q n, ap (λ (x : ℕ). x * n) k)

some_lines : (n p : ℕ) → p < n * n → 0 < n
some_lines zero p h = absurd (omega arith)
some_lines (suc n) p h = omega arith

-- growth keeps what it began with
spread_keeps : (n s k g q : ℕ) → bit_and g s ≡ g → has g q ≡ true → has (spread k n s g) q ≡ true
spread_keeps n s zero g q inside e = e
spread_keeps n s (suc k) g q inside e =
    elim (cases_eq (grown n s g) g) [
      | inl still ↦ ap (λ (x : ℕ). has x q) (spread_stop (suc k) n s g still) ∙ e
      | inr more ↦
          ap (λ (x : ℕ). has x q) (spread_go k n s g more)
          ∙ spread_keeps n s k (grown n s g) q (grown_within n s g)
          (grind (arith, has_and g s q, has_and s (bit_or g (around n g)) q, has_or g (around n g) q, ap (λ (x : ℕ). has x q) inside))
    ]

pub reach_start : (n s f q : ℕ) → has f q ≡ true → has s q ≡ true → has (reach n s f) q ≡ true
unfolding reach
reach_start n s f q e i = spread_keeps n s s (bit_and f s) q (start_within s f) (has_and f s q ∙ and_from _ _ e i)

-- a chain begins in the set
pub starts : (n s p q : ℕ) → Joined n s p q → has s p ≡ true
starts n s p q (here i) = i
starts n s p q (step {q = x} j b i) = starts n s p x j

module _ (n : ℕ) where
  -- a point that touches m has a neighbour in m
  touch_from : (m p : ℕ) → OnBoard n m → p < n * n → touches n m p ≡ true → (q : ℕ) × (has m q ≡ true) × Neighbours n q p
  touch_from m p on h e =
      let some = some_lines n p h in
      elim (or_cases _ _ e) [
        | inl x ↦ elim (or_cases _ _ x) [
          | inl y ↦
              let z = and_parts _ _ y in
              let w = left_of n p some (ltb-true 0 (p % n) z.0) in
              (p - 1, z.1, record { on_board = has_inside (n * n) m (p - 1) on z.1; there = h; near = inl (w.0, inl w.1) })
          | inr y ↦
              let z = and_parts _ _ y in
              let w = right_of n p some (ltb-true (p % n + 1) n z.0) in
              (p + 1, z.1, record { on_board = has_inside (n * n) m (p + 1) on z.1; there = h; near = inl (w.0, inr w.1) })
        ]
        | inr x ↦ elim (or_cases _ _ x) [
          | inl y ↦
              let z = and_parts _ _ y in
              let w = over_it n p some (leb-true n p z.0) in
              (p - n, z.1, record { on_board = has_inside (n * n) m (p - n) on z.1; there = h; near = inr (w.0, inl w.1) })
          | inr y ↦
              let w = under_it n p some in
              (p + n, y, record { on_board = has_inside (n * n) m (p + n) on y; there = h; near = inr (w.0, inr w.1) })
        ]
      ]

  touch_to : (m p q : ℕ) → has m q ≡ true → Neighbours n q p → touches n m p ≡ true
  touch_to m p q e b =
      grind (arith, nat_tests, b.near, from_left n p q, from_right n p q, from_over n p q, from_under n p q, mod_below q n (some_lines n q b.on_board))

  pub around_from : (m p : ℕ) → OnBoard n m → has (around n m) p ≡ true → (q : ℕ) × (has m q ≡ true) × Neighbours n q p
  unfolding around
  around_from m p on e =
      let h : p < n * n = has_inside (n * n) (set_of (n * n) (touches n m)) p (set_lt (n * n) (touches n m)) e in
      touch_from m p on h (sym (has_set (n * n) (touches n m) p h) ∙ e)

  pub around_to : (m p q : ℕ) → has m q ≡ true → Neighbours n q p → has (around n m) p ≡ true
  unfolding around
  around_to m p q e b = has_set (n * n) (touches n m) p b.there ∙ touch_to m p q e b

  -- each point of g is joined to a point of f
  From : ℕ → ℕ → ℕ → Type 0
  From s f g = (q : ℕ) → has g q ≡ true → (p : ℕ) × (has f p ≡ true) × Joined n s p q

  module _ (s f : ℕ) (on : OnBoard n s) where
    grown_from : (g : ℕ) → bit_and g s ≡ g → From s f g → From s f (grown n s g)
    unfolding From
    grown_from g inside from q e =
        let x = and_parts _ _ (sym (has_and s (bit_or g (around n g)) q) ∙ e) in
        elim (or_cases _ _ (sym (has_or g (around n g) q) ∙ x.1)) [
          | inl y ↦ from q y
          | inr y ↦
              let g_on : OnBoard n g = subst (λ (z : ℕ). z < 2 ^ (n * n)) inside (lt_of_le_of_lt (and_le_r g s) on) in
              let b = around_from g q g_on y in
              let j = from b.0 b.1 in
              (j.0, j.1, step j.2 b.2 x.0)
        ]

    spread_from : (k g : ℕ) → bit_and g s ≡ g → From s f g → From s f (spread k n s g)
    spread_from zero g inside from = from
    spread_from (suc k) g inside from =
        elim (cases_eq (grown n s g) g) [
          | inl still ↦ subst (From s f) (sym (spread_stop (suc k) n s g still)) from
          | inr more ↦
              subst (From s f) (sym (spread_go k n s g more))
              (spread_from k (grown n s g) (grown_within n s g) (grown_from g inside from))
        ]

    -- growth ends with a set that grows no more
    spread_still : (k g : ℕ) → bit_and g s ≡ g → s ≤ g + k → grown n s (spread k n s g) ≡ spread k n s g
    spread_still zero g inside h = omega (arith, grows n s g inside, grown_le n s g)
    spread_still (suc k) g inside h =
        elim (cases_eq (grown n s g) g) [
          | inl still ↦ subst (λ (x : ℕ). grown n s x ≡ x) (sym (spread_stop (suc k) n s g still)) still
          | inr more ↦
              subst (λ (x : ℕ). grown n s x ≡ x) (sym (spread_go k n s g more))
              (spread_still k (grown n s g) (grown_within n s g) (omega (arith, grows n s g inside, more)))
        ]

    closed : (r p q : ℕ) → grown n s r ≡ r → has r p ≡ true → Joined n s p q → has r q ≡ true
    closed r p q still e (here i) = e
    closed r p q still e (step {q = x} j b i) =
        ap (λ (z : ℕ). has z q) (sym still)
        ∙ has_and s (bit_or r (around n r)) q
        ∙ and_from _ _ i (has_or r (around n r) q ∙ or_right _ _ (around_to r q x (closed r p x still e j) b))

    pub reach_chained : Chained n s f (reach n s f)
    unfolding reach From
    reach_chained q = (
      spread_from s (bit_and f s) (start_within s f)
          (λ p e.
          let x = and_parts _ _ (sym (has_and f s p) ∙ e) in
          (p, x.0, here x.1)) q,
      λ j.
          closed (spread s n s (bit_and f s)) j.0 q (spread_still s (bit_and f s) (start_within s f) (omega arith))
          (spread_keeps n s s (bit_and f s) j.0 (start_within s f) (has_and f s j.0 ∙ and_from _ _ j.1 (starts n s j.0 q j.2)))
          j.2,
    )
