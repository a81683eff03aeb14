-- Growth within a set comes to an end, and what it ends with.
use Rattle.std.proofs.Common.{◌≡◌, ℕ, zero, suc, ◌+◌, ◌-◌, ◌<◌, ◌≤◌, sym, refl, ap, ◌∙◌, subst, inl, inr, arith}
use lib.Bits.{bit_and, bit_or, and_le_l, and_le_r, and_comm}
use Rattle.std.proofs.lemmas.Bool.{eq-eqb, ne_eqb, cases_eq}
use Rattle.point_sets.specs.Points.{has}
use Rattle.go_rules.specs.Groups.{around, grown, spread, reach}
use Rattle.point_sets.proofs.Sets.{has_and, has_or, same_bits}

-- what lies within s grows within s
and_within : (s x : ℕ) → bit_and (bit_and s x) s ≡ bit_and s x
and_within s x = same_bits (bit_and (bit_and s x) s) (bit_and s x) (λ p. grind (arith, has_and (bit_and s x) s p, has_and s x p))

pub grown_within : (n s g : ℕ) → bit_and (grown n s g) s ≡ grown n s g
grown_within n s g = and_within s (bit_or g (around n g))

pub start_within : (s f : ℕ) → bit_and (bit_and f s) s ≡ bit_and f s
start_within s f = ap (λ (x : ℕ). bit_and x s) (and_comm f s) ∙ and_within s f ∙ and_comm s f

pub grows : (n s g : ℕ) → bit_and g s ≡ g → g ≤ grown n s g
grows n s g e =
    let m = bit_or g (around n g) in
    let same : bit_and g (grown n s g) ≡ g = same_bits (bit_and g (bit_and s m)) g (λ p.
    grind (arith, has_and g (bit_and s m) p, has_and s m p, has_or g (around n g) p, has_and g s p, ap (λ (x : ℕ). has x p) e)) in
    omega (arith, and_le_r g (grown n s g))

pub grown_le : (n s g : ℕ) → grown n s g ≤ s
grown_le n s g = and_le_l s (bit_or g (around n g))

pub spread_stop : (k n s g : ℕ) → grown n s g ≡ g → spread k n s g ≡ g
spread_stop zero n s g e = refl
spread_stop (suc k) n s g e = rw (eq-eqb (grown n s g) g e, spread)

pub spread_go : (k n s g : ℕ) → (grown n s g ≡ g → ⊥) → spread (suc k) n s g ≡ spread k n s (grown n s g)
spread_go k n s g e = rw (ne_eqb (grown n s g) g e, spread)

-- more growths than are left change nothing
enough : (k n s g : ℕ) → bit_and g s ≡ g → s ≤ g + k → spread (suc k) n s g ≡ spread k n s g
enough zero n s g e h =
    let still : grown n s g ≡ g = omega (arith, grows n s g e, grown_le n s g) in
    spread_stop 1 n s g still
enough (suc k) n s g e h =
    elim (cases_eq (grown n s g) g) [
      | inl still ↦ spread_stop (suc (suc k)) n s g still ∙ sym (spread_stop (suc k) n s g still)
      | inr more ↦
          spread_go (suc k) n s g more
          ∙ enough k n s (grown n s g) (grown_within n s g) (omega (arith, grows n s g e, more))
          ∙ sym (spread_go k n s g more)
    ]

-- one growth, as the loop makes it
spread_next : (n s g : ℕ) → bit_and g s ≡ g → (grown n s g ≡ g → ⊥) → spread s n s (grown n s g) ≡ spread s n s g
spread_next n zero g e more = absurd (more (omega (arith, grows n zero g e, grown_le n zero g)))
spread_next n (suc k) g e more =
    enough k n (suc k) (grown n (suc k) g) (grown_within n (suc k) g) (omega (arith, grows n (suc k) g e, more))
    ∙ sym (spread_go k n (suc k) g more)

-- a turn of the loop, where h is g grown
module _ (n s g h : ℕ) (found : h ≡ grown n s g) (inside : bit_and g s ≡ g) (more : h ≡ g → ⊥) where
  pub turn_less : s - h < s - g
  turn_less =
      subst (λ (x : ℕ). s - x < s - g) (sym found)
      (omega (arith, grows n s g inside, grown_le n s g, λ (e : grown n s g ≡ g). more (found ∙ e)))

  pub turn_within : bit_and h s ≡ h
  turn_within = subst (λ (x : ℕ). bit_and x s ≡ x) (sym found) (grown_within n s g)

  pub turn_spread : spread s n s h ≡ spread s n s g
  turn_spread = ap (spread s n s) found ∙ spread_next n s g inside (λ e. more (found ∙ e))

pub turn_stops : (n s g h f : ℕ) → h ≡ grown n s g → h ≡ g → spread s n s g ≡ reach n s f → g ≡ reach n s f
turn_stops n s g h f found still inv = sym (spread_stop s n s g (sym found ∙ still)) ∙ inv

-- growth stays within s
spread_le : (k n s g : ℕ) → g ≤ s → spread k n s g ≤ s
spread_le zero n s g h = h
spread_le (suc k) n s g h =
    elim (cases_eq (grown n s g) g) [
      | inl still ↦ subst (λ (x : ℕ). x ≤ s) (sym (spread_stop (suc k) n s g still)) h
      | inr more ↦ subst (λ (x : ℕ). x ≤ s) (sym (spread_go k n s g more)) (spread_le k n s (grown n s g) (grown_le n s g))
    ]

pub reach_le : (n s f : ℕ) → reach n s f ≤ s
unfolding reach
reach_le n s f = spread_le s n s (bit_and f s) (and_le_r f s)
