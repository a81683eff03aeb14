-- The text of a position.
use Rattle.std.proofs.Common.{◌≡◌, ℕ, ◌+◌, ◌-◌, ◌*◌, ◌^◌, ◌<◌, ◌≤◌, Bool, true, false, cond, not, ◌&&◌, ◌||◌, ltb, List, [], ◌∷◌, length, get_or, filter, Some, None, Option, sym, refl, ap, ◌∙◌, subst, ap₂, arith, add-zero, zero-add}
use Rattle.std.specs.List.{find, position_from, enumerate_from, range_with_len}
use Rattle.std.specs.Option.{option_or}
use Rattle.std.specs.Bool.{then_some}
use Rattle.game.specs.declared.kinds.Side.{Side}
use Rattle.std.proofs.lemmas.Bool.Decides.{nat_tests}
use Rattle.go_rules.specs.Text.{fits_at, first_unfit, lines_of, text_fault, stones_of, side_of, dead_set, first_of, dead_point, start_of, first_fault, read_fault, Told}
use Rattle.go_rules.specs.declared.place.Place.{Place}
use Rattle.go_rules.specs.Play.{place_of, Position}
use Rattle.point_sets.specs.Points.{has}
use Rattle.go_rules.specs.Groups.{OnBoard}
use Rattle.go_rules.specs.Rules.{free_of, living}
use lib.Bits.{bit_and, bit_or}
use Rattle.point_sets.proofs.Sets.{has_or, has_and_not, has_set, set_lt}
use Rattle.point_sets.proofs.Lists.{list_is, list_same}

-- a byte of the text with its place is out of form
abbrev pub unfit : ℕ → ℕ × ℕ → Bool
unfit n p = not (fits_at n p.0 p.1)

then_is : (b : Bool) (i : ℕ) → then_some b i ≡ cond b (Some i) None
then_is true i = refl
then_is false i = refl

-- the first byte out of form, and the end of the text where that comes early
fault_from : (n i : ℕ) (t : List ℕ) →
    option_or (position_from (unfit n) i (enumerate_from i t)) (then_some (ltb (i + length t) (5 + n * n)) (i + length t)) ≡ first_unfit n i t
fault_from n i [] = ap (λ (j : ℕ). then_some (ltb j (5 + n * n)) j) (add-zero i) ∙ then_is (ltb i (5 + n * n)) i
fault_from n i (b ∷ t) =
    elim (fits_at n i b) as (λ v.
    option_or (cond (not v) (Some i) (position_from (unfit n) (i + 1) (enumerate_from (i + 1) t))) (then_some (ltb (i + length (b ∷ t)) (5 + n * n)) (i + length (b ∷ t)))
    ≡ cond v (first_unfit n (i + 1) t) (Some i)) [
      | true ↦
          let e : i + length (b ∷ t) ≡ (i + 1) + length t = omega arith in
          ap (λ (j : ℕ). option_or (position_from (unfit n) (i + 1) (enumerate_from (i + 1) t)) (then_some (ltb j (5 + n * n)) j)) e
          ∙ fault_from n (i + 1) t
      | false ↦ refl
    ]

pub fault_found : (n : ℕ) (t : List ℕ) →
    option_or (position_from (unfit n) 0 (enumerate_from 0 t)) (then_some (ltb (length t) (5 + n * n)) (length t)) ≡ first_unfit n 0 t
fault_found n t = simp zero-add at (fault_from n 0 t)

-- what a text in form has
pub record InForm (t : List ℕ) : Type 0 where
  pub long : 5 + lines_of t * lines_of t ≤ length t
  pub low : 3 ≤ lines_of t
  pub high : lines_of t ≤ 7

fit_head : (b : Bool) (r : Option ℕ) (i : ℕ) → cond b r (Some i) ≡ None → (b ≡ true) × (r ≡ None)
fit_head b r i e = grind arith

long_tail : (n i : ℕ) (t : List ℕ) → first_unfit n i t ≡ None → 5 + n * n ≤ i + length t
long_tail n i [] e = grind (arith, nat_tests)
long_tail n i (b ∷ t) e = omega (arith, long_tail n (i + 1) t (fit_head (fits_at n i b) (first_unfit n (i + 1) t) i e).1)

lines_low : (n : ℕ) (t : List ℕ) → first_unfit n 0 t ≡ None → (51 ≤ get_or t 1 0) × (get_or t 1 0 ≤ 55)
lines_low n [] e = absurd (omega (arith, long_tail n 0 [] e))
lines_low n (a ∷ []) e = absurd (omega (arith, long_tail n 0 (a ∷ []) e))
lines_low n (a ∷ (b ∷ t)) e =
    let rest = (fit_head (fits_at n 0 a) (first_unfit n 1 (b ∷ t)) 0 e).1 in
    let fit = (fit_head (fits_at n 1 b) (first_unfit n 2 t) 1 rest).0 in
    grind (arith, nat_tests)

pub in_form : (t : List ℕ) → text_fault t ≡ None → InForm t
in_form t e =
    let byte = lines_low (lines_of t) t e in
    record {
      long = omega (arith, long_tail (lines_of t) 0 t e);
      low = omega (arith, byte.0);
      high = omega (arith, byte.1);
    }

-- the first of the points that pass
first_found : (f : ℕ → Bool) (xs : List ℕ) → find f xs ≡ first_of (filter f xs)
first_found f [] = refl
first_found f (x ∷ xs) =
    elim (f x) as (λ b. cond b (Some x) (find f xs) ≡ first_of (cond b (x ∷ filter f xs) (filter f xs))) [ true ↦ refl | false ↦ first_found f xs ]

-- the first of the stones without liberty, which are found by words
module _ (n b w lb lw : ℕ) (b_fits : b < 2 ^ 64) (w_fits : w < 2 ^ 64) (lb_fits : lb < 2 ^ 64) (lw_fits : lw < 2 ^ 64)
    (lb_is : lb ≡ living n b (free_of n b w)) (lw_is : lw ≡ living n w (free_of n b w)) where
  dead_at : (p : ℕ) → p < n * n → has (bit_or (bit_and b (2 ^ 64 - 1 - lb)) (bit_and w (2 ^ 64 - 1 - lw))) p ≡ has (dead_set n b w) p
  unfolding dead_set
  dead_at p h =
      has_or _ _ p
      ∙ ap₂ ◌||◌ (has_and_not b lb p b_fits lb_fits ∙ ap (λ m. has b p && not (has m p)) lb_is)
      (has_and_not w lw p w_fits lw_fits ∙ ap (λ m. has w p && not (has m p)) lw_is)
      ∙ sym (has_set (n * n) _ p h)

  pub dead_found : find (has (bit_or (bit_and b (2 ^ 64 - 1 - lb)) (bit_and w (2 ^ 64 - 1 - lw)))) (range_with_len 0 (n * n)) ≡ dead_point n b w
  dead_found =
      let f = has (bit_or (bit_and b (2 ^ 64 - 1 - lb)) (bit_and w (2 ^ 64 - 1 - lw))) in
      first_found f (range_with_len 0 (n * n)) ∙ ap first_of (sym (list_is f (n * n)) ∙ list_same f (has (dead_set n b w)) (n * n) dead_at)

stones_word : (n c : ℕ) (t : List ℕ) → OnBoard n (stones_of n c t)
unfolding stones_of
stones_word n c t = set_lt (n * n) _

-- the answer to a text in form, and what it tells
module _ (t : List ℕ) (n b w : ℕ) (fine : None ≡ text_fault t) (n_is : n ≡ lines_of t) (b_is : b ≡ stones_of n 66 t) (w_is : w ≡ stones_of n 87 t) where
  black_is : b ≡ stones_of (lines_of t) 66 t
  black_is = b_is ∙ ap (λ (m : ℕ). stones_of m 66 t) n_is

  white_is : w ≡ stones_of (lines_of t) 87 t
  white_is = w_is ∙ ap (λ (m : ℕ). stones_of m 87 t) n_is

  pub form_answer : (o : Option ℕ) → o ≡ dead_point n b w → first_fault None o ≡ read_fault t
  form_answer o dead =
      ap (first_fault None) (dead ∙ λ i. dead_point (n_is i) (black_is i) (white_is i))
      ∙ ap (λ o. first_fault o (dead_point (lines_of t) (stones_of (lines_of t) 66 t) (stones_of (lines_of t) 87 t))) fine

  pub told : (s : Side) (x : Place) → s ≡ side_of t → x ≡ place_of n b w s → Told t n x
  told s x s_is x_is = record {
    lines = n_is;
    start = x_is ∙ λ i. place_of (n_is i) (black_is i) (white_is i) (s_is i);
  }

pub start_good : (t : List ℕ) (n : ℕ) (x : Place) → Told t n x → Position n x
start_good t n x told =
    let m = lines_of t in
    let good : Position m (start_of t) = (stones_word m 66 t, stones_word m 87 t, refl) in
    subst (λ (k : ℕ). Position k x) (sym told.lines) (subst (Position m) (sym told.start) good)
