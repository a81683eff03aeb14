-- The value of a line: it does not depend on the fuel, and bisimilar lines have the same value.
use Rattle.std.proofs.Common.{◌≡◌, ℕ, zero, suc, ◌+◌, ◌<◌, ◌≤◌, min, max, Bool, true, false, not, T, leb, ◌⊎◌, [], ◌∷◌, ◌++◌, length, is_some, Some, None, Option, sym, refl, ap, ◌∙◌, subst, ap₂, inl, inr, append_assoc, arith}
use native.Mathlib.Decide.{dec_le}
use Rattle.std.proofs.lemmas.Bool.{le-leb, lt-leb, leb-true, leb-false}
use Rattle.game.specs.Kinds.{Side, Score, is_black, points}
use Rattle.game.specs.Meaning.{Line, Meaning, Reachable, Same, Bisimilar}
use Rattle.game.specs.Laws.{Lawful, BoundedBy}
use Rattle.game.specs.Value.{greatest, least, best, black_moves, value}

pub value_over : (m : Meaning) (h : ℕ) (l : Line) (s : Score) → (m.view l).score ≡ Some s → value m h l ≡ points s
unfolding value
value_over m zero l s e = rw e
value_over m (suc h) l s e = rw e

abbrev pub by_moves : Meaning → ℕ → Line → ℕ
by_moves m h l = best (black_moves (m.view l)) (m.view l).moves (λ k. value m h (k ∷ l))

value_next : (m : Meaning) (h : ℕ) (l : Line) → (m.view l).score ≡ None → value m (suc h) l ≡ by_moves m h l
unfolding value
value_next m h l e = rw e

-- best looks at the moves below n only
pub same_below : (b : Bool) (n : ℕ) (f g : ℕ → ℕ) → ((k : ℕ) → k < n → f k ≡ g k) → best b n f ≡ best b n g
same_below true zero f g e = refl
same_below true (suc n) f g e = ap₂ max (same_below true n f g (λ k h. e k (omega arith))) (e n (omega arith))
same_below false zero f g e = refl
same_below false (suc n) f g e = ap₂ min (same_below false n f g (λ k h. e k (omega arith))) (e n (omega arith))

-- a line is over with a score, or goes on
pub some_or_none : (o : Option Score) → ((s : Score) × (o ≡ Some s)) ⊎ (o ≡ None)
some_or_none None = inr refl
some_or_none (Some s) = inl (s, refl)

pub some_is : (o : Option Score) (s : Score) → o ≡ Some s → is_some o ≡ true
some_is o s e = ap is_some e

pub none_is : (o : Option Score) → o ≡ None → is_some o ≡ false
none_is o e = ap is_some e

pub is_none : (o : Option Score) → is_some o ≡ false → o ≡ None
is_none None e = refl
is_none (Some s) e = absurd (subst T e tt)

pub not_none : (o : Option Score) → is_some o ≡ true → o ≡ None → ⊥
not_none o h e = subst (λ (b : Bool). T (not b)) (sym (none_is o e) ∙ h) tt

-- a bound decided: at the bound or below it
pub last_or_below : (a b : ℕ) → a ≤ suc b → (a ≡ suc b) ⊎ (a ≤ b)
last_or_below a b h = by (dec_le a b)
  where
    by : Dec (a ≤ b) → (a ≡ suc b) ⊎ (a ≤ b)
    by (yes x) = inr x
    by (no x) = inl (omega arith)

module _ (m : Meaning) (H : ℕ) (lawful : Lawful m) (law : BoundedBy m H) where
  -- a line as long as the height is over
  over_at_height : (l : Line) → Reachable m l → H ≤ length l → is_some (m.view l).score ≡ true
  over_at_height [] r h = law.ends [] r (omega arith)
  over_at_height (k ∷ l) r h = by (over_at_height l r.0) (last_or_below H (length l) h)
    where
      by : (H ≤ length l → is_some (m.view l).score ≡ true) → (H ≡ suc (length l)) ⊎ (H ≤ length l) → is_some (m.view (k ∷ l)).score ≡ true
      by ih (inl e) = law.ends (k ∷ l) r (sym e)
      by ih (inr x) = absurd (omega (arith, (lawful.fit l r.0).over (ih x), r.1))

  pub open_below_height : (l : Line) → Reachable m l → (m.view l).score ≡ None → length l < H
  open_below_height l r e = by (dec_le H (length l))
    where
      by : Dec (H ≤ length l) → length l < H
      by (yes x) = absurd (not_none (m.view l).score (over_at_height l r x) e)
      by (no x) = omega arith

  stable : (f : ℕ) (l : Line) → Reachable m l → H ≤ f + length l → value m (suc f) l ≡ value m f l
  stable zero l r h = by (some_or_none (m.view l).score)
    where
      by : ((s : Score) × ((m.view l).score ≡ Some s)) ⊎ ((m.view l).score ≡ None) → value m 1 l ≡ value m 0 l
      by (inl x) = value_over m 1 l x.0 x.1 ∙ sym (value_over m 0 l x.0 x.1)
      by (inr e) = absurd (not_none (m.view l).score (over_at_height l r (omega arith)) e)
  stable (suc f) l r h =
      by (some_or_none (m.view l).score) (λ k x. stable f (k ∷ l) (r, x) (omega arith))
    where
      by : ((s : Score) × ((m.view l).score ≡ Some s)) ⊎ ((m.view l).score ≡ None) →
          ((k : ℕ) → k < (m.view l).moves → value m (suc f) (k ∷ l) ≡ value m f (k ∷ l)) → value m (suc (suc f)) l ≡ value m (suc f) l
      by (inl x) ih = value_over m (suc (suc f)) l x.0 x.1 ∙ sym (value_over m (suc f) l x.0 x.1)
      by (inr e) ih =
          value_next m (suc f) l e
          ∙ same_below (black_moves (m.view l)) (m.view l).moves (λ k. value m (suc f) (k ∷ l)) (λ k. value m f (k ∷ l)) ih
          ∙ sym (value_next m f l e)

  -- the value of a line that is not over, from the values one move on
  pub value_step : (l : Line) → Reachable m l → (m.view l).score ≡ None → value m H l ≡ by_moves m H l
  value_step l r e = by H refl
    where
      by : (h : ℕ) → H ≡ h → value m H l ≡ by_moves m H l
      by zero z = absurd (omega (arith, open_below_height l r e))
      by (suc h) z =
          ap (λ (n : ℕ). value m n l) z
          ∙ value_next m h l e
          ∙ same_below (black_moves (m.view l)) (m.view l).moves (λ k. value m h (k ∷ l)) (λ k. value m H (k ∷ l))
          (λ k x. sym (ap (λ (n : ℕ). value m n (k ∷ l)) z ∙ stable h (k ∷ l) (r, x) (omega arith)))

-- one move on, two bisimilar lines are bisimilar
one_on : (w : Line) (k : ℕ) (p : Line) → (w ++ (k ∷ [])) ++ p ≡ w ++ (k ∷ p)
one_on w k p = append_assoc w (k ∷ []) p

pub bisimilar_next : (m n : Meaning) (p q : Line) (k : ℕ) → Bisimilar m p n q → Bisimilar m (k ∷ p) n (k ∷ q)
bisimilar_next m n p q k h w r =
    subst (λ (x : Line). Reachable n x × Same (m.view (w ++ (k ∷ p))) (n.view x)) (one_on w k q)
    (subst (λ (x : Line). Reachable n ((w ++ (k ∷ [])) ++ q) × Same (m.view x) (n.view ((w ++ (k ∷ [])) ++ q))) (one_on w k p)
    (h (w ++ (k ∷ [])) (subst (λ (x : Line). Reachable m x) (sym (one_on w k p)) r)))

module _ (m n : Meaning) (H G : ℕ) (lawful : Lawful m) (law : BoundedBy m H) (lawful' : Lawful n) (law' : BoundedBy n G) where
  -- `ih`: the values one move on are the same
  from_moves : (p q : Line) → Reachable m p → Bisimilar m p n q → (m.view p).score ≡ None →
      ((k : ℕ) → k < (m.view p).moves → value m H (k ∷ p) ≡ value n G (k ∷ q)) → value m H p ≡ value n G q
  from_moves p q r alike e ih =
      value_step m H lawful law p r e
      ∙ same_below (black_moves (m.view p)) (m.view p).moves (λ k. value m H (k ∷ p)) (λ k. value n G (k ∷ q)) ih
      ∙ ap₂ (λ (t : Side) (j : ℕ). best (is_black t) j (λ k. value n G (k ∷ q))) (alike [] r).1.turn (alike [] r).1.moves
      ∙ sym (value_step n G lawful' law' q (alike [] r).0 (sym (alike [] r).1.score ∙ e))

  from_score : (p q : Line) (s : Score) → Reachable m p → Bisimilar m p n q → (m.view p).score ≡ Some s → value m H p ≡ value n G q
  from_score p q s r alike e = value_over m H p s e ∙ sym (value_over n G q s (sym (alike [] r).1.score ∙ e))

  -- at most f moves are left at p
  same_value : (f : ℕ) (p q : Line) → H ≤ f + length p → Reachable m p → Bisimilar m p n q → value m H p ≡ value n G q
  same_value zero p q h r alike = by (some_or_none (m.view p).score)
    where
      by : ((s : Score) × ((m.view p).score ≡ Some s)) ⊎ ((m.view p).score ≡ None) → value m H p ≡ value n G q
      by (inl x) = from_score p q x.0 r alike x.1
      by (inr e) = absurd (omega (arith, open_below_height m H lawful law p r e))
  same_value (suc f) p q h r alike =
      by (some_or_none (m.view p).score) (λ k x. same_value f (k ∷ p) (k ∷ q) (omega arith) (r, x) (bisimilar_next m n p q k alike))
    where
      by : ((s : Score) × ((m.view p).score ≡ Some s)) ⊎ ((m.view p).score ≡ None) →
          ((k : ℕ) → k < (m.view p).moves → value m H (k ∷ p) ≡ value n G (k ∷ q)) → value m H p ≡ value n G q
      by (inl x) ih = from_score p q x.0 r alike x.1
      by (inr e) ih = from_moves p q r alike e ih

  pub bisimilar_values : (p q : Line) → Reachable m p → Bisimilar m p n q → value m H p ≡ value n G q
  bisimilar_values p q r alike = same_value H p q (omega arith) r alike

-- to be bisimilar, though said from one side, holds from both
pub bisimilar_back : (m n : Meaning) (p q : Line) → Reachable m p → Bisimilar m p n q → Bisimilar n q m p
bisimilar_back m n p q r alike w s =
    let same = (alike w (back w s)).1 in (
      back w s,
      record { turn = sym same.turn; moves = sym same.moves; score = sym same.score; a = sym same.a; b = sym same.b },
    )
  where
    back : (w : Line) → Reachable n (w ++ q) → Reachable m (w ++ p)
    back [] s = r
    back (k ∷ w) s = let b = back w s.0 in (b, omega (arith, s.1, (alike w b).1.moves))

-- one move with the mover's verdict settles the line, and so do all moves with the other verdict
greatest_above : (n : ℕ) (g : ℕ → ℕ) (k : ℕ) → k < n → g k ≤ greatest n g
greatest_above zero g k h = absurd (omega arith)
greatest_above (suc n) g k h = by (last_or_below (suc k) n h) (greatest_above n g k)
  where
    by : (suc k ≡ suc n) ⊎ (suc k ≤ n) → (k < n → g k ≤ greatest n g) → g k ≤ max (greatest n g) (g n)
    by (inl e) ih = let z : k ≡ n = omega arith in rw z (omega arith)
    by (inr x) ih = omega (arith, ih x)

least_below : (n : ℕ) (g : ℕ → ℕ) (k : ℕ) → k < n → least n g ≤ g k
least_below zero g k h = absurd (omega arith)
least_below (suc n) g k h = by (last_or_below (suc k) n h) (least_below n g k)
  where
    by : (suc k ≡ suc n) ⊎ (suc k ≤ n) → (k < n → least n g ≤ g k) → min (least n g) (g n) ≤ g k
    by (inl e) ih = let z : k ≡ n = omega arith in rw z (omega arith)
    by (inr x) ih = omega (arith, ih x)

greatest_under : (floor n : ℕ) (g : ℕ → ℕ) → 1 ≤ floor → ((k : ℕ) → k < n → g k < floor) → greatest n g < floor
greatest_under floor zero g f h = omega arith
greatest_under floor (suc n) g f h =
    omega (arith, greatest_under floor n g f (λ k x. h k (omega arith)), h n (omega arith))

least_over : (floor n : ℕ) (g : ℕ → ℕ) → floor ≤ 2 → ((k : ℕ) → k < n → floor ≤ g k) → floor ≤ least n g
least_over floor zero g f h = omega arith
least_over floor (suc n) g f h =
    omega (arith, least_over floor n g f (λ k x. h k (omega arith)), h n (omega arith))

pub one_settles : (floor : ℕ) (b : Bool) (n : ℕ) (g : ℕ → ℕ) (k : ℕ) → k < n → leb floor (g k) ≡ b → leb floor (best b n g) ≡ b
one_settles floor true n g k h e = le-leb floor (greatest n g) (omega (arith, greatest_above n g k h, leb-true floor (g k) e))
one_settles floor false n g k h e = lt-leb floor (least n g) (omega (arith, least_below n g k h, leb-false floor (g k) e))

pub all_settle : (floor : ℕ) (b : Bool) (n : ℕ) (g : ℕ → ℕ) → 1 ≤ floor → floor ≤ 2 →
    ((k : ℕ) → k < n → leb floor (g k) ≡ not b) → leb floor (best b n g) ≡ not b
all_settle floor true n g low high e = lt-leb floor (greatest n g) (greatest_under floor n g low (λ k x. leb-false floor (g k) (e k x)))
all_settle floor false n g low high e = le-leb floor (least n g) (least_over floor n g high (λ k x. leb-true floor (g k) (e k x)))
