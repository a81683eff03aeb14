-- The points of a set as a list, in their order.
use Rattle.std.proofs.Common.{◌≡◌, ℕ, zero, suc, ◌+◌, ◌-◌, ◌*◌, ◌%◌, ◌^◌, ◌<◌, ◌≤◌, Bool, true, false, cond, List, [], ◌∷◌, ◌++◌, length, get_or, sym, refl, ap, ap₂, ◌∙◌, subst, inl, inr, add-one, zero-add, mod-lt, arith, lit≤, lt_of_lt_of_le, filter}
use native.Mathlib.Nat.{pow-le-pow_right}
use Rattle.std.specs.List.{fold, range_with_len}
use Rattle.std.proofs.lemmas.Grind.{fold-append}
use Rattle.std.proofs.lemmas.List.FromFn.{filter_of_map_range_with_len_more}
use lib.Bits.{bit_and, bit_or}
use Rattle.std.proofs.lemmas.Nat.{one_shl, pow_pos, and_mask}
use lib.Count.{ones, ones_cat}
use Rattle.std.proofs.lemmas.List.{map-id, append-nil, length_push, get_or_append_left, get_or_push, get_or_past}
use Rattle.std.proofs.lemmas.Bool.{cases_lt, cases_Bool, cases_eq}
use Rattle.point_sets.specs.Points.{has, set_of, list_of}
use Rattle.point_sets.proofs.Sets.{has_set, has_mod, set_lt, set_more, set_one_more, same_set, next_set}

module _ (f : ℕ → Bool) where
  length_step : (p : ℕ) → length (list_of (suc p) f) ≡ length (list_of p f) + cond (f p) 1 0
  length_step p =
      elim (f p) as (λ b. length (list_of p f ++ cond b (p ∷ []) []) ≡ length (list_of p f) + cond b 1 0) [
        | true ↦ length_push (list_of p f) p
        | false ↦ ap length (append-nil (list_of p f)) ∙ omega arith
      ]

  pub length_le : (p : ℕ) → length (list_of p f) ≤ p
  length_le zero = omega arith
  length_le (suc p) = grind (arith, length_step p, length_le p)

  -- the place of a point is below the length
  pub place_low : (s p : ℕ) → p < s → f p ≡ true → length (list_of p f) < length (list_of s f)
  place_low zero p h e = absurd (omega arith)
  place_low (suc s) p h e =
      elim (cases_lt p s) [
        | inl l ↦ omega (arith, length_step s, place_low s p l e)
        | inr g ↦ let same : p ≡ s = omega arith in grind (arith, length_step s)
      ]

  -- the place of a point is the number of the points before it
  pub place_of : (s p : ℕ) → p < s → f p ≡ true → get_or (list_of s f) (length (list_of p f)) 0 ≡ p
  place_of zero p h e = absurd (omega arith)
  place_of (suc s) p h e =
      elim (cases_lt p s) [
        | inl l ↦ get_or_append_left (list_of s f) _ 0 (length (list_of p f)) (place_low s p l e) ∙ place_of s p l e
        | inr g ↦
            let same : s ≡ p = omega arith in
            subst (λ (x : ℕ). get_or (list_of (suc x) f) (length (list_of p f)) 0 ≡ p) (sym same)
            (ap (λ b. get_or (list_of p f ++ cond b (p ∷ []) []) (length (list_of p f)) 0) e ∙ get_or_push (list_of p f) p 0 (length (list_of p f)) refl)
      ]

  ones_bit : (b : Bool) → ones (cond b 1 0) ≡ cond b 1 0
  unfolding ones
  ones_bit true = refl
  ones_bit false = refl

  ones_set : (k : ℕ) → ones (set_of k f) ≡ length (list_of k f)
  unfolding ones
  ones_set zero = refl
  ones_set (suc k) =
      ap ones (next_set k f) ∙ ones_cat k (cond (f k) 1 0) (set_of k f) (set_lt k f)
      ∙ omega (arith, ones_bit (f k), length_step k, ones_set k)

set_of_has : (k m : ℕ) → m < 2 ^ k → set_of k (has m) ≡ m
set_of_has k m h = same_set k (set_of k (has m)) m (set_lt k (has m)) h (λ p l. has_set k (has m) p l)

ones_list : (k m : ℕ) → m < 2 ^ k → ones m ≡ length (list_of k (has m))
ones_list k m h = ap ones (sym (set_of_has k m h)) ∙ ones_set (has m) k

-- the points below s, as a program goes over them
pub list_is : (f : ℕ → Bool) (s : ℕ) → list_of s f ≡ filter f (range_with_len 0 s)
list_is f zero = refl
list_is f (suc s) =
    ap (λ l. l ++ cond (f s) (s ∷ []) []) (list_is f s)
    ∙ sym (simp map-id at (filter_of_map_range_with_len_more f (λ x. x) 0 s s (zero-add s)))
    ∙ ap (λ k. filter f (range_with_len 0 k)) (add-one s)

-- the points put together again, by a step that puts in one more
set_folded : (put : ℕ → ℕ → ℕ) → ((p m : ℕ) → m < 2 ^ p → p < 64 → put m p ≡ m + 2 ^ p) → (f : ℕ → Bool) (k : ℕ) → k ≤ 64 → fold put 0 (list_of k f) ≡ set_of k f
set_folded put more f zero h = refl
set_folded put more f (suc k) h =
    let ih = set_folded put more f k (omega arith) in
    fold-append put 0 (list_of k f) (cond (f k) (k ∷ []) [])
    ∙ elim (f k) as (λ b. fold put (fold put 0 (list_of k f)) (cond b (k ∷ []) []) ≡ set_of k f + cond b (2 ^ k) 0) [
      | true ↦ ap (λ m. put m k) ih ∙ more k (set_of k f) (set_lt k f) (omega arith)
      | false ↦ omega (arith, ih)
    ]

pub set_found : (f : ℕ → Bool) (k : ℕ) → k ≤ 64 → fold (λ m p. bit_or m (1 * 2 ^ (p % 64) % 2 ^ 64)) 0 (filter f (range_with_len 0 k)) ≡ set_of k f
set_found f k h =
    ap (fold (λ m p. bit_or m (1 * 2 ^ (p % 64) % 2 ^ 64)) 0) (sym (list_is f k)) ∙ set_folded (λ m p. bit_or m (1 * 2 ^ (p % 64) % 2 ^ 64)) set_more f k h

-- a fold over what passes a test, and the fold over all that steps only there
fold_filter : {A B : Type 0} (f : A → Bool) (h : B → A → B) (b : B) (xs : List A) → fold h b (filter f xs) ≡ fold (λ c x. cond (f x) (h c x) c) b xs
fold_filter f h b [] = refl
fold_filter f h b (x ∷ xs) =
    elim (f x) as (λ t. fold h b (cond t (x ∷ filter f xs) (filter f xs)) ≡ fold (λ c x. cond (f x) (h c x) c) (cond t (h b x) b) xs) [
      | true ↦ fold_filter f h (h b x) xs
      | false ↦ fold_filter f h b xs
    ]

-- the same, as a program that tests each point on its way
pub set_gathered : (f : ℕ → Bool) (k : ℕ) → k ≤ 64 → fold (λ m p. cond (f p) (bit_or m (1 * 2 ^ p % 2 ^ 64)) m) 0 (range_with_len 0 k) ≡ set_of k f
set_gathered f k h =
    let put = λ (m p : ℕ). bit_or m (1 * 2 ^ p % 2 ^ 64) in
    sym (fold_filter f put 0 (range_with_len 0 k)) ∙ ap (fold put 0) (sym (list_is f k)) ∙ set_folded put set_one_more f k h

-- a number of the list is a point that passes the test
pub member : (f : ℕ → Bool) (s k : ℕ) → k < length (list_of s f) → (get_or (list_of s f) k 0 < s) × (f (get_or (list_of s f) k 0) ≡ true)
member f zero k h = absurd (omega arith)
member f (suc s) k h =
    elim (cases_lt k (length (list_of s f))) [
      | inl l ↦
          let ih = member f s k l in
          let e = get_or_append_left (list_of s f) (cond (f s) (s ∷ []) []) 0 k l in
          subst (λ (x : ℕ). (x < suc s) × (f x ≡ true)) (sym e) (omega (arith, ih.0), ih.1)
      | inr g ↦ elim (cases_Bool (f s)) [
        | inl t ↦
            let same : length (list_of s f) ≡ k = grind (arith, length_step f s) in
            let e : get_or (list_of (suc s) f) k 0 ≡ s = ap (λ b. get_or (list_of s f ++ cond b (s ∷ []) []) k 0) t ∙ get_or_push (list_of s f) s 0 k same in
            subst (λ (x : ℕ). (x < suc s) × (f x ≡ true)) (sym e) (omega arith, t)
        | inr t ↦ absurd (grind (arith, length_step f s))
      ]
    ]

-- a test that passes wherever another does passes as often
pub length_sub : (f g : ℕ → Bool) (s : ℕ) → ((p : ℕ) → p < s → f p ≡ true → g p ≡ true) → length (list_of s f) ≤ length (list_of s g)
length_sub f g zero h = omega arith
length_sub f g (suc s) h =
    let ih = length_sub f g s (λ p l. h p (omega arith)) in
    let here = h s (omega arith) in
    grind (arith, length_step f s, length_step g s)

-- equal tests pass at the same points
pub list_same : (f g : ℕ → Bool) (s : ℕ) → ((p : ℕ) → p < s → f p ≡ g p) → list_of s f ≡ list_of s g
list_same f g zero h = refl
list_same f g (suc s) h = ap₂ (λ l b. l ++ cond b (s ∷ []) []) (list_same f g s (λ p l. h p (omega arith))) (h s (omega arith))

length_same : (f g : ℕ → Bool) (s : ℕ) → ((p : ℕ) → p < s → f p ≡ g p) → length (list_of s f) ≡ length (list_of s g)
length_same f g s h = ap length (list_same f g s h)

-- a test that passes at all the same points but p passes once less
pub length-drop : (f g : ℕ → Bool) (s p : ℕ) → p < s → f p ≡ true → g p ≡ false → ((q : ℕ) → q < s → (q ≡ p → ⊥) → f q ≡ g q) → length (list_of s g) + 1 ≡ length (list_of s f)
length-drop f g zero p h a b e = absurd (omega arith)
length-drop f g (suc s) p h a b e =
    elim (cases_eq s p) [
      | inl same ↦
          let rest = length_same f g s (λ q l. e q (omega arith) (omega arith)) in
          grind (arith, length_step f s, length_step g s)
      | inr other ↦
          let ih = length-drop f g s p (omega arith) a b (λ q l. e q (omega arith)) in
          grind (arith, length_step f s, length_step g s, e s (omega arith) other)
    ]

-- the points of m below k, as a program counts them
pub count_low : (k m : ℕ) → k < 64 → ones (bit_and m (1 * 2 ^ k % 2 ^ 64 - 1)) ≡ length (list_of k (has m))
count_low k m h =
    ap (λ (x : ℕ). ones (bit_and m (x - 1))) (one_shl k 64 h)
    ∙ ap ones (and_mask m k)
    ∙ ones_list k (m % 2 ^ k) (mod-lt m (pow_pos k))
    ∙ length_same (has (m % 2 ^ k)) (has m) k (λ p l. has_mod m k p l)

-- where a word has no more bits than k
pub count_word : (k m : ℕ) → m < 2 ^ 64 → 64 ≤ k → ones m ≡ length (list_of k (has m))
count_word k m h g = ones_list k m (lt_of_lt_of_le h (pow-le-pow_right (lit≤ tt) g))

-- a number of the list, or 0 past its end, is no more than the bound
pub nth_low : (f : ℕ → Bool) (s k : ℕ) → get_or (list_of s f) k 0 ≤ s
nth_low f s k =
    elim (cases_lt k (length (list_of s f))) [
      | inl l ↦ omega (arith, (member f s k l).0)
      | inr g ↦ omega (arith, get_or_past (list_of s f) k 0 g)
    ]

-- the list is in order
pub list_ordered : (f : ℕ → Bool) (s j k : ℕ) → j < k → k < length (list_of s f) → get_or (list_of s f) j 0 < get_or (list_of s f) k 0
list_ordered f zero j k h l = absurd (omega arith)
list_ordered f (suc s) j k h l =
    let front = λ (i : ℕ) (low : i < length (list_of s f)). get_or_append_left (list_of s f) (cond (f s) (s ∷ []) []) 0 i low in
    elim (cases_lt k (length (list_of s f))) [
      | inl low ↦
          let a = front j (omega arith) in
          let b = front k low in
          omega (arith, a, b, list_ordered f s j k h low)
      | inr past ↦ elim (cases_Bool (f s)) [
        | inl t ↦
            let same : length (list_of s f) ≡ k = grind (arith, length_step f s) in
            let a = front j (omega arith) in
            let b : get_or (list_of (suc s) f) k 0 ≡ s = ap (λ b. get_or (list_of s f ++ cond b (s ∷ []) []) k 0) t ∙ get_or_push (list_of s f) s 0 k same in
            omega (arith, a, b, (member f s j (omega arith)).0)
        | inr t ↦ absurd (grind (arith, length_step f s))
      ]
    ]
