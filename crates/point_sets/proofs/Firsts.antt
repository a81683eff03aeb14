-- The first points of a set, taken off one by one.
use Rattle.std.proofs.Common.{◌≡◌, ℕ, zero, suc, ◌+◌, ◌-◌, ◌*◌, ◌/◌, ◌%◌, ◌^◌, ◌<◌, ◌≤◌, min, Bool, true, false, cond, ◌&&◌, eqb, List, [], ◌∷◌, ◌++◌, length, drop, drop_of_length-le, get_or, sym, refl, ap, ap₂, ◌∙◌, subst, inl, inr, mod-lt, suc-mul, arith}
use lib.Bits.{bit_and, and_le_l}
use lib.Count.{count_trailing_zeros, trailing_of_zero}
use Rattle.std.specs.List.{fold, range_with_len}
use Rattle.std.specs.Int.{w64}
use Rattle.std.proofs.lemmas.Nat.{pow_pos}
use Rattle.std.proofs.lemmas.Nat.Bits.{bit_at-trailing_zeros}
use Rattle.std.proofs.lemmas.List.{get_or-drop, drop-drop, drop-append-le}
use Rattle.std.proofs.lemmas.List.FromFn.{length-range_with_len}
use Rattle.std.proofs.lemmas.Bool.{cases_lt, cases_eq}
use Rattle.std.proofs.lemmas.Bool.Decides.{nat_tests}
use Rattle.point_sets.specs.Points.{has, list_of}
use Rattle.point_sets.proofs.Sets.{has_and, has_shr, has_zero, has_mod, has_high, same_set}
use Rattle.point_sets.proofs.Lists.{length_le, place_low, place_of, count_word}

list_none : (f : ℕ → Bool) (s : ℕ) → ((p : ℕ) → p < s → f p ≡ false) → list_of s f ≡ []
list_none f zero h = refl
list_none f (suc s) h = ap₂ (λ l b. l ++ cond b (s ∷ []) []) (list_none f s (λ p l. h p (omega arith))) (h s (omega arith))

-- c is the first point that passes
module _ (f : ℕ → Bool) (c : ℕ) (none : (p : ℕ) → p < c → f p ≡ false) (on : f c ≡ true) where
  list_before : (s : ℕ) → s ≤ c → list_of s f ≡ []
  list_before s h = list_none f s (λ p l. none p (omega arith))

  first_found : (s : ℕ) → c < s → get_or (list_of s f) 0 0 ≡ c
  first_found s h = subst (λ (i : ℕ). get_or (list_of s f) i 0 ≡ c) (ap length (list_before c (omega arith))) (place_of f s c h on)

  -- a test that passes at all others has the list without its first
  list_rest : (g : ℕ → Bool) → g c ≡ false → ((p : ℕ) → (p ≡ c → ⊥) → g p ≡ f p) → (s : ℕ) → list_of s g ≡ drop 1 (list_of s f)
  list_rest g off same zero = refl
  list_rest g off same (suc s) =
      let gone : (s : ℕ) → s ≤ c → list_of s g ≡ [] = λ s h. list_none g s (λ p l. same p (omega arith) ∙ none p (omega arith)) in
      elim (cases_lt s c) [
        | inl l ↦ gone (suc s) (omega arith) ∙ ap (drop 1) (sym (list_before (suc s) (omega arith)))
        | inr ge ↦ elim (cases_eq s c) [
          | inl e ↦
              ap₂ (λ l b. l ++ cond b (s ∷ []) []) (gone s (omega arith)) (ap g e ∙ off)
              ∙ sym (ap₂ (λ l b. drop 1 (l ++ cond b (s ∷ []) [])) (list_before s (omega arith)) (ap f e ∙ on))
          | inr other ↦
              ap₂ (λ l b. l ++ cond b (s ∷ []) []) (list_rest g off same s) (same s other)
              ∙ sym (drop-append-le 1 (list_of s f) (cond (f s) (s ∷ []) []) (omega (arith, place_low f s c (omega arith) on)))
        ]
      ]

one_less : (h p m : ℕ) → 0 < h → 0 < p → m ≡ h * p → m - 1 ≡ (h - 1) * p + (p - 1)
one_less zero p m a b e = absurd (omega arith)
one_less (suc h) p m a b e =
    let back : suc h - 1 ≡ h = omega arith in
    let one : m - 1 ≡ h * p + (p - 1) = omega (arith, suc-mul h p) in
    one ∙ ap (λ (x : ℕ). x * p + (p - 1)) (sym back)

-- a word and one less, where c is the lowest point
module _ (m c : ℕ) (none : (p : ℕ) → p < c → has m p ≡ false) (on : has m c ≡ true) where
  odd : m / 2 ^ c % 2 ≡ 1
  unfolding has
  odd = grind (arith, nat_tests, on)

  less : m - 1 ≡ (m / 2 ^ c - 1) * 2 ^ c + (2 ^ c - 1)
  less =
      let low : m % 2 ^ c ≡ 0 = same_set c (m % 2 ^ c) 0 (mod-lt m (pow_pos c)) (pow_pos c) (λ p h. has_mod m c p h ∙ none p h ∙ sym (has_zero p)) in
      one_less (m / 2 ^ c) (2 ^ c) m (omega (arith, odd)) (pow_pos c) (omega (arith, pow_pos c))

  has_less : (p : ℕ) → c ≤ p → has (m - 1) p ≡ has (m / 2 ^ c - 1) (p - c)
  has_less p h = ap (λ (x : ℕ). has x p) less ∙ has_high (m / 2 ^ c - 1) c (2 ^ c - 1) p (omega (arith, pow_pos c)) h

  rest_off : has (bit_and m (m - 1)) c ≡ false
  unfolding has
  rest_off =
      let at : has (m - 1) c ≡ false = has_less c (omega arith) ∙ grind (arith, nat_tests, odd) in
      has_and m (m - 1) c ∙ grind (arith, at)

  rest_same : (p : ℕ) → (p ≡ c → ⊥) → has (bit_and m (m - 1)) p ≡ has m p
  rest_same p other =
      has_and m (m - 1) p
      ∙ elim (cases_lt p c) [
        | inl l ↦ ap (λ b. b && has (m - 1) p) (none p l) ∙ sym (none p l)
        | inr g ↦
            let j = p - c - 1 in
            let next : 1 + j ≡ p - c = omega arith in
            let half : (m / 2 ^ c - 1) / 2 ≡ m / 2 ^ c / 2 = omega (arith, odd) in
            let same : has (m - 1) p ≡ has m p =
            has_less p g ∙ ap (has (m / 2 ^ c - 1)) (sym next) ∙ sym (has_shr (m / 2 ^ c - 1) 1 j) ∙ ap (λ (x : ℕ). has x j) half
            ∙ has_shr (m / 2 ^ c) 1 j ∙ ap (has (m / 2 ^ c)) next ∙ has_shr m c (p - c) ∙ ap (has m) (omega arith) in
            grind (arith, same)
      ]

-- where a word has its lowest point
module _ (m : ℕ) (some : 0 < m) (fits : m < 2 ^ 64) where
  lowest_on : has m (count_trailing_zeros 64 m) ≡ true
  unfolding has
  lowest_on = ap (λ x. eqb x 1) (bit_at-trailing_zeros w64 m some fits).1

  lowest_none : (p : ℕ) → p < count_trailing_zeros 64 m → has m p ≡ false
  unfolding has
  lowest_none p h = ap (λ x. eqb x 1) ((bit_at-trailing_zeros w64 m some fits).2 p h)

-- a word without its lowest point, as a program takes it off
abbrev rest_of : ℕ → ℕ
rest_of m = bit_and m ((m + (2 ^ 64 - 1)) % 2 ^ 64)

rest_fits : (m : ℕ) → m < 2 ^ 64 → rest_of m < 2 ^ 64
rest_fits m h = omega (arith, and_le_l m ((m + (2 ^ 64 - 1)) % 2 ^ 64))

list_less : (s m : ℕ) → m < 2 ^ 64 → list_of s (has (rest_of m)) ≡ drop 1 (list_of s (has m))
list_less s zero h =
    list_none (has (rest_of 0)) s (λ p l. has_and 0 ((0 + (2 ^ 64 - 1)) % 2 ^ 64) p ∙ ap (λ b. b && has ((0 + (2 ^ 64 - 1)) % 2 ^ 64) p) (has_zero p))
    ∙ ap (drop 1) (sym (list_none (has 0) s (λ p l. has_zero p)))
list_less s (suc m) h =
    let c = count_trailing_zeros 64 (suc m) in
    let none = lowest_none (suc m) (omega arith) h in
    let on = lowest_on (suc m) (omega arith) h in
    let less : (suc m + (2 ^ 64 - 1)) % 2 ^ 64 ≡ suc m - 1 = omega arith in
    ap (λ (x : ℕ). list_of s (has (bit_and (suc m) x))) less
    ∙ list_rest (has (suc m)) c none on (has (bit_and (suc m) (suc m - 1))) (rest_off (suc m) c none on) (rest_same (suc m) c none on) s

list_turns : (s : ℕ) (xs : List ℕ) (m : ℕ) → m < 2 ^ 64 → list_of s (has (fold (λ x _. rest_of x) m xs)) ≡ drop (length xs) (list_of s (has m))
list_turns s [] m h = refl
list_turns s (x ∷ xs) m h =
    let count : 1 + length xs ≡ length (x ∷ xs) = omega arith in
    list_turns s xs (rest_of m) (rest_fits m h) ∙ ap (drop (length xs)) (list_less s m h)
    ∙ drop-drop (length xs) 1 (list_of s (has m)) ∙ ap (λ (i : ℕ). drop i (list_of s (has m))) count

-- no word has more than 64 points
few : (s m : ℕ) → m < 2 ^ 64 → length (list_of s (has m)) ≤ 64
few s m h =
    elim (cases_lt s 64) [
      | inl l ↦ omega (arith, length_le (has m) s)
      | inr g ↦ omega (arith, count_word s m h g, count_word 64 m h (omega arith), length_le (has m) 64)
    ]

drop_few : (l : List ℕ) (k : ℕ) → length l ≤ 64 → drop (min k 64) l ≡ drop k l
drop_few l k h =
    elim (cases_lt k 64) [
      | inl a ↦ ap (λ (i : ℕ). drop i l) (omega arith)
      | inr g ↦ drop_of_length-le l (omega arith) ∙ sym (drop_of_length-le l (omega arith))
    ]

-- the points after the first k, as a program finds them
pub after_turns : (s m k n : ℕ) → m < 2 ^ 64 → n ≡ min k 64
    → list_of s (has (fold (λ x _. bit_and x ((x + (2 ^ 64 - 1)) % 2 ^ 64)) m (range_with_len 0 n))) ≡ drop k (list_of s (has m))
after_turns s m k n h e =
    list_turns s (range_with_len 0 n) m h
    ∙ ap (λ (i : ℕ). drop i (list_of s (has m))) (length-range_with_len 0 n ∙ e)
    ∙ drop_few (list_of s (has m)) k (few s m h)

-- point number k of m, where r has those after the first k
module _ (s m k r : ℕ) (fits : r < 2 ^ 64) (after : list_of s (has r) ≡ drop k (list_of s (has m))) where
  as_first : get_or (list_of s (has m)) k 0 ≡ get_or (list_of s (has r)) 0 0
  as_first = sym (ap (λ l. get_or l 0 0) after ∙ get_or-drop k (list_of s (has m)) 0 0 ∙ ap (λ (i : ℕ). get_or (list_of s (has m)) i 0) (omega arith))

  empty : r ≡ 0 → get_or (list_of s (has r)) 0 0 ≡ 0
  empty e = ap (λ l. get_or l 0 0) (list_none (has r) s (λ p l. ap (λ (x : ℕ). has x p) e ∙ has_zero p))

  pub nth_found : count_trailing_zeros 64 r < min s 64 → get_or (list_of s (has m)) k 0 ≡ count_trailing_zeros 64 r
  nth_found h =
      elim (cases_lt 0 r) [
        | inl some ↦ as_first ∙ first_found (has r) (count_trailing_zeros 64 r) (lowest_none r some fits) (lowest_on r some fits) s (omega arith)
        | inr none ↦
            let zero : r ≡ 0 = omega arith in
            let last : count_trailing_zeros 64 r ≡ 64 = ap (count_trailing_zeros 64) zero ∙ trailing_of_zero 64 in
            absurd (omega arith)
      ]

  pub none_found : min s 64 ≤ count_trailing_zeros 64 r → get_or (list_of s (has m)) k 0 ≡ 0
  none_found h =
      elim (cases_lt 0 r) [
        | inl some ↦
            let low = (bit_at-trailing_zeros w64 r some fits).0 in
            as_first ∙ ap (λ l. get_or l 0 0) (list_before (has r) (count_trailing_zeros 64 r) (lowest_none r some fits) (lowest_on r some fits) s (omega arith))
        | inr none ↦ as_first ∙ empty (omega arith)
      ]
