-- The prefixes of a line, one after another.
use Rattle.std.proofs.Common.{◌≡◌, ℕ, suc, ◌+◌, ◌-◌, ◌<◌, ◌≤◌, Bool, true, false, ◌||◌, List, [], ◌∷◌, length, drop, sym, refl, ap, ◌∙◌, ⊎_elim, arith}
use Rattle.std.proofs.lemmas.Bool.{cases_eq, or_from}
use Rattle.game.specs.Prefixes.{prefix, any_prefix}

pub prefix_all : (n : ℕ) (l : List ℕ) → length l ≤ n → prefix n l ≡ l
prefix_all n l h =
    let e : length l - n ≡ 0 = omega arith in
    ap (λ i. drop i l) e

pub prefix_of : (n k : ℕ) (l : List ℕ) → n ≤ length l → prefix n (k ∷ l) ≡ prefix n l
prefix_of n k l h =
    let e : length (k ∷ l) - n ≡ suc (length l - n) = omega arith in
    ap (λ i. drop i (k ∷ l)) e

or_true : (s t : Bool) → t ≡ true → (s || t) ≡ true
or_true true t e = refl
or_true false t e = e

pub prefix_none : (l : List ℕ) → prefix 0 l ≡ []
prefix_none [] = refl
prefix_none (k ∷ l) = prefix_of 0 k l (omega arith) ∙ prefix_none l

prefix_next : (f : List ℕ → Bool) (n : ℕ) (l : List ℕ) → n < length l →
    any_prefix f (prefix (n + 1) l) ≡ (f (prefix n l) || any_prefix f (prefix n l))
prefix_next f n [] h = absurd (omega arith)
prefix_next f n (k ∷ l) h =
    let G : List ℕ → Bool = λ p. f p || any_prefix f p in
    let less : n ≤ length l = omega arith in
    ⊎_elim
    (λ e.
    let all : length (k ∷ l) ≤ n + 1 = omega arith in
    let same : length l ≤ n = omega arith in
    ap (any_prefix f) (prefix_all (n + 1) (k ∷ l) all) ∙ ap G (sym (prefix_of n k l less ∙ prefix_all n l same)))
    (λ ne.
    let more : n + 1 ≤ length l = omega arith in
    ap (any_prefix f) (prefix_of (n + 1) k l more) ∙ prefix_next f n l (omega arith) ∙ ap G (sym (prefix_of n k l less)))
    (cases_eq n (length l))

-- a search among the prefixes of a line, the shortest first: none so far, one that passes, one that does not, none at all
pub any_none : (f : List ℕ → Bool) (l : List ℕ) → any_prefix f (prefix 0 l) ≡ false
any_none f l = ap (any_prefix f) (prefix_none l)

pub any_hit : (f : List ℕ → Bool) (n : ℕ) (l : List ℕ) → n < length l → f (prefix n l) ≡ true → any_prefix f l ≡ true
any_hit f n [] h e = absurd (omega arith)
any_hit f n (k ∷ l) h e =
    let less : n ≤ length l = omega arith in
    let here = ap f (sym (prefix_of n k l less)) ∙ e in
    ⊎_elim
    (λ same.
    let all : length l ≤ n = omega arith in
    ap (λ t. t || any_prefix f l) (ap f (sym (prefix_all n l all)) ∙ here))
    (λ ne. or_true (f l) _ (any_hit f n l (omega arith) here))
    (cases_eq n (length l))

pub any_miss : (f : List ℕ → Bool) (n : ℕ) (l : List ℕ) → n < length l → f (prefix n l) ≡ false →
    any_prefix f (prefix n l) ≡ false → any_prefix f (prefix (n + 1) l) ≡ false
any_miss f n l h e none = prefix_next f n l h ∙ or_from _ _ e none

pub any_all : (f : List ℕ → Bool) (n : ℕ) (l : List ℕ) → length l ≤ n → any_prefix f (prefix n l) ≡ false → any_prefix f l ≡ false
any_all f n l h none = ap (any_prefix f) (sym (prefix_all n l h)) ∙ none
