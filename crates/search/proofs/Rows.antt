-- The numbers of a line's moves.
use Rattle.std.proofs.Common.{◌≡◌, ℕ, zero, suc, ◌+◌, ◌<◌, ◌≤◌, min, Bool, true, false, cond, not, ◌||◌, eqb, ltb, List, [], ◌∷◌, reverse, length, get_or, take, drop, Some, None, unwrap_or, sym, refl, ap, ◌∙◌, arith}
use Rattle.std.specs.List.{All, fold, position, position_or_len}
use Rattle.std.proofs.lemmas.Bool.Decides.{nat_tests}
use Rattle.std.proofs.lemmas.List.{reverse-append, length-map}
use Rattle.std.proofs.lemmas.List.Sums.{fold_push, prefix_len-le-length}
use Rattle.std.proofs.lemmas.List.Recursion.{is_position_or_len}
use Rattle.search_method.specs.declared.kinds.Pair.{Pair}
use Rattle.search_method.specs.Pairs.{M, INF, seen, least, plain, endless, sum, first, others, pair_of, reached}
use Rattle.search.specs.Numbers.{mine, theirs, plus, Small}

abbrev pub zeros : Pair
zeros = record { pn = 0; dn = 0 }

-- a sum, one term more
sum_by : (b c : Bool) (x p : ℕ) → eqb x INF ≡ b →
    cond (b || c) INF (min M (x + p)) ≡ plus x (cond c INF (min M p))
sum_by true c x p e = rw e
sum_by false true x p e = rw e
sum_by false false x p e =
    let f : eqb (min M p) INF ≡ false = grind (arith, nat_tests) in
    rw (e, f) (omega arith)

sum_more : (x : ℕ) (xs : List ℕ) → sum (x ∷ xs) ≡ plus x (sum xs)
sum_more x xs = sum_by (eqb x INF) (endless xs) x (plain xs) refl

-- a least number below INF is some move's
pub first_least : (xs : List ℕ) → least xs < INF → first (least xs) xs < length xs
first_least [] lt = absurd (omega arith)
first_least (x ∷ xs) lt = here (eqb x (min x (least xs))) refl (first_least xs)
  where
    onto : least xs ≡ min x (least xs) → first (least xs) xs < length xs → suc (first (min x (least xs)) xs) < suc (length xs)
    onto e h = rw (← e) (omega arith)

    here : (b : Bool) → eqb x (min x (least xs)) ≡ b → (least xs < INF → first (least xs) xs < length xs)
        → cond b 0 (suc (first (min x (least xs)) xs)) < suc (length xs)
    here true e ih = omega arith
    here false e ih =
        let f : least xs ≡ min x (least xs) = grind (arith, nat_tests) in
        onto f (ih (omega arith))

pub mine_length : (black : Bool) (ps : List Pair) → length (mine black ps) ≡ length ps
mine_length black ps = simp length-map

-- where no limit is reached, there is a move to choose
pub below_limits : (black : Bool) (limit : Pair) (ps : List Pair) → (limit.pn ≤ INF) × (limit.dn ≤ INF)
    → reached limit (pair_of black ps) ≡ false → least (mine black ps) < INF
below_limits true limit ps cap h = grind (arith, nat_tests)
below_limits false limit ps cap h = grind (arith, nat_tests)

-- the numbers, read from the last to the first
fold_back : {A B : Type 0} (f : B → A → B) (a : B) (x : A) (xs : List A) → fold f a (reverse (x ∷ xs)) ≡ f (fold f a (reverse xs)) x
fold_back f a x xs = ap (fold f a) (reverse-append (x ∷ []) xs) ∙ fold_push f a (reverse xs) x

pub least_folds : (black : Bool) (ps : List Pair) → fold (λ n p. min (seen black p).pn n) INF (reverse ps) ≡ least (mine black ps)
least_folds black [] = refl
least_folds black (p ∷ ps) = fold_back (λ n p. min (seen black p).pn n) INF p ps ∙ ap (min (seen black p).pn) (least_folds black ps)

pub total_folds : (black : Bool) (ps : List Pair) → fold (λ n p. plus (seen black p).dn n) 0 (reverse ps) ≡ sum (theirs black ps)
total_folds black [] = refl
total_folds black (p ∷ ps) =
    fold_back (λ n p. plus (seen black p).dn n) 0 p ps
    ∙ (ap (plus (seen black p).dn) (total_folds black ps) ∙ sym (sum_more (seen black p).dn (theirs black ps)))

none_before : (n len : ℕ) → n ≤ len → ltb n len ≡ false → len ≡ n
none_before n len le e = grind (arith, nat_tests)

-- the first place of a number is the first position, or the number of moves
pub place_is : (black : Bool) (x : ℕ) (ps : List Pair) → unwrap_or (position (λ p. eqb (seen black p).pn x) ps) (length ps) ≡ first x (mine black ps)
place_is black x ps = by (ltb (position_or_len is_x ps) (length ps)) refl ∙ sym (is_position_or_len (λ qs. first x (mine black qs)) is_x refl (λ p qs. stepped (is_x p) (first x (mine black qs))) ps)
  where
    is_x : Pair → Bool
    is_x p = eqb (seen black p).pn x

    stepped : (b : Bool) (n : ℕ) → cond b 0 (suc n) ≡ cond b 0 (1 + n)
    stepped true n = refl
    stepped false n = omega arith

    by : (b : Bool) → ltb (position_or_len is_x ps) (length ps) ≡ b → unwrap_or (cond b (Some (position_or_len is_x ps)) None) (length ps) ≡ position_or_len is_x ps
    by true e = refl
    by false e = none_before (position_or_len is_x ps) (length ps) (prefix_len-le-length (λ p. not (is_x p)) ps) e

-- the least and the sum are at most INF
pub least_small : (xs : List ℕ) → least xs ≤ INF
least_small [] = omega arith
least_small (x ∷ xs) = let ih : least xs ≤ INF = least_small xs in omega arith

pub sum_small : (xs : List ℕ) → sum xs ≤ INF
sum_small xs = by (endless xs) (plain xs)
  where
    by : (b : Bool) (p : ℕ) → cond b INF (min M p) ≤ INF
    by true p = omega arith
    by false p = omega arith

pub pair_small : (black : Bool) (ps : List Pair) → Small (pair_of black ps)
pair_small true ps = (least_small (mine true ps), sum_small (theirs true ps))
pair_small false ps = (sum_small (theirs false ps), least_small (mine false ps))

-- the least of all numbers but one
pub least_others : (black : Bool) (ps : List Pair) (k : ℕ) → k < length ps
    → min (least (mine black (take k ps))) (least (mine black (drop (suc k) ps))) ≡ least (others k (mine black ps))
least_others black [] k lt = absurd (omega arith)
least_others black (p ∷ ps) zero lt = let h : least (mine black ps) ≤ INF = least_small (mine black ps) in omega arith
least_others black (p ∷ ps) (suc k) lt =
    let ih : min (least (mine black (take k ps))) (least (mine black (drop (suc k) ps))) ≡ least (others k (mine black ps)) = least_others black ps k (omega arith) in
    omega arith

-- a move's number is part of the sum
own_by : (x s : ℕ) → x ≤ INF → plus x s < INF → x ≤ plus x s
own_by x s small below = grind (arith, nat_tests)

rest_by : (x s : ℕ) → s ≤ INF → plus x s < INF → (s < INF) × (s ≤ plus x s)
rest_by x s small below = (grind (arith, nat_tests), grind (arith, nat_tests))

seen_small : (black : Bool) (p : Pair) → Small p → (seen black p).dn ≤ INF
seen_small true p h = h.1
seen_small false p h = h.0

own_le_sum : (black : Bool) (ps : List Pair) (k : ℕ) → All Small ps → k < length ps → sum (theirs black ps) < INF
    → (seen black (get_or ps k zeros)).dn ≤ sum (theirs black ps)
own_le_sum black [] k h lt below = absurd (omega arith)
own_le_sum black (p ∷ ps) zero h lt below =
    rw (sum_more (seen black p).dn (theirs black ps))
    (own_by (seen black p).dn (sum (theirs black ps)) (seen_small black p (h 0 p (omega arith))) (rw (sum_more (seen black p).dn (theirs black ps)) at below))
own_le_sum black (p ∷ ps) (suc k) h lt below =
    let rest = rest_by (seen black p).dn (sum (theirs black ps)) (sum_small (theirs black ps)) (rw (sum_more (seen black p).dn (theirs black ps)) at below) in
    let ih : (seen black (get_or ps k zeros)).dn ≤ sum (theirs black ps) = own_le_sum black ps k (λ i d l. h (suc i) d (omega arith)) (omega arith) rest.0 in
    let more : sum (theirs black ps) ≤ plus (seen black p).dn (sum (theirs black ps)) = rest.1 in
    rw (sum_more (seen black p).dn (theirs black ps)) (omega (arith, ih, more))

-- below the limits, the sum is below the limit on it
sum_below : (black : Bool) (limit : Pair) (ps : List Pair) → reached limit (pair_of black ps) ≡ false → sum (theirs black ps) < (seen black limit).dn
sum_below true limit ps h = grind (arith, nat_tests)
sum_below false limit ps h = grind (arith, nat_tests)

-- what the limit on the sum wants
pub limits_fit : (black : Bool) (limit : Pair) (ps : List Pair) (k : ℕ) {lim own : Pair} {total : ℕ}
    → lim ≡ seen black limit → own ≡ seen black (get_or ps k zeros) → total ≡ sum (theirs black ps)
    → Small limit → reached limit (pair_of black ps) ≡ false → All Small ps → k < length ps
    → (lim.dn ≤ INF) × (total ≤ lim.dn) × (own.dn ≤ total)
limits_fit black limit ps k e f g cap below small lt =
    let a : sum (theirs black ps) < (seen black limit).dn = sum_below black limit ps below in
    let b : (seen black limit).dn ≤ INF = seen_small black limit cap in
    let o : (seen black (get_or ps k zeros)).dn ≤ sum (theirs black ps) = own_le_sum black ps k small lt (omega arith) in
    rw (e, f, g) (b, omega arith, o)
