-- The pairs of a line's moves: settled or open, the pair of the line from them, and the move chosen.
use Rattle.std.proofs.Common.{◌≡◌, ℕ, zero, suc, ◌+◌, ◌-◌, ◌<◌, ◌≤◌, min, Bool, true, false, cond, eqb, leb, ◌⊎◌, List, [], ◌∷◌, map, length, get_or, set, sym, refl, ap, ◌∙◌, subst, inl, inr, arith}
use mathlib.Core.Bool.{beq}
use native.Mathlib.Decide.{dec_le}
use lib.ListN.{length-map, get_or-map}
use Rattle.std.proofs.lemmas.Bool.{leb-true, leb-false, le-leb, eq-eqb, ne_eqb, or_parts, or_cases, or_left, or_right}
use Rattle.search_method.specs.Kinds.{Pair}
use Rattle.search_method.specs.Pairs.{M, INF, settled, unknown, least, plain, endless, sum, first, seen, pns, dns, near, choice, limits, reached}

pub record IsOpen (p : Pair) : Type 0 where
  pub pn_low : 1 ≤ p.pn
  pub pn_high : p.pn ≤ M
  pub dn_low : 1 ≤ p.dn
  pub dn_high : p.dn ≤ M

-- a pair is settled with a verdict v of which P holds, or open
pub data Kind (P : Bool → Type 0) (Q : Type 0) (p : Pair) : Type 0 where
  sure : (v : Bool) → p ≡ settled v → P v → Kind P Q p
  unsure : IsOpen p → Q → Kind P Q p

-- each pair of a row, its moves counted from k
abbrev pub Row : (ℕ → Bool → Type 0) → (ℕ → Type 0) → ℕ → List Pair → Type 0
Row P Q k [] = Unit {0}
Row P Q k (p ∷ ps) = Kind (P k) (Q k) p × Row P Q (suc k) ps

-- what a row comes to, as the side on turn sees it
pub data Total (P : ℕ → Bool → Type 0) (k : ℕ) (ps : List Pair) : Type 0 where
  won : endless (dns ps) ≡ true → least (pns ps) ≡ 0 → (i : ℕ) → i < length ps → P (i + k) true → Total P k ps
  lost : endless (dns ps) ≡ false → plain (dns ps) ≡ 0 → least (pns ps) ≡ INF → ((i : ℕ) → i < length ps → P (i + k) false) → Total P k ps
  even : endless (dns ps) ≡ false → 1 ≤ plain (dns ps) → 1 ≤ least (pns ps) → least (pns ps) ≤ M → Total P k ps

shift : (j k : ℕ) → j + suc k ≡ suc j + k
shift j k = omega arith

add_won : (P : ℕ → Bool → Type 0) (k : ℕ) (p : Pair) (ps : List Pair) → p ≡ settled true → P k true → Total P k (p ∷ ps)
add_won P k p ps e h =
    won (rw e) (rw e (omega arith)) 0 (omega arith) (let z : 0 + k ≡ k = omega arith in rw z h)

-- one more at the front of a row
either_place : (P : ℕ → Bool → Type 0) (v : Bool) (k n : ℕ) → P k v → ((i : ℕ) → i < n → P (i + suc k) v) → (i : ℕ) → i < suc n → P (i + k) v
either_place P v k n h t zero x = let z : 0 + k ≡ k = omega arith in rw z h
either_place P v k n h t (suc j) x = subst (λ (i : ℕ). P i v) (shift j k) (t j (omega arith))

add_lost : (P : ℕ → Bool → Type 0) (k : ℕ) (p : Pair) (ps : List Pair) → p ≡ settled false → P k false → Total P (suc k) ps → Total P k (p ∷ ps)
add_lost P k p ps e h (won x y i z w) = won (rw e x) (rw e (omega arith)) (suc i) (omega arith) (subst (λ (j : ℕ). P j true) (shift i k) w)
add_lost P k p ps e h (lost x y z w) = lost (rw e x) (rw e (omega arith)) (rw e (omega arith)) (either_place P false k (length ps) h w)
add_lost P k p ps e h (even x y z w) = even (rw e x) (rw e (omega arith)) (rw e (omega arith)) (rw e (omega arith))

small_dn : (p : Pair) → IsOpen p → eqb p.dn INF ≡ false
small_dn p o = ne_eqb p.dn INF (λ e. omega (arith, o.dn_high))

add_open : (P : ℕ → Bool → Type 0) (k : ℕ) (p : Pair) (ps : List Pair) → IsOpen p → Total P (suc k) ps → Total P k (p ∷ ps)
add_open P k p ps o (won x y i z w) =
    won (rw (small_dn p o) x) (omega arith) (suc i) (omega arith) (subst (λ (j : ℕ). P j true) (shift i k) w)
add_open P k p ps o (lost x y z w) = even (rw (small_dn p o) x) (omega arith) (omega arith) (omega arith)
add_open P k p ps o (even x y z w) = even (rw (small_dn p o) x) (omega arith) (omega arith) (omega arith)

pub total : (P : ℕ → Bool → Type 0) (Q : ℕ → Type 0) (k : ℕ) (ps : List Pair) → Row P Q k ps → Total P k ps
total P Q k [] r = lost refl refl refl (λ i x. absurd (omega arith))
total P Q k (p ∷ ps) r = by r.0 (total P Q (suc k) ps r.1)
  where
    by : Kind (P k) (Q k) p → Total P (suc k) ps → Total P k (p ∷ ps)
    by (sure true e h) t = add_won P k p ps e h
    by (sure false e h) t = add_lost P k p ps e h t
    by (unsure o q) t = add_open P k p ps o t

-- the pair of the line: settled for the mover by one move, against it by all, or open
pub data LinePair (P : ℕ → Bool → Type 0) (ps : List Pair) : Type 0 where
  by_one : near ps ≡ settled true → (i : ℕ) → i < length ps → P i true → LinePair P ps
  by_all : near ps ≡ settled false → ((i : ℕ) → i < length ps → P i false) → LinePair P ps
  undecided : endless (dns ps) ≡ false → IsOpen (near ps) → LinePair P ps

pair_path : (p d p' d' : ℕ) → p ≡ p' → d ≡ d' → ◌≡◌ {A = Pair} (record { pn = p; dn = d }) (record { pn = p'; dn = d' })
pair_path p d p' d' e f = λ i. record { pn = e i; dn = f i }

pub plus_zero : (i : ℕ) → i + 0 ≡ i
plus_zero i = omega arith

pub sum_endless : (xs : List ℕ) → endless xs ≡ true → sum xs ≡ INF
sum_endless xs e = rw e

pub sum_plain : (xs : List ℕ) → endless xs ≡ false → sum xs ≡ min M (plain xs)
sum_plain xs e = rw e

pub line_pair_is : (P : ℕ → Bool → Type 0) (Q : ℕ → Type 0) (ps : List Pair) → Row P Q 0 ps → LinePair P ps
line_pair_is P Q ps r = by (total P Q 0 ps r)
  where
    by : Total P 0 ps → LinePair P ps
    by (won x y i z w) =
        by_one (pair_path (least (pns ps)) (sum (dns ps)) 0 INF y (sum_endless (dns ps) x)) i z (subst (λ (j : ℕ). P j true) (plus_zero i) w)
    by (lost x y z w) =
        by_all
        (pair_path (least (pns ps)) (sum (dns ps)) INF 0 z (sum_plain (dns ps) x ∙ omega arith))
        (λ i h. subst (λ (j : ℕ). P j false) (plus_zero i) (w i h))
    by (even x y z w) =
        undecided x
        (record {
          pn_low = z;
          pn_high = w;
          dn_low = rw (sum_plain (dns ps) x) (omega arith);
          dn_high = rw (sum_plain (dns ps) x) (omega arith);
        })

pub row_at : (P : ℕ → Bool → Type 0) (Q : ℕ → Type 0) (k : ℕ) (ps : List Pair) → Row P Q k ps → (i : ℕ) → i < length ps →
    Kind (P (i + k)) (Q (i + k)) (get_or ps i unknown)
row_at P Q k [] r i h = absurd (omega arith)
row_at P Q k (p ∷ ps) r zero h = let z : 0 + k ≡ k = omega arith in rw z r.0
row_at P Q k (p ∷ ps) r (suc i) h =
    subst (λ (j : ℕ). Kind (P j) (Q j) (get_or ps i unknown)) (shift i k) (row_at P Q (suc k) ps r.1 i (omega arith))

pub row_set : (P : ℕ → Bool → Type 0) (Q : ℕ → Type 0) (k : ℕ) (ps : List Pair) → Row P Q k ps → (i : ℕ) (q : Pair) →
    Kind (P (i + k)) (Q (i + k)) q → Row P Q k (set ps i q)
row_set P Q k [] r i q h = tt
row_set P Q k (p ∷ ps) r zero q h = (let z : k ≡ 0 + k = omega arith in rw z h, r.1)
row_set P Q k (p ∷ ps) r (suc i) q h =
    (r.0, row_set P Q (suc k) ps r.1 i q (subst (λ (j : ℕ). Kind (P j) (Q j) q) (sym (shift i k)) h))

-- the first place of the least number has it, if that is below INF
least_cases : (x y : ℕ) → (min x y ≡ x) ⊎ ((min x y ≡ y) × (y < x))
least_cases x y = by (dec_le x y)
  where
    by : Dec (x ≤ y) → (min x y ≡ x) ⊎ ((min x y ≡ y) × (y < x))
    by (yes h) = inl (omega arith)
    by (no h) = inr (omega arith, omega arith)

abbrev Found : ℕ → List ℕ → Type 0
Found y xs = (first y xs < length xs) × (get_or xs (first y xs) 1 ≡ y)

found_here : (x : ℕ) (xs : List ℕ) → Found x (x ∷ xs)
found_here x xs = rw (eq-eqb x x refl) (omega arith, refl)

found_later : (x y : ℕ) (xs : List ℕ) → y < x → Found y xs → Found y (x ∷ xs)
found_later x y xs h f = rw (ne_eqb x y (λ z. omega arith)) (omega arith, f.1)

pub first_least : (xs : List ℕ) → least xs < INF → Found (least xs) xs
first_least [] h = absurd (omega arith)
first_least (x ∷ xs) h = by (least_cases x (least xs)) (first_least xs)
  where
    by : (min x (least xs) ≡ x) ⊎ ((min x (least xs) ≡ least xs) × (least xs < x)) → (least xs < INF → Found (least xs) xs) →
        Found (min x (least xs)) (x ∷ xs)
    by (inl e) ih = subst (λ (y : ℕ). Found y (x ∷ xs)) (sym e) (found_here x xs)
    by (inr e) ih =
        subst (λ (y : ℕ). Found y (x ∷ xs)) (sym e.0) (found_later x (least xs) xs e.1 (ih (omega (arith, e.0))))

-- the move chosen where the line is open: it is open itself
pub chosen_open : (P : ℕ → Bool → Type 0) (Q : ℕ → Type 0) (ps : List Pair) → Row P Q 0 ps → IsOpen (near ps) →
    (choice ps < length ps) × IsOpen (get_or ps (choice ps) unknown) × Q (choice ps) × ((get_or ps (choice ps) unknown).pn ≡ least (pns ps))
chosen_open P Q ps r o = by (row_at P Q 0 ps r (choice ps) inside)
  where
    found : Found (least (pns ps)) (pns ps)
    found = first_least (pns ps) (omega (arith, o.pn_high))

    inside : choice ps < length ps
    inside = omega (arith, found.0, length-map ps (λ (p : Pair). p.pn))

    has : (get_or ps (choice ps) unknown).pn ≡ least (pns ps)
    has = sym (get_or-map (λ (p : Pair). p.pn) ps (choice ps) unknown) ∙ found.1

    by : Kind (P (choice ps + 0)) (Q (choice ps + 0)) (get_or ps (choice ps) unknown) →
        (choice ps < length ps) × IsOpen (get_or ps (choice ps) unknown) × Q (choice ps) × ((get_or ps (choice ps) unknown).pn ≡ least (pns ps))
    by (sure true e h) = absurd (omega (arith, o.pn_low, has, ap (λ (p : Pair). p.pn) e))
    by (sure false e h) = absurd (omega (arith, o.pn_high, has, ap (λ (p : Pair). p.pn) e))
    by (unsure x q) = (inside, x, subst Q (plus_zero (choice ps)) q, has)

-- no limit passes INF, and the chosen move's numbers are below its limits
pub record LimitsFit (lim : Pair) : Type 0 where
  pub pn_fits : lim.pn ≤ INF
  pub dn_fits : lim.dn ≤ INF

at_plain : (i : ℕ) (ps : List Pair) → i < length ps → (get_or ps i unknown).dn ≤ plain (dns ps)
at_plain i [] h = absurd (omega arith)
at_plain zero (p ∷ ps) h = omega arith
at_plain (suc i) (p ∷ ps) h = omega (arith, at_plain i ps (omega arith))

at_most_INF : (b : Bool) (x : ℕ) → x ≤ INF → cond b INF x ≤ INF
at_most_INF true x h = omega arith
at_most_INF false x h = h

-- the chosen move's dn is within the line's
pub chosen_dn : (P : ℕ → Bool → Type 0) (Q : ℕ → Type 0) (ps : List Pair) → Row P Q 0 ps → endless (dns ps) ≡ false → IsOpen (near ps) →
    (get_or ps (choice ps) unknown).dn ≤ sum (dns ps)
chosen_dn P Q ps r e o =
    let c = chosen_open P Q ps r o in
    rw (sum_plain (dns ps) e)
    (omega (arith, at_plain (choice ps) ps c.0, c.1.dn_high))

pub limits_fit : (P : ℕ → Bool → Type 0) (Q : ℕ → Type 0) (ps : List Pair) (lim : Pair) → Row P Q 0 ps → endless (dns ps) ≡ false → IsOpen (near ps) →
    sum (dns ps) < lim.dn → LimitsFit lim → LimitsFit (limits lim ps)
limits_fit P Q ps lim r e o x f =
    record {
      pn_fits = omega arith;
      dn_fits =
          at_most_INF (eqb lim.dn INF) (lim.dn - sum (dns ps) + (get_or ps (choice ps) unknown).dn)
          (omega (arith, chosen_dn P Q ps r e o, f.dn_fits));
    }

-- a line is left exactly if a number has come to its limit
pub unreached : (lim p : Pair) → reached lim p ≡ false → (p.pn < lim.pn) × (p.dn < lim.dn)
unreached lim p e =
    let n = or_parts (leb lim.pn p.pn) (leb lim.dn p.dn) e in
    (leb-false lim.pn p.pn n.0, leb-false lim.dn p.dn n.1)

pub is_reached : (lim p : Pair) → reached lim p ≡ true → (lim.pn ≤ p.pn) ⊎ (lim.dn ≤ p.dn)
is_reached lim p e = by (or_cases (leb lim.pn p.pn) (leb lim.dn p.dn) e)
  where
    by : (leb lim.pn p.pn ≡ true) ⊎ (leb lim.dn p.dn ≡ true) → (lim.pn ≤ p.pn) ⊎ (lim.dn ≤ p.dn)
    by (inl x) = inl (leb-true lim.pn p.pn x)
    by (inr x) = inr (leb-true lim.dn p.dn x)

-- a line that goes on is open
pub goes_on : (P : ℕ → Bool → Type 0) (Q : ℕ → Type 0) (ps : List Pair) (lim : Pair) → Row P Q 0 ps → LimitsFit lim →
    (near ps).pn < lim.pn → (near ps).dn < lim.dn → (endless (dns ps) ≡ false) × IsOpen (near ps)
goes_on P Q ps lim r f x y = by (line_pair_is P Q ps r)
  where
    by : LinePair P ps → (endless (dns ps) ≡ false) × IsOpen (near ps)
    by (by_one e i z w) = absurd (omega (arith, f.dn_fits, y, ap (λ (p : Pair). p.dn) e))
    by (by_all e z) = absurd (omega (arith, f.pn_fits, x, ap (λ (p : Pair). p.pn) e))
    by (undecided e o) = (e, o)

-- the row as the side on turn sees it
abbrev pub Seen : Bool → (ℕ → Bool → Type 0) → ℕ → Bool → Type 0
Seen b P k v = P k (beq b v)

beq_twice : (b v : Bool) → beq b (beq b v) ≡ v
beq_twice true true = refl
beq_twice true false = refl
beq_twice false true = refl
beq_twice false false = refl

pub seen_settled : (b v : Bool) → seen b (settled v) ≡ settled (beq b v)
seen_settled true true = refl
seen_settled true false = refl
seen_settled false true = refl
seen_settled false false = refl

pub seen_open : (b : Bool) (p : Pair) → IsOpen p → IsOpen (seen b p)
seen_open true p o = o
seen_open false p o = record { pn_low = o.dn_low; pn_high = o.dn_high; dn_low = o.pn_low; dn_high = o.pn_high }

pub seen_fit : (b : Bool) (lim : Pair) → LimitsFit lim → LimitsFit (seen b lim)
seen_fit true p o = o
seen_fit false p o = record { pn_fits = o.dn_fits; dn_fits = o.pn_fits }

pub seen_kind : (b : Bool) (P : Bool → Type 0) (Q : Type 0) (p : Pair) → Kind P Q p → Kind (λ v. P (beq b v)) Q (seen b p)
seen_kind b P Q p (sure v e h) = sure (beq b v) (ap (seen b) e ∙ seen_settled b v) (subst P (sym (beq_twice b v)) h)
seen_kind b P Q p (unsure o q) = unsure (seen_open b p o) q

pub seen_row : (b : Bool) (P : ℕ → Bool → Type 0) (Q : ℕ → Type 0) (k : ℕ) (ps : List Pair) → Row P Q k ps → Row (Seen b P) Q k (map (seen b) ps)
seen_row b P Q k [] r = tt
seen_row b P Q k (p ∷ ps) r = (seen_kind b (P k) (Q k) p r.0, seen_row b P Q (suc k) ps r.1)

pub seen_twice : (b : Bool) (p : Pair) → seen b (seen b p) ≡ p
seen_twice true p = refl
seen_twice false p = refl

pub map_set : (b : Bool) (i : ℕ) (q : Pair) (ps : List Pair) → map (seen b) (set ps i q) ≡ set (map (seen b) ps) i (seen b q)
map_set b i q [] = refl
map_set b zero q (p ∷ ps) = refl
map_set b (suc i) q (p ∷ ps) = ap {B = List Pair} (λ xs. seen b p ∷ xs) (map_set b i q ps)

-- the limits as the side on turn sees them
pub seen_below : (b : Bool) (p lim : Pair) → ((seen b p).pn < lim.pn) × ((seen b p).dn < lim.dn) → (p.pn < (seen b lim).pn) × (p.dn < (seen b lim).dn)
seen_below true p lim h = h
seen_below false p lim h = (h.1, h.0)

pub seen_reached : (b : Bool) (lim p : Pair) → ((seen b lim).pn ≤ p.pn) ⊎ ((seen b lim).dn ≤ p.dn) → (lim.pn ≤ (seen b p).pn) ⊎ (lim.dn ≤ (seen b p).dn)
seen_reached true lim p h = h
seen_reached false lim p (inl h) = inr h
seen_reached false lim p (inr h) = inl h

pub seen_dn_reached : (b : Bool) (lim p : Pair) → (seen b lim).dn ≤ p.dn → reached lim (seen b p) ≡ true
seen_dn_reached true lim p h = or_right (leb lim.pn p.pn) (leb lim.dn p.dn) (le-leb lim.dn p.dn h)
seen_dn_reached false lim p h = or_left (leb lim.pn p.dn) (leb lim.dn p.pn) (le-leb lim.pn p.dn h)

-- the first move with the verdict v, where the least number for v is 0
abbrev pub numbers : Bool → List Pair → List ℕ
numbers true ps = pns ps
numbers false ps = dns ps

pub seen_numbers : (b : Bool) (ps : List Pair) → pns (map (seen b) ps) ≡ numbers b ps
seen_numbers true [] = refl
seen_numbers false [] = refl
seen_numbers true (p ∷ ps) = ap {B = List ℕ} (λ xs. p.pn ∷ xs) (seen_numbers true ps)
seen_numbers false (p ∷ ps) = ap {B = List ℕ} (λ xs. p.dn ∷ xs) (seen_numbers false ps)

zero_settled : (v : Bool) (P : Bool → Type 0) (Q : Type 0) (p : Pair) → Kind P Q p → (seen v p).pn ≡ 0 → P v
zero_settled true P Q p (sure true e h) z = h
zero_settled true P Q p (sure false e h) z = absurd (omega (arith, ap (λ (q : Pair). q.pn) e))
zero_settled true P Q p (unsure o q) z = absurd (omega (arith, o.pn_low))
zero_settled false P Q p (sure true e h) z = absurd (omega (arith, ap (λ (q : Pair). q.dn) e))
zero_settled false P Q p (sure false e h) z = h
zero_settled false P Q p (unsure o q) z = absurd (omega (arith, o.dn_low))

at_numbers : (v : Bool) (i : ℕ) (ps : List Pair) → get_or (numbers v ps) i 1 ≡ (seen v (get_or ps i unknown)).pn
at_numbers true i ps = get_or-map (λ (p : Pair). p.pn) ps i unknown
at_numbers false i ps = get_or-map (λ (p : Pair). p.dn) ps i unknown

length_numbers : (v : Bool) (ps : List Pair) → length (numbers v ps) ≡ length ps
length_numbers true ps = length-map ps (λ (p : Pair). p.pn)
length_numbers false ps = length-map ps (λ (p : Pair). p.dn)

pub first_settled : (v : Bool) (P : ℕ → Bool → Type 0) (Q : ℕ → Type 0) (ps : List Pair) → Row P Q 0 ps → least (numbers v ps) ≡ 0 →
    (first 0 (numbers v ps) < length ps) × P (first 0 (numbers v ps)) v
first_settled v P Q ps r z = (
  inside,
  subst (λ (j : ℕ). P j v) (plus_zero i) (zero_settled v (P (i + 0)) (Q (i + 0)) (get_or ps i unknown) (row_at P Q 0 ps r i inside) (sym (at_numbers v i ps) ∙ found.1)),
)
  where
    i : ℕ
    i = first 0 (numbers v ps)

    found : Found 0 (numbers v ps)
    found = subst (λ (y : ℕ). Found y (numbers v ps)) z (first_least (numbers v ps) (omega arith))

    inside : i < length ps
    inside = omega (arith, found.0, length_numbers v ps)
