-- Each turn but the last raises the chosen move's number: what is left to raise falls.
use Rattle.std.proofs.Common.{◌≡◌, ℕ, zero, suc, ◌+◌, ◌-◌, ◌*◌, ◌<◌, ◌≤◌, Bool, true, false, cond, eqb, ◌⊎◌, List, [], ◌∷◌, length, get_or, set, sym, refl, ap, ◌∙◌, inl, inr, true≢false, arith}
use Rattle.search_method.specs.Kinds.{Pair}
use Rattle.search_method.specs.Pairs.{M, INF, least, plain, endless, sum, others, pns, dns, near, choice, limits, unknown}
use Rattle.std.proofs.lemmas.Bool.{eq-eqb, or_right}
use Rattle.search_method.proofs.Rows.{IsOpen, Kind, sure, unsure, Row, LimitsFit, sum_plain, sum_endless, chosen_open}

-- how far the numbers are below INF
abbrev pub to_raise : List Pair → ℕ
to_raise [] = 0
to_raise (p ∷ ps) = (INF - p.pn) + to_raise ps

pub raise_set : (i : ℕ) (q : Pair) (ps : List Pair) → i < length ps → to_raise (set ps i q) + (INF - (get_or ps i unknown).pn) ≡ to_raise ps + (INF - q.pn)
raise_set i q [] h = absurd (omega arith)
raise_set zero q (p ∷ ps) h = omega arith
raise_set (suc i) q (p ∷ ps) h = omega (arith, raise_set i q ps (omega arith))

pub raise_bound : (ps : List Pair) → 1 ≤ least (pns ps) → to_raise ps ≤ length ps * M
raise_bound [] h = omega arith
raise_bound (p ∷ ps) h = omega (arith, raise_bound ps (omega arith))

plain_set : (i : ℕ) (q : Pair) (ps : List Pair) → i < length ps → plain (dns (set ps i q)) + (get_or ps i unknown).dn ≡ plain (dns ps) + q.dn
plain_set i q [] h = absurd (omega arith)
plain_set zero q (p ∷ ps) h = omega arith
plain_set (suc i) q (p ∷ ps) h = omega (arith, plain_set i q ps (omega arith))

endless_set : (i : ℕ) (q : Pair) (ps : List Pair) → i < length ps → q.dn ≡ INF → endless (dns (set ps i q)) ≡ true
endless_set i q [] h e = absurd (omega arith)
endless_set zero q (p ∷ ps) h e = rw (eq-eqb q.dn INF e)
endless_set (suc i) q (p ∷ ps) h e = rw (endless_set i q ps (omega arith) e) (or_right (eqb p.dn INF) true refl)

least_others : (i : ℕ) (xs : List ℕ) → least xs ≤ least (others i xs)
least_others i [] = omega arith
least_others zero (x ∷ xs) = omega arith
least_others (suc i) (x ∷ xs) = omega (arith, least_others i xs)

-- no number passes INF
kind_fits : (P : Bool → Type 0) (Q : Type 0) (q : Pair) → Kind P Q q → q.dn ≤ INF
kind_fits P Q q (sure true e h) = omega (arith, ap (λ (p : Pair). p.dn) e)
kind_fits P Q q (sure false e h) = omega (arith, ap (λ (p : Pair). p.dn) e)
kind_fits P Q q (unsure o h) = omega (arith, o.dn_high)

-- the new pair has come to the move's limits: the line has come to its own, or less is left to raise
pub progress : (P : ℕ → Bool → Type 0) (Q : ℕ → Type 0) (ps : List Pair) (lim q : Pair) (P' : Bool → Type 0) (Q' : Type 0) →
    Row P Q 0 ps → endless (dns ps) ≡ false → IsOpen (near ps) → LimitsFit lim → (near ps).pn < lim.pn → (near ps).dn < lim.dn → Kind P' Q' q →
    ((limits lim ps).pn ≤ q.pn) ⊎ ((limits lim ps).dn ≤ q.dn) →
    (lim.dn ≤ (near (set ps (choice ps) q)).dn) ⊎ (to_raise (set ps (choice ps) q) < to_raise ps)
progress P Q ps lim q P' Q' r e o f x y kind (inl h) =
    let c = chosen_open P Q ps r o in
    inr (omega (arith, raise_set (choice ps) q ps c.0, c.3, least_others (choice ps) (pns ps), o.pn_high))
progress P Q ps lim q P' Q' r e o f x y kind (inr h) = inl (by_limit (eqb lim.dn INF) refl h)
  where
    inside : choice ps < length ps
    inside = (chosen_open P Q ps r o).0

    by_limit : (t : Bool) → eqb lim.dn INF ≡ t → cond t INF (lim.dn - sum (dns ps) + (get_or ps (choice ps) unknown).dn) ≤ q.dn → lim.dn ≤ sum (dns (set ps (choice ps) q))
    by_limit true z w =
        rw (sum_endless (dns (set ps (choice ps) q)) (endless_set (choice ps) q ps inside (omega (arith, kind_fits P' Q' q kind)))) f.dn_fits
    by_limit false z w = by_sum (endless (dns (set ps (choice ps) q))) refl
      where
        small : lim.dn ≤ M
        small =
            let ne : ¬ (lim.dn ≡ INF) = λ i. true≢false (sym (eq-eqb lim.dn INF i) ∙ z) in
            omega (arith, ne, f.dn_fits)

        by_sum : (t : Bool) → endless (dns (set ps (choice ps) q)) ≡ t → lim.dn ≤ sum (dns (set ps (choice ps) q))
        by_sum true u = rw (sum_endless (dns (set ps (choice ps) q)) u) f.dn_fits
        by_sum false u =
            rw (sum_plain (dns (set ps (choice ps) q)) u)
            (omega (arith, small, plain_set (choice ps) q ps inside, sum_plain (dns ps) e))
