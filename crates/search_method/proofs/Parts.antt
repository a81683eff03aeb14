-- What holds of every way through a part of the search: what it costs in plays, and what it answers.
use Rattle.std.proofs.Common.{◌≡◌, ℕ, zero, suc, ◌+◌, ◌*◌, ◌<◌, ◌≤◌, Bool, true, false, List, ◌∷◌, length, Option, refl, ap, arith}
use mathlib.Core.Bool.{false≢true}
use native.Mathlib.Decide.{dec_le}
use Rattle.store.specs.declared.entry.Key.{Key}
use Rattle.store.specs.declared.entry.Entry.{Entry}
use Rattle.search_method.specs.Tree.{Tree, bind}
use Rattle.search_method.specs.Kinds.{Pair}
use Rattle.search_method.specs.Search.{Out, exhausted, got, Part, give, next, ◌>>=◌, played, either, each, every}
use Rattle.search_method.proofs.Good.{Good, good_bind, good_map}
use Rattle.search_method.proofs.Rows.{Kind, Row}

-- from n plays: exhausted only with fewer than C, else at most C were used, and P holds of the answer
abbrev pub After : {A : Type 0} → ℕ → ℕ → (A → Type 0) → Out A → Type 0
After C n P exhausted = n < C
After C n P (got x k) = (k ≤ n) × (n ≤ k + C) × P x

-- the same from k plays after n of which at most C were used
pub after_more : {A : Type 0} (C D n k : ℕ) (P Q : A → Type 0) → k ≤ n → n ≤ k + C → ((x : A) → P x → Q x) → (o : Out A) → After D k P o → After (C + D) n Q o
after_more C D n k P Q x y f exhausted h = omega arith
after_more C D n k P Q x y f (got z j) h = (omega (arith, h.0), omega (arith, h.1), f z h.2)

module _ (R : Key → Option Entry → Type 0) (N : Entry → Type 0) where
  abbrev pub Costs : {A : Type 0} → ℕ → ℕ → (A → Type 0) → Tree (Out A) → Type 0
  Costs C n P t = Good R N (After C n P) t

  pub more : {A : Type 0} (C D n : ℕ) (P Q : A → Type 0) (t : Tree (Out A)) → C ≤ D → ((x : A) → P x → Q x) → Costs C n P t → Costs D n Q t
  more C D n P Q t h f g = good_map R N (After C n P) (After D n Q) t by g
    where
      by : (o : Out _) → After C n P o → After D n Q o
      by exhausted x = omega arith
      by (got z j) x = (x.0, omega (arith, x.1), f z x.2)

  pub then : {A B : Type 0} (C D n : ℕ) (P : A → Type 0) (Q : B → Type 0) (s : Tree (Out A)) (g : A → Part B) →
      Costs C n P s → ((x : A) (k : ℕ) → k ≤ n → P x → Costs D k Q (g x k)) → Costs (C + D) n Q (bind s (next g))
  then C D n P Q s g h f = good_bind R N (After C n P) (After (C + D) n Q) s (next g) h by
    where
      by : (o : Out _) → After C n P o → Good R N (After (C + D) n Q) (next g o)
      by exhausted x = omega arith
      by (got z k) x =
          good_map R N (After D k Q) (After (C + D) n Q) (g z k) (after_more C D n k Q Q x.0 x.1 (λ y w. w)) (f z k x.0 x.2)

  pub one_play : {A : Type 0} (C n : ℕ) (P : A → Type 0) (s : Part A) → ((k : ℕ) → k ≤ n → Costs C k P (s k)) → Costs (suc C) n P (played s n)
  one_play C zero P s h = omega arith
  one_play C (suc n) P s h = good_map R N (After C n P) (After (suc C) (suc n) P) (s n) by (h n (omega arith))
    where
      by : (o : Out _) → After C n P o → After (suc C) (suc n) P o
      by exhausted x = omega arith
      by (got z j) x = (omega (arith, x.0), omega (arith, x.1), x.2)

  -- each of r moves from k on: every, until one fails
  abbrev From : (ℕ → Type 0) → ℕ → ℕ → Type 0
  From P k r = (i : ℕ) → k ≤ i → i < r + k → P i

  from_cons : (P : ℕ → Type 0) (k r : ℕ) → P k → From P (suc k) r → From P k (suc r)
  from_cons P k r h t i x y = by (dec_le (suc k) i)
    where
      by : Dec (suc k ≤ i) → P i
      by (yes z) = t i z (omega arith)
      by (no z) = let e : i ≡ k = omega arith in rw e h

  pub every_costs : (s : ℕ → Part Bool) (C top : ℕ) (P : ℕ → Type 0) →
      ((k : ℕ) → k < top → (n : ℕ) → Costs C n (λ b. b ≡ true → P k) (s k n)) →
      (r k n : ℕ) → r + k ≤ top → Costs (r * suc C) n (λ b. b ≡ true → From P k r) (every s k r n)
  every_costs s C top P h zero k n x = (omega arith, omega arith, λ e i y z. absurd (omega arith))
  every_costs s C top P h (suc r) k n x =
      more (suc C + r * suc C) (suc r * suc C) n (λ b. b ≡ true → From P k (suc r)) (λ b. b ≡ true → From P k (suc r)) (every s k (suc r) n)
      (omega arith) (λ b y. y)
      (then (suc C) (r * suc C) n (λ b. b ≡ true → P k) (λ b. b ≡ true → From P k (suc r)) (played (s k) n)
      (λ holds. either holds (every s (suc k) r) (give false))
      (one_play C n (λ b. b ≡ true → P k) (s k) (λ j y. h k (omega arith) j))
      (λ b j y z. by b j z (every_costs s C top P h r (suc k) j (omega arith))))
    where
      by : (b : Bool) (j : ℕ) → (b ≡ true → P k) → Costs (r * suc C) j (λ c. c ≡ true → From P (suc k) r) (every s (suc k) r j) →
          Costs (r * suc C) j (λ c. c ≡ true → From P k (suc r)) (either b (every s (suc k) r) (give false) j)
      by true j z ih =
          more (r * suc C) (r * suc C) j (λ c. c ≡ true → From P (suc k) r) (λ c. c ≡ true → From P k (suc r)) (every s (suc k) r j)
          (omega arith) (λ c w e. from_cons P k r (z refl) (w e)) ih
      by false j z ih = (omega arith, omega arith, λ e. absurd (false≢true e))

  -- each, with the row of pairs that comes of it
  pub each_costs : (s : ℕ → Part Pair) (C top : ℕ) (P : ℕ → Bool → Type 0) (Q : ℕ → Type 0) →
      ((k : ℕ) → k < top → (n : ℕ) → Costs C n (Kind (P k) (Q k)) (s k n)) →
      (r k n : ℕ) → r + k ≤ top → Costs (r * suc C) n (λ ps. Row P Q k ps × (length ps ≡ r)) (each s k r n)
  each_costs s C top P Q h zero k n x = (omega arith, omega arith, (tt, refl))
  each_costs s C top P Q h (suc r) k n x =
      more (suc C + (r * suc C + 0)) (suc r * suc C) n OutRow OutRow (each s k (suc r) n) (omega arith) (λ b y. y)
      (then (suc C) (r * suc C + 0) n (Kind (P k) (Q k)) OutRow (played (s k) n)
      (λ p. each s (suc k) r >>= (λ ps. give (p ∷ ps)))
      (one_play C n (Kind (P k) (Q k)) (s k) (λ j y. h k (omega arith) j))
      (λ p j y z.
      then (r * suc C) 0 j (λ ps. Row P Q (suc k) ps × (length ps ≡ r)) OutRow (each s (suc k) r j) (λ ps. give (p ∷ ps))
      (each_costs s C top P Q h r (suc k) j (omega arith))
      (λ ps i w v. (omega arith, omega arith, ((z, v.0), ap suc v.1)))))
    where
      OutRow : List Pair → Type 0
      OutRow ps = Row P Q k ps × (length ps ≡ suc r)
