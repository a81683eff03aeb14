-- The walk through the search, once for both theorems: `Claim l v` is what a verdict v at the line l is to mean.
use Rattle.std.proofs.Common.{◌≡◌, ℕ, zero, suc, ◌+◌, ◌*◌, ◌<◌, ◌≤◌, Bool, true, false, cond, not, ◌&&◌, T, ltb, leb, List, ◌∷◌, length, Some, None, Option, sym, refl, ap, ◌∙◌, subst, true≢false, mul-le-mul_right, arith, ltb→lt}
use mathlib.Core.Bool.{beq, false≢true}
use Rattle.game.specs.declared.kinds.Score.{Score}
use Rattle.game.specs.Kinds.{points}
use Rattle.game.specs.Meaning.{Line, Meaning, Reachable}
use Rattle.game.specs.Laws.{Lawful, BoundedBy}
use Rattle.game.specs.Value.{black_moves}
use Rattle.store.specs.declared.entry.Key.{Key}
use Rattle.store.specs.declared.entry.Finding.{Finding}
use Rattle.store.specs.declared.entry.Finding.TheVariants.{Verdict, Open}
use Rattle.store.specs.declared.entry.Entry.{Entry}
use Rattle.search_method.specs.Kinds.{Pair}
use Rattle.search_method.specs.Pairs.{M, settled, unknown, in_range, between}
use Rattle.search_method.specs.Search.{Part, give, played, either, every, key, entry, judged, settles, claim_by, claim, by_moves, decide, by_entry, holds_at, simulate, confirm, appraise_by, appraise, judge, evaluate}
use Rattle.search_method.specs.Bound.{enough}
use Rattle.std.proofs.lemmas.Bool.{leb-true, and_parts}
use Rattle.search_method.proofs.Rows.{IsOpen, Kind, sure, unsure, Row}
use Rattle.search_method.proofs.Parts.{Costs, more, then, one_play, every_costs, each_costs}

-- what makes claims fair: scores, moves, entries that settle a line, and entries that are noted
pub record Fair (m : Meaning) (floor : ℕ) (Claim : Line → Bool → Type 0) (R : Key → Option Entry → Type 0) (N : Entry → Type 0) : Type 0 where
  pub over : (l : Line) (s : Score) → Reachable m l → (m.view l).score ≡ Some s → Claim l (leb floor (points s))
  pub one : (l : Line) (k : ℕ) → Reachable m (k ∷ l) → (m.view l).score ≡ None → Claim (k ∷ l) (black_moves (m.view l)) → Claim l (black_moves (m.view l))
  pub all : (l : Line) → Reachable m l → (m.view l).score ≡ None →
      ((k : ℕ) → k < (m.view l).moves → Claim (k ∷ l) (not (black_moves (m.view l)))) → Claim l (not (black_moves (m.view l)))
  pub trusted : (l : Line) (f : Entry) (v : Bool) (k : ℕ) → Reachable m l → R (key m floor l) (Some f) → (m.view l).independent ≡ true → f.finding ≡ Verdict v true k → Claim l v
  pub noted : (l : Line) (v : Bool) (k : ℕ) → Reachable m l → Claim l v → N (entry m floor l (Verdict v (m.view l).independent k))
  pub noted_open : (l : Line) (p d : ℕ) → N (entry m floor l (Open p d))

-- a pair is settled rightly, or open at a line that is not over
abbrev pub PairFair : Meaning → (Line → Bool → Type 0) → Line → Pair → Type 0
PairFair m Claim l p = Kind (Claim l) ((m.view l).score ≡ None) p

abbrev pub RowFair : Meaning → (Line → Bool → Type 0) → Line → List Pair → Type 0
RowFair m Claim l ps = Row (λ k. Claim (k ∷ l)) (λ k. (m.view (k ∷ l)).score ≡ None) 0 ps

-- a verdict is the other's, or its opposite
pub beq_same : (a b : Bool) → beq a b ≡ true → a ≡ b
beq_same true true e = refl
beq_same true false e = absurd (false≢true e)
beq_same false true e = absurd (false≢true e)
beq_same false false e = refl

pub beq_other : (a b : Bool) → beq a b ≡ false → a ≡ not b
beq_other true true e = absurd (true≢false e)
beq_other true false e = refl
beq_other false true e = refl
beq_other false false e = absurd (true≢false e)

module _ (m : Meaning) (H : ℕ) (lawful : Lawful m) (law : BoundedBy m H) (floor : ℕ) (Claim : Line → Bool → Type 0) (R : Key → Option Entry → Type 0) (N : Entry → Type 0)
    (fair : Fair m floor Claim R N) where
  abbrev Holds : Line → Bool → Bool → Type 0
  Holds l v b = b ≡ true → Claim l v

  -- a line judged by its score or by what is answered for its key
  judged_costs : {A : Type 0} (P : A → Type 0) (C n : ℕ) (verdict : Bool → A) (go : Option Entry → Part A) (l : Line) (o : Option Score) → (m.view l).score ≡ o →
      ((s : Score) → (m.view l).score ≡ Some s → P (verdict (leb floor (points s)))) →
      ((m.view l).score ≡ None → (x : Option Entry) → R (key m floor l) x → Costs R N C n P (go x n)) →
      Costs R N C n P (judged m floor verdict go l o n)
  judged_costs P C n verdict go l (Some s) e f g = (omega arith, omega arith, f s e)
  judged_costs P C n verdict go l None e f g = g e

  -- nothing is played
  free : {A : Type 0} (P : A → Type 0) (C n : ℕ) (x : A) → P x → Costs R N C n P (give x n)
  free P C n x h = (omega arith, omega arith, h)

  module _ (go : Line → Part Bool) (C : ℕ) (l : Line) (v : Bool) (r : Reachable m l) (e : (m.view l).score ≡ None)
      (h : (k : ℕ) → k < (m.view l).moves → (n : ℕ) → Costs R N C n (Holds (k ∷ l) v) (go (k ∷ l) n)) where
    claim_by_costs : (x : Finding) (n : ℕ) → v ≡ black_moves (m.view l) → Costs R N (64 * suc C) n (Holds l v) (claim_by m go l v x n)
    claim_by_costs (Open p d) n z = free (Holds l v) (64 * suc C) n false (λ w. absurd (false≢true w))
    claim_by_costs (Verdict w c k) n z = by (beq w v && ltb k (m.view l).moves) refl
      where
        legal : beq w v && ltb k (m.view l).moves ≡ true → k < (m.view l).moves
        legal x = ltb→lt k (m.view l).moves (subst T (sym (and_parts (beq w v) (ltb k (m.view l).moves) x).1) tt)

        up : k < (m.view l).moves → Claim (k ∷ l) v → Claim l v
        up x c = rw z (fair.one l k (r, x) e (rw z at c))

        by : (t : Bool) → beq w v && ltb k (m.view l).moves ≡ t → Costs R N (64 * suc C) n (Holds l v) (either t (played (go (k ∷ l))) (give false) n)
        by false x = free (Holds l v) (64 * suc C) n false (λ w. absurd (false≢true w))
        by true x =
            more R N (suc C) (64 * suc C) n (Holds (k ∷ l) v) (Holds l v) (played (go (k ∷ l)) n) (omega arith)
            (λ b y w. up (legal x) (y w))
            (one_play R N C n (Holds (k ∷ l) v) (go (k ∷ l)) (λ j y. h k (legal x) j))

    claim_costs : (o : Option Entry) (n : ℕ) → v ≡ black_moves (m.view l) → Costs R N (64 * suc C) n (Holds l v) (claim m go l v o n)
    claim_costs None n z = free (Holds l v) (64 * suc C) n false (λ w. absurd (false≢true w))
    claim_costs (Some f) n z = claim_by_costs f.finding n z

    all_costs : (n : ℕ) → v ≡ not (black_moves (m.view l)) → Costs R N (64 * suc C) n (Holds l v) (every (λ k. go (k ∷ l)) 0 (m.view l).moves n)
    all_costs n z =
        more R N ((m.view l).moves * suc C) (64 * suc C) n (λ b. b ≡ true → (i : ℕ) → 0 ≤ i → i < (m.view l).moves + 0 → Claim (i ∷ l) v) (Holds l v)
        (every (λ k. go (k ∷ l)) 0 (m.view l).moves n)
        (mul-le-mul_right (suc C) (lawful.fit l r).moves)
        (λ b y w. rw z (fair.all l r e (λ k x. rw z at (y w k (omega arith) (omega arith)))))
        (every_costs R N (λ k. go (k ∷ l)) C (m.view l).moves (λ k. Claim (k ∷ l) v) h (m.view l).moves 0 n (omega arith))

    by_moves_costs : (o : Option Entry) (n : ℕ) → Costs R N (64 * suc C) n (Holds l v) (by_moves m go l v o n)
    by_moves_costs o n = by (beq v (black_moves (m.view l))) refl
      where
        by : (t : Bool) → beq v (black_moves (m.view l)) ≡ t →
            Costs R N (64 * suc C) n (Holds l v) (either t (claim m go l v o) (every (λ k. go (k ∷ l)) 0 (m.view l).moves) n)
        by true x = claim_costs o n (beq_same v (black_moves (m.view l)) x)
        by false x = all_costs n (beq_other v (black_moves (m.view l)) x)

    by_entry_costs : (o : Option Entry) (n : ℕ) → R (key m floor l) o → Costs R N (64 * suc C) n (Holds l v) (by_entry m go l v o n)
    by_entry_costs None n x = by_moves_costs None n
    by_entry_costs (Some f) n x = by f.finding refl
      where
        settle : (w c : Bool) (k : ℕ) → f.finding ≡ Verdict w c k → (t : Bool) → c && (m.view l).independent ≡ t →
            Costs R N (64 * suc C) n (Holds l v) (decide v (cond t (Some w) None) (by_moves m go l v (Some f)) n)
        settle w c k z false y = by_moves_costs (Some f) n
        settle w c k z true y =
            free (Holds l v) (64 * suc C) n (beq w v)
            (λ q. subst (Claim l) (beq_same w v q)
            (fair.trusted l f w k r x (and_parts c (m.view l).independent y).1 (z ∙ ap (λ (b : Bool). Verdict w b k) (and_parts c (m.view l).independent y).0)))

        by : (y : Finding) → f.finding ≡ y → Costs R N (64 * suc C) n (Holds l v) (decide v (settles m l y) (by_moves m go l v (Some f)) n)
        by (Open p d) z = by_moves_costs (Some f) n
        by (Verdict w c k) z = settle w c k z (c && (m.view l).independent) refl

  simulate_costs : (h : ℕ) (l : Line) (v : Bool) (o : Option Entry) (n : ℕ) → Reachable m l → (m.view l).score ≡ None → R (key m floor l) o →
      Costs R N (enough h) n (Holds l v) (simulate m floor h l v o n)
  unfolding simulate enough
  simulate_costs zero l v o n r e x = free (Holds l v) 0 n false (λ w. absurd (false≢true w))
  simulate_costs (suc h) l v o n r e x =
      more R N (64 * suc (enough h)) (enough (suc h)) n (Holds l v) (Holds l v) (simulate m floor (suc h) l v o n) (omega arith) (λ b y. y)
      (by_entry_costs (λ q. holds_at m floor (simulate m floor h q v) q v) (enough h) l v r e
      (λ k y j.
      judged_costs (Holds (k ∷ l) v) (enough h) j (λ w. beq w v) (simulate m floor h (k ∷ l) v) (k ∷ l) (m.view (k ∷ l)).score refl
      (λ s z q. subst (Claim (k ∷ l)) (beq_same (leb floor (points s)) v q) (fair.over (k ∷ l) s (r, y) z))
      (λ z u w. simulate_costs h (k ∷ l) v u j (r, y) z w))
      o n x)

  unknown_open : IsOpen unknown
  unknown_open = record { pn_low = omega arith; pn_high = omega arith; dn_low = omega arith; dn_high = omega arith }

  in_range_open : (p d : ℕ) → IsOpen (in_range p d)
  in_range_open p d = by (between p && between d) refl
    where
      bounds : (x : ℕ) → between x ≡ true → (1 ≤ x) × (x ≤ M)
      bounds x e = let b = and_parts (leb 1 x) (leb x M) e in (leb-true 1 x b.0, leb-true x M b.1)

      by : (t : Bool) → between p && between d ≡ t → IsOpen (cond t (record { pn = p; dn = d }) unknown)
      by false e = unknown_open
      by true e =
          let b = and_parts (between p) (between d) e in
          record {
            pn_low = (bounds p b.0).0;
            pn_high = (bounds p b.0).1;
            dn_low = (bounds d b.1).0;
            dn_high = (bounds d b.1).1;
          }

  confirm_costs : (h : ℕ) (q : Line) (f : Entry) (v : Bool) (n : ℕ) → Reachable m q → (m.view q).score ≡ None → R (key m floor q) (Some f) →
      Costs R N (enough h) n (PairFair m Claim q) (confirm m floor h q f v n)
  confirm_costs h q f v n r e x =
      more R N (enough h + 0) (enough h) n (PairFair m Claim q) (PairFair m Claim q) (confirm m floor h q f v n) (omega arith) (λ b y. y)
      (then R N (enough h) 0 n (Holds q v) (PairFair m Claim q) (simulate m floor h q v (Some f) n) (λ holds. give (cond holds (settled v) unknown))
      (simulate_costs h q v (Some f) n r e x)
      (λ b k y z. free (PairFair m Claim q) 0 k (cond b (settled v) unknown) (by b z)))
    where
      by : (b : Bool) → Holds q v b → PairFair m Claim q (cond b (settled v) unknown)
      by true z = sure v refl (z refl)
      by false z = unsure unknown_open e

  appraise_costs : (h : ℕ) (q : Line) (o : Option Entry) (n : ℕ) → Reachable m q → (m.view q).score ≡ None → R (key m floor q) o →
      Costs R N (enough h) n (PairFair m Claim q) (appraise m floor h q o n)
  appraise_costs h q None n r e x = free (PairFair m Claim q) (enough h) n unknown (unsure unknown_open e)
  appraise_costs h q (Some f) n r e x = by f.finding refl
    where
      settle : (w c : Bool) (k : ℕ) → f.finding ≡ Verdict w c k → (t : Bool) → c && (m.view q).independent ≡ t →
          Costs R N (enough h) n (PairFair m Claim q) (either t (give (settled w)) (confirm m floor h q f w) n)
      settle w c k z false y = confirm_costs h q f w n r e x
      settle w c k z true y =
          free (PairFair m Claim q) (enough h) n (settled w)
          (sure w refl
          (fair.trusted q f w k r x (and_parts c (m.view q).independent y).1 (z ∙ ap (λ (b : Bool). Verdict w b k) (and_parts c (m.view q).independent y).0)))

      by : (y : Finding) → f.finding ≡ y → Costs R N (enough h) n (PairFair m Claim q) (appraise_by m floor h q f y n)
      by (Open p d) z = free (PairFair m Claim q) (enough h) n (in_range p d) (unsure (in_range_open p d) e)
      by (Verdict w c k) z = settle w c k z (c && (m.view q).independent) refl

  judge_costs : (h : ℕ) (q : Line) (n : ℕ) → Reachable m q → Costs R N (enough h) n (PairFair m Claim q) (judge m floor h q n)
  judge_costs h q n r =
      judged_costs (PairFair m Claim q) (enough h) n settled (appraise m floor h q) q (m.view q).score refl
      (λ s z. sure (leb floor (points s)) refl (fair.over q s r z))
      (λ z u w. appraise_costs h q u n r z w)

  pub evaluate_costs : (h : ℕ) (l : Line) (n : ℕ) → Reachable m l →
      Costs R N ((m.view l).moves * suc (enough h)) n (λ ps. RowFair m Claim l ps × (length ps ≡ (m.view l).moves)) (evaluate m floor h l n)
  evaluate_costs h l n r =
      each_costs R N (λ k. judge m floor h (k ∷ l)) (enough h) (m.view l).moves (λ k. Claim (k ∷ l)) (λ k. (m.view (k ∷ l)).score ≡ None)
      (λ k x j. judge_costs h (k ∷ l) j (r, x)) (m.view l).moves 0 n (omega arith)
