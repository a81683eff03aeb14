-- The walk through the expansion of a line.
use Rattle.std.proofs.Common.{◌≡◌, ℕ, zero, suc, ◌+◌, ◌*◌, ◌<◌, ◌≤◌, Bool, true, false, cond, not, eqb, ◌⊎◌, List, ◌∷◌, map, length, get_or, set, None, Option, sym, refl, ap, ◌∙◌, subst, inl, inr, true≢false, mul-le-mul_right, arith, length-set}
use mathlib.Core.Bool.{beq, false≢true}
use lib.ListN.{length-map}
use Rattle.game.specs.Meaning.{Line, Meaning, Reachable}
use Rattle.game.specs.Laws.{Lawful, BoundedBy}
use Rattle.game.specs.Value.{black_moves}
use Rattle.store.specs.declared.entry.Key.{Key}
use Rattle.store.specs.declared.entry.Finding.{Finding}
use Rattle.store.specs.declared.entry.Finding.TheVariants.{Verdict, Open}
use Rattle.store.specs.declared.entry.Entry.{Entry}
use Rattle.search_method.specs.Tree.{bind}
use Rattle.search_method.specs.Kinds.{Pair, Worked}
use Rattle.search_method.specs.Pairs.{M, seen, near, dns, pns, choice, limits, pair_of, choice_of, limits_of, reached, endless, least, best_move, unknown}
use Rattle.search_method.specs.Search.{Out, exhausted, got, Part, played, either, entry, evaluate, line_pair, leave, resume, turns, expand, no_limits, moves_left}
use Rattle.search_method.specs.Bound.{enough}
use Rattle.game.proofs.Value.{open_below_height}
use Rattle.search_method.proofs.Good.{Good, good_bind, good_map}
use Rattle.std.proofs.lemmas.Bool.{ne_eqb}
use Rattle.search_method.proofs.Rows.{first_settled, seen_numbers, plus_zero, seen_kind, map_set, seen_below, seen_reached, seen_dn_reached, IsOpen, sure, unsure, Row, LinePair, by_one, by_all, undecided, line_pair_is, LimitsFit, Seen, seen_row, seen_fit, seen_settled, seen_open, unreached, is_reached, goes_on, chosen_open, limits_fit, row_set}
use Rattle.search_method.proofs.Parts.{After, after_more, Costs, more, then}
use Rattle.search_method.proofs.Progress.{to_raise, raise_bound, progress}
use Rattle.search_method.proofs.Evaluation.{Fair, PairFair, RowFair, evaluate_costs}

-- a verdict that may be claimed: its move, if the claiming side is on turn, is legal and leads to the same verdict, and is 255 otherwise
pub record VerdictFair (m : Meaning) (Claim : Line → Bool → Type 0) (l : Line) (v : Bool) (k : ℕ) : Type 0 where
  pub claim : Claim l v
  pub move : v ≡ black_moves (m.view l) → (k < (m.view l).moves) × Claim (k ∷ l) v
  pub no_move : v ≡ not (black_moves (m.view l)) → k ≡ 255

-- what is said of a line: such a verdict, or nothing if its pair is open
abbrev pub FindingFair : Meaning → (Line → Bool → Type 0) → Line → Pair → Finding → Type 0
FindingFair m Claim l p (Verdict v c k) = VerdictFair m Claim l v k
FindingFair m Claim l p (Open x y) = IsOpen p

-- what comes of a line that is expanded under limits
pub record WorkedFair (m : Meaning) (Claim : Line → Bool → Type 0) (l : Line) (lim : Pair) (w : Worked) : Type 0 where
  pub pair : PairFair m Claim l w.pair
  pub at_limit : (lim.pn ≤ w.pair.pn) ⊎ (lim.dn ≤ w.pair.dn)
  pub finding : FindingFair m Claim l w.pair w.finding

module _ (m : Meaning) (H : ℕ) (lawful : Lawful m) (law : BoundedBy m H) (floor : ℕ) (Claim : Line → Bool → Type 0) (R : Key → Option Entry → Type 0) (N : Entry → Type 0)
    (fair : Fair m floor Claim R N) where
  abbrev side : Line → Bool
  side l = black_moves (m.view l)

  -- the pair of a line is settled rightly or open
  line_fair : (l : Line) (ps : List Pair) → Reachable m l → (m.view l).score ≡ None → length ps ≡ (m.view l).moves → RowFair m Claim l ps → PairFair m Claim l (line_pair m l ps)
  line_fair l ps r e n row = by (line_pair_is (Seen b (λ k. Claim (k ∷ l))) Q (map (seen b) ps) (seen_row b (λ k. Claim (k ∷ l)) Q 0 ps row))
    where
      b : Bool
      b = side l

      Q : ℕ → Type 0
      Q k = (m.view (k ∷ l)).score ≡ None

      beq_true : (c : Bool) → beq c true ≡ c
      beq_true true = refl
      beq_true false = refl

      beq_false : (c : Bool) → beq c false ≡ not c
      beq_false true = refl
      beq_false false = refl

      count : length (map (seen b) ps) ≡ (m.view l).moves
      count = length-map ps (seen b) ∙ n

      by : LinePair (Seen b (λ k. Claim (k ∷ l))) (map (seen b) ps) → PairFair m Claim l (line_pair m l ps)
      by (by_one z i x w) =
          sure (beq b true) (ap (seen b) z ∙ seen_settled b true)
          (rw (beq_true b) (fair.one l i (r, omega (arith, count)) e (subst (Claim (i ∷ l)) (beq_true b) w)))
      by (by_all z w) =
          sure (beq b false) (ap (seen b) z ∙ seen_settled b false)
          (rw (beq_false b) (fair.all l r e (λ k x. subst (Claim (k ∷ l)) (beq_false b) (w k (omega (arith, count))))))
      by (undecided x o) = unsure (seen_open b (near (map (seen b) ps)) o) e

  -- what is said of a line goes by its pair
  by_kind : (F : Finding → Type 0) (l : Line) (p : Pair) (x y z : Finding) → PairFair m Claim l p →
      (p.pn ≡ 0 → Claim l true → F x) → (p.dn ≡ 0 → Claim l false → F y) → (IsOpen p → F z) → F (cond (eqb p.pn 0) x (cond (eqb p.dn 0) y z))
  by_kind F l p x y z (sure true e c) f g h = rw e (f (ap (λ (q : Pair). q.pn) e) c)
  by_kind F l p x y z (sure false e c) f g h = rw e (g (ap (λ (q : Pair). q.dn) e) c)
  by_kind F l p x y z (unsure o q) f g h =
      rw (ne_eqb p.pn 0 (λ i. omega (arith, o.pn_low)), ne_eqb p.dn 0 (λ i. omega (arith, o.dn_low))) (h o)

  -- the move of a verdict
  yes_fair : (l : Line) (ps : List Pair) → RowFair m Claim l ps → length ps ≡ (m.view l).moves → (line_pair m l ps).pn ≡ 0 → Claim l true →
      VerdictFair m Claim l true (best_move (side l) true ps)
  yes_fair l ps row c z h = by (side l) refl z
    where
      by : (b : Bool) → side l ≡ b → (pair_of b ps).pn ≡ 0 → VerdictFair m Claim l true (best_move b true ps)
      by false e x = record { claim = h; move = λ y. absurd (true≢false (y ∙ e)); no_move = λ y. refl }
      by true e x =
          let f = first_settled true (λ k. Claim (k ∷ l)) (λ k. (m.view (k ∷ l)).score ≡ None) ps row (ap least (sym (seen_numbers true ps)) ∙ x) in
          record { claim = h; move = λ y. (omega (arith, f.0, c), f.1); no_move = λ y. absurd (true≢false (y ∙ ap not e)) }

  no_fair : (l : Line) (ps : List Pair) → RowFair m Claim l ps → length ps ≡ (m.view l).moves → (line_pair m l ps).dn ≡ 0 → Claim l false →
      VerdictFair m Claim l false (best_move (side l) false ps)
  no_fair l ps row c z h = by (side l) refl z
    where
      by : (b : Bool) → side l ≡ b → (pair_of b ps).dn ≡ 0 → VerdictFair m Claim l false (best_move b false ps)
      by true e x = record { claim = h; move = λ y. absurd (false≢true (y ∙ e)); no_move = λ y. refl }
      by false e x =
          let f = first_settled false (λ k. Claim (k ∷ l)) (λ k. (m.view (k ∷ l)).score ≡ None) ps row (ap least (sym (seen_numbers false ps)) ∙ x) in
          record { claim = h; move = λ y. (omega (arith, f.0, c), f.1); no_move = λ y. absurd (false≢true (y ∙ ap not e)) }

  -- a bound on the turns: none if the line is at its limits
  abbrev turns_left : Line → Pair → List Pair → ℕ
  turns_left l lim ps = cond (reached lim (line_pair m l ps)) 0 (suc (to_raise (map (seen (side l)) ps)))

  leave_costs : (l : Line) (lim : Pair) (ps : List Pair) (n C : ℕ) → Reachable m l → (m.view l).score ≡ None → length ps ≡ (m.view l).moves → RowFair m Claim l ps →
      reached lim (line_pair m l ps) ≡ true → Costs R N C n (WorkedFair m Claim l lim) (leave m floor l ps n)
  leave_costs l lim ps n C r e c row z = (
    by_kind (λ s. N (entry m floor l s)) l p yes_finding no_finding open_finding kind
        (λ i w. fair.noted l true (best_move (side l) true ps) r w)
        (λ i w. fair.noted l false (best_move (side l) false ps) r w)
        (λ o. fair.noted_open l p.pn p.dn),
    (
      omega arith,
      omega arith,
      record {
        pair = kind;
        at_limit = is_reached lim p z;
        finding = by_kind (FindingFair m Claim l p) l p yes_finding no_finding open_finding kind (yes_fair l ps row c) (no_fair l ps row c) (λ o. o);
      },
    ),
  )
    where
      p : Pair
      p = line_pair m l ps

      kind : PairFair m Claim l p
      kind = line_fair l ps r e c row

      yes_finding : Finding
      yes_finding = Verdict true (m.view l).independent (best_move (side l) true ps)

      no_finding : Finding
      no_finding = Verdict false (m.view l).independent (best_move (side l) false ps)

      open_finding : Finding
      open_finding = Open p.pn p.dn

  -- a line that is not at its limits, as the side on turn sees it
  abbrev Going : Line → Pair → List Pair → Type 0
  Going l lim ps =
      Row (Seen (side l) (λ k. Claim (k ∷ l))) (λ k. (m.view (k ∷ l)).score ≡ None) 0 (map (seen (side l)) ps)
      × (endless (dns (map (seen (side l)) ps)) ≡ false)
      × IsOpen (near (map (seen (side l)) ps))
      × ((near (map (seen (side l)) ps)).pn < (seen (side l) lim).pn)
      × ((near (map (seen (side l)) ps)).dn < (seen (side l) lim).dn)

  going : (l : Line) (lim : Pair) (ps : List Pair) → RowFair m Claim l ps → LimitsFit lim → reached lim (line_pair m l ps) ≡ false → Going l lim ps
  going l lim ps row f z = (seen_fair, on.0, on.1, below.0, below.1)
    where
      b : Bool
      b = side l

      Q : ℕ → Type 0
      Q k = (m.view (k ∷ l)).score ≡ None

      seen_fair : Row (Seen b (λ k. Claim (k ∷ l))) Q 0 (map (seen b) ps)
      seen_fair = seen_row b (λ k. Claim (k ∷ l)) Q 0 ps row

      below : ((near (map (seen b) ps)).pn < (seen b lim).pn) × ((near (map (seen b) ps)).dn < (seen b lim).dn)
      below = seen_below b (near (map (seen b) ps)) lim (unreached lim (line_pair m l ps) z)

      on : (endless (dns (map (seen b) ps)) ≡ false) × IsOpen (near (map (seen b) ps))
      on = goes_on (Seen b (λ k. Claim (k ∷ l))) Q (map (seen b) ps) (seen b lim) seen_fair (seen_fit b lim f) below.0 below.1

  -- after the chosen move was expanded, fewer turns are left
  fewer : (l : Line) (lim : Pair) (ps : List Pair) (w : Worked) → RowFair m Claim l ps → LimitsFit lim → reached lim (line_pair m l ps) ≡ false →
      WorkedFair m Claim (choice_of (side l) ps ∷ l) (limits_of (side l) lim ps) w →
      turns_left l lim (set ps (choice_of (side l) ps) w.pair) ≤ to_raise (map (seen (side l)) ps)
  fewer l lim ps w row f z ok =
      by (progress P Q qs (seen b lim) (seen b w.pair) (λ v. Claim (i ∷ l) (beq b v)) ((m.view (i ∷ l)).score ≡ None)
      rows.0 rows.1 rows.2 (seen_fit b lim f) rows.3 rows.4
      (seen_kind b (Claim (i ∷ l)) ((m.view (i ∷ l)).score ≡ None) w.pair ok.pair)
      (seen_reached b (limits (seen b lim) qs) w.pair ok.at_limit))
    where
      b : Bool
      b = side l

      qs : List Pair
      qs = map (seen b) ps

      i : ℕ
      i = choice_of b ps

      P : ℕ → Bool → Type 0
      P = Seen b (λ k. Claim (k ∷ l))

      Q : ℕ → Type 0
      Q k = (m.view (k ∷ l)).score ≡ None

      rows : Going l lim ps
      rows = going l lim ps row f z

      ps' : List Pair
      ps' = set ps i w.pair

      moved : map (seen b) ps' ≡ set qs i (seen b w.pair)
      moved = map_set b i w.pair ps

      none_left : (t : Bool) (x : ℕ) → t ≡ true → cond t 0 (suc x) ≤ to_raise qs
      none_left t x y = rw y (omega arith)

      less : (t : Bool) (x : ℕ) → x < to_raise qs → cond t 0 (suc x) ≤ to_raise qs
      less true x y = omega arith
      less false x y = y

      by : ((seen b lim).dn ≤ (near (set qs i (seen b w.pair))).dn) ⊎ (to_raise (set qs i (seen b w.pair)) < to_raise qs) → turns_left l lim ps' ≤ to_raise qs
      by (inl x) =
          none_left (reached lim (line_pair m l ps')) (to_raise (map (seen b) ps'))
          (seen_dn_reached b lim (near (map (seen b) ps')) (subst (λ (y : List Pair). (seen b lim).dn ≤ (near y).dn) (sym moved) x))
      by (inr x) =
          less (reached lim (line_pair m l ps')) (to_raise (map (seen b) ps')) (subst (λ (y : List Pair). to_raise y < to_raise qs) (sym moved) x)

  -- the chosen move is legal, its line is not over, and its limits fit
  chosen_fair : (l : Line) (lim : Pair) (ps : List Pair) → RowFair m Claim l ps → length ps ≡ (m.view l).moves → LimitsFit lim → reached lim (line_pair m l ps) ≡ false →
      (choice_of (side l) ps < (m.view l).moves) × ((m.view (choice_of (side l) ps ∷ l)).score ≡ None) × LimitsFit (limits_of (side l) lim ps)
  chosen_fair l lim ps row c f z = (
    omega (arith, chosen.0, length-map ps (seen b)),
    chosen.2,
    seen_fit b (limits (seen b lim) qs) (limits_fit P Q qs (seen b lim) rows.0 rows.1 rows.2 rows.4 (seen_fit b lim f)),
  )
    where
      b : Bool
      b = side l

      qs : List Pair
      qs = map (seen b) ps

      P : ℕ → Bool → Type 0
      P = Seen b (λ k. Claim (k ∷ l))

      Q : ℕ → Type 0
      Q k = (m.view (k ∷ l)).score ≡ None

      rows : Going l lim ps
      rows = going l lim ps row f z

      chosen : (choice qs < length qs) × IsOpen (get_or qs (choice qs) unknown) × Q (choice qs) × ((get_or qs (choice qs) unknown).pn ≡ least (pns qs))
      chosen = chosen_open P Q qs rows.0 rows.2

  -- `go` expands a line one move on
  abbrev Expands : (Line → Pair → Part Worked) → ℕ → ℕ → Type 0
  Expands go C h =
      (q : Line) (lim : Pair) (n : ℕ) → Reachable m q → (m.view q).score ≡ None → H ≤ h + length q → LimitsFit lim →
      Costs R N C n (WorkedFair m Claim q lim) (go q lim n)

  module _ (go : Line → Pair → Part Worked) (C h : ℕ) (expands : Expands go C h) where
    turns_costs : (f : ℕ) (l : Line) (lim : Pair) (ps : List Pair) (n : ℕ) → Reachable m l → (m.view l).score ≡ None → H ≤ suc h + length l → LimitsFit lim →
        length ps ≡ (m.view l).moves → RowFair m Claim l ps → n < f → Costs R N (turns_left l lim ps * suc C) n (WorkedFair m Claim l lim) (turns m floor go f l lim ps n)
    unfolding turns
    turns_costs zero l lim ps n r e d fit c row x = absurd (omega arith)
    turns_costs (suc f) l lim ps n r e d fit c row x =
        by (reached lim (line_pair m l ps)) refl n x (λ w k. turns_costs f l lim (set ps (choice_of (side l) ps) w.pair) k r e d fit)
      where
        p : Pair
        p = line_pair m l ps

        μ : ℕ
        μ = to_raise (map (seen (side l)) ps)

        i : ℕ
        i = choice_of (side l) ps

        by : (t : Bool) → reached lim p ≡ t → (n : ℕ) → n < suc f →
            ((w : Worked) (k : ℕ) → length (set ps i w.pair) ≡ (m.view l).moves → RowFair m Claim l (set ps i w.pair) → k < f →
            Costs R N (turns_left l lim (set ps i w.pair) * suc C) k (WorkedFair m Claim l lim) (turns m floor go f l lim (set ps i w.pair) k)) →
            Costs R N (cond t 0 (suc μ) * suc C) n (WorkedFair m Claim l lim)
            (either t (leave m floor l ps) (λ n'. bind (played (go (i ∷ l) (limits_of (side l) lim ps)) n') (resume m floor (turns m floor go f l lim) l ps)) n)
        by true z n x ih = leave_costs l lim ps n (0 * suc C) r e c row z
        by false z zero x ih = (fair.noted_open l p.pn p.dn, omega arith)
        by false z (suc n) x ih =
            good_bind R N (After C n (WorkedFair m Claim (i ∷ l) lim')) (After (suc μ * suc C) (suc n) (WorkedFair m Claim l lim)) (go (i ∷ l) lim' n)
            (resume m floor (turns m floor go f l lim) l ps)
            (expands (i ∷ l) lim' n (r, ok.0) ok.1 (omega arith) ok.2)
            after
          where
            lim' : Pair
            lim' = limits_of (side l) lim ps

            ok : (i < (m.view l).moves) × ((m.view (i ∷ l)).score ≡ None) × LimitsFit lim'
            ok = chosen_fair l lim ps row c fit z

            after : (o : Out Worked) → After C n (WorkedFair m Claim (i ∷ l) lim') o →
                Good R N (After (suc μ * suc C) (suc n) (WorkedFair m Claim l lim)) (resume m floor (turns m floor go f l lim) l ps o)
            after exhausted y = (fair.noted_open l p.pn p.dn, omega arith)
            after (got w k) y =
                more R N (suc C + turns_left l lim (set ps i w.pair) * suc C) (suc μ * suc C) (suc n) (WorkedFair m Claim l lim) (WorkedFair m Claim l lim)
                (turns m floor go f l lim (set ps i w.pair) k)
                (omega (arith, mul-le-mul_right (suc C) (fewer l lim ps w row fit z y.2)))
                (λ u v. v)
                (good_map R N (After (turns_left l lim (set ps i w.pair) * suc C) k (WorkedFair m Claim l lim))
                (After (suc C + turns_left l lim (set ps i w.pair) * suc C) (suc n) (WorkedFair m Claim l lim))
                (turns m floor go f l lim (set ps i w.pair) k)
                (after_more (suc C) (turns_left l lim (set ps i w.pair) * suc C) (suc n) k (WorkedFair m Claim l lim) (WorkedFair m Claim l lim)
                (omega (arith, y.0)) (omega (arith, y.1)) (λ u v. v))
                (ih w k
                (length-set ps i w.pair ∙ c)
                (row_set (λ j. Claim (j ∷ l)) (λ j. (m.view (j ∷ l)).score ≡ None) 0 ps row i w.pair
                (subst (λ (j : ℕ). PairFair m Claim (j ∷ l) w.pair) (sym (plus_zero i)) y.2.pair))
                (omega (arith, y.0))))

  -- at most 64 moves, each raised at most M times
  few_turns : (l : Line) (lim : Pair) (ps : List Pair) → Reachable m l → RowFair m Claim l ps → length ps ≡ (m.view l).moves → LimitsFit lim →
      turns_left l lim ps ≤ suc (64 * M)
  few_turns l lim ps r row c f = by (reached lim (line_pair m l ps)) refl
    where
      qs : List Pair
      qs = map (seen (side l)) ps

      by : (t : Bool) → reached lim (line_pair m l ps) ≡ t → cond t 0 (suc (to_raise qs)) ≤ suc (64 * M)
      by true z = omega arith
      by false z =
          omega (
            arith,
            raise_bound qs (going l lim ps row f z).2.pn_low,
            mul-le-mul_right M (lawful.fit l r).moves,
            ap (λ (x : ℕ). x * M) (length-map ps (seen (side l)) ∙ c),
          )

  pub expand_costs : (h : ℕ) (l : Line) (lim : Pair) (n : ℕ) → Reachable m l → (m.view l).score ≡ None → H ≤ h + length l → LimitsFit lim →
      Costs R N (enough h) n (WorkedFair m Claim l lim) (expand m floor h l lim n)
  unfolding expand enough
  expand_costs zero l lim n r e d f = absurd (omega (arith, open_below_height m H lawful law l r e))
  expand_costs (suc h) l lim n r e d f =
      more R N ((m.view l).moves * suc (enough h) + suc (64 * M) * suc (enough h)) (enough (suc h)) n (WorkedFair m Claim l lim) (WorkedFair m Claim l lim)
      (expand m floor (suc h) l lim n)
      (omega (arith, mul-le-mul_right (suc (enough h)) (lawful.fit l r).moves))
      (λ w x. x)
      (then R N ((m.view l).moves * suc (enough h)) (suc (64 * M) * suc (enough h)) n (λ ps. RowFair m Claim l ps × (length ps ≡ (m.view l).moves)) (WorkedFair m Claim l lim)
      (evaluate m floor h l n) (λ ps n'. turns m floor (expand m floor h) (suc n') l lim ps n')
      (evaluate_costs m H lawful law floor Claim R N fair h l n r)
      (λ ps k x y.
      more R N (turns_left l lim ps * suc (enough h)) (suc (64 * M) * suc (enough h)) k (WorkedFair m Claim l lim) (WorkedFair m Claim l lim)
      (turns m floor (expand m floor h) (suc k) l lim ps k)
      (mul-le-mul_right (suc (enough h)) (few_turns l lim ps r y.0 y.1 f))
      (λ w z. z)
      (turns_costs (expand m floor h) (enough h) h (λ q lim' j r' e' d' f'. expand_costs h q lim' j r' e' d' f') (suc k) l lim ps k r e d f y.1 y.0 (omega arith))))

pub no_limits_fit : LimitsFit no_limits
no_limits_fit = record { pn_fits = omega arith; dn_fits = omega arith }

pub height_is : (m : Meaning) (H : ℕ) → BoundedBy m H → (l : Line) → H ≤ moves_left m l + length l
height_is m H law l = rw law.height (omega arith)
