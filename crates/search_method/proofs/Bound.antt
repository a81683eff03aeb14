-- A budget of `enough` plays is never used up, whatever the store answers: the walk, with nothing claimed.
use Rattle.std.proofs.Common.{◌≡◌, ℕ, ◌-◌, ◌≤◌, Bool, ◌⊎◌, length, Some, None, Option, refl, ap, inl, inr, arith}
use Rattle.game.specs.declared.kinds.Score.{Score}
use Rattle.game.specs.Meaning.{Line, Meaning, Reachable}
use Rattle.game.specs.Laws.{Lawful, BoundedBy}
use Rattle.store.specs.declared.entry.Key.{Key}
use Rattle.store.specs.declared.entry.Finding.{Finding}
use Rattle.store.specs.declared.entry.Finding.TheVariants.{Verdict, Open}
use Rattle.store.specs.declared.entry.Entry.{Entry}
use Rattle.search_method.specs.Tree.{Tree, done, ask, note}
use Rattle.search_method.specs.Pairs.{INF}
use Rattle.search_method.specs.Kinds.{Worked}
use Rattle.search_method.specs.Search.{Out, exhausted, got, solve, solve_by, no_limits, height_of, moves_left, expand, answer, answer_by}
use Rattle.search_method.specs.Bound.{enough, Always, Within, BudgetEnough, WorkedBounds}
use Rattle.search_method.proofs.Good.{Good, good_bind}
use Rattle.search_method.proofs.Parts.{After}
use Rattle.search_method.proofs.Evaluation.{Fair}
use Rattle.search_method.proofs.Expansion.{FindingFair, WorkedFair, expand_costs, no_limits_fit, height_is}

-- nothing is asked of answers, entries or verdicts
abbrev AnyAnswer : Key → Option Entry → Type 0
AnyAnswer k o = Unit {0}

abbrev AnyEntry : Entry → Type 0
AnyEntry f = Unit {0}

abbrev NoClaim : Line → Bool → Type 0
NoClaim l v = Unit {0}

any_fair : (m : Meaning) (floor : ℕ) → Fair m floor NoClaim AnyAnswer AnyEntry
any_fair m floor =
    record {
      over = λ l s r e. tt;
      one = λ l k r e x. tt;
      all = λ l r e x. tt;
      trusted = λ l f v k r x c e. tt;
      noted = λ l v k r x. tt;
      noted_open = λ l p d. tt;
    }

always : {A : Type 0} (P : A → Type 0) (t : Tree A) → Good AnyAnswer AnyEntry P t → Always P t
always P (done x) h = h
always P (ask k g) h = λ o. always P (g o) (h o tt)
always P (note f t) h = always P t h.1

-- a line that has come to INF is not open
settled_finding : (m : Meaning) (w : Worked) (budget t count : ℕ) → count ≤ budget → count ≤ t → (INF ≤ w.pair.pn) ⊎ (INF ≤ w.pair.dn) → (l : Line) (x : Finding) →
    FindingFair m NoClaim l w.pair x → Within budget t (answer_by count x)
settled_finding m w budget t count a b h l (Verdict v c k) s = (a, b)
settled_finding m w budget t count a b (inl h) l (Open p d) s = absurd (omega (arith, s.pn_high))
settled_finding m w budget t count a b (inr h) l (Open p d) s = absurd (omega (arith, s.dn_high))

solve_good : (m : Meaning) (H : ℕ) → Lawful m → BoundedBy m H → (l : Line) → Reachable m l → (floor budget : ℕ) →
    (o : Option Score) → (m.view l).score ≡ o → Good AnyAnswer AnyEntry (Within budget (enough (H - length l))) (solve_by m l floor budget o)
solve_good m H lawful law l r floor budget (Some s) e = (omega arith, omega arith)
solve_good m H lawful law l r floor budget None e =
    good_bind AnyAnswer AnyEntry (After (enough h) budget (WorkedFair m NoClaim l no_limits)) (Within budget (enough (H - length l)))
    (expand m floor h l no_limits budget) (λ o. done (answer budget o))
    (expand_costs m H lawful law floor NoClaim AnyAnswer AnyEntry (any_fair m floor) h l no_limits budget r e (height_is m H law l) no_limits_fit)
    by
  where
    h : ℕ
    h = moves_left m l

    same : enough h ≡ enough (H - length l)
    same = ap (λ (o : Option ℕ). enough (height_of o - length l)) law.height

    by : (o : Out Worked) → After (enough h) budget (WorkedFair m NoClaim l no_limits) o → Within budget (enough (H - length l)) (answer budget o)
    by exhausted x = (refl, omega (arith, same))
    by (got w n) x =
        settled_finding m w budget (enough (H - length l)) (budget - n) (omega arith) (omega (arith, same, x.1)) x.2.at_limit l w.finding x.2.finding

pub budget_enough : BudgetEnough
budget_enough m H lawful law l r floor budget =
    always (Within budget (enough (H - length l))) (solve m l floor budget) (solve_good m H lawful law l r floor budget (m.view l).score refl)

pub worked_bounds : WorkedBounds
unfolding enough
worked_bounds = record { none_to_go = refl; one_to_go = refl }
