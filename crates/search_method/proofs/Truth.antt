-- Every verdict is true, and the store stays sound: the walk, with the value for what a verdict claims.
use Rattle.std.proofs.Common.{◌≡◌, ℕ, ◌-◌, ◌≤◌, Bool, true, false, leb, ◌∷◌, Some, None, Option, sym, refl, ap, ◌∙◌, subst, arith}
use Rattle.game.specs.declared.kinds.Score.{Score}
use Rattle.game.specs.Meaning.{Line, Meaning, Reachable}
use Rattle.game.specs.Laws.{Lawful, BoundedBy}
use Rattle.game.specs.Value.{black_moves, value, at_least}
use Rattle.store.specs.declared.entry.Key.{Key}
use Rattle.store.specs.declared.entry.Finding.{Finding}
use Rattle.store.specs.declared.entry.Finding.TheVariants.{Verdict, Open}
use Rattle.store.specs.Interface.{StoreMeaning}
use Rattle.search_method.specs.Tree.{Tree}
use Rattle.search_method.specs.Kinds.{Worked}
use Rattle.search_method.specs.Search.{Out, exhausted, got, solve, solve_by, no_limits, moves_left, expand, answer, answer_by, key}
use Rattle.search_method.specs.Truth.{TrueSomewhere, SoundFinding, Sound, Right, VerdictsTrue}
use Rattle.search_method.specs.Bound.{enough}
use Rattle.game.proofs.Value.{value_over, value_step, bisimilar_values, one_settles, all_settle}
use Rattle.search_method.proofs.Good.{Good, good_bind, AnswerMeets, runs_good}
use Rattle.search_method.proofs.Parts.{After}
use Rattle.search_method.proofs.Evaluation.{Fair}
use Rattle.search_method.proofs.Expansion.{FindingFair, WorkedFair, expand_costs, no_limits_fit, height_is}

some_not_none : (o : Option Score) (s : Score) → o ≡ Some s → o ≡ None → ⊥
some_not_none o s e f = let z : ◌≡◌ {A = ℕ} 0 1 = cc in omega arith

module _ (m : Meaning) (H : ℕ) (lawful : Lawful m) (law : BoundedBy m H) (floor : ℕ) (low : 1 ≤ floor) (high : floor ≤ 2) where
  abbrev Claim : Line → Bool → Type 0
  Claim l v = at_least m H floor l ≡ v

  -- a verdict that is true at one path-independent line is true at each one with its key
  carried : (l : Line) (k : Key) (v : Bool) → Reachable m l → k ≡ key m floor l → (m.view l).independent ≡ true → TrueSomewhere m H k v → Claim l v
  carried l k v r e c t =
      ap (leb floor) (sym (bisimilar_values m m H H lawful law lawful law q l t.reached (lawful.alike q l t.reached r t.independent c (ap (λ (x : Key). x.a) same) (ap (λ (x : Key). x.b) same) (ap (λ (x : Key). x.context) same))))
      ∙ ap (λ (x : ℕ). leb x (value m H q)) (sym (ap (λ (x : Key). x.floor) e))
      ∙ t.holds
    where
      q : Line
      q = t.line

      same : key m k.floor q ≡ key m floor l
      same = t.same_key ∙ e

  noted_sound : (l : Line) (v c : Bool) (k : ℕ) → (m.view l).independent ≡ c → Reachable m l → Claim l v → SoundFinding m H (key m floor l) (Verdict v c k)
  noted_sound l v false k e r x = tt
  noted_sound l v true k e r x = record { line = l; reached = r; independent = e; same_key = refl; holds = x }

  fair : Fair m floor Claim (AnswerMeets (Sound m H)) (Sound m H)
  fair =
      record {
        over = λ l s r e. ap (leb floor) (value_over m H l s e);
        one =
            λ l k r e x.
            ap (leb floor) (value_step m H lawful law l r.0 e)
            ∙ one_settles floor (black_moves (m.view l)) (m.view l).moves (λ j. value m H (j ∷ l)) k r.1 x;
        all =
            λ l r e x.
            ap (leb floor) (value_step m H lawful law l r e)
            ∙ all_settle floor (black_moves (m.view l)) (m.view l).moves (λ j. value m H (j ∷ l)) low high x;
        trusted = λ l f v k r x c e. carried l f.key v r x.0 c (subst (SoundFinding m H f.key) e x.1);
        noted = λ l v k r x. noted_sound l v (m.view l).independent k refl r x;
        noted_open = λ l p d. tt;
      }

  solve_good : (l : Line) (budget : ℕ) → Reachable m l → (o : Option Score) → (m.view l).score ≡ o →
      Good (AnswerMeets (Sound m H)) (Sound m H) (Right m H floor l) (solve_by m l floor budget o)
  solve_good l budget r (Some s) e =
      record {
        value = ap (leb floor) (value_over m H l s e);
        keeps = λ z. absurd (some_not_none (m.view l).score s e z);
        no_move = λ z. refl;
      }
  solve_good l budget r None e =
      good_bind (AnswerMeets (Sound m H)) (Sound m H)
      (After (enough h) budget (WorkedFair m Claim l no_limits)) (Right m H floor l)
      (expand m floor h l no_limits budget) (λ o. Tree.done (answer budget o))
      (expand_costs m H lawful law floor Claim (AnswerMeets (Sound m H)) (Sound m H) fair h l no_limits budget r e (height_is m H law l) no_limits_fit)
      by
    where
      h : ℕ
      h = moves_left m l

      finding_right : (count : ℕ) (w : Worked) → WorkedFair m Claim l no_limits w → (x : Finding) → w.finding ≡ x → Right m H floor l (answer_by count x)
      finding_right count w ok (Open p d) z = tt
      finding_right count w ok (Verdict v c k) z =
          let f = subst (FindingFair m Claim l w.pair) z ok.finding in
          record { value = f.claim; keeps = λ y. f.move; no_move = f.no_move }

      by : (o : Out Worked) → After (enough h) budget (WorkedFair m Claim l no_limits) o → Right m H floor l (answer budget o)
      by exhausted x = tt
      by (got w n) x = finding_right (budget - n) w x.2 w.finding refl

pub verdicts_true : {S : Type 0} (𝓢 : StoreMeaning S) → VerdictsTrue 𝓢
verdicts_true 𝓢 m H lawful law l r floor low high budget s t a all run =
    runs_good 𝓢 (Sound m H) (Right m H floor l) (solve m l floor budget) s t a all (solve_good m H lawful law floor low high l budget r (m.view l).score refl) run
