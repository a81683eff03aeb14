-- Every life keeps its line reachable and its store sound, and each of its answers is right.
use Rattle.std.proofs.Common.{◌≡◌, ℕ, suc, ◌≤◌, Bool, true, false, cond, List, [], ◌∷◌, length, Some, None, Option, sym, refl, subst, inl, inr, arith}
use Rattle.game.specs.Meaning.{Line, Meaning, Reachable}
use Rattle.game.specs.Laws.{Lawful, BoundedBy}
use Rattle.game.specs.Value.{at_least}
use Rattle.game.proofs.Plays.{legal_play}
use Rattle.store.specs.Interface.{StoreMeaning}
use Rattle.search_method.specs.declared.kinds.Answer.{Answer as Found}
use Rattle.search_method.specs.declared.kinds.Answer.TheVariants.{Solved, OutOfBudget}
use Rattle.search_method.specs.Refusals.{is_floor, memory_suffices, refusal_due}
use Rattle.search_method.specs.Tree.{Runs}
use Rattle.search_method.specs.Truth.{AllSound, Right as RightSearch}
use Rattle.search_method.proofs.Truth.{verdicts_true}
use Rattle.proof_method.specs.Check.{Checked, accepted, faulty, check as checking, check_in}
use Rattle.proof_method.specs.Write.{Written, proof, unwritten, write as writing, unless}
use Rattle.proof_method.specs.Theorems.{Proof}
use Rattle.proof_method.proofs.Strategy.{strategy_true}
use Rattle.life.specs.Life.{Memory, Call, Answer, Event, Step, Life, Happened}
use Rattle.life.specs.Promise.{Verdict, Accepted, Wrote}
use Rattle.life.proofs.Accepted.{one_or_two, IfAccepted, check_shown}
use Rattle.life.proofs.Writing.{WritesAt, writes_a_proof}

pub some_not_none : (x : ℕ) → ◌≡◌ {A = Option ℕ} (Some x) None → ⊥
some_not_none x e = let z : ◌≡◌ {A = ℕ} 0 1 = cc in omega arith

-- no refusal is due: the floor is 1 or 2
floor_fits : (floor lines moves : ℕ) → refusal_due floor lines moves ≡ None → (1 ≤ floor) × (floor ≤ 2)
floor_fits floor lines moves e = one_or_two floor (by (is_floor floor) e)
  where
    by : (t : Bool) → cond {A = Option ℕ} t (cond {A = Option ℕ} (memory_suffices lines moves) None (Some 6)) (Some 5) ≡ None → t ≡ true
    by true z = refl
    by false z = absurd (some_not_none 5 z)

-- answers without a verdict and without a proof
abbrev Silent : Answer → Type 0
Silent Answer.done = Unit {0}
Silent (Answer.refused n) = Unit {0}
Silent (Answer.found (Solved v move count)) = ⊥
Silent (Answer.found (OutOfBudget count)) = Unit {0}
Silent (Answer.wrote (proof v bytes count) after) = ⊥
Silent (Answer.wrote (unwritten n) after) = Unit {0}
Silent (Answer.checked (accepted floor v size plays)) = ⊥
Silent (Answer.checked (faulty f)) = Unit {0}

no_verdict : {c : Call} {a : Answer} {floor : ℕ} {v : Bool} → Verdict c a floor v → Silent a → ⊥
no_verdict Verdict.by_solve x = x
no_verdict Verdict.by_write x = x

not_accepted : {c : Call} {a : Answer} {floor : ℕ} {v : Bool} → Accepted c a floor v → Silent a → ⊥
not_accepted Accepted.by_check x = x

not_wrote : {c : Call} {a : Answer} {bytes : List ℕ} {floor : ℕ} {v : Bool} → Wrote c a bytes floor v → Silent a → ⊥
not_wrote Wrote.by_write x = x

module _ (m : Meaning) (H : ℕ) (lawful : Lawful m) (law : BoundedBy m H) where
  abbrev SaysValue : Line → ℕ → Bool → Type 0
  SaysValue l floor v = v ≡ at_least m H floor l

  -- what a call answered at a line is right
  pub record Right (l : Line) (c : Call) (a : Answer) : Type 0 where
    pub verdict : (floor : ℕ) (v : Bool) → Verdict c a floor v → SaysValue l floor v
    pub accepted : (floor : ℕ) (v : Bool) → Accepted c a floor v → SaysValue l floor v
    pub wrote : (bytes : List ℕ) (floor : ℕ) (v : Bool) → Wrote c a bytes floor v → (plays : ℕ) × Proof m l bytes floor v plays

  silent : (l : Line) (c : Call) (a : Answer) → Silent a → Right l c a
  silent l c a x =
      record {
        verdict = λ floor v y. absurd (no_verdict y x);
        accepted = λ floor v y. absurd (not_accepted y x);
        wrote = λ bytes floor v y. absurd (not_wrote y x);
      }

  found_right : (l : Line) (floor budget : ℕ) (w : Memory) (r : Found) → RightSearch m H floor l r → Right l (Call.solve floor budget w) (Answer.found r)
  found_right l floor budget w (OutOfBudget count) x = silent l (Call.solve floor budget w) (Answer.found (OutOfBudget count)) tt
  found_right l floor budget w (Solved v move count) x =
      record { verdict = by; accepted = λ f v y. elim y [ ]; wrote = λ bytes f v y. elim y [ ] }
    where
      by : (f : ℕ) (u : Bool) → Verdict (Call.solve floor budget w) (Answer.found (Solved v move count)) f u → SaysValue l f u
      by f u Verdict.by_solve = sym x.value

  wrote_right : (l : Line) (floor budget : ℕ) (before after : List ℕ) (w : Memory) (r : Written) → Reachable m l → WritesAt m l floor r →
      Right l (Call.write floor budget before w) (Answer.wrote r after)
  wrote_right l floor budget before after w (unwritten n) reached x =
      silent l (Call.write floor budget before w) (Answer.wrote (unwritten n) after) tt
  wrote_right l floor budget before after w (proof v bytes count) reached x =
      record { verdict = by; accepted = λ f v y. elim y [ ]; wrote = is }
    where
      by : (f : ℕ) (u : Bool) → Verdict (Call.write floor budget before w) (Answer.wrote (proof v bytes count) after) f u → SaysValue l f u
      by f u Verdict.by_write = sym (strategy_true m H lawful law floor x.1.low x.1.high v l reached x.1.strategy x.1.wins)

      is : (b : List ℕ) (f : ℕ) (u : Bool) → Wrote (Call.write floor budget before w) (Answer.wrote (proof v bytes count) after) b f u →
          (plays : ℕ) × Proof m l b f u plays
      is b f u Wrote.by_write = x

  checked_right : (l : Line) (bytes : List ℕ) (budget : ℕ) (w : Memory) → Reachable m l → (r : Checked) → IfAccepted m l bytes budget r →
      Right l (Call.check bytes budget w) (Answer.checked r)
  checked_right l bytes budget w reached (faulty f) x = silent l (Call.check bytes budget w) (Answer.checked (faulty f)) tt
  checked_right l bytes budget w reached (accepted floor v size plays) x =
      record { verdict = λ f v y. elim y [ ]; accepted = by; wrote = λ bytes f v y. elim y [ ] }
    where
      by : (f : ℕ) (u : Bool) → Accepted (Call.check bytes budget w) (Answer.checked (accepted floor v size plays)) f u → SaysValue l f u
      by f u Accepted.by_check = sym (strategy_true m H lawful law floor x.low x.high v l reached x.strategy x.wins)

  -- a check with too little memory accepts nothing
  check_in_shown : (lines moves : ℕ) (l : Line) (bytes : List ℕ) (budget : ℕ) → IfAccepted m l bytes budget (check_in lines moves m l bytes budget)
  check_in_shown lines moves l bytes budget = by (memory_suffices lines moves)
    where
      by : (t : Bool) → IfAccepted m l bytes budget (cond t (checking m l bytes budget) (faulty (record { number = 6; place = 0; depth = 0; carried = 0 })))
      by true = check_shown m l bytes budget
      by false = tt

  module _ {S : Type 0} (𝓢 : StoreMeaning S) where
    -- what every step keeps: the present line is reachable, and the path-independent verdicts that are held are true
    pub record Kept (l : Line) (s : S) : Type 0 where
      pub reached : Reachable m l
      pub sound : AllSound 𝓢 m H s

    -- a write that is refused before it begins leaves the store
    write_kept : (l : Line) (floor budget room : ℕ) (s t : S) (r : Written) → Kept l s → (o : Option ℕ) → (o ≡ None → (1 ≤ floor) × (floor ≤ 2)) →
        Runs 𝓢 (unless o (writing m l floor budget room)) s t r → WritesAt m l floor r × AllSound 𝓢 m H t
    write_kept l floor budget room s t r kept None fits run =
        let f = fits refl in
        writes_a_proof 𝓢 m H lawful law l kept.reached floor f.0 f.1 budget room s t r kept.sound run
    write_kept l floor budget room s t r kept (Some n) fits run =
        (subst (WritesAt m l floor) run.1 tt, subst (λ (u : S). AllSound 𝓢 m H u) run.0 kept.sound)

    step_kept : {l k : Line} {s t : S} {c : Call} {a : Answer} → Kept l s → Step m 𝓢 l s c a k t → Kept k t × Right l c a
    step_kept kept (Step.played {l = l} {k = k} e) =
        (record { reached = (kept.reached, (legal_play m l k e).legal); sound = kept.sound }, silent l (Call.play k) Answer.done tt)
    step_kept kept (Step.not_played {l = l} {k = k} {n = n} e) = (kept, silent l (Call.play k) (Answer.refused (suc n)) tt)
    step_kept kept (Step.taken_back {l = l} {k = k}) =
        (record { reached = kept.reached.0; sound = kept.sound }, silent (k ∷ l) Call.take_back Answer.done tt)
    step_kept kept Step.not_taken = (kept, silent [] Call.take_back (Answer.refused 4) tt)
    step_kept kept (Step.cleared {l = l} {s = s} {t = t} e) =
        (record { reached = kept.reached; sound = λ f x. absurd (𝓢.cleared s t f e x) }, silent l Call.clear Answer.done tt)
    step_kept kept (Step.solved {l = l} {s = s} {t = t} {floor = floor} {budget = budget} {w = w} {r = r} e run) =
        let fits = floor_fits floor w.lines w.moves e in
        let x = verdicts_true 𝓢 m H lawful law l kept.reached floor fits.0 fits.1 budget s t r kept.sound run in
        (record { reached = kept.reached; sound = x.1 }, found_right l floor budget w r x.0)
    step_kept kept (Step.not_solved {l = l} {floor = floor} {budget = budget} {n = n} {w = w} e) =
        (kept, silent l (Call.solve floor budget w) (Answer.refused n) tt)
    step_kept kept (Step.written {l = l} {s = s} {t = t} {floor = floor} {budget = budget} {buffer = buffer} {w = w} {r = r} run) =
        let x =
        write_kept l floor budget (length buffer) s t r kept (refusal_due floor w.lines w.moves)
        (floor_fits floor w.lines w.moves) run in
        (record { reached = kept.reached; sound = x.1 }, wrote_right l floor budget buffer _ w r kept.reached x.0)
    step_kept kept (Step.walked {l = l} {bytes = bytes} {budget = budget} {w = w}) = (
      kept,
      checked_right l bytes budget w kept.reached (check_in w.lines w.moves m l bytes budget)
          (check_in_shown w.lines w.moves l bytes budget),
    )

    -- what every life keeps
    pub record Lived (past : List Event) (l : Line) (s : S) : Type 0 where
      pub now : Kept l s
      pub then : (e : Event) → Happened e past → Reachable m e.line × Right e.line e.call e.answer

    pub life_kept : {start : Line} {given : S} {past : List Event} {l : Line} {s : S} → Life m 𝓢 start given past l s → Lived past l s
    life_kept {given = given} (Life.opened {s = s} r e) =
        record { now = record { reached = r; sound = λ f x. absurd (𝓢.cleared given s f e x) }; then = λ d x. absurd x }
    life_kept (Life.lived {past = past} {l = l} {c = c} {a = a} life step) =
        let before = life_kept life in
        let x = step_kept before.now step in
        record { now = x.0; then = after before x.1 }
      where
        here : Event
        here = record { line = l; call = c; answer = a }

        after : {s : S} → Lived past l s → Right l c a → (e : Event) → Happened e (here ∷ past) → Reachable m e.line × Right e.line e.call e.answer
        after before right e (inl same) =
            subst (λ (d : Event). Reachable m d.line × Right d.line d.call d.answer) (sym same) (before.now.reached, right)
        after before right e (inr x) = before.then e x
