-- Any two sessions keep the promise.
use Rattle.std.proofs.Common.{◌≡◌, ℕ, ◌-◌, ◌≤◌, Bool, cond, leb, List, length, sym, refl, ap, ◌∙◌, subst, inl, inr, arith}
use Rattle.game.specs.Meaning.{Line, Meaning, Reachable}
use Rattle.game.proofs.Value.{bisimilar_values}
use Rattle.store.specs.Interface.{StoreMeaning}
use Rattle.search_method.specs.declared.kinds.Answer.{Answer as Found}
use Rattle.search_method.specs.declared.kinds.Answer.TheVariants.{Solved, OutOfBudget}
use Rattle.search_method.specs.Tree.{Tree, done, ask, note}
use Rattle.search_method.specs.Search.{solve as solving}
use Rattle.search_method.specs.Bound.{enough, Always, Within}
use Rattle.search_method.proofs.Bound.{budget_enough}
use Rattle.proof_method.specs.Check.{Checked, accepted, faulty, check as checking, check_in}
use Rattle.proof_method.specs.Theorems.{Proof}
use Rattle.proof_method.proofs.Accepting.{accepts_proofs}
use Rattle.proof_method.proofs.Bisimilar.{bisimilar_checked}
use Rattle.life.specs.Life.{Memory, Call, Answer, Event, Step, Happened, WasPresent, Session, IsAnswered}
use Rattle.life.specs.Promise.{Tells, WithinBudget, Covers, TrueOfTree, VerdictsAreTrue, AcceptedProofsAreTrue, EnoughIsNeverUsedUp, VerdictsAgree, ProofsTravel, Promised}
use Rattle.life.proofs.Lives.{Right, Lived, life_kept}

always_map : {A : Type 0} (P Q : A → Type 0) (t : Tree A) → ((x : A) → P x → Q x) → Always P t → Always Q t
always_map P Q (done x) f h = f x h
always_map P Q (ask k g) f h = λ o. always_map P Q (g o) f (h o)
always_map P Q (note y t) f h = always_map P Q t f h

within : (budget t : ℕ) → t ≤ budget → (r : Found) → Within budget t r → WithinBudget r
within budget t h (Solved v move count) x = tt
within budget t h (OutOfBudget count) x = absurd (omega (arith, x.1))

-- a check has one answer
only_check : {S : Type 0} (m : Meaning) (𝓢 : StoreMeaning S) {l k : Line} {s t : S} {bytes : List ℕ} {budget : ℕ} {w : Memory} {b : Answer} →
    Step m 𝓢 l s (Call.check bytes budget w) b k t → b ≡ Answer.checked (check_in w.lines w.moves m l bytes budget)
only_check m 𝓢 Step.walked = refl

module _ {S : Type 0} {𝓢 : StoreMeaning S} (x : Session 𝓢) where
  lived : Lived x.game x.height x.lawful x.bounded 𝓢 x.past x.present x.held
  lived = life_kept x.game x.height x.lawful x.bounded 𝓢 x.life

  right : (e : Event) → Happened e x.past → Right x.game x.height x.lawful x.bounded e.line e.call e.answer
  right e h = (lived.then e h).1

  present_reached : (l : Line) → WasPresent l x.past x.present → Reachable x.game l
  present_reached l (inl e) = subst (λ (k : Line). Reachable x.game k) (sym e) lived.now.reached
  present_reached l (inr (e, h, z)) = subst (λ (k : Line). Reachable x.game k) z (lived.then e h).0

  verdicts_are_true : VerdictsAreTrue x
  verdicts_are_true e h floor v y = (right e h).verdict floor v y

  accepted_proofs_are_true : AcceptedProofsAreTrue x
  accepted_proofs_are_true e h floor v y = (right e h).accepted floor v y

  told_true : (e : Event) → Happened e x.past → (floor : ℕ) (v : Bool) → Tells e.call e.answer floor v → TrueOfTree x e.line floor v
  told_true e h floor v (inl y) = verdicts_are_true e h floor v y
  told_true e h floor v (inr y) = accepted_proofs_are_true e h floor v y

  enough_is_never_used_up : EnoughIsNeverUsedUp x
  enough_is_never_used_up l h floor budget enough_plays =
      always_map (Within budget (enough (x.height - length l))) WithinBudget (solving x.game l floor budget)
      (within budget (enough (x.height - length l)) enough_plays)
      (budget_enough x.game x.height x.lawful x.bounded l (present_reached l h) floor budget)

module _ {S R : Type 0} {𝓢 : StoreMeaning S} {𝓡 : StoreMeaning R} (x : Session 𝓢) (y : Session 𝓡) where
  verdicts_agree : VerdictsAgree x y
  verdicts_agree e d h i alike floor v w p q =
      told_true x e h floor v p
      ∙ ap (leb floor)
      (bisimilar_values x.game y.game x.height y.height x.lawful x.bounded y.lawful y.bounded e.line d.line
      ((lived x).then e h).0 alike)
      ∙ sym (told_true y d i floor w q)

  proofs_travel : ProofsTravel x y
  proofs_travel e h l i alike bytes floor v p = (plays, is_proof, answered)
    where
      plays : ℕ
      plays = ((right x e h).wrote bytes floor v p).0

      is_proof : Proof x.game e.line bytes floor v plays
      is_proof = ((right x e h).wrote bytes floor v p).1

      accepts : (budget : ℕ) → plays ≤ budget → checking y.game l bytes budget ≡ accepted floor v (length bytes) plays
      accepts budget enough_plays =
          sym (bisimilar_checked x.game y.game e.line l ((lived x).then e h).0 alike bytes budget)
          ∙ accepts_proofs.all x.game e.line bytes budget floor plays v (λ q r. (x.lawful.fit q r).moves) ((lived x).then e h).0 is_proof
          enough_plays

      accepts_in : (budget : ℕ) (w : Memory) → Covers w budget plays →
          check_in w.lines w.moves y.game l bytes budget ≡ accepted floor v (length bytes) plays
      accepts_in budget w c =
          ap (λ (t : Bool). cond t (checking y.game l bytes budget) (faulty (record { number = 6; place = 0; depth = 0; carried = 0 }))) c.0
          ∙ accepts budget c.1

      answered : (budget : ℕ) (w : Memory) → Covers w budget plays →
          IsAnswered 𝓡 y.game l (Call.check bytes budget w) (Answer.checked (accepted floor v (length bytes) plays))
      answered budget w c s = (
        subst (λ (r : Checked). Step y.game 𝓡 l s (Call.check bytes budget w) (Answer.checked r) l s) (accepts_in budget w c) Step.walked,
        λ b k t step. only_check y.game 𝓡 step ∙ ap Answer.checked (accepts_in budget w c),
      )

pub promised : {S R : Type 0} (𝓢 : StoreMeaning S) (𝓡 : StoreMeaning R) → Promised 𝓢 𝓡
promised 𝓢 𝓡 x y =
    record {
      verdicts_are_true = (verdicts_are_true x, verdicts_are_true y);
      accepted_proofs_are_true = (accepted_proofs_are_true x, accepted_proofs_are_true y);
      enough_is_never_used_up = (enough_is_never_used_up x, enough_is_never_used_up y);
      verdicts_agree = verdicts_agree x y;
      proofs_travel = (proofs_travel x y, proofs_travel y x);
    }
