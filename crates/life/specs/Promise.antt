-- What any two sessions promise.
use Rattle.std.specs.Prelude.{◌≡◌, ℕ, ◌-◌, ◌≤◌, Bool, true, ◌⊎◌, List, length}
use Rattle.game.specs.Meaning.{Line, Bisimilar}
use Rattle.game.specs.Value.{at_least}
use Rattle.store.specs.Interface.{StoreMeaning}
use Rattle.search_method.specs.declared.kinds.Answer.{Answer as Found}
use Rattle.search_method.specs.declared.kinds.Answer.TheVariants.{Solved, OutOfBudget}
use Rattle.search_method.specs.Refusals.{memory_suffices}
use Rattle.search_method.specs.Search.{solve as solving}
use Rattle.search_method.specs.Bound.{enough, Always}
use Rattle.proof_method.specs.Check.{accepted}
use Rattle.proof_method.specs.Write.{proof}
use Rattle.proof_method.specs.Theorems.{Proof}
use Rattle.life.specs.Life.{Memory, Call, solve, write, check, Answer, found, wrote, checked, Event, Happened, WasPresent, Session, IsAnswered}

-- the call was answered with this verdict for this floor
pub data Verdict : Call → Answer → ℕ → Bool → Type 0 where
  by_solve : {floor budget move count : ℕ} {w : Memory} {v : Bool} →
      Verdict (solve floor budget w) (found (Solved v move count)) floor v
  by_write : {floor budget count : ℕ} {before after bytes : List ℕ} {w : Memory} {v : Bool} →
      Verdict (write floor budget before w) (wrote (proof v bytes count) after) floor v

-- the call was answered by accepting a proof of this verdict for this floor
pub data Accepted : Call → Answer → ℕ → Bool → Type 0 where
  by_check : {bytes : List ℕ} {budget floor size plays : ℕ} {w : Memory} {v : Bool} →
      Accepted (check bytes budget w) (checked (accepted floor v size plays)) floor v

-- the call wrote these bytes, a proof of this verdict for this floor
pub data Wrote : Call → Answer → List ℕ → ℕ → Bool → Type 0 where
  by_write : {floor budget count : ℕ} {before after bytes : List ℕ} {w : Memory} {v : Bool} →
      Wrote (write floor budget before w) (wrote (proof v bytes count) after) bytes floor v

-- the call told this verdict for this floor, by a solve, a write or an accepted proof
abbrev pub Tells : Call → Answer → ℕ → Bool → Type 0
Tells c a floor v = Verdict c a floor v ⊎ Accepted c a floor v

abbrev pub WithinBudget : Found → Type 0
WithinBudget (Solved v move count) = Unit {0}
WithinBudget (OutOfBudget count) = ⊥

-- memory and budget cover a proof: the work memory suffices, and the budget is at least the proof's plays
abbrev pub Covers : Memory → ℕ → ℕ → Type 0
Covers w budget plays = (memory_suffices w.lines w.moves ≡ true) × (plays ≤ budget)

-- ONE SESSION
module _ {S : Type 0} {𝓢 : StoreMeaning S} (x : Session 𝓢) where
  -- yes exactly when the line's value in the game tree is at least the floor
  abbrev pub TrueOfTree : Line → ℕ → Bool → Type 0
  TrueOfTree l floor v = v ≡ at_least x.game x.height floor l

  -- each verdict, of a solve or a write, is the game tree's at the line that was present then
  abbrev pub VerdictsAreTrue : Type 0
  VerdictsAreTrue =
      (e : Event) → Happened e x.past → (floor : ℕ) (v : Bool) →
      Verdict e.call e.answer floor v → TrueOfTree e.line floor v

  -- so is the claim of each proof that was accepted
  abbrev pub AcceptedProofsAreTrue : Type 0
  AcceptedProofsAreTrue =
      (e : Event) → Happened e x.past → (floor : ℕ) (v : Bool) →
      Accepted e.call e.answer floor v → TrueOfTree e.line floor v

  -- at every line that was present, a search with a budget of T(height − length) or more never uses it up, on every way
  -- through the search, whatever any store answers
  abbrev pub EnoughIsNeverUsedUp : Type 0
  EnoughIsNeverUsedUp =
      (l : Line) → WasPresent l x.past x.present → (floor budget : ℕ) →
      enough (x.height - length l) ≤ budget → Always WithinBudget (solving x.game l floor budget)

-- TWO SESSIONS, at bisimilar lines
module _ {S R : Type 0} {𝓢 : StoreMeaning S} {𝓡 : StoreMeaning R} (x : Session 𝓢) (y : Session 𝓡) where
  -- verdicts for one floor are equal
  abbrev pub VerdictsAgree : Type 0
  VerdictsAgree =
      (e d : Event) → Happened e x.past → Happened d y.past → Bisimilar x.game e.line y.game d.line →
      (floor : ℕ) (v w : Bool) → Tells e.call e.answer floor v → Tells d.call d.answer floor w → v ≡ w

  -- a proof written in the one is accepted at each line of the other, if memory and budget cover it
  abbrev pub ProofsTravel : Type 0
  ProofsTravel =
      (e : Event) → Happened e x.past → (l : Line) → WasPresent l y.past y.present →
      Bisimilar x.game e.line y.game l →
      (bytes : List ℕ) (floor : ℕ) (v : Bool) → Wrote e.call e.answer bytes floor v →
      (plays : ℕ) × Proof x.game e.line bytes floor v plays × ((budget : ℕ) (w : Memory) → Covers w budget plays →
      IsAnswered 𝓡 y.game l (check bytes budget w) (checked (accepted floor v (length bytes) plays)))

-- THE PROMISE of two sessions
pub record Promise {S R : Type 0} {𝓢 : StoreMeaning S} {𝓡 : StoreMeaning R} (x : Session 𝓢) (y : Session 𝓡) : Type 0 where
  pub verdicts_are_true : VerdictsAreTrue x × VerdictsAreTrue y
  pub accepted_proofs_are_true : AcceptedProofsAreTrue x × AcceptedProofsAreTrue y
  pub enough_is_never_used_up : EnoughIsNeverUsedUp x × EnoughIsNeverUsedUp y
  pub verdicts_agree : VerdictsAgree x y
  pub proofs_travel : ProofsTravel x y × ProofsTravel y x

-- any two sessions over these stores, each over any lawful bounded game
abbrev pub Promised : {S R : Type 0} → StoreMeaning S → StoreMeaning R → Type 0
Promised 𝓢 𝓡 = (x : Session 𝓢) (y : Session 𝓡) → Promise x y
