-- The life of a session: the calls that are made in it, what each answers, and the line that is present.
use Rattle.std.specs.Prelude.{◌≡◌, ℕ, suc, ◌⊎◌, List, [], ◌∷◌, length, Some, None}
use Rattle.game.specs.Meaning.{Line, Meaning, Reachable}
use Rattle.game.specs.Laws.{Lawful, BoundedBy}
use Rattle.game.specs.Refusals.{play_answer}
use Rattle.store.specs.Interface.{StoreMeaning}
use Rattle.search_method.specs.declared.kinds.Answer.{Answer as Found}
use Rattle.search_method.specs.Refusals.{refusal_due}
use Rattle.search_method.specs.Tree.{Runs}
use Rattle.search_method.specs.Search.{solve as solving}
use Rattle.proof_method.specs.Check.{Checked, check_in}
use Rattle.proof_method.specs.Write.{Written, write_in, buffer as buffer_after}

-- work memory, in line records and move records
pub record Memory : Type 0 where
  pub lines : ℕ
  pub moves : ℕ

-- the calls, with all that is handed to them; write is handed a buffer with what it holds
pub data Call : Type 0 where
  play : (k : ℕ) → Call
  take_back : Call
  clear : Call
  solve : (floor budget : ℕ) → Memory → Call
  write : (floor budget : ℕ) (buffer : List ℕ) → Memory → Call
  check : (bytes : List ℕ) (budget : ℕ) → Memory → Call

-- done; refused with a number; what the search found; what write answers, with what its buffer then holds; what check
-- answers
pub data Answer : Type 0 where
  done : Answer
  refused : (number : ℕ) → Answer
  found : Found → Answer
  wrote : Written → (buffer : List ℕ) → Answer
  checked : Checked → Answer

-- One call at a line and a state of the store: what it answers, and the line and the state then. A play lengthens the
-- line and a take back shortens it unless they are refused; every other call leaves it, whatever it answers. A refusal
-- that is due for the floor or the work memory goes before everything else.
pub data Step {S : Type 0} (m : Meaning) (𝓢 : StoreMeaning S) : Line → S → Call → Answer → Line → S → Type 0 where
  played : {l : Line} {s : S} {k : ℕ} → play_answer m l k ≡ 0 → Step m 𝓢 l s (play k) done (k ∷ l) s
  not_played : {l : Line} {s : S} {k n : ℕ} → play_answer m l k ≡ suc n → Step m 𝓢 l s (play k) (refused (suc n)) l s
  taken_back : {l : Line} {s : S} {k : ℕ} → Step m 𝓢 (k ∷ l) s take_back done l s
  not_taken : {s : S} → Step m 𝓢 [] s take_back (refused 4) [] s
  cleared : {l : Line} {s t : S} → 𝓢.clears s t → Step m 𝓢 l s clear done l t
  solved : {l : Line} {s t : S} {floor budget : ℕ} {w : Memory} {r : Found} →
      refusal_due floor w.lines w.moves ≡ None → Runs 𝓢 (solving m l floor budget) s t r →
      Step m 𝓢 l s (solve floor budget w) (found r) l t
  not_solved : {l : Line} {s : S} {floor budget n : ℕ} {w : Memory} →
      refusal_due floor w.lines w.moves ≡ Some n → Step m 𝓢 l s (solve floor budget w) (refused n) l s
  written : {l : Line} {s t : S} {floor budget : ℕ} {buffer : List ℕ} {w : Memory} {r : Written} →
      Runs 𝓢 (write_in w.lines w.moves m l floor budget (length buffer)) s t r →
      Step m 𝓢 l s (write floor budget buffer w) (wrote r (buffer_after buffer r)) l t
  walked : {l : Line} {s : S} {bytes : List ℕ} {budget : ℕ} {w : Memory} →
      Step m 𝓢 l s (check bytes budget w) (checked (check_in w.lines w.moves m l bytes budget)) l s

-- a call, its answer, and the line that was present when it was made
pub record Event : Type 0 where
  pub line : Line
  pub call : Call
  pub answer : Answer

-- The life of a session over a game and a store: it opens at a reachable line by clearing the store that it was given,
-- and goes on by any calls. What has happened so far stands with the newest first, then the present line and the state
-- of the store.
pub data Life {S : Type 0} (m : Meaning) (𝓢 : StoreMeaning S) (start : Line) (given : S) : List Event → Line → S → Type 0 where
  opened : {s : S} → Reachable m start → 𝓢.clears given s → Life m 𝓢 start given [] start s
  lived : {past : List Event} {l k : Line} {s t : S} {c : Call} {a : Answer} →
      Life m 𝓢 start given past l s → Step m 𝓢 l s c a k t →
      Life m 𝓢 start given (record { line = l; call = c; answer = a } ∷ past) k t

-- the event is one of these
abbrev pub Happened : Event → List Event → Type 0
Happened e [] = ⊥
Happened e (x ∷ past) = (e ≡ x) ⊎ Happened e past

-- the line is the present one, or was it at some call
abbrev pub WasPresent : Line → List Event → Line → Type 0
WasPresent p past l = (p ≡ l) ⊎ ((e : Event) × Happened e past × (e.line ≡ p))

-- a session so far: its game, which is bounded and lawful, layered or not, and its life
pub record Session {S : Type 0} (𝓢 : StoreMeaning S) : Type 0 where
  pub game : Meaning
  pub height : ℕ
  pub lawful : Lawful game
  pub bounded : BoundedBy game height
  pub start : Line
  pub given : S
  pub past : List Event
  pub present : Line
  pub held : S
  pub life : Life game 𝓢 start given past present held

-- at this line the call is answered so, whatever the store holds, and in no other way
abbrev pub IsAnswered : {S : Type 0} → StoreMeaning S → Meaning → Line → Call → Answer → Type 0
IsAnswered {S} 𝓢 m l c a = (s : S) → Step m 𝓢 l s c a l s × ((b : Answer) (k : Line) (t : S) → Step m 𝓢 l s c b k t → b ≡ a)
