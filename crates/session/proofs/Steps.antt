-- The steps of a life, from what the calls of a session promise.
use Rattle.std.proofs.Common.{◌≡◌, ℕ, zero, suc, List, [], ◌∷◌, length, Some, None, Ok, Err, Option, Result, sym, refl, ◌∙◌, subst}
use Rattle.game.specs.declared.refusal.Refusal.{Refusal}
use Rattle.game.specs.declared.refusal.Refusal.TheVariants.{NoSuchMove, LineOver, LineFull, AtStart}
use Rattle.game.specs.Meaning.{Line, Meaning}
use Rattle.game.specs.Refusals.{refused_by, play_answer, line_after, played_line, back_answer, shorter}
use Rattle.store.specs.Interface.{StoreMeaning}
use Rattle.search_method.specs.declared.kinds.Answer.{Answer as Found}
use Rattle.search_method.specs.declared.kinds.SolveRefusal.{SolveRefusal}
use Rattle.search_method.specs.Refusals.{refusal_due}
use Rattle.search_method.specs.Search.{solve as solving}
use Rattle.search.specs.Solve.{Answers}
use Rattle.search_method.specs.Tree.{Runs}
use Rattle.proof_method.specs.Check.{check_in}
use Rattle.proof_method.specs.Write.{write_in, buffer}
use Rattle.proof_writer.specs.declared.refusal.WriteRefusal.{WriteRefusal}
use Rattle.proof_writer.specs.declared.write.Written.{Written as Proof}
use Rattle.proof_writer.specs.Writing.{written_by}
use Rattle.proof_file.specs.declared.fault.Fault.{Fault}
use Rattle.proof_file.specs.declared.check.CheckedProof.{CheckedProof}
use Rattle.proof_file.specs.Faults.{checked_by}
use Rattle.life.specs.Life.{Memory, Call, Answer, Step}
use Rattle.session.specs.declared.request.Request.{Request}
use Rattle.session.specs.declared.request.Reply.TheVariants.{Done, Solved, Written, Checked}
use Rattle.session.specs.Requests.{Desk, call_of, answer_of}

-- the answer to a move, by its number
abbrev moved_by : ℕ → Answer
moved_by zero = Answer.done
moved_by (suc n) = Answer.refused (suc n)

answers_moved : (b : List ℕ) (r : Result (Unit {0}) Refusal) → moved_by (refused_by r) ≡ answer_of b (Done r)
answers_moved b (Ok u) = refl
answers_moved b (Err NoSuchMove) = refl
answers_moved b (Err LineOver) = refl
answers_moved b (Err LineFull) = refl
answers_moved b (Err AtStart) = refl

-- a move taken back
back : {S : Type 0} (m : Meaning) (𝓢 : StoreMeaning S) (s : S) (l : Line) → Step m 𝓢 l s Call.take_back (moved_by (back_answer l)) (shorter l) s
back m 𝓢 s [] = Step.not_taken
back m 𝓢 s (i ∷ l) = Step.taken_back

-- from a line and a store: the call of the request q, the line and the store then, and what the buffer then holds
module _ {S : Type 0} (m : Meaning) (𝓢 : StoreMeaning S) (l k : Line) (s t : S) (w : Memory) (d : Desk) (q : Request) (b : List ℕ) where
  -- a move, by its number
  moved : (i n : ℕ) → n ≡ play_answer m l i → Step m 𝓢 l s (Call.play i) (moved_by n) (line_after n (i ∷ l) l) s
  moved i zero e = Step.played (sym e)
  moved i (suc n) e = Step.not_played (sym e)

  pub play_step : (i : ℕ) (r : Result (Unit {0}) Refusal) → call_of w d q ≡ Call.play i → refused_by r ≡ play_answer m l i → k ≡ played_line m l i → t ≡ s →
      Step m 𝓢 l s (call_of w d q) (answer_of b (Done r)) k t
  play_step i r call e line state =
      rw (call, subst (λ (n : ℕ). k ≡ line_after n (i ∷ l) l) (sym e) line, state, ← answers_moved b r) (moved i (refused_by r) e)

  pub take_step : (r : Result (Unit {0}) Refusal) → call_of w d q ≡ Call.take_back → refused_by r ≡ back_answer l → k ≡ shorter l → t ≡ s →
      Step m 𝓢 l s (call_of w d q) (answer_of b (Done r)) k t
  take_step r call e line state = rw (call, line, state, ← answers_moved b r, e) (back m 𝓢 s l)

  pub clear_step : call_of w d q ≡ Call.clear → 𝓢.clears s t → k ≡ l → Step m 𝓢 l s (call_of w d q) Answer.done k t
  clear_step call cleared line = rw (call, line) (Step.cleared cleared)

  pub solve_step : (floor budget : ℕ) (r : Result Found SolveRefusal) → call_of w d q ≡ Call.solve floor budget w →
      Answers 𝓢 (solving m l floor budget) (refusal_due floor w.lines w.moves) s t r → k ≡ l → Step m 𝓢 l s (call_of w d q) (answer_of b (Solved r)) k t
  solve_step floor budget r call answers line = rw (call, line) (by r (refusal_due floor w.lines w.moves) refl answers)
    where
      by : (r : Result Found SolveRefusal) (due : Option ℕ) → refusal_due floor w.lines w.moves ≡ due →
          Answers 𝓢 (solving m l floor budget) due s t r → Step m 𝓢 l s (Call.solve floor budget w) (answer_of b (Solved r)) l t
      by (Ok a) None e run = Step.solved e run
      by (Err r) None e run = absurd run
      by (Ok a) (Some n) e (no_refusal, state) = absurd cc
      by (Err r) (Some n) e (number, state) = rw (← state) (Step.not_solved (e ∙ sym number))

  pub write_step : (floor budget : ℕ) (before : List ℕ) (r : Result Proof WriteRefusal) → call_of w d q ≡ Call.write floor budget before w →
      Runs 𝓢 (write_in w.lines w.moves m l floor budget (length before)) s t (written_by b r) → b ≡ buffer before (written_by b r) → k ≡ l →
      Step m 𝓢 l s (call_of w d q) (answer_of b (Written r)) k t
  write_step floor budget before r call run e line =
      rw (call, line)
      (subst (λ (x : List ℕ). Step m 𝓢 l s (Call.write floor budget before w) (Answer.wrote (written_by b r) x) l t) (sym e) (Step.written run))

  pub check_step : (bytes : List ℕ) (budget : ℕ) (r : Result CheckedProof Fault) → call_of w d q ≡ Call.check bytes budget w →
      checked_by r ≡ check_in w.lines w.moves m l bytes budget → k ≡ l → t ≡ s → Step m 𝓢 l s (call_of w d q) (answer_of b (Checked r)) k t
  check_step bytes budget r call e line state = rw (call, line, state, e) Step.walked

-- the step of each request
pub ruleset steps = (play_step, take_step, clear_step, solve_step, write_step, check_step)
