-- What requests and replies say of calls and answers.
use Rattle.std.specs.Prelude.{◌≡◌, ℕ, List, [], ◌∷◌, ◌++◌, map, take, length, Some, Option, Ok, Err}
use Rattle.game.specs.Meaning.{Line}
use Rattle.game.specs.Refusals.{refusal_number}
use Rattle.search_method.specs.declared.memory.WorkMemory.{WorkMemory}
use Rattle.search_method.specs.Refusals.{refusal_number as solve_number}
use Rattle.proof_writer.specs.Writing.{written_by}
use Rattle.proof_file.specs.Faults.{checked_by}
use Rattle.life.specs.Life.{Memory, Call, play, take_back, clear, solve, write, check, Answer, done, refused, found, wrote, checked, Event}
use Rattle.session.specs.declared.step.Desk.{Desk as Lent}
use Rattle.session.specs.declared.request.Request.{Request}
use Rattle.session.specs.declared.request.Request.TheVariants.{Play, TakeBack, Clear, Solve, Write, Check, CheckWritten}
use Rattle.session.specs.declared.request.Reply.{Reply}
use Rattle.session.specs.declared.request.Reply.TheVariants.{Done, Solved, Written, Checked}
use Rattle.session.specs.declared.request.Exchange.{Exchange}

-- the buffer that is lent to all calls, and how many of its first bytes the last write put there
pub record Desk : Type 0 where
  pub bytes : List ℕ
  pub written : ℕ

abbrev pub desk : List ℕ → ℕ → Desk
desk bytes written = record { bytes = bytes; written = written }

-- the desk that the code keeps
abbrev pub desk_of : Lent → Desk
desk_of d = desk d.bytes.now d.written

-- so much work memory
abbrev pub room_of : {L M : Type 0} → WorkMemory L M → Memory
room_of w = record { lines = length w.lines.now; moves = length w.moves.now }

-- the call that a request makes, with what is lent to it
abbrev pub call_of : Memory → Desk → Request → Call
call_of w d (Play k) = play k
call_of w d TakeBack = take_back
call_of w d Clear = clear
call_of w d (Solve floor budget) = solve floor budget w
call_of w d (Write floor budget) = write floor budget d.bytes w
call_of w d (Check n budget) = check (take n d.bytes) budget w
call_of w d (CheckWritten budget) = check (take d.written d.bytes) budget w

-- the answer that a reply tells, with what the buffer then holds
abbrev pub answer_of : List ℕ → Reply → Answer
answer_of after (Done (Ok u)) = done
answer_of after (Done (Err r)) = refused (refusal_number r)
answer_of after (Solved (Ok a)) = found a
answer_of after (Solved (Err r)) = refused (solve_number r)
answer_of after (Written r) = wrote (written_by after r) after
answer_of after (Checked r) = checked (checked_by r)

-- what a call that replied so leaves of the buffer: only a write changes it
abbrev pub Leaves : Reply → Desk → Desk → Type 0
Leaves (Done r) d e = e ≡ d
Leaves (Solved r) d e = e ≡ d
Leaves (Written (Ok p)) d e = e.written ≡ p.length
Leaves (Written (Err r)) d e = e.written ≡ 0
Leaves (Checked r) d e = e ≡ d

-- What was asked and replied, in this order, is what happened, the newest first: each request has its reply, each event is
-- the call of the request and the answer of the reply, and each call finds the buffer as the one before left it.
pub data RequestsTold (w : Memory) (d : Desk) : List Request → List (Option Reply) → List Event → Desk → Type 0 where
  nothing : RequestsTold w d [] [] [] d
  then : {qs : List Request} {rs : List (Option Reply)} {past : List Event} (b c : Desk) (q : Request) (r : Reply) (l : Line) →
      RequestsTold w d qs rs past b → Leaves r b c →
      RequestsTold w d (qs ++ q ∷ []) (rs ++ Some r ∷ []) (record { line = l; call = call_of w b q; answer = answer_of c.bytes r } ∷ past) c

-- what was asked, without the replies
abbrev pub asked : List Exchange → List Request
asked exchanges = map (λ x. x.request) exchanges

-- The same of exchanges, each of which holds a request and its reply.
pub data Tells (w : Memory) (d : Desk) : List Exchange → List Event → Desk → Type 0 where
  nothing : Tells w d [] [] d
  then : {exchanges : List Exchange} {past : List Event} (b c : Desk) (q : Request) (r : Reply) (l : Line) →
      Tells w d exchanges past b → Leaves r b c →
      Tells w d (exchanges ++ record { request = q; reply = Some r } ∷ [])
      (record { line = l; call = call_of w b q; answer = answer_of c.bytes r } ∷ past) c
