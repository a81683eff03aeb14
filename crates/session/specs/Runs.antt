-- A session that was opened, and in which requests were made.
use Rattle.std.specs.Prelude.{ℕ, min, List, Option, length, take}
use Rattle.game.specs.Meaning.{Line, Meaning, Reachable}
use Rattle.store.specs.Interface.{StoreMeaning}
use Rattle.life.specs.Life.{Memory, Call, Answer, Step, Event, Life}
use Rattle.session.specs.declared.request.Request.{Request}
use Rattle.session.specs.declared.request.Reply.{Reply}
use Rattle.session.specs.declared.request.Exchange.{Exchange}
use Rattle.session.specs.declared.session.Session.{Session}
use Rattle.session.specs.Requests.{Desk, desk, RequestsTold, Tells}

-- a session makes a call, is answered so, and is then as `after`
abbrev pub Makes : {G S : Type 0} → (G → Meaning) → (G → Line) → StoreMeaning S → Session G S → Call → Answer → Session G S → Type 0
Makes means line 𝓢 before c a after =
    Step (means before.game) 𝓢 (line before.game) before.store c a (line after.game) after.store

-- a life from the line `start` and the store `given` to the line `present` and the state `held` of the store, in which
-- just these requests were made and replied to, with this work memory, and with the buffer before and after them
pub record RequestsLived {S : Type 0} (m : Meaning) (𝓢 : StoreMeaning S) (start : Line) (given : S) (w : Memory) (before : Desk)
    (requests : List Request) (replies : List (Option Reply)) (present : Line) (held : S) (after : Desk) : Type 0 where
  pub past : List Event
  pub life : Life m 𝓢 start given past present held
  pub told : RequestsTold w before requests replies past after

-- so many requests are made as there are, and as there is room for replies
abbrev pub made : List Request → List (Option Reply) → ℕ
made requests replies = min (length requests) (length replies)

-- from a reachable line: the requests, as far as there is room for replies, are lived through with these replies
pub record RequestsRan {S : Type 0} (m : Meaning) (𝓢 : StoreMeaning S) (start : Line) (given : S) (w : Memory) (requests : List Request)
    (replies : List (Option Reply)) (present : Line) (held : S) (before after : Desk) : Type 0 where
  pub lived : Reachable m start →
      RequestsLived m 𝓢 start given w before (take (made requests replies) requests) (take (made requests replies) replies) present held after

-- the same of exchanges: a life in which just their requests were made and so replied to
pub record Lived {S : Type 0} (m : Meaning) (𝓢 : StoreMeaning S) (start : Line) (given : S) (w : Memory) (before : Desk)
    (exchanges : List Exchange) (present : Line) (held : S) (after : Desk) : Type 0 where
  pub past : List Event
  pub life : Life m 𝓢 start given past present held
  pub told : Tells w before exchanges past after

-- from a reachable line: all the exchanges are lived through
pub record Ran {S : Type 0} (m : Meaning) (𝓢 : StoreMeaning S) (start : Line) (given : S) (w : Memory) (exchanges : List Exchange)
    (present : Line) (held : S) (before after : Desk) : Type 0 where
  pub lived : Reachable m start → Lived m 𝓢 start given w before exchanges present held after

-- one after the other with one buffer, into which nothing was written before
pub record InTurn (first second : Desk → Desk → Type 0) (before after : List ℕ) : Type 0 where
  pub mid : Desk
  pub last : ℕ
  pub earlier : first (desk before 0) mid
  pub later : second mid (desk after last)
