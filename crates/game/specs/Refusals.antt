-- What calls are refused with: the number of each refusal and its values.
use Rattle.std.specs.Prelude.{ℕ, zero, suc, Bool, cond, [], ◌∷◌, length, is_some, Some, None, Ok, Err, Option, Result, nat_le}
use Rattle.game.specs.declared.refusal.Refusal.{Refusal}
use Rattle.game.specs.declared.refusal.Refusal.TheVariants.{NoSuchMove, LineOver, LineFull, AtStart}
use Rattle.game.specs.declared.refusal.PositionRefusal.{PositionRefusal}
use Rattle.game.specs.declared.refusal.PositionRefusal.TheVariants.{OutOfForm, NotAllowed}
use Rattle.game.specs.Meaning.{Line, Meaning}

abbrev pub refusal_number : Refusal → ℕ
refusal_number NoSuchMove = 1
refusal_number LineOver = 2
refusal_number LineFull = 3
refusal_number AtStart = 4

-- the number of the refusal, or 0 where there is none
abbrev pub refused_by : Result (Unit {0}) Refusal → ℕ
refused_by (Ok u) = 0
refused_by (Err e) = refusal_number e

-- the first of the reasons against a play that holds: the line is over, there is no such move, the line is full
abbrev pub first_against : Bool → Bool → Bool → ℕ
first_against over none full = cond over 2 (cond none 1 (cond full 3 0))

-- the answer to a play of k at the line l
abbrev pub play_answer : Meaning → Line → ℕ → ℕ
play_answer m l k = first_against (is_some (m.view l).score) (nat_le (m.view l).moves k) (nat_le 96 (length l))

-- the line after a call: a new one unless the call was refused
abbrev pub line_after : ℕ → Line → Line → Line
line_after zero new old = new
line_after (suc e) new old = old

abbrev pub played_line : Meaning → Line → ℕ → Line
played_line m l k = line_after (play_answer m l k) (k ∷ l) l

abbrev pub back_answer : Line → ℕ
back_answer [] = 4
back_answer (k ∷ l) = 0

abbrev pub shorter : Line → Line
shorter [] = []
shorter (k ∷ l) = l

-- a position that no game was made of: the number of the refusal, and the place where it shows
pub record Refused : Type 0 where
  pub number : ℕ
  pub place : ℕ

abbrev pub position_refused : PositionRefusal → Refused
position_refused (OutOfForm i) = record { number = 14; place = i }
position_refused (NotAllowed i) = record { number = 15; place = i }

-- what an answer says of a position
abbrev pub refused_at : {A : Type 0} → Result A PositionRefusal → Option Refused
refused_at (Ok g) = None
refused_at (Err e) = Some (position_refused e)
