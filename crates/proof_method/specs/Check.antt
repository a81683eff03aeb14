-- Check: the walk of given bytes under a budget of plays, with the first fault in reading order.
use Rattle.std.specs.Prelude.{ℕ, zero, suc, ◌-◌, Bool, true, false, cond, ◌||◌, List, [], ◌∷◌, length, Some, None, Option, ◌==◌, nat_le, nat_lt}
use Rattle.std.specs.Bool.{beq}
use Rattle.codec.specs.Numbers.{Read, number, refused, read}
use Rattle.game.specs.declared.kinds.Score.{Score}
use Rattle.game.specs.Kinds.{points}
use Rattle.game.specs.Meaning.{Line, Meaning}
use Rattle.game.specs.Value.{black_moves}
use Rattle.search_method.specs.Refusals.{memory_suffices}

-- a fault by its number, its byte place, its depth below the present line, and the number of the game's own refusal or 0
pub record Fault : Type 0 where
  pub number : ℕ
  pub place : ℕ
  pub depth : ℕ
  pub carried : ℕ

-- a part of the walk goes through with the bytes not yet read and the plays left, or stops at a fault
pub data Walked : Type 0 where
  through : List ℕ → ℕ → Walked
  stopped : Fault → Walked

-- a part of the walk, from the bytes not yet read and the plays left
abbrev pub Step : Type 0
Step = List ℕ → ℕ → Walked

-- one part after another
abbrev pub then : Walked → Step → Walked
then (through rest n) s = s rest n
then (stopped f) s = stopped f

abbrev pub choose : Bool → Walked → Walked → Walked
choose true x y = x
choose false x y = y

-- `whole` is the number of bytes of the proof
module _ (whole : ℕ) where
  -- a fault where `rest` is not yet read
  abbrev pub fault : ℕ → ℕ → List ℕ → ℕ → Fault
  fault n carried rest depth = record { number = n; place = whole - length rest; depth = depth; carried = carried }

  -- one play, which the budget must cover (else 7), and then s
  abbrev pub played : ℕ → Step → Step
  played d s rest zero = stopped (fault 7 0 rest d)
  played d s rest (suc n) = s rest n

  -- the claiming side's turn: one number (else 9), which is a move of the line (else 11), and what comes after that move
  abbrev pub own : ℕ → ℕ → (ℕ → Step) → List ℕ → ℕ → Read → Walked
  own d moves go rest n refused = stopped (fault 9 0 rest d)
  own d moves go rest n (number k after) = choose (nat_lt k moves) (played d (go k) after n) (stopped (fault 11 1 rest d))

  -- the other side's turn: r moves from k on, in order
  abbrev pub each : ℕ → (ℕ → Step) → ℕ → ℕ → Step
  each d go k zero rest n = through rest n
  each d go k (suc r) rest n = then (played d (go k) rest n) (each d go (suc k) r)

  -- a line by its score, which must give the claim (else 12), or by the side on turn and the number of moves
  abbrev pub at_line : ℕ → Bool → ℕ → Bool → ℕ → (ℕ → Step) → Option Score → Step
  at_line floor v d b moves go (Some s) rest n =
      choose (beq (nat_le floor (points s)) v) (through rest n) (stopped (fault 12 0 rest d))
  at_line floor v d b moves go None rest n = choose (beq b v) (own d moves go rest n (read rest)) (each d go 0 moves rest n)

  -- the walk from the line l at depth d; each move on takes a play, so that n plays left allow n + 1 lines
  module _ (m : Meaning) (floor : ℕ) (v : Bool) where
    unfoldable pub walk : ℕ → ℕ → Line → Step
    walk zero d l rest n = stopped (fault 7 0 rest d)
    walk (suc f) d l rest n =
        at_line floor v d (black_moves (m.view l)) (m.view l).moves (λ k. walk f (suc d) (k ∷ l)) (m.view l).score rest n

-- what check answers
pub data Checked : Type 0 where
  accepted : (floor : ℕ) (yes : Bool) (length plays : ℕ) → Checked
  faulty : Fault → Checked

-- no bytes may be left after the walk (else 13)
abbrev pub finish : ℕ → ℕ → ℕ → Bool → Walked → Checked
finish whole budget floor v (stopped f) = faulty f
finish whole budget floor v (through [] n) = accepted floor v whole (budget - n)
finish whole budget floor v (through (b ∷ rest) n) = faulty (fault whole 13 0 (b ∷ rest) 0)

module _ (m : Meaning) (l : Line) (bytes : List ℕ) (budget : ℕ) where
  -- after the two numbers of the claim
  abbrev pub claim : ℕ → Bool → List ℕ → Checked
  claim floor v rest = finish (length bytes) budget floor v (walk (length bytes) m floor v (suc budget) 0 l rest budget)

  -- the second number is 0 or 1 (else 10)
  abbrev pub by_verdict : ℕ → List ℕ → Read → Checked
  by_verdict floor rest refused = faulty (fault (length bytes) 9 0 rest 0)
  by_verdict floor rest (number x after) =
      cond (nat_lt x 2) (claim floor (x == 1) after) (faulty (fault (length bytes) 10 0 rest 0))

  -- the first number is 1 or 2 (else 10)
  abbrev pub by_floor : Read → Checked
  by_floor refused = faulty (fault (length bytes) 9 0 bytes 0)
  by_floor (number floor after) =
      cond (floor == 1 || floor == 2) (by_verdict floor after (read after)) (faulty (fault (length bytes) 10 0 bytes 0))

  unfoldable pub check : Checked
  check = by_floor (read bytes)

-- check with so many line and move records of work memory: 6 goes before every other fault
abbrev pub check_in : ℕ → ℕ → Meaning → Line → List ℕ → ℕ → Checked
check_in lines moves m l bytes budget =
    cond (memory_suffices lines moves) (check m l bytes budget) (faulty (record { number = 6; place = 0; depth = 0; carried = 0 }))
