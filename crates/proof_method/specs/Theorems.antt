-- What an accepted proof shows.
use Rattle.std.specs.Prelude.{◌≡◌, ℕ, ◌≤◌, Bool, List, length}
use Rattle.codec.specs.Numbers.{Bytes}
use Rattle.game.specs.Meaning.{Line, Meaning, Reachable, Bisimilar}
use Rattle.game.specs.Laws.{Lawful, BoundedBy}
use Rattle.game.specs.Value.{at_least}
use Rattle.proof_method.specs.Strategy.{Strategy, Wins, plays, file}
use Rattle.proof_method.specs.Check.{accepted, check}

-- the bytes are the file of a winning strategy at the line, with this floor, verdict and number of plays
pub record Proof (m : Meaning) (l : Line) (bytes : List ℕ) (floor : ℕ) (v : Bool) (count : ℕ) : Type 0 where
  pub strategy : Strategy
  pub low : 1 ≤ floor
  pub high : floor ≤ 2
  pub wins : Wins m floor v l strategy
  pub form : bytes ≡ file floor v strategy
  pub cost : plays strategy ≡ count

-- check accepts exactly the files of winning strategies whose plays the budget covers, and answers their plays
pub record AcceptsProofs : Type 0 where
  pub only :
      (m : Meaning) (l : Line) (bytes : List ℕ) (budget floor n p : ℕ) (v : Bool) → Bytes bytes →
      check m l bytes budget ≡ accepted floor v n p → Proof m l bytes floor v p × (n ≡ length bytes) × (p ≤ budget)
  pub all :
      (m : Meaning) (l : Line) (bytes : List ℕ) (budget floor p : ℕ) (v : Bool) →
      ((q : Line) → Reachable m q → (m.view q).moves ≤ 64) → Reachable m l →
      Proof m l bytes floor v p → p ≤ budget → check m l bytes budget ≡ accepted floor v (length bytes) p

-- an accepted claim is true
abbrev pub ClaimsTrue : Type 0
ClaimsTrue =
    (m : Meaning) (h : ℕ) → Lawful m → BoundedBy m h → (l : Line) → Reachable m l →
    (bytes : List ℕ) (budget floor n p : ℕ) (v : Bool) → Bytes bytes →
    check m l bytes budget ≡ accepted floor v n p → at_least m h floor l ≡ v

-- at bisimilar lines, of one game or of two, the whole answer is the same, fault or not
abbrev pub BisimilarChecked : Type 0
BisimilarChecked =
    (m n : Meaning) (p q : Line) → Reachable m p → Bisimilar m p n q → (bytes : List ℕ) (budget : ℕ) →
    check m p bytes budget ≡ check n q bytes budget
