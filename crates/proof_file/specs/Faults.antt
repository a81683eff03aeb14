-- What the answers of check mean, and what each part of its walk answers.
use Rattle.std.specs.Prelude.{◌≡◌, ℕ, suc, ◌<◌, ◌≤◌, Bool, cond, ◌||◌, List, ◌∷◌, length, drop, Some, None, Ok, Err, Option, Result, nat_lt}
use Rattle.codec.specs.declared.Number.{Number}
use Rattle.game.specs.Meaning.{Line, Meaning}
use Rattle.game.specs.declared.refusal.Refusal.{Refusal}
use Rattle.game.specs.Refusals.{refusal_number}
use Rattle.proof_method.specs.Check.{Checked, accepted, faulty, Fault, Walked, through, stopped, Step, choose, fault, played, each, walk}
use Rattle.proof_file.specs.declared.fault.Reason.{Reason}
use Rattle.proof_file.specs.declared.fault.Reason.TheVariants.{Memory, OutOfBudget, NotANumber, NotAClaim, Refused, Denied, BytesLeft}
use Rattle.proof_file.specs.declared.fault.Fault.{Fault as CodeFault}
use Rattle.proof_method.specs.declared.state.State.{State}
use Rattle.search_method.specs.declared.claim.Claim.{Claim}
use Rattle.proof_file.specs.declared.check.CheckedProof.{CheckedProof}

-- the number of each fault
abbrev pub reason_number : Reason → ℕ
reason_number Memory = 6
reason_number OutOfBudget = 7
reason_number NotANumber = 9
reason_number NotAClaim = 10
reason_number (Refused r) = 11
reason_number Denied = 12
reason_number BytesLeft = 13

-- the number of the game's own refusal, or 0
abbrev pub carried_by : Reason → ℕ
carried_by Memory = 0
carried_by OutOfBudget = 0
carried_by NotANumber = 0
carried_by NotAClaim = 0
carried_by (Refused r) = refusal_number r
carried_by Denied = 0
carried_by BytesLeft = 0

-- the game's own refusal
abbrev pub refusal_in : Reason → Option Refusal
refusal_in Memory = None
refusal_in OutOfBudget = None
refusal_in NotANumber = None
refusal_in NotAClaim = None
refusal_in (Refused r) = Some r
refusal_in Denied = None
refusal_in BytesLeft = None

-- a fault by its numbers
abbrev pub fault_of : CodeFault → Fault
fault_of f = record { number = reason_number f.reason; place = f.place; depth = f.depth; carried = carried_by f.reason }

-- what a checked proof says
pub record Says : Type 0 where
  pub floor : ℕ
  pub yes : Bool
  pub size : ℕ
  pub plays : ℕ

abbrev pub proof_of : CheckedProof → Says
proof_of c = record { floor = c.claim.floor; yes = c.claim.yes; size = c.length; plays = c.plays }

-- the answer of check: the four values of an accepted proof, or those of a fault
abbrev pub checked_by : Result CheckedProof CodeFault → Checked
checked_by (Ok c) = accepted c.claim.floor c.claim.yes c.length c.plays
checked_by (Err f) = faulty (fault_of f)

-- one of the two numbers of the claim, as it is read at a place: 9 where there is none, 10 where it is not from low to high
abbrev pub claim_number : ℕ → ℕ → ℕ → Option Number → Result Number CodeFault
claim_number at low high None = Err (record { reason = NotANumber; place = at; depth = 0 })
claim_number at low high (Some x) =
    cond (nat_lt x.value low || nat_lt high x.value) (Err (record { reason = NotAClaim; place = at; depth = 0 })) (Ok x)

-- a part of the walk by the bytes not yet read and the plays left, or by its fault
abbrev pub walked_by : List ℕ → Result State CodeFault → Walked
walked_by bytes (Ok s) = through (drop s.at bytes) s.left
walked_by bytes (Err f) = stopped (fault_of f)

-- the walk goes on inside the bytes and within the plays
abbrev pub Within : List ℕ → ℕ → Result State CodeFault → Type 0
Within bytes left (Ok s) = (s.at ≤ length bytes) × (s.left ≤ left)
Within bytes left (Err f) = Unit {0}

-- what the parts of the walk answer at the line l and depth d, from a state s: what the definition gives, for any fuel
-- above the plays left
module _ (m : Meaning) (bytes : List ℕ) (claim : Claim) (l : Line) (d : ℕ) where
  abbrev pub Walks : State → Result State CodeFault → Type 0
  Walks s r =
      (f : ℕ) → s.left < f →
      walked_by bytes r ≡ walk (length bytes) m claim.floor claim.yes f d l (drop s.at bytes) s.left

  abbrev pub below : ℕ → ℕ → Step
  below f k = walk (length bytes) m claim.floor claim.yes f (suc d) (k ∷ l)

  -- one move, read at `from`
  abbrev pub Descends : ℕ → ℕ → State → Result State CodeFault → Type 0
  Descends k from s r =
      (f : ℕ) → s.left ≤ f →
      walked_by bytes r
      ≡ choose (nat_lt k (m.view l).moves) (played (length bytes) d (below f k) (drop s.at bytes) s.left)
      (stopped (fault (length bytes) 11 1 (drop from bytes) d))

  -- every move
  abbrev pub GoesThrough : State → Result State CodeFault → Type 0
  GoesThrough s r =
      (f : ℕ) → s.left ≤ f →
      walked_by bytes r ≡ each (length bytes) d (below f) 0 (m.view l).moves (drop s.at bytes) s.left
