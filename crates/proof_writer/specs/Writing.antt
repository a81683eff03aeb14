-- What the answers of write mean, and what each part of it does to a store and a buffer.
use Rattle.std.specs.Prelude.{◌≡◌, ℕ, ◌≤◌, List, ◌∷◌, length, take, drop, Some, None, Ok, Err, Option, Result}
use Rattle.game.specs.Meaning.{Line, Meaning}
use Rattle.store.specs.Interface.{StoreMeaning}
use Rattle.search_method.specs.Tree.{Runs}
use Rattle.search_method.specs.declared.claim.Claim.{Claim}
use Rattle.proof_method.specs.declared.state.State.{State}
use Rattle.proof_method.specs.Write.{Put, put, failed, Part, next, played, each, own, solved, at_line, number, walk, start, Written, proof, unwritten, buffer}
use Rattle.proof_writer.specs.declared.refusal.WriteRefusal.{WriteRefusal}
use Rattle.proof_writer.specs.declared.refusal.WriteRefusal.TheVariants.{Floor, Memory, OutOfBudget, NoRoom}
use Rattle.proof_writer.specs.declared.write.Written.{Written as CodeWritten}

-- the number of each refusal
abbrev pub write_number : WriteRefusal → ℕ
write_number Floor = 5
write_number Memory = 6
write_number OutOfBudget = 7
write_number NoRoom = 8

-- the answer of write with the buffer afterwards: the verdict, the bytes of the proof and the plays; or a refusal
abbrev pub written_by : List ℕ → Result CodeWritten WriteRefusal → Written
written_by bytes (Ok w) = proof w.yes (take w.length bytes) w.plays
written_by bytes (Err e) = unwritten (write_number e)

-- the proof lies inside the buffer; std has a `Fits` of numbers, but clauses of session cite this one by its name
abbrev pub Fits : List ℕ → Result CodeWritten WriteRefusal → Type 0
Fits bytes (Ok w) = w.length ≤ length bytes
Fits bytes (Err e) = Unit {0}

-- a proof lies inside the buffer, whose bytes past it are those before; a refusal is 7 or 8
abbrev pub Past : List ℕ → List ℕ → Result CodeWritten WriteRefusal → Type 0
Past before after (Ok w) = (w.length ≤ length after) × (after ≡ buffer before (written_by after (Ok w)))
Past before after (Err e) = 7 ≤ write_number e

-- a part of the writing: the bytes before the place are the proof so far
abbrev pub put_by : List ℕ → Result State WriteRefusal → Put
put_by bytes (Ok s) = put (take s.at bytes) s.left
put_by bytes (Err e) = failed (write_number e)

-- the walk goes on in the buffer, which is unchanged past the place, and within the plays; it fails with 7 or 8
abbrev pub Framed : State → List ℕ → List ℕ → Result State WriteRefusal → Type 0
Framed s before after (Ok t) =
    (s.at ≤ t.at) × (t.at ≤ length before) × (t.left ≤ s.left) × (drop t.at after ≡ drop t.at before)
Framed s before after (Err e) = 7 ≤ write_number e

-- a number k is put, or the writing fails, as the definition says for whatever part comes after it
abbrev pub Puts : ℕ → State → List ℕ → List ℕ → Result State WriteRefusal → Type 0
Puts k s before after r = (p : Part) → number (length before) k p (take s.at before) s.left ≡ next p (put_by after r)

-- a part p does what the definition says, for any fuel that covers the plays left
abbrev pub Does : {S : Type 0} → StoreMeaning S → (ℕ → Part) → State → List ℕ → S → List ℕ → S → Result State WriteRefusal → Type 0
Does 𝓢 p s before from after to r = (f : ℕ) → s.left ≤ f → Runs 𝓢 (p f (take s.at before) s.left) from to (put_by after r)

module _ (m : Meaning) (claim : Claim) (l : Line) where
  -- what comes after the move k, with a buffer of so much room
  abbrev pub on : ℕ → ℕ → ℕ → Part
  on room f k = walk 7 m claim.floor room claim.yes f (k ∷ l)

  abbrev pub own_part : ℕ → ℕ → ℕ → Part
  own_part room k f = own 7 m claim.floor room claim.yes l (on room f) k

  abbrev pub solved_part : ℕ → ℕ → Part
  solved_part room f = solved 7 m claim.floor room claim.yes l (on room f)

  -- the claiming side's turn, where its move may be known
  abbrev pub mine_part : ℕ → Option ℕ → ℕ → Part
  mine_part room None f = solved_part room f
  mine_part room (Some k) f = own_part room k f

  abbrev pub line_part : ℕ → Option ℕ → ℕ → Part
  line_part room known f = at_line 7 m claim.floor room claim.yes l (on room f) (mine_part room known f) (m.view l).score

module _ {S : Type 0} (𝓢 : StoreMeaning S) (m : Meaning) (claim : Claim) (l : Line) where
  abbrev pub Plays : ℕ → State → List ℕ → S → List ℕ → S → Result State WriteRefusal → Type 0
  Plays k s before = Does 𝓢 (λ f. played (on m claim l (length before) f k)) s before

  abbrev pub Owns : ℕ → State → List ℕ → S → List ℕ → S → Result State WriteRefusal → Type 0
  Owns k s before = Does 𝓢 (own_part m claim l (length before) k) s before

  abbrev pub Solves : State → List ℕ → S → List ℕ → S → Result State WriteRefusal → Type 0
  Solves s before = Does 𝓢 (solved_part m claim l (length before)) s before

  abbrev pub PlaysAll : State → List ℕ → S → List ℕ → S → Result State WriteRefusal → Type 0
  PlaysAll s before = Does 𝓢 (λ f. each (on m claim l (length before) f) 0 (m.view l).moves) s before

  abbrev pub Walks : Option ℕ → State → List ℕ → S → List ℕ → S → Result State WriteRefusal → Type 0
  Walks known s before = Does 𝓢 (line_part m claim l (length before) known) s before

  abbrev pub Starts : ℕ → State → List ℕ → S → List ℕ → S → Result State WriteRefusal → Type 0
  Starts k s before = Does 𝓢 (λ f. start 7 m claim.floor (length before) claim.yes l f k) s before
