-- Write: solve, put the numbers and walk, solving again at each later turn of the claiming side.
use Rattle.std.specs.Prelude.{ℕ, zero, suc, ◌+◌, ◌-◌, Bool, true, false, cond, List, [], ◌∷◌, ◌++◌, length, drop, replicate, Some, None, Option, nat_le, nat_lt}
use Rattle.std.specs.Bool.{beq}
use Rattle.codec.specs.Numbers.{encode}
use Rattle.game.specs.declared.kinds.Score.{Score}
use Rattle.game.specs.Meaning.{Line, Meaning}
use Rattle.game.specs.Value.{black_moves}
use Rattle.search_method.specs.declared.kinds.Answer.{Answer}
use Rattle.search_method.specs.declared.kinds.Answer.TheVariants.{Solved, OutOfBudget}
use Rattle.search_method.specs.Tree.{Tree, done, bind}
use Rattle.search_method.specs.Search.{solve}
use Rattle.search_method.specs.Refusals.{refusal_due}
use Rattle.proof_method.specs.Strategy.{bit}

-- a part of the writing comes to the bytes so far and the plays left, or fails with the number of a refusal
pub data Put : Type 0 where
  put : List ℕ → ℕ → Put
  failed : ℕ → Put

-- a part of the writing, from the bytes so far and the plays left
abbrev pub Part : Type 0
Part = List ℕ → ℕ → Tree Put

-- one part after another
abbrev pub next : Part → Put → Tree Put
next p (put out n) = p out n
next p (failed number) = done (failed number)

abbrev pub choose : Bool → Tree Put → Tree Put → Tree Put
choose true x y = x
choose false x y = y

-- one play, which the budget must cover (else 7), and then p
abbrev pub played : Part → Part
played p out zero = done (failed 7)
played p out (suc n) = p out n

-- one number, which must fit into the room (else 8), and then p
abbrev pub number : ℕ → ℕ → Part → Part
number room k p out n = choose (nat_le (length out + length (encode k)) room) (p (out ++ encode k) n) (done (failed 8))

-- the other side's turn: r moves from k on, in order
abbrev pub each : (ℕ → Part) → ℕ → ℕ → Part
each go k zero out n = done (put out n)
each go k (suc r) out n = bind (played (go k) out n) (next (each go (suc k) r))

-- `stray` is what a move that the line does not have would be refused with; a search over a sound store finds none
module _ (stray : ℕ) (m : Meaning) (floor room : ℕ) (v : Bool) where
  -- the claiming side's move: its number, then its play
  abbrev pub own : Line → (ℕ → Part) → ℕ → Part
  own l go k out n = choose (nat_lt k (m.view l).moves) (number room k (played (go k)) out n) (done (failed stray))

  -- the claiming side's move by the answer of the search
  abbrev pub by_answer : Line → (ℕ → Part) → List ℕ → ℕ → Answer → Tree Put
  by_answer l go out n (Solved w k count) = own l go k out (n - count)
  by_answer l go out n (OutOfBudget count) = done (failed 7)

  -- the claiming side's turn: the line is solved for the move
  abbrev pub solved : Line → (ℕ → Part) → Part
  solved l go out n = bind (solve m l floor n) (by_answer l go out n)

  -- a line that is over gives nothing; `mine` is what the claiming side does on its turn
  abbrev pub at_line : Line → (ℕ → Part) → Part → Option Score → Part
  at_line l go mine (Some s) out n = done (put out n)
  at_line l go mine None out n = choose (beq (black_moves (m.view l)) v) (mine out n) (each go 0 (m.view l).moves out n)

  -- the walk from the line l; each move on takes a play, so that n plays left allow n + 1 lines
  unfoldable pub walk : ℕ → Line → Part
  walk zero l out n = done (failed 7)
  walk (suc f) l out n = at_line l (λ k. walk f (k ∷ l)) (solved l (λ k. walk f (k ∷ l))) (m.view l).score out n

  -- the first line, whose move k is solved already
  abbrev pub first : Line → ℕ → ℕ → Part
  first l f k = at_line l (λ j. walk f (j ∷ l)) (own l (λ j. walk f (j ∷ l)) k) (m.view l).score

  -- the two numbers of the claim, then the walk
  abbrev pub start : Line → ℕ → ℕ → Part
  start l f k = number room floor (number room (bit v) (first l f k))

-- what write answers: the verdict, the bytes of the proof and the plays; or the number of a refusal
pub data Written : Type 0 where
  proof : (yes : Bool) (bytes : List ℕ) (plays : ℕ) → Written
  unwritten : (number : ℕ) → Written

abbrev pub end : ℕ → Bool → Put → Written
end budget v (put out n) = proof v out (budget - n)
end budget v (failed number) = unwritten number

abbrev pub after_solve : ℕ → Meaning → Line → ℕ → ℕ → ℕ → Answer → Tree Written
after_solve stray m l floor budget room (OutOfBudget count) = done (unwritten 7)
after_solve stray m l floor budget room (Solved v k count) =
    bind (start stray m floor room v l budget k [] (budget - count)) (λ x. done (end budget v x))

-- write, with the answer for a stray move left open; `room` is the length of the buffer
abbrev pub write_by : ℕ → Meaning → Line → ℕ → ℕ → ℕ → Tree Written
write_by stray m l floor budget room = bind (solve m l floor budget) (after_solve stray m l floor budget room)

abbrev pub write : Meaning → Line → ℕ → ℕ → ℕ → Tree Written
write = write_by 7

-- a refusal that is due goes before everything
abbrev pub unless : Option ℕ → Tree Written → Tree Written
unless None t = t
unless (Some number) t = done (unwritten number)

-- write with so many line and move records of work memory
abbrev pub write_in : ℕ → ℕ → Meaning → Line → ℕ → ℕ → ℕ → Tree Written
write_in lines moves m l floor budget room = unless (refusal_due floor lines moves) (write m l floor budget room)

-- the buffer afterwards: bytes past the proof are unchanged; 5 and 6 change nothing; 7 and 8 leave it all zero
abbrev pub buffer : List ℕ → Written → List ℕ
buffer old (proof v bytes plays) = bytes ++ drop (length bytes) old
buffer old (unwritten number) = cond (nat_lt number 7) old (replicate (length old) 0)
