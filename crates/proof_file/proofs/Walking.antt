-- The steps of the code's walk, each by the definition.
use Rattle.std.proofs.Common.{◌≡◌, ℕ, zero, suc, sub-one, IsErrAnd, ok_or, ◌+◌, ◌-◌, ◌<◌, ◌≤◌, Bool, List, ◌∷◌, length, drop, None, Ok, Err, Result, ap, arith}
use Rattle.std.proofs.lemmas.Grind.{common_steps}
use Rattle.std.proofs.lemmas.Result.{err_from_is_err_and}
use Rattle.codec.specs.declared.Number.{Number}
use Rattle.codec.specs.Numbers.{number, read}
use Rattle.codec.specs.Files.{number_at}
use Rattle.codec.proofs.Numbers.{ltb-true}
use Rattle.codec.proofs.Spelling.{some_read}
use Rattle.game.specs.Meaning.{Line, Meaning}
use Rattle.game.specs.Laws.{Bounded, Room}
use Rattle.game.proofs.Bounds.{room_under}
use Rattle.game.proofs.Value.{none_is}
use Rattle.game.specs.Value.{black_moves}
use Rattle.proof_file.specs.declared.fault.Reason.TheVariants.{NotANumber}
use Rattle.proof_file.specs.declared.fault.Fault.{Fault as CodeFault}
use Rattle.proof_method.specs.declared.state.State.{State}
use Rattle.search_method.specs.declared.claim.Claim.{Claim}
use Rattle.proof_method.specs.Check.{then, each, at_line, walk}
use Rattle.proof_file.specs.Faults.{walked_by, Within, below, Descends, GoesThrough}

-- a line that goes on has room for a move
pub has_room : (m : Meaning) (l : Line) → Bounded m → Room m l → (m.view l).score ≡ None → length l < 96
has_room m l bounded here z =
    let under = room_under m l bounded.0 bounded.1 here (none_is (m.view l).score z) in
    omega (arith, bounded.1.low)

module _ (m : Meaning) (bytes : List ℕ) (claim : Claim) (l : Line) (d : ℕ) where
  -- every move: those before k went through
  pub record Through (start : State) (k : ℕ) (s : State) : Type 0 where
    pub inside : s.at ≤ length bytes
    pub less : s.left ≤ start.left
    pub rest : (f : ℕ) → start.left ≤ f →
        each (length bytes) d (below m bytes claim l d f) k ((m.view l).moves - k) (drop s.at bytes) s.left
        ≡ each (length bytes) d (below m bytes claim l d f) 0 (m.view l).moves (drop start.at bytes) start.left

  -- the move k is next
  next_move : (start : State) (k from : ℕ) (s : State) (r : Result State CodeFault) → k < (m.view l).moves → Through start k s →
      Descends m bytes claim l d k from s r → (f : ℕ) → start.left ≤ f →
      then (walked_by bytes r) (each (length bytes) d (below m bytes claim l d f) (k + 1) ((m.view l).moves - (k + 1)))
      ≡ each (length bytes) d (below m bytes claim l d f) 0 (m.view l).moves (drop start.at bytes) start.left
  next_move start k from s r h so_far one f le =
      let one' = one f (omega (arith, so_far.less)) in
      let e : suc ((m.view l).moves - (k + 1)) ≡ (m.view l).moves - k = omega arith in
      let next = ap (λ (c : ℕ). each (length bytes) d (below m bytes claim l d f) k c (drop s.at bytes) s.left) e in
      let so = so_far.rest f le in
      let t = ltb-true k (m.view l).moves h in
      let o : suc k ≡ k + 1 = omega arith in
      grind arith

  pub through_more : {start : State} {k : ℕ} {s : State} (from : ℕ) (t : State) → k < (m.view l).moves → Through start k s →
      Descends m bytes claim l d k from s (Ok t) → Within bytes s.left (Ok t) → Through start (k + 1) t
  through_more {start} {k} {s} from t h so_far one w =
      record {
        inside = w.0;
        less = omega (arith, so_far.less, w.1);
        rest = next_move start k from s (Ok t) h so_far one;
      }

  pub through_fails : {start : State} {k : ℕ} {s : State} (from : ℕ) (e : CodeFault) (r : Result State CodeFault) → k < (m.view l).moves → Through start k s →
      Descends m bytes claim l d k from s (Err e) → IsErrAnd r (λ x. x ≡ e) → GoesThrough m bytes claim l d start r
  through_fails {start} {k} {s} from e r h so_far one is f le =
      let p = err_from_is_err_and r is in
      rw (p.1, p.2) (next_move start k from s (Err e) h so_far one f le)

-- a number that was read
pub read_is : (bytes : List ℕ) (at d : ℕ) {x : Number} → at ≤ length bytes →
    (let none : CodeFault = record { reason = NotANumber; place = at; depth = d } in Ok x ≡ ok_or (number_at bytes at) none) →
    (read (drop at bytes) ≡ number x.value (drop x.end bytes)) × (x.end ≤ length bytes)
read_is bytes at d {x} inside h = some_read bytes at inside x (grind arith)

-- a line with fuel left
pub walk_line : (whole : ℕ) (m : Meaning) (floor : ℕ) (v : Bool) (f d : ℕ) (l : Line) (rest : List ℕ) (n : ℕ) → 0 < f →
    walk whole m floor v f d l rest n
    ≡ at_line whole floor v d (black_moves (m.view l)) (m.view l).moves (λ k. walk whole m floor v (f - 1) (suc d) (k ∷ l)) (m.view l).score rest n
unfolding walk
walk_line whole m floor v zero d l rest n h = absurd (omega arith)
walk_line whole m floor v (suc f) d l rest n h = simp sub-one

pub ruleset line_steps = (common_steps, walk_line)
