-- The steps of write's walk, each a run of the definition.
use Rattle.std.proofs.Common.{◌≡◌, ℕ, zero, suc, sub-one, ◌+◌, ◌-◌, ◌<◌, ◌≤◌, IsErrAnd, List, [], ◌∷◌, length, take, drop, Some, None, Ok, Err, Option, Result, sym, refl, ap, ◌∙◌, subst, arith, drop-drop}
use Rattle.game.specs.Meaning.{Line, Meaning}
use Rattle.game.specs.Laws.{Present, Bounded, Room}
use Rattle.game.specs.Refusals.{played_line}
use Rattle.game.proofs.Plays.{legal_play}
use Rattle.game.proofs.Bounds.{play_goes}
use Rattle.game.proofs.Kept.{kept_then}
use Rattle.store.specs.Interface.{StoreMeaning}
use Rattle.search_method.proofs.Lending.{lent_then}
use Rattle.search_method.specs.declared.kinds.Answer.{Answer}
use Rattle.search_method.specs.declared.kinds.Answer.TheVariants.{Solved}
use Rattle.search_method.specs.Tree.{Tree, done, bind, Runs}
use Rattle.search_method.specs.Search.{solve}
use Rattle.search_method.specs.declared.claim.Claim.{Claim}
use Rattle.search_method.specs.Refusals.{refusal_due}
use Rattle.search.specs.Solve.{Answers}
use Rattle.proof_method.specs.declared.state.State.{State}
use Rattle.proof_method.specs.Strategy.{bit}
use Rattle.proof_method.specs.Write.{Put, Part, next, played, number, each, walk, start, end, after_solve, Written, write_in}
use Rattle.std.proofs.lemmas.Result.{err_from_is_err_and}
use Rattle.search_method.proofs.Runs.{runs_bind}
use Rattle.proof_writer.specs.declared.refusal.WriteRefusal.{WriteRefusal}
use Rattle.proof_writer.specs.declared.walk.Writer.{Writer}
use Rattle.proof_writer.specs.Writing.{put_by, Framed, Puts, Starts, Walks, on, line_part, Plays, PlaysAll}
use Rattle.proof_writer.specs.Leaving.{Leaves}

pub leaves_then : {G S : Type 0} {g : _} {s : _} {means : G → Meaning} {line : G → Line} {a b c : Writer G S g s} →
    Leaves means line a b → Leaves means line b c → Leaves means line a c
leaves_then p q =
    record {
      references = (q.references.0 ∙ p.references.0, q.references.1 ∙ p.references.1, q.references.2 ∙ p.references.2, q.references.3 ∙ p.references.3);
      game = kept_then p.game q.game;
      claim = q.claim ∙ p.claim;
      room = q.room ∙ p.room;
      lent = lent_then p.lent q.lent;
    }

-- a legal move goes through
pub legal_goes : (m : Meaning) (l q : Line) (k : ℕ) → Present m l → Bounded m → Room m l → k < (m.view l).moves → q ≡ played_line m l k → q ≡ k ∷ l
legal_goes m l q k present bounded room legal moved = moved ∙ (legal_play m l k (play_goes m l k present bounded room legal)).line

-- a search that was not refused has run
pub answered : {S : Type 0} (𝓢 : StoreMeaning S) (tree : Tree Answer) (due : Option ℕ) (s t : S) (a : Answer) →
    Answers 𝓢 tree due s t (Ok a) → (due ≡ None) × Runs 𝓢 tree s t a
answered 𝓢 tree None s t a h = (refl, h)
answered 𝓢 tree (Some e) s t a h = absurd (grind arith)

-- what comes after a search that was not refused
pub solve_then : {S B : Type 0} (𝓢 : StoreMeaning S) (m : Meaning) (l : Line) (floor budget : ℕ) (due : Option ℕ) (s t u : S) (a : Answer) (g : Answer → Tree B) (r : B) →
    Answers 𝓢 (solve m l floor budget) due s t (Ok a) → Runs 𝓢 (g a) t u r → Runs 𝓢 (bind (solve m l floor budget) g) s u r
solve_then 𝓢 m l floor budget due s t u a g r answers next =
    runs_bind 𝓢 (solve m l floor budget) g s t u a r (answered 𝓢 (solve m l floor budget) due s t a answers).1 next

-- a whole call of write, of which no refusal was due
pub written_in : {S : Type 0} (𝓢 : StoreMeaning S) (m : Meaning) (l : Line) (floor budget room lines moves : ℕ) (s t u : S) (a : Answer) (w : Written) →
    Answers 𝓢 (solve m l floor budget) (refusal_due floor lines moves) s t (Ok a) → Runs 𝓢 (after_solve 7 m l floor budget room a) t u w →
    Runs 𝓢 (write_in lines moves m l floor budget room) s u w
written_in 𝓢 m l floor budget room lines moves s t u a w answers next =
    rw (answered 𝓢 (solve m l floor budget) (refusal_due floor lines moves) s t a answers).0
    (solve_then 𝓢 m l floor budget (refusal_due floor lines moves) s t u a (after_solve 7 m l floor budget room) w answers next)

-- bytes that are unchanged past a place are so past a later one
drop_more : (p q : ℕ) (xs ys : List ℕ) → p ≤ q → drop p xs ≡ drop p ys → drop q xs ≡ drop q ys
drop_more p q xs ys h e =
    let z : q ≡ p + (q - p) = omega arith in
    ap (λ (i : ℕ). drop i xs) z ∙ sym (drop-drop (q - p) p xs) ∙ ap (drop (q - p)) e ∙ drop-drop (q - p) p ys ∙ ap (λ (i : ℕ). drop i ys) (sym z)

-- one part after another
pub framed_then : (s t : State) (before mid after : List ℕ) (r : Result State WriteRefusal) → length mid ≡ length before →
    Framed s before mid (Ok t) → Framed t mid after r → Framed s before after r
framed_then s t before mid after (Err e) same p q = q
framed_then s t before mid after (Ok u) same p q =
    (omega (arith, p.0, q.0), omega (arith, q.1), omega (arith, p.2, q.2), q.3 ∙ drop_more t.at u.at mid before q.0 p.3)

-- a line with fuel left
pub walk_part : (m : Meaning) (claim : Claim) (l : Line) (room f : ℕ) (out : List ℕ) (n : ℕ) → 0 < f →
    walk 7 m claim.floor room claim.yes f l out n ≡ line_part m claim l room None (f - 1) out n
unfolding walk
walk_part m claim l room zero out n h = absurd (omega arith)
walk_part m claim l room (suc f) out n h = simp sub-one

module _ {S : Type 0} (𝓢 : StoreMeaning S) (m : Meaning) (claim : Claim) (l : Line) where
  -- the two numbers of the claim were put, and the walk goes on
  pub started : (best : ℕ) (s t u : State) (before mid last : List ℕ) → length mid ≡ length before → length last ≡ length mid →
      Puts claim.floor s before mid (Ok t) → Framed s before mid (Ok t) → Puts (bit claim.yes) t mid last (Ok u) → Framed t mid last (Ok u) →
      (from : S) (after : List ℕ) (to : S) (r : Result State WriteRefusal) → Walks 𝓢 m claim l (Some best) u last from after to r → Starts 𝓢 m claim l best s before from after to r
  started best s t u before mid last same again floor first verdict second from after to r walks f le =
      let walk : Part = line_part m claim l (length before) (Some best) f in
      let put = floor (number (length before) (bit claim.yes) walk) in
      let next = rw same at (verdict walk) in
      let walked = rw (again, same) at (walks f (omega (arith, first.2, second.2))) in
      rw (put, next) walked

  -- the file of what the search answered
  pub filed : (best count budget : ℕ) (before after : List ℕ) (from to : S) (r : Result State WriteRefusal) →
      Starts 𝓢 m claim l best (record { at = 0; left = budget - count }) before from after to r →
      Runs 𝓢 (after_solve 7 m l claim.floor budget (length before) (Solved claim.yes best count)) from to (end budget claim.yes (put_by after r))
  filed best count budget before after from to r starts =
      runs_bind 𝓢 (start 7 m claim.floor (length before) claim.yes l budget best [] (budget - count)) (λ x. done (end budget claim.yes x)) from to to
      (put_by after r) (end budget claim.yes (put_by after r)) (starts budget (omega arith)) (refl, refl)

  -- every move: those before k went through
  pub record Begun (start : State) (before : List ℕ) (from : S) (k : ℕ) (s : State) (mid : List ℕ) (to : S) : Type 0 where
    pub framed : Framed start before mid (Ok s)
    pub rest : (f : ℕ) → start.left ≤ f → (x : Put) (last : S) →
        Runs 𝓢 (each (on m claim l (length before) f) k ((m.view l).moves - k) (take s.at mid) s.left) to last x →
        Runs 𝓢 (each (on m claim l (length before) f) 0 (m.view l).moves (take start.at before) start.left) from last x

  -- the move k is next
  next_run : {start : State} {before : List ℕ} {from : S} {k : ℕ} {s : State} {mid : List ℕ} {to : S} → Begun start before from k s mid to →
      k < (m.view l).moves → length mid ≡ length before → (new : List ℕ) (then : S) (r : Result State WriteRefusal) → Plays 𝓢 m claim l k s mid to new then r →
      (f : ℕ) → start.left ≤ f → (x : Put) (last : S) →
      Runs 𝓢 (next (each (on m claim l (length before) f) (suc k) ((m.view l).moves - suc k)) (put_by new r)) then last x →
      Runs 𝓢 (each (on m claim l (length before) f) 0 (m.view l).moves (take start.at before) start.left) from last x
  next_run {before = before} {k = k} {s = s} {mid = mid} {to = to} so_far lt same new then r one f le x last go =
      let e : suc ((m.view l).moves - suc k) ≡ (m.view l).moves - k = omega arith in
      let one' = rw same at (one f (omega (arith, so_far.framed.2))) in
      so_far.rest f le x last
      (subst (λ (c : ℕ). Runs 𝓢 (each (on m claim l (length before) f) k c (take s.at mid) s.left) to last x) e
      (runs_bind 𝓢 (played (on m claim l (length before) f k) (take s.at mid) s.left) (next (each (on m claim l (length before) f) (suc k) ((m.view l).moves - suc k)))
      to then last (put_by new r) x one' go))

  pub begun_more : {start : State} {before : List ℕ} {from : S} {k : ℕ} {s : State} {mid : List ℕ} {to : S} → Begun start before from k s mid to →
      k < (m.view l).moves → length mid ≡ length before → (new : List ℕ) (then : S) (t : State) → Plays 𝓢 m claim l k s mid to new then (Ok t) →
      Framed s mid new (Ok t) → Begun start before from (k + 1) t new then
  begun_more {start} {before} {from} {k} {s} {mid} {to} so_far lt same new then t one frame =
      let e : suc k ≡ k + 1 = omega arith in
      record {
        framed = framed_then start s before mid new (Ok t) same so_far.framed frame;
        rest =
            λ f le x last go.
            next_run so_far lt same new then (Ok t) one f le x last
            (subst (λ (j : ℕ). Runs 𝓢 (each (on m claim l (length before) f) j ((m.view l).moves - j) (take t.at new) t.left) then last x) (sym e) go);
      }

  pub begun_fails : {start : State} {before : List ℕ} {from : S} {k : ℕ} {s : State} {mid : List ℕ} {to : S} → Begun start before from k s mid to →
      k < (m.view l).moves → length mid ≡ length before → (new : List ℕ) (then : S) (e : WriteRefusal) → Plays 𝓢 m claim l k s mid to new then (Err e) →
      (r : Result State WriteRefusal) → IsErrAnd r (λ x. x ≡ e) → PlaysAll 𝓢 m claim l start before from new then r
  begun_fails so_far lt same new then e one r is f le =
      let p = err_from_is_err_and r is in
      rw (p.1, p.2) (next_run so_far lt same new then (Err e) one f le (put_by new (Err e)) then (refl, refl))
