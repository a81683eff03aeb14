-- What write wrote is a proof.
use Rattle.std.proofs.Common.{◌≡◌, ℕ, zero, suc, ◌+◌, ◌-◌, ◌/◌, ◌%◌, ◌≤◌, Bool, true, false, cond, ltb, leb, List, [], ◌∷◌, ◌++◌, length, Some, None, Option, refl, subst, arith}
use mathlib.Core.Bool.{beq}
use Rattle.codec.specs.Numbers.{shortest, encode, Bytes}
use Rattle.codec.proofs.Numbers.{lt_of}
use Rattle.game.specs.declared.kinds.Score.{Score}
use Rattle.game.specs.Meaning.{Line, Meaning, Reachable}
use Rattle.game.specs.Laws.{Lawful, BoundedBy}
use Rattle.game.specs.Value.{black_moves}
use Rattle.store.specs.Interface.{StoreMeaning}
use Rattle.search_method.specs.declared.kinds.Answer.{Answer}
use Rattle.search_method.specs.declared.kinds.Answer.TheVariants.{Solved, OutOfBudget}
use Rattle.search_method.specs.Tree.{Tree, done, bind, Runs}
use Rattle.search_method.specs.Search.{solve}
use Rattle.search_method.specs.Truth.{AllSound}
use Rattle.proof_method.specs.Strategy.{bit}
use Rattle.proof_method.specs.Write.{Put, put, failed, Part, next, choose, played, number, each, own, by_answer, solved, at_line, walk, first, start, Written, proof, unwritten, end, after_solve, write}
use Rattle.proof_method.specs.Theorems.{Proof}
use Rattle.proof_method.proofs.Accepting.{accepts_proofs}
use Rattle.proof_method.proofs.Write.{run_parts, writes_proofs, no_stray}

joined : (xs ys : List ℕ) → Bytes xs → Bytes ys → Bytes (xs ++ ys)
joined [] ys p q = q
joined (x ∷ xs) ys p q = (p.0, joined xs ys p.1 q)

shortest_bytes : (f n : ℕ) → Bytes (shortest f n)
unfolding shortest
shortest_bytes zero n = tt
shortest_bytes (suc f) n = by (ltb n 128) refl (shortest_bytes f (n / 128))
  where
    by : (t : Bool) → ltb n 128 ≡ t → Bytes (shortest f (n / 128)) → Bytes (cond t (n ∷ []) ((n % 128 + 128) ∷ shortest f (n / 128)))
    by true e ih = (omega (arith, lt_of n 128 e), tt)
    by false e ih = (omega arith, ih)

-- what was put so far, and what was written, consists of bytes
abbrev PutBytes : Put → Type 0
PutBytes (put out n) = Bytes out
PutBytes (failed e) = Unit {0}

abbrev WrittenBytes : Written → Type 0
WrittenBytes (proof v bytes count) = Bytes bytes
WrittenBytes (unwritten e) = Unit {0}

module _ {S : Type 0} (𝓢 : StoreMeaning S) where
  -- however the store answers, the computation ends with P
  abbrev Ends : {A : Type 0} → (A → Type 0) → Tree A → Type 0
  Ends {A} P x = (s t : S) (r : A) → Runs 𝓢 x s t r → P r

  ends : {A : Type 0} (P : A → Type 0) (x : A) → P x → Ends P (done x)
  ends P x p s t r run = subst P run.1 p

  ends_bind : {A B : Type 0} (P : A → Type 0) (Q : B → Type 0) (x : Tree A) (g : A → Tree B) → Ends P x → ((a : A) → P a → Ends Q (g a)) → Ends Q (bind x g)
  ends_bind P Q x g h k s t r run =
      let q = run_parts 𝓢 x g s t r run in
      k q.0 (h s q.1 q.0 q.2) q.1 t r q.3

  -- a part that goes on from bytes puts bytes
  abbrev Puts : Part → Type 0
  Puts p = (out : List ℕ) (n : ℕ) → Bytes out → Ends PutBytes (p out n)

  choose_puts : (b : Bool) (x y : Tree Put) → Ends PutBytes x → Ends PutBytes y → Ends PutBytes (choose b x y)
  choose_puts true x y p q = p
  choose_puts false x y p q = q

  fail_puts : (e : ℕ) → Ends PutBytes (done (failed e))
  fail_puts e = ends PutBytes (failed e) tt

  played_puts : (p : Part) → Puts p → Puts (played p)
  played_puts p h out zero ok = fail_puts 7
  played_puts p h out (suc n) ok = h out n ok

  number_puts : (room k : ℕ) (p : Part) → Puts p → Puts (number room k p)
  number_puts room k p h out n ok =
      choose_puts (leb (length out + length (encode k)) room) (p (out ++ encode k) n) (done (failed 8))
      (h (out ++ encode k) n (joined out (encode k) ok (shortest_bytes 5 k))) (fail_puts 8)

  next_puts : (p : Part) → Puts p → (x : Put) → PutBytes x → Ends PutBytes (next p x)
  next_puts p h (put out n) ok = h out n ok
  next_puts p h (failed e) ok = fail_puts e

  each_puts : (go : ℕ → Part) → ((k : ℕ) → Puts (go k)) → (r k : ℕ) → Puts (each go k r)
  each_puts go h zero k out n ok = ends PutBytes (put out n) ok
  each_puts go h (suc r) k out n ok =
      ends_bind PutBytes PutBytes (played (go k) out n) (next (each go (suc k) r)) (played_puts (go k) (h k) out n ok)
      (next_puts (each go (suc k) r) (each_puts go h r (suc k)))

  module _ (stray : ℕ) (m : Meaning) (floor room : ℕ) (v : Bool) where
    module _ (l : Line) (go : ℕ → Part) (h : (k : ℕ) → Puts (go k)) where
      own_puts : (k : ℕ) → Puts (own stray m floor room v l go k)
      own_puts k out n ok =
          choose_puts (ltb k (m.view l).moves) (number room k (played (go k)) out n) (done (failed stray))
          (number_puts room k (played (go k)) (played_puts (go k) (h k)) out n ok) (fail_puts stray)

      solved_puts : Puts (solved stray m floor room v l go)
      solved_puts out n ok =
          ends_bind (λ a. Unit {0}) PutBytes (solve m l floor n) (by_answer stray m floor room v l go out n) (λ s t r run. tt) by
        where
          by : (a : Answer) → Unit {0} → Ends PutBytes (by_answer stray m floor room v l go out n a)
          by (Solved w k count) x = own_puts k out (n - count) ok
          by (OutOfBudget count) x = fail_puts 7

      line_puts : (mine : Part) → Puts mine → (o : Option Score) → Puts (at_line stray m floor room v l go mine o)
      line_puts mine p (Some s) out n ok = ends PutBytes (put out n) ok
      line_puts mine p None out n ok =
          choose_puts (beq (black_moves (m.view l)) v) (mine out n) (each go 0 (m.view l).moves out n) (p out n ok)
          (each_puts go h (m.view l).moves 0 out n ok)

    walk_puts : (f : ℕ) (l : Line) → Puts (walk stray m floor room v f l)
    unfolding walk
    walk_puts zero l out n ok = fail_puts 7
    walk_puts (suc f) l out n ok =
        let go : ℕ → Part = λ k. walk stray m floor room v f (k ∷ l) in
        let h : (k : ℕ) → Puts (go k) = λ k. walk_puts f (k ∷ l) in
        line_puts l go h (solved stray m floor room v l go) (solved_puts l go h) (m.view l).score out n ok

    start_puts : (l : Line) (f k : ℕ) → Puts (start stray m floor room v l f k)
    start_puts l f k =
        let go : ℕ → Part = λ j. walk stray m floor room v f (j ∷ l) in
        let h : (j : ℕ) → Puts (go j) = λ j. walk_puts f (j ∷ l) in
        number_puts room floor (number room (bit v) (first stray m floor room v l f k))
        (number_puts room (bit v) (first stray m floor room v l f k)
        (line_puts l go h (own stray m floor room v l go k) (own_puts l go h k) (m.view l).score))

  write_bytes : (m : Meaning) (l : Line) (floor budget room : ℕ) → Ends WrittenBytes (write m l floor budget room)
  write_bytes m l floor budget room =
      ends_bind (λ a. Unit {0}) WrittenBytes (solve m l floor budget) (after_solve 7 m l floor budget room) (λ s t r run. tt) by
    where
      finish : (v : Bool) (x : Put) → PutBytes x → Ends WrittenBytes (done (end budget v x))
      finish v (put out n) ok = ends WrittenBytes (proof v out (budget - n)) ok
      finish v (failed e) ok = ends WrittenBytes (unwritten e) tt

      by : (a : Answer) → Unit {0} → Ends WrittenBytes (after_solve 7 m l floor budget room a)
      by (OutOfBudget count) x = ends WrittenBytes (unwritten 7) tt
      by (Solved v k count) x =
          ends_bind PutBytes WrittenBytes (start 7 m floor room v l budget k [] (budget - count)) (λ y. done (end budget v y))
          (start_puts 7 m floor room v l budget k [] (budget - count) tt) (finish v)

abbrev pub WritesAt : Meaning → Line → ℕ → Written → Type 0
WritesAt m l floor (proof v bytes count) = (p : ℕ) × Proof m l bytes floor v p
WritesAt m l floor (unwritten n) = Unit {0}

-- over a sound store: what was written is a proof, and the store is sound again
pub writes_a_proof : {S : Type 0} (𝓢 : StoreMeaning S) (m : Meaning) (H : ℕ) → Lawful m → BoundedBy m H → (l : Line) → Reachable m l →
    (floor : ℕ) → 1 ≤ floor → floor ≤ 2 → (budget room : ℕ) (s t : S) (r : Written) →
    AllSound 𝓢 m H s → Runs 𝓢 (write m l floor budget room) s t r → WritesAt m l floor r × AllSound 𝓢 m H t
writes_a_proof 𝓢 m H lawful law l r floor low high budget room s t (unwritten n) all run =
    (tt, (no_stray 𝓢 m H lawful law l r floor low high 7 budget room s t n all run).1)
writes_a_proof 𝓢 m H lawful law l r floor low high budget room s t (proof v bytes count) all run =
    let q = writes_proofs 𝓢 m H lawful law l r floor low high budget room s t v bytes count all run in
    let p = q.0 in
    let ok = write_bytes 𝓢 m l floor budget room s t (proof v bytes count) run in
    ((p.0, (accepts_proofs.only m l bytes budget floor (length bytes) p.0 v ok p.2).0), q.2)
