-- What write wrote is the file of a winning strategy, so that check accepts it; and no stray move is ever found.
use Rattle.std.proofs.Common.{◌≡◌, ℕ, zero, suc, ◌+◌, ◌-◌, ◌<◌, ◌≤◌, Bool, true, false, not, leb, ◌⊎◌, List, [], ◌∷◌, ◌++◌, length, Some, None, Option, sym, refl, ap, ◌∙◌, subst, inl, inr, append_assoc, append-nil, arith, length-append}
use mathlib.Core.Bool.{beq}
use Rattle.codec.specs.Numbers.{encode}
use Rattle.codec.proofs.Numbers.{ltb-true}
use Rattle.game.specs.declared.kinds.Score.{Score}
use Rattle.game.specs.Meaning.{Line, Meaning, Reachable}
use Rattle.game.specs.Laws.{Lawful, BoundedBy}
use Rattle.game.specs.Value.{best, black_moves, value, at_least}
use Rattle.std.proofs.lemmas.Bool.{leb-true}
use Rattle.game.proofs.Value.{value_over, value_step, one_settles}
use Rattle.store.specs.Interface.{StoreMeaning}
use Rattle.search_method.specs.declared.kinds.Answer.{Answer}
use Rattle.search_method.specs.declared.kinds.Answer.TheVariants.{Solved, OutOfBudget}
use Rattle.search_method.specs.Tree.{Tree, done, ask, note, bind, Runs}
use Rattle.search_method.specs.Search.{solve}
use Rattle.search_method.specs.Truth.{Right, RightVerdict, AllSound}
use Rattle.search_method.proofs.Truth.{verdicts_true}
use Rattle.proof_method.specs.Strategy.{Strategy, over, move, replies, join, written, total, plays, Wins, bit, file}
use Rattle.proof_method.specs.Write.{Put, put, failed, Part, next, choose, played, number, each, own, by_answer, solved, at_line, walk, first, start, Written, proof, unwritten, end, after_solve, write_by}
use Rattle.proof_method.specs.Writing.{WritesProofs, ClaimFound, NoStray}
use Rattle.std.proofs.Math.Bool.{not-not}
use Rattle.proof_method.proofs.Bools.{beq_same, beq_other}
use Rattle.proof_method.proofs.Walk.{first_then, wins_then}
use Rattle.proof_method.proofs.Accepting.{accepts_proofs}

-- the runs of the parts of a run
pub run_parts : {S A B : Type 0} (𝓢 : StoreMeaning S) (x : Tree A) (g : A → Tree B) (s u : S) (r : B) → Runs 𝓢 (bind x g) s u r →
    (a : A) × (t : S) × Runs 𝓢 x s t a × Runs 𝓢 (g a) t u r
run_parts 𝓢 (done y) g s u r run = (y, s, (refl, refl), run)
run_parts 𝓢 (ask k f) g s u r run = run_parts 𝓢 (f (𝓢.shows s k)) g s u r run
run_parts 𝓢 (note e x) g s u r run =
    let q = run_parts 𝓢 x g run.0 u r run.2 in
    (q.0, q.1, (run.0, run.1, q.2), q.3)

-- a winning strategy at l was put after `out`, and its plays and those left are at most n
record Laid (m : Meaning) (floor : ℕ) (v : Bool) (room : ℕ) (l : Line) (out : List ℕ) (n : ℕ) (after : List ℕ) (left : ℕ) : Type 0 where
  strategy : Strategy
  wins : Wins m floor v l strategy
  form : after ≡ out ++ written strategy
  cost : plays strategy + left ≤ n
  fits : length after ≤ room

-- the same for r moves from k on
record LaidEach (m : Meaning) (floor : ℕ) (v : Bool) (room : ℕ) (l : Line) (k r : ℕ) (out : List ℕ) (n : ℕ) (after : List ℕ) (left : ℕ) : Type 0 where
  strategies : ℕ → Strategy
  win : (j : ℕ) → j < r → Wins m floor v ((j + k) ∷ l) (strategies j)
  form : after ≡ out ++ join (λ j. written (strategies j)) r
  cost : total (λ j. plays (strategies j)) r + left ≤ n
  fits : length after ≤ room

-- a part fails only with 7 or 8
abbrev Ordinary : ℕ → Type 0
Ordinary n = (n ≡ 7) ⊎ (n ≡ 8)

abbrev IfPut : (List ℕ → ℕ → Type 0) → Put → Type 0
IfPut P (put out n) = P out n
IfPut P (failed n) = Ordinary n

-- a verdict against the side on turn holds after each of its moves
all_keep : (floor : ℕ) (b : Bool) (n : ℕ) (g : ℕ → ℕ) (k : ℕ) → k < n → leb floor (best b n g) ≡ not b → leb floor (g k) ≡ not b
all_keep floor b n g k h e =
    let one = one_settles floor b n g k h in
    grind arith

module _ {S : Type 0} (𝓢 : StoreMeaning S) (m : Meaning) (H : ℕ) (lawful : Lawful m) (law : BoundedBy m H)
    (stray : ℕ) (floor : ℕ) (low : 1 ≤ floor) (high : floor ≤ 2) (room : ℕ) where
  -- from every sound state the tree runs to an answer with P, and to a sound state
  abbrev Holds : {A : Type 0} → (A → Type 0) → Tree A → Type 0
  Holds {A} P x = (s t : S) (r : A) → AllSound 𝓢 m H s → Runs 𝓢 x s t r → P r × AllSound 𝓢 m H t

  ends : {A : Type 0} (P : A → Type 0) (x : A) → P x → Holds P (done x)
  ends P x p s t r all run = (subst P run.1 p, subst (AllSound 𝓢 m H) run.0 all)

  holds_bind : {A B : Type 0} (P : A → Type 0) (Q : B → Type 0) (x : Tree A) (g : A → Tree B) →
      Holds P x → ((a : A) → P a → Holds Q (g a)) → Holds Q (bind x g)
  holds_bind P Q x g h k s t r all run =
      let q = run_parts 𝓢 x g s t r run in
      let a = h s q.1 q.0 all q.2 in
      k q.0 a.0 q.1 t r a.1 q.3

  holds_map : {A : Type 0} (P Q : A → Type 0) (x : Tree A) → ((a : A) → P a → Q a) → Holds P x → Holds Q x
  holds_map P Q x f h s t r all run = let a = h s t r all run in (f r a.0, a.1)

  number_holds : (P : Put → Type 0) (j : ℕ) (p : Part) (out : List ℕ) (n : ℕ) → P (failed 8) →
      (length (out ++ encode j) ≤ room → Holds P (p (out ++ encode j) n)) → Holds P (number room j p out n)
  number_holds P j p out n no_room h = by (leb (length out + length (encode j)) room) refl
    where
      by : (t : Bool) → leb (length out + length (encode j)) room ≡ t → Holds P (choose t (p (out ++ encode j) n) (done (failed 8)))
      by false z = ends P (failed 8) no_room
      by true z = h (omega (arith, length-append out (encode j), leb-true (length out + length (encode j)) room z))

  module _ (v : Bool) where
    abbrev LaidAt : Line → List ℕ → ℕ → Put → Type 0
    LaidAt l out n = IfPut (Laid m floor v room l out n)

    abbrev EachAt : Line → ℕ → ℕ → List ℕ → ℕ → Put → Type 0
    EachAt l k r out n = IfPut (LaidEach m floor v room l k r out n)

    abbrev Lays : Line → Part → Type 0
    Lays l p = (out : List ℕ) (n : ℕ) → length out ≤ room → Holds (LaidAt l out n) (p out n)

    module _ (l : Line) (go : ℕ → Part) where
      own_lays : (k : ℕ) → (m.view l).score ≡ None → black_moves (m.view l) ≡ v → k < (m.view l).moves → Lays (k ∷ l) (go k) →
          Lays l (own stray m floor room v l go k)
      own_lays k s b legal lays out n fit =
          rw (ltb-true k (m.view l).moves legal)
          (number_holds (LaidAt l out n) k (played (go k)) out n (inr refl) (plays_on n (omega arith)))
        where
          moved : (c : ℕ) → suc c ≤ n → (x : Put) → LaidAt (k ∷ l) (out ++ encode k) c x → LaidAt l out n x
          moved c h (failed e) q = q
          moved c h (put after left) q =
              record {
                strategy = move k q.strategy;
                wins = (s, b, legal, q.wins);
                form = q.form ∙ append_assoc out (encode k) (written q.strategy);
                cost = omega (arith, q.cost);
                fits = q.fits;
              }

          plays_on : (c : ℕ) → c ≤ n → length (out ++ encode k) ≤ room → Holds (LaidAt l out n) (played (go k) (out ++ encode k) c)
          plays_on zero h fit' = ends (LaidAt l out n) (failed 7) (inl refl)
          plays_on (suc c) h fit' =
              holds_map (LaidAt (k ∷ l) (out ++ encode k) c) (LaidAt l out n) (go k (out ++ encode k) c) (moved c h)
              (lays (out ++ encode k) c fit')

      each_lays : (lays : (k : ℕ) → k < (m.view l).moves → Lays (k ∷ l) (go k)) →
          (r k : ℕ) → r + k ≤ (m.view l).moves → (out : List ℕ) (n : ℕ) → length out ≤ room → Holds (EachAt l k r out n) (each go k r out n)
      each_lays lays zero k h out n fit =
          ends (EachAt l k 0 out n) (put out n)
          (record { strategies = λ j. over; win = λ j x. absurd (omega arith); form = sym (append-nil out); cost = omega arith; fits = fit })
      each_lays lays (suc r) k h out zero fit = ends (EachAt l k (suc r) out 0) (failed 7) (inl refl)
      each_lays lays (suc r) k h out (suc n) fit =
          holds_bind (LaidAt (k ∷ l) out n) (EachAt l k (suc r) out (suc n)) (go k out n) (next (each go (suc k) r))
          (lays k (omega arith) out n fit)
          (λ x q. by x q (λ out' n' fit'. each_lays lays r (suc k) (omega arith) out' n' fit'))
        where
          joined : (mid : List ℕ) (c : ℕ) → Laid m floor v room (k ∷ l) out n mid c → (x : Put) → EachAt l (suc k) r mid c x → EachAt l k (suc r) out (suc n) x
          joined mid c q (failed e) a = a
          joined mid c q (put after left) a =
              record {
                strategies = first_then q.strategy a.strategies;
                win = wins_then m floor v l k r q.strategy a.strategies q.wins a.win;
                form =
                    a.form
                    ∙ ap (λ (y : List ℕ). y ++ join (λ j. written (a.strategies j)) r) q.form
                    ∙ append_assoc out (written q.strategy) (join (λ j. written (a.strategies j)) r);
                cost = omega (arith, q.cost, a.cost);
                fits = a.fits;
              }

          by : (x : Put) → LaidAt (k ∷ l) out n x →
              ((out : List ℕ) (n : ℕ) → length out ≤ room → Holds (EachAt l (suc k) r out n) (each go (suc k) r out n)) →
              Holds (EachAt l k (suc r) out (suc n)) (next (each go (suc k) r) x)
          by (failed e) q ih = ends (EachAt l k (suc r) out (suc n)) (failed e) q
          by (put mid c) q ih =
              holds_map (EachAt l (suc k) r mid c) (EachAt l k (suc r) out (suc n)) (each go (suc k) r mid c) (joined mid c q) (ih mid c q.fits)

      line_lays : (mine : Part) → Reachable m l → at_least m H floor l ≡ v →
          ((k : ℕ) → k < (m.view l).moves → at_least m H floor (k ∷ l) ≡ v → Lays (k ∷ l) (go k)) →
          ((m.view l).score ≡ None → black_moves (m.view l) ≡ v → Lays l mine) →
          (o : Option Score) → (m.view l).score ≡ o → Lays l (at_line stray m floor room v l go mine o)
      line_lays mine r e lays claims (Some s) z out n fit =
          ends (LaidAt l out n) (put out n)
          (record {
            strategy = over;
            wins = (s, z, ap (leb floor) (sym (value_over m H l s z)) ∙ e);
            form = sym (append-nil out);
            cost = omega arith;
            fits = fit;
          })
      line_lays mine r e lays claims None z out n fit = by (beq (black_moves (m.view l)) v) refl
        where
          all : black_moves (m.view l) ≡ not v → (x : Put) → EachAt l 0 (m.view l).moves out n x → LaidAt l out n x
          all b (failed e) a = a
          all b (put after left) a =
              record {
                strategy = replies (m.view l).moves a.strategies;
                wins = (z, b, refl, λ k h. subst (λ (i : ℕ). Wins m floor v (i ∷ l) (a.strategies k)) (omega arith) (a.win k h));
                form = a.form;
                cost = a.cost;
                fits = a.fits;
              }

          other : black_moves (m.view l) ≡ not v → not (black_moves (m.view l)) ≡ v
          other b = ap not b ∙ not-not v

          kept : black_moves (m.view l) ≡ not v → (k : ℕ) → k < (m.view l).moves → at_least m H floor (k ∷ l) ≡ v
          kept b k h =
              all_keep floor (black_moves (m.view l)) (m.view l).moves (λ j. value m H (j ∷ l)) k h
              (ap (leb floor) (sym (value_step m H lawful law l r z)) ∙ e ∙ sym (other b))
              ∙ other b

          by : (t : Bool) → beq (black_moves (m.view l)) v ≡ t → Holds (LaidAt l out n) (choose t (mine out n) (each go 0 (m.view l).moves out n))
          by true y = claims z (beq_same (black_moves (m.view l)) v y) out n fit
          by false y =
              let b = beq_other (black_moves (m.view l)) v y in
              holds_map (EachAt l 0 (m.view l).moves out n) (LaidAt l out n) (each go 0 (m.view l).moves out n) (all b)
              (each_lays (λ k h. lays k h (kept b k h)) (m.view l).moves 0 (omega arith) out n fit)

    -- fewer plays were left
    later : (l : Line) (out : List ℕ) (c n : ℕ) → c ≤ n → (x : Put) → LaidAt l out c x → LaidAt l out n x
    later l out c n h (failed e) q = q
    later l out c n h (put after left) q =
        record { strategy = q.strategy; wins = q.wins; form = q.form; cost = omega (arith, q.cost); fits = q.fits }

    -- the move of a right verdict is legal and keeps the claim
    answer_lays : (l : Line) (go : ℕ → Part) → at_least m H floor l ≡ v → (m.view l).score ≡ None → black_moves (m.view l) ≡ v →
        ((k : ℕ) → k < (m.view l).moves → at_least m H floor (k ∷ l) ≡ v → Lays (k ∷ l) (go k)) →
        (w : Bool) (k : ℕ) → RightVerdict m H floor l w k → Lays l (own stray m floor room v l go k)
    answer_lays l go e z b lays w k right =
        let same : w ≡ v = sym right.value ∙ e in
        let found = right.keeps z (same ∙ sym b) in
        own_lays l go k z b found.0 (lays k found.0 (found.1 ∙ same))

    -- a later turn of the claiming side: the move is solved for
    solve_lays : (l : Line) (go : ℕ → Part) → Reachable m l → at_least m H floor l ≡ v →
        ((k : ℕ) → k < (m.view l).moves → at_least m H floor (k ∷ l) ≡ v → Lays (k ∷ l) (go k)) →
        (m.view l).score ≡ None → black_moves (m.view l) ≡ v → Lays l (solved stray m floor room v l go)
    solve_lays l go r e lays z b out n fit =
        holds_bind (Right m H floor l) (LaidAt l out n) (solve m l floor n) (by_answer stray m floor room v l go out n)
        (λ s t a all run. verdicts_true 𝓢 m H lawful law l r floor low high n s t a all run) by
      where
        by : (a : Answer) → Right m H floor l a → Holds (LaidAt l out n) (by_answer stray m floor room v l go out n a)
        by (OutOfBudget count) right = ends (LaidAt l out n) (failed 7) (inl refl)
        by (Solved w k count) right =
            holds_map (LaidAt l out (n - count)) (LaidAt l out n) (own stray m floor room v l go k out (n - count)) (later l out (n - count) n (omega arith))
            (answer_lays l go e z b lays w k right out (n - count) fit)

    walk_lays : (f : ℕ) (l : Line) → Reachable m l → at_least m H floor l ≡ v → Lays l (walk stray m floor room v f l)
    unfolding walk
    walk_lays zero l r e out n fit = ends (LaidAt l out n) (failed 7) (inl refl)
    walk_lays (suc f) l r e out n fit =
        line_lays l go (solved stray m floor room v l go) r e
        (λ k h x. walk_lays f (k ∷ l) (r, h) x)
        (solve_lays l go r e (λ k h x. walk_lays f (k ∷ l) (r, h) x)) (m.view l).score refl out n fit
      where
        go : ℕ → Part
        go k = walk stray m floor room v f (k ∷ l)

  -- a whole proof at l with at most `count` plays
  record Filed (l : Line) (v : Bool) (bytes : List ℕ) (count : ℕ) : Type 0 where
    strategy : Strategy
    wins : Wins m floor v l strategy
    form : bytes ≡ file floor v strategy
    cost : plays strategy ≤ count
    fits : length bytes ≤ room

  abbrev FiledAt : Line → ℕ → Written → Type 0
  FiledAt l budget (proof v bytes count) = Filed l v bytes count × (count ≤ budget)
  FiledAt l budget (unwritten n) = Ordinary n

  start_files : (l : Line) (f n k : ℕ) (v : Bool) → Reachable m l → RightVerdict m H floor l v k → (budget : ℕ) → n ≤ budget →
      Holds (FiledAt l budget) (bind (start stray m floor room v l f k [] n) (λ x. done (end budget v x)))
  start_files l f n k v r right budget h =
      holds_bind (LaidAt v l header n) (FiledAt l budget) (start stray m floor room v l f k [] n) (λ x. done (end budget v x))
      (number_holds (LaidAt v l header n) floor (number room (bit v) begin) [] n (inr refl)
      (λ x. number_holds (LaidAt v l header n) (bit v) begin (encode floor) n (inr refl) begun))
      ended
    where
      header : List ℕ
      header = encode floor ++ encode (bit v)

      go : ℕ → Part
      go j = walk stray m floor room v f (j ∷ l)

      begin : Part
      begin = first stray m floor room v l f k

      lays : (j : ℕ) → j < (m.view l).moves → at_least m H floor (j ∷ l) ≡ v → Lays v (j ∷ l) (go j)
      lays j x e = walk_lays v f (j ∷ l) (r, x) e

      begun : length header ≤ room → Holds (LaidAt v l header n) (begin header n)
      begun fit =
          line_lays v l go (own stray m floor room v l go k) r right.value lays
          (λ z b. answer_lays v l go right.value z b lays v k right) (m.view l).score refl header n fit

      ended : (x : Put) → LaidAt v l header n x → Holds (FiledAt l budget) (done (end budget v x))
      ended (failed e) q = ends (FiledAt l budget) (unwritten e) q
      ended (put after left) q =
          ends (FiledAt l budget) (proof v after (budget - left)) (
            record {
              strategy = q.strategy;
              wins = q.wins;
              form = q.form ∙ append_assoc (encode floor) (encode (bit v)) (written q.strategy);
              cost = omega (arith, q.cost);
              fits = q.fits;
            },
            omega arith,
          )

  write_files : (l : Line) (budget : ℕ) → Reachable m l → Holds (FiledAt l budget) (write_by stray m l floor budget room)
  write_files l budget r =
      holds_bind (Right m H floor l) (FiledAt l budget) (solve m l floor budget) (after_solve stray m l floor budget room)
      (λ s t a all run. verdicts_true 𝓢 m H lawful law l r floor low high budget s t a all run) by
    where
      by : (a : Answer) → Right m H floor l a → Holds (FiledAt l budget) (after_solve stray m l floor budget room a)
      by (OutOfBudget count) right = ends (FiledAt l budget) (unwritten 7) (inl refl)
      by (Solved v k count) right = start_files l budget (budget - count) k v r right budget (omega arith)

pub writes_proofs : {S : Type 0} (𝓢 : StoreMeaning S) → WritesProofs 𝓢
writes_proofs 𝓢 m H lawful law l r floor low high budget room s t v bytes count all run =
    let g = write_files 𝓢 m H lawful law 7 floor low high room l budget r s t (proof v bytes count) all run in
    let q = g.0.0 in (
      (
        plays q.strategy,
        q.cost,
        accepts_proofs.all m l bytes budget floor (plays q.strategy) v (λ l r. (lawful.fit l r).moves) r
            (record { strategy = q.strategy; low = low; high = high; wins = q.wins; form = q.form; cost = refl })
            (omega (arith, q.cost, g.0.1)),
      ),
      q.fits,
      g.1,
    )

pub no_stray : {S : Type 0} (𝓢 : StoreMeaning S) → NoStray 𝓢
no_stray 𝓢 m H lawful law l r floor low high stray budget room s t n all run =
    write_files 𝓢 m H lawful law stray floor low high room l budget r s t (unwritten n) all run

pub claim_found : {S : Type 0} (𝓢 : StoreMeaning S) → ClaimFound 𝓢
claim_found 𝓢 m H lawful law l r floor low high budget s t v w k count all z b true_here run =
    let right = (verdicts_true 𝓢 m H lawful law l r floor low high budget s t (Solved w k count) all run).0 in
    let same : w ≡ v = sym right.value ∙ true_here in
    let found = right.keeps z (same ∙ sym b) in
    (same, found.0, found.1 ∙ same)
