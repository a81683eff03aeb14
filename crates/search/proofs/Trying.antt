-- Simulation: what a line comes to by its step, and the moves that are tried.
use Rattle.std.proofs.Common.{◌≡◌, ℕ, zero, suc, ◌+◌, ◌-◌, ◌<◌, ◌≤◌, Bool, true, false, cond, ◌&&◌, ltb, ◌∷◌, Some, None, Option, sym, refl, ap, ◌∙◌, arith}
use mathlib.Core.Bool.{beq}
use Rattle.game.specs.Meaning.{Line, Meaning}
use Rattle.game.specs.Laws.{Bounded, Room}
use Rattle.game.specs.Value.{black_moves}
use Rattle.store.specs.Interface.{StoreMeaning}
use Rattle.store.specs.declared.entry.Entry.{Entry}
use Rattle.store.specs.declared.entry.Finding.{Finding}
use Rattle.store.specs.declared.entry.Finding.TheVariants.{Verdict, Open}
use Rattle.search_method.specs.Search.{Part, give, either, played, every, decide, settles, claim_by, by_entry, holds_at, simulate, moves_left}
use Rattle.search.specs.declared.searcher.Searcher.{Searcher}
use Rattle.search.specs.declared.simulation.Step.{Step}
use Rattle.search.specs.declared.simulation.Step.TheVariants.{Stop, One, All}
use Rattle.search.specs.Moves.{here, Leaves}
use Rattle.search.specs.Does.{At, Reads}
use Rattle.search.specs.Parts.{after, simulation, holding, all_holding}
use Rattle.search.specs.Steps.{step_without, step_by, step_of, go_by}
use Rattle.search.proofs.Doing.{moves_left_lem, less_left, leaves_then, reads_give, reads_as, reads_then, reads_exhausted}

-- what a step comes to, where `go` simulates one move on
abbrev stepped : (ℕ → Part Bool) → Step → Part Bool
stepped go (Stop held) = give held
stepped go (One k) = played (go k)
stepped go (All n) = every go 0 n

-- what a line that is not over comes to is what its step comes to
module _ (m : Meaning) (go : Line → Part Bool) (l : Line) (v : Bool) (n : ℕ) where
  without : (b : Bool) → either b (give false) (every (λ k. go (k ∷ l)) 0 (m.view l).moves) n ≡ stepped (λ k. go (k ∷ l)) (step_without b (m.view l).moves) n
  without true = refl
  without false = refl

  verdict_step : (b w c : Bool) (k : ℕ) →
      decide v (settles m l (Verdict w c k)) (either b (claim_by m go l v (Verdict w c k)) (every (λ k. go (k ∷ l)) 0 (m.view l).moves)) n
      ≡ stepped (λ k. go (k ∷ l)) (step_by b (m.view l).moves (m.view l).independent v (Verdict w c k)) n
  verdict_step b w c k = by (c && (m.view l).independent) b (beq w v && ltb k (m.view l).moves)
    where
      by : (x b y : Bool) →
          decide v (cond x (Some w) None) (either b (either y (played (go (k ∷ l))) (give false)) (every (λ k. go (k ∷ l)) 0 (m.view l).moves)) n
          ≡ stepped (λ k. go (k ∷ l)) (cond x (Stop (beq w v)) (cond b (cond y (One k) (Stop false)) (All (m.view l).moves))) n
      by true b y = refl
      by false true true = refl
      by false true false = refl
      by false false y = refl

  entry_step : (f : Finding) →
      decide v (settles m l f) (either (beq v (black_moves (m.view l))) (claim_by m go l v f) (every (λ k. go (k ∷ l)) 0 (m.view l).moves)) n
      ≡ stepped (λ k. go (k ∷ l)) (step_by (beq v (black_moves (m.view l))) (m.view l).moves (m.view l).independent v f) n
  entry_step (Open p d) = without (beq v (black_moves (m.view l)))
  entry_step (Verdict w c k) = verdict_step (beq v (black_moves (m.view l))) w c k

  by_step : (o : Option Entry) → by_entry m go l v o n ≡ stepped (λ k. go (k ∷ l)) (step_of (m.view l) v o) n
  by_step None = without (beq v (black_moves (m.view l)))
  by_step (Some e) = entry_step e.finding

-- with moves left, a simulation is one step
simulate_more : (m : Meaning) (floor h : ℕ) (l : Line) (v : Bool) (o : Option Entry) (n : ℕ) → 0 < h →
    simulate m floor h l v o n ≡ by_entry m (λ q. holds_at m floor (simulate m floor (h - 1) q v) q v) l v o n
unfolding simulate
simulate_more m floor zero l v o n pos = absurd (omega arith)
simulate_more m floor (suc h) l v o n pos =
    ap (λ j. by_entry m (λ q. holds_at m floor (simulate m floor j q v) q v) l v o n) (omega arith)

goes_by : (m : Meaning) (floor : ℕ) (l : Line) (v : Bool) (s : Step) →
    stepped (λ k. holds_at m floor (simulate m floor (moves_left m l - 1) (k ∷ l) v) (k ∷ l) v) s ≡ go_by v s m floor l
goes_by m floor l v (Stop held) = refl
goes_by m floor l v (One k) = λ i. played (holds_at m floor (simulate m floor (less_left m l k i) (k ∷ l) v) (k ∷ l) v)
goes_by m floor l v (All n) = λ i. every (λ k. holds_at m floor (simulate m floor (less_left m l k i) (k ∷ l) v) (k ∷ l) v) 0 n

module _ {G S : Type 0} (means : G → Meaning) (line : G → Line) (𝓢 : StoreMeaning S) where
  -- what `try_move` does, and what is done of n moves from k on
  abbrev pub Tried : Bool → ℕ → Searcher G S → Option Bool → Searcher G S → Type 0
  Tried v k a r b = Reads means line 𝓢 (after k (holding v)) a r b

  abbrev pub Tries : Bool → ℕ → ℕ → Searcher G S → Option Bool → Searcher G S → Type 0
  Tries v k n a r b = Reads means line 𝓢 (all_holding v k n) a r b

  -- from a to b the moves before k were tried and hold: however the rest ends, so does the whole
  pub record Trying (v : Bool) (moves k : ℕ) (a b : Searcher G S) : Type 0 where
    pub leaves : Leaves means line a b
    pub rest : (r : Option Bool) (c : Searcher G S) → Tries v k (moves - k) b r c → Tries v 0 moves a r c

-- after the move k: what is left where it holds, and what the whole comes to where it does not
abbrev onward : Bool → ℕ → ℕ → Bool → At Bool
onward v k n held m floor l = either held (all_holding v k n m floor l) (give false)

module _ {G S : Type 0} {means : G → Meaning} {line : G → Line} {𝓢 : StoreMeaning S} where
  -- what `simulate` does, by what is done for its step
  pub simulates : (v : Bool) (o : Option Entry) {step : Step} {a b : Searcher G S} {r : Option Bool}
      → Bounded (means a.game.now) → Room (means a.game.now) (line a.game.now) → (here means line a).score ≡ None → step ≡ step_of (here means line a) v o
      → Reads means line 𝓢 (go_by v step) a r b → Reads means line 𝓢 (simulation v o) a r b
  simulates v o {step} {a} bounded room going e h =
      let m : Meaning = means a.game.now in
      let l : Line = line a.game.now in
      reads_as (simulation v o) (go_by v step)
      (simulate_more m a.floor (moves_left m l) l v o a.left (moves_left_lem m l bounded room going)
      ∙ by_step m (λ q. holds_at m a.floor (simulate m a.floor (moves_left m l - 1) q v) q v) l v a.left o
      ∙ (λ i. goes_by m a.floor l v (sym e i) i a.left)) h

  module _ {v : Bool} {moves k : ℕ} {a b : Searcher G S} where
    -- the rest, where it begins with the move k
    rest_from : k < moves → Trying means line 𝓢 v moves k a b
        → (r : Option Bool) (c : Searcher G S) → Tries means line 𝓢 v k (suc (moves - suc k)) b r c → Tries means line 𝓢 v 0 moves a r c
    rest_from lt so_far r c h =
        let e : moves - k ≡ suc (moves - suc k) = omega arith in
        so_far.rest r c (rw e h)

    pub trying_more : {c : Searcher G S} → k < moves → Trying means line 𝓢 v moves k a b → Tried means line 𝓢 v k b (Some true) c → Trying means line 𝓢 v moves (k + 1) a c
    trying_more lt so_far one =
        let up : k + 1 ≡ suc k = omega arith in
        record {
          leaves = leaves_then so_far.leaves one.does.leaves;
          rest = λ r d h. rest_from lt so_far r d (reads_then (after k (holding v)) (onward v (suc k) (moves - suc k)) one (rw up at h));
        }

    pub trying_fails : {c : Searcher G S} → k < moves → Trying means line 𝓢 v moves k a b → Tried means line 𝓢 v k b (Some false) c → Tries means line 𝓢 v 0 moves a (Some false) c
    trying_fails {c} lt so_far one =
        rest_from lt so_far (Some false) c (reads_then (after k (holding v)) (onward v (suc k) (moves - suc k)) one (reads_give false c))

    pub trying_exhausted : {c : Searcher G S} → k < moves → Trying means line 𝓢 v moves k a b → Tried means line 𝓢 v k b None c → Tries means line 𝓢 v 0 moves a None c
    trying_exhausted {c} lt so_far one =
        rest_from lt so_far None c (reads_exhausted (after k (holding v)) (onward v (suc k) (moves - suc k)) one)

    pub trying_all : moves ≤ k → Trying means line 𝓢 v moves k a b → Tries means line 𝓢 v 0 moves a (Some true) b
    trying_all le so_far =
        let e : moves - k ≡ 0 = omega arith in
        so_far.rest (Some true) b (rw e (reads_give true b))
