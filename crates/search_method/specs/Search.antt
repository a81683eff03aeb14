-- The search: a computation over a store, defined for any budget of plays and any answers of the store.
use Rattle.std.specs.Prelude.{ℕ, zero, suc, ◌-◌, Bool, true, false, cond, ◌&&◌, List, [], ◌∷◌, length, Some, None, Option, ◌==◌, nat_le, nat_lt, slice_set}
use Rattle.std.specs.Bool.{beq}
use Rattle.game.specs.declared.kinds.Score.{Score}
use Rattle.game.specs.Kinds.{points}
use Rattle.game.specs.Meaning.{Line, Meaning}
use Rattle.game.specs.Value.{black_moves}
use Rattle.store.specs.declared.entry.Key.{Key}
use Rattle.store.specs.declared.entry.Finding.{Finding}
use Rattle.store.specs.declared.entry.Finding.TheVariants.{Verdict, Open}
use Rattle.store.specs.declared.entry.Entry.{Entry}
use Rattle.search_method.specs.Kinds.{Pair, Worked, Answer, Solved, OutOfBudget}
use Rattle.search_method.specs.Tree.{Tree, done, ask, note, bind}
use Rattle.search_method.specs.Pairs.{INF, settled, unknown, in_range, best_move, pair_of, choice_of, limits_of, reached}

-- PARTS. What a part of the search comes to: an answer with the plays left, or a play was needed and none was left.
pub data Out (A : Type 0) : Type 0 where
  exhausted : Out A
  got : A → ℕ → Out A

-- a part of the search, from the plays left
abbrev pub Part : Type 0 → Type 0
Part A = ℕ → Tree (Out A)

abbrev pub give : {A : Type 0} → A → Part A
give x n = done (got x n)

abbrev pub next : {A B : Type 0} → (A → Part B) → Out A → Tree (Out B)
next g exhausted = done exhausted
next g (got x n) = g x n

-- one part, and then one that goes by its answer
infixl 20 ◌>>=◌
abbrev pub ◌>>=◌ : {A B : Type 0} → Part A → (A → Part B) → Part B
◌>>=◌ s g n = bind (s n) (next g)

-- one play, for which one must be left, and then s
abbrev pub played : {A : Type 0} → Part A → Part A
played s zero = done exhausted
played s (suc n) = s n

abbrev pub either : {A : Type 0} → Bool → Part A → Part A → Part A
either true s t = s
either false s t = t

-- r moves from k on, in order: each is played and s is done after it
abbrev pub each : {A : Type 0} → (ℕ → Part A) → ℕ → ℕ → Part (List A)
each s k zero = give []
each s k (suc r) = played (s k) >>= (λ x. each s (suc k) r >>= (λ xs. give (x ∷ xs)))

-- the same until one fails: do they all hold?
abbrev pub every : (ℕ → Part Bool) → ℕ → ℕ → Part Bool
every s k zero = give true
every s k (suc r) = played (s k) >>= (λ holds. either holds (every s (suc k) r) (give false))

-- the key of a line, and the entry that a finding makes with it
abbrev pub key : Meaning → ℕ → Line → Key
key m floor l = record { a = (m.view l).a; b = (m.view l).b; context = (m.view l).context; floor = floor }

abbrev pub entry : Meaning → ℕ → Line → Finding → Entry
entry m floor l x = record { key = key m floor l; finding = x }

-- a settled verdict decides, otherwise s does
abbrev pub decide : Bool → Option Bool → Part Bool → Part Bool
decide v (Some w) s = give (beq w v)
decide v None s = s

module _ (m : Meaning) where
  -- SIMULATION of the verdict v at a line; `go` simulates it one move on.
  -- With the claiming side on turn the entry must be v with a legal move, and v must hold after that move.
  abbrev pub claim_by : (Line → Part Bool) → Line → Bool → Finding → Part Bool
  claim_by go l v (Open p d) = give false
  claim_by go l v (Verdict w c k) =
      either (beq w v && nat_lt k (m.view l).moves) (played (go (k ∷ l))) (give false)

  abbrev pub claim : (Line → Part Bool) → Line → Bool → Option Entry → Part Bool
  claim go l v None = give false
  claim go l v (Some e) = claim_by go l v e.finding

  -- yes is Black's claim and no is White's; with the other side on turn v must hold after every move
  abbrev pub by_moves : (Line → Part Bool) → Line → Bool → Option Entry → Part Bool
  by_moves go l v o =
      either (beq v (black_moves (m.view l))) (claim go l v o) (every (λ k. go (k ∷ l)) 0 (m.view l).moves)

  -- the verdict that an entry settles at a line: one that is marked path-independent, at a path-independent line
  abbrev pub settles : Line → Finding → Option Bool
  settles l (Open p d) = None
  settles l (Verdict v c k) = cond (c && (m.view l).independent) (Some v) None

  -- a line that is not over, with what the store shows for it: a settled verdict decides, otherwise the moves do
  abbrev pub by_entry : (Line → Part Bool) → Line → Bool → Option Entry → Part Bool
  by_entry go l v None = by_moves go l v None
  by_entry go l v (Some e) = decide v (settles l e.finding) (by_moves go l v (Some e))

module _ (m : Meaning) (floor : ℕ) where
  -- a line that is over is judged by its score against the floor; for any other the store is asked
  abbrev pub judged : {A : Type 0} → (Bool → A) → (Option Entry → Part A) → Line → Option Score → Part A
  judged verdict go l (Some s) n = done (got (verdict (nat_le floor (points s))) n)
  judged verdict go l None n = ask (key m floor l) (λ o. go o n)

  -- any line: by its score, or by what the store shows for it
  abbrev pub holds_at : (Option Entry → Part Bool) → Line → Bool → Part Bool
  holds_at go l v = judged (λ w. beq w v) go l (m.view l).score

  -- the simulation of v at a line that is not over, with the entry in hand; at most h moves more are played
  unfoldable pub simulate : ℕ → Line → Bool → Option Entry → Part Bool
  simulate zero l v o = give false
  simulate (suc h) l v o = by_entry m (λ q. holds_at (simulate h q v) q v) l v o

  -- INITIAL EVALUATION. A verdict found by another path counts if its simulation holds.
  abbrev pub confirm : ℕ → Line → Entry → Bool → Part Pair
  confirm h q e v = simulate h q v (Some e) >>= (λ holds. give (cond holds (settled v) unknown))

  -- the pair that an entry gives to the line q: open numbers, a settled verdict, or one that is to be confirmed
  abbrev pub appraise_by : ℕ → Line → Entry → Finding → Part Pair
  appraise_by h q e (Open p d) = give (in_range p d)
  appraise_by h q e (Verdict v c k) = either (c && (m.view q).independent) (give (settled v)) (confirm h q e v)

  abbrev pub appraise : ℕ → Line → Option Entry → Part Pair
  appraise h q None = give unknown
  appraise h q (Some e) = appraise_by h q e e.finding

  -- the pair of a line q that was just played
  abbrev pub judge : ℕ → Line → Part Pair
  judge h q = judged settled (appraise h q) q (m.view q).score

  -- the pairs of all moves of a line
  abbrev pub evaluate : ℕ → Line → Part (List Pair)
  evaluate h l = each (λ k. judge h (k ∷ l)) 0 (m.view l).moves

module _ (m : Meaning) where
  -- EXPANSION. The pair of a line from those of its moves.
  abbrev pub line_pair : Line → List Pair → Pair
  line_pair l ps = pair_of (black_moves (m.view l)) ps

  -- what is recorded of a line: yes if its proof number is 0, no if its disproof number is 0, otherwise both
  abbrev pub outcome : Line → List Pair → Finding
  outcome l ps =
      cond ((line_pair l ps).pn == 0) (Verdict true (m.view l).independent (best_move (black_moves (m.view l)) true ps))
      (cond ((line_pair l ps).dn == 0) (Verdict false (m.view l).independent (best_move (black_moves (m.view l)) false ps))
      (Open (line_pair l ps).pn (line_pair l ps).dn))

module _ (m : Meaning) (floor : ℕ) where
  -- a line is left: its outcome is noted and its pair handed up
  abbrev pub leave : Line → List Pair → Part Worked
  leave l ps n =
      note (entry m floor l (outcome m l ps)) (done (got (record { pair = line_pair m l ps; finding = outcome m l ps }) n))

  -- after the chosen move: its new pair replaces the old and the line goes on; where no play was left for what is
  -- below, the line's pair is noted as open
  abbrev pub resume : (List Pair → Part Worked) → Line → List Pair → Out Worked → Tree (Out Worked)
  resume again l ps exhausted = note (entry m floor l (Open (line_pair m l ps).pn (line_pair m l ps).dn)) (done exhausted)
  resume again l ps (got w n) = again (slice_set ps (choice_of (black_moves (m.view l)) ps) w.pair) n

  -- the turns of a line under limits: it is left where they are reached, otherwise the chosen move is played and
  -- expanded by `go` under limits of its own; at most f turns
  unfoldable pub turns : (Line → Pair → Part Worked) → ℕ → Line → Pair → List Pair → Part Worked
  turns go zero l lim ps n = done exhausted
  turns go (suc f) l lim ps n =
      either (reached lim (line_pair m l ps))
      (leave l ps)
      (λ n'.
      bind
      (played (go (choice_of (black_moves (m.view l)) ps ∷ l) (limits_of (black_moves (m.view l)) lim ps)) n')
      (resume (turns go f l lim) l ps))
      n

  -- a line is expanded under limits: the initial evaluation of its moves, and then turns. Each turn takes a play, so
  -- that n plays left allow n + 1 turns; at most h moves more are played.
  unfoldable pub expand : ℕ → Line → Pair → Part Worked
  expand zero l lim n = done exhausted
  expand (suc h) l lim n = (evaluate m floor h l >>= (λ ps n'. turns (expand h) (suc n') l lim ps n')) n

-- SOLVE. The answer from what was found of the line, with the number of plays made.
abbrev pub answer_by : ℕ → Finding → Answer
answer_by count (Verdict v c k) = Solved v k count
answer_by count (Open p d) = OutOfBudget count

abbrev pub answer : ℕ → Out Worked → Answer
answer budget exhausted = OutOfBudget budget
answer budget (got w n) = answer_by (budget - n) w.finding

abbrev pub no_limits : Pair
no_limits = record { pn = INF; dn = INF }

-- the height of a game, 0 where it has none, and the moves that may be left to play at a line
abbrev pub height_of : Option ℕ → ℕ
height_of None = 0
height_of (Some h) = h

abbrev pub moves_left : Meaning → Line → ℕ
moves_left m l = height_of m.height - length l

abbrev pub solve_by : Meaning → Line → ℕ → ℕ → Option Score → Tree Answer
solve_by m l floor budget (Some s) = done (Solved (nat_le floor (points s)) 255 0)
solve_by m l floor budget None =
    bind (expand m floor (moves_left m l) l no_limits budget) (λ o. done (answer budget o))

-- a line that is over is answered by its score; any other is expanded without limits, without asking for itself
abbrev pub solve : Meaning → Line → ℕ → ℕ → Tree Answer
solve m l floor budget = solve_by m l floor budget (m.view l).score
