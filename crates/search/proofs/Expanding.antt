-- The expansion of a line: its turns so far, and how they end.
use Rattle.std.proofs.Common.{◌≡◌, ℕ, zero, suc, ◌-◌, ◌<◌, Bool, true, false, cond, eqb, List, [], ◌∷◌, set, Some, None, Option, sym, refl, ap, ◌∙◌, subst, subst₂, arith}
use mathlib.Core.Path.{subst₃}
use Rattle.std.specs.List.{All}
use Rattle.std.proofs.lemmas.List.Elements.{All-set}
use Rattle.game.specs.declared.kinds.Score.{Score}
use Rattle.game.specs.Meaning.{Line, Meaning}
use Rattle.game.specs.Value.{black_moves}
use Rattle.store.specs.Interface.{StoreMeaning}
use Rattle.store.specs.declared.entry.Entry.{Entry}
use Rattle.store.specs.declared.entry.Finding.{Finding}
use Rattle.store.specs.declared.entry.Finding.TheVariants.{Verdict, Open}
use Rattle.search_method.specs.declared.kinds.Pair.{Pair}
use Rattle.search_method.specs.declared.kinds.Worked.{Worked}
use Rattle.search_method.specs.declared.kinds.Answer.{Answer}
use Rattle.search_method.specs.Tree.{Tree, done, bind, Runs}
use Rattle.search_method.specs.Pairs.{pns, dns, first, best_move, pair_of, choice_of, limits_of, reached}
use Rattle.search_method.specs.Search.{Out, exhausted, got, Part, ◌>>=◌, either, played, each, judge, entry, line_pair, outcome, evaluate, leave, resume, turns, expand, answer, no_limits, moves_left, solve_by, solve}
use Rattle.search_method.proofs.Runs.{runs_bind}
use Rattle.search.specs.declared.memory.LineRecord.{LineRecord}
use Rattle.search.specs.declared.searcher.Searcher.{Searcher}
use Rattle.search.specs.Moves.{here, Notes, Leaves}
use Rattle.search.specs.Does.{came, At, Does}
use Rattle.search.specs.Parts.{after, evaluating, expanding, turning}
use Rattle.search.specs.Numbers.{mine, finding_of, Small}
use Rattle.search.specs.Lines.{record_of}
use Rattle.search.proofs.Smalls.{moved_small}
use Rattle.search.proofs.Doing.{less_left, stays, leaves_then, does_as, does_then, does_exhausted}

-- what is recorded of a line is its outcome
mine_black : (ps : List Pair) → mine true ps ≡ pns ps
mine_black [] = refl
mine_black (p ∷ ps) = ap (λ xs. p.pn ∷ xs) (mine_black ps)

mine_white : (ps : List Pair) → mine false ps ≡ dns ps
mine_white [] = refl
mine_white (p ∷ ps) = ap (λ xs. p.dn ∷ xs) (mine_white ps)

abbrev outcome_by : Bool → Bool → List Pair → Finding
outcome_by black independent ps =
    cond (eqb (pair_of black ps).pn 0) (Verdict true independent (best_move black true ps))
    (cond (eqb (pair_of black ps).dn 0) (Verdict false independent (best_move black false ps))
    (Open (pair_of black ps).pn (pair_of black ps).dn))

finding_by : (black independent : Bool) (ps : List Pair) → finding_of black independent ps ≡ outcome_by black independent ps
finding_by true independent ps =
    ap (λ (xs : List ℕ).
    cond (eqb (pair_of true ps).pn 0) (Verdict true independent (first 0 xs))
    (cond (eqb (pair_of true ps).dn 0) (Verdict false independent 255)
    (Open (pair_of true ps).pn (pair_of true ps).dn))) (mine_black ps)
finding_by false independent ps =
    ap (λ (xs : List ℕ).
    cond (eqb (pair_of false ps).pn 0) (Verdict true independent 255)
    (cond (eqb (pair_of false ps).dn 0) (Verdict false independent (first 0 xs))
    (Open (pair_of false ps).pn (pair_of false ps).dn))) (mine_white ps)

pub finding_is : (m : Meaning) (l : Line) (ps : List Pair) → finding_of (black_moves (m.view l)) (m.view l).independent ps ≡ outcome m l ps
finding_is m l ps = finding_by (black_moves (m.view l)) (m.view l).independent ps

-- one turn, and one expansion, opened
turns_more : (m : Meaning) (floor : ℕ) (go : Line → Pair → Part Worked) (f : ℕ) (l : Line) (lim : Pair) (ps : List Pair) (n : ℕ) → 0 < f →
    turns m floor go f l lim ps n
    ≡ either (reached lim (line_pair m l ps)) (leave m floor l ps)
    (λ n'. bind (played (go (choice_of (black_moves (m.view l)) ps ∷ l) (limits_of (black_moves (m.view l)) lim ps)) n') (resume m floor (turns m floor go (f - 1) l lim) l ps)) n
unfolding turns
turns_more m floor go zero l lim ps n pos = absurd (omega arith)
turns_more m floor go (suc f) l lim ps n pos =
    ap (λ j. either (reached lim (line_pair m l ps)) (leave m floor l ps)
    (λ n'. bind (played (go (choice_of (black_moves (m.view l)) ps ∷ l) (limits_of (black_moves (m.view l)) lim ps)) n') (resume m floor (turns m floor go j l lim) l ps)) n) (omega arith)

expand_more : (m : Meaning) (floor h : ℕ) (l : Line) (lim : Pair) (n : ℕ) → 0 < h →
    expand m floor h l lim n ≡ (evaluate m floor (h - 1) l >>= (λ ps n'. turns m floor (expand m floor (h - 1)) (suc n') l lim ps n')) n
unfolding expand
expand_more m floor zero l lim n pos = absurd (omega arith)
expand_more m floor (suc h) l lim n pos =
    ap (λ j. (evaluate m floor j l >>= (λ ps n'. turns m floor (expand m floor j) (suc n') l lim ps n')) n) (omega arith)

expand_end : (m : Meaning) (floor h : ℕ) (l : Line) (lim : Pair) (n : ℕ) → h ≡ 0 → expand m floor h l lim n ≡ done exhausted
unfolding expand
expand_end m floor zero l lim n e = refl
expand_end m floor (suc h) l lim n e = absurd (omega arith)

-- where an entry is recorded, the searcher stays as it was
noted : {G S : Type 0} {means : G → Meaning} {line : G → Line} {𝓢 : StoreMeaning S} {e : Entry} {a b : Searcher G S} → Notes 𝓢 e a b → Leaves means line a b
noted {means = means} {line = line} h =
    record { holds = h.holds; kept = record { same = ap means h.game; back = ap line h.game }; less = omega (arith, h.left) }

-- the record is that of the line at which a searcher stands, wherever it has been meanwhile
abbrev pub Told : {G S : Type 0} → (G → Meaning) → (G → Line) → LineRecord → Searcher G S → Type 0
Told means line x a = x ≡ record_of (means a.game.now) a.floor (line a.game.now) x.limit

pub told_kept : {G S : Type 0} {means : G → Meaning} {line : G → Line} (x : LineRecord) {a b : Searcher G S} → Leaves means line a b → Told means line x a → Told means line x b
told_kept x p told = told ∙ sym (λ i. record_of (p.kept.same i) (p.holds.floor i) (p.kept.back i) x.limit)

-- an initial evaluation, and then the turns
abbrev turns_of : Pair → List Pair → At Worked
turns_of limit ps m floor l n = turning (suc n) limit ps m floor l n

evaluates : (limit : Pair) (m : Meaning) (floor : ℕ) (l : Line) (n : ℕ) → 0 < moves_left m l →
    expanding limit m floor l n ≡ (evaluating m floor l >>= (λ ps. turns_of limit ps m floor l)) n
evaluates limit m floor l n pos =
    expand_more m floor (moves_left m l) l limit n pos
    ∙ (λ i. (each (λ k. judge m floor (less_left m l k i) (k ∷ l)) 0 (m.view l).moves >>= (λ ps. turns_of limit ps m floor l)) n)

module _ {G S : Type 0} (means : G → Meaning) (line : G → Line) (𝓢 : StoreMeaning S) where
  -- what `expand`, `expand_move` and `take_turns` do
  abbrev pub Expands : Pair → Searcher G S → Option Worked → Searcher G S → Type 0
  Expands limit a r b = Does means line 𝓢 (expanding limit) a r b

  abbrev pub Moved : ℕ → Pair → Searcher G S → Option Worked → Searcher G S → Type 0
  Moved k limit a r b = Does means line 𝓢 (after k (expanding limit)) a r b

  abbrev pub Settles : Pair → List Pair → Searcher G S → Option Worked → Searcher G S → Type 0
  Settles limit ps a r b = (f : ℕ) → a.left < f → Does means line 𝓢 (turning f limit ps) a r b

  -- the turns so far, from ps at a to qs at b: however the rest ends, so does the whole
  pub record Turning (x : LineRecord) (ps : List Pair) (a : Searcher G S) (qs : List Pair) (b : Searcher G S) : Type 0 where
    pub leaves : Leaves means line a b
    pub told : Told means line x b
    pub small : All Small qs
    pub rest : (r : Option Worked) (c : Searcher G S) → Settles x.limit qs b r c → Settles x.limit ps a r c

  -- one turn
  module _ (x : LineRecord) (ps : List Pair) (a : Searcher G S) (told : Told means line x a) (pair : Pair) (is_pair : pair ≡ pair_of x.black ps) where
    abbrev m : Meaning
    m = means a.game.now

    abbrev l : Line
    l = line a.game.now

    abbrev go : Line → Pair → Part Worked
    go = expand m a.floor (moves_left m l - 1)

    abbrev chosen : Pair → Part Worked
    chosen limit = played (go (choice_of (black_moves (m.view l)) ps ∷ l) (limits_of (black_moves (m.view l)) limit ps))

    abbrev again : ℕ → Out Worked → Tree (Out Worked)
    again f = resume m a.floor (turns m a.floor go (f - 1) l x.limit) l ps

    side : x.black ≡ black_moves (m.view l)
    side = λ i. (told i).black

    same_pair : pair ≡ line_pair m l ps
    same_pair = is_pair ∙ ap (λ b. pair_of b ps) side

    opened : (t : Bool) (f : ℕ) → t ≡ reached x.limit pair → 0 < f →
        turns m a.floor go f l x.limit ps a.left ≡ either t (leave m a.floor l ps) (λ n. bind (chosen x.limit n) (again f)) a.left
    opened t f e pos =
        turns_more m a.floor go f l x.limit ps a.left pos
        ∙ ap (λ t. either t (leave m a.floor l ps) (λ n. bind (chosen x.limit n) (again f)) a.left) (ap (reached x.limit) (sym same_pair) ∙ sym e)

    -- a limit is reached and the line is left
    pub turn_leaves : (found : Finding) (b : Searcher G S) → true ≡ reached x.limit pair → found ≡ finding_of x.black x.independent ps → Notes 𝓢 (record { key = x.key; finding = found }) a b
        → Settles x.limit ps a (Some (record { pair = pair; finding = found })) b
    turn_leaves found b at_limit is_found h f lt =
        let same_found : found ≡ outcome m l ps = is_found ∙ ((λ i. finding_of (side i) (told i).independent ps) ∙ finding_is m l ps) in
        let same_entry : ◌≡◌ {A = Entry} (record { key = x.key; finding = found }) (entry m a.floor l (outcome m l ps)) = λ i. record { key = (told i).key; finding = same_found i } in
        record {
          leaves = noted h;
          runs = subst (λ (y : Tree (Out Worked)). Runs 𝓢 y a.store.now b.store.now (got (record { pair = pair; finding = found }) b.left)) (sym (opened true f at_limit (omega arith))) (
            b.store.now,
            subst (λ (y : Entry). 𝓢.records a.store.now y b.store.now) same_entry h.records,
            (refl, (λ i. got (record { pair = sym same_pair i; finding = sym same_found i }) (sym h.left i))),
          );
        }

    -- the chosen move is expanded
    module _ (k : ℕ) (next : Pair) (open_yet : false ≡ reached x.limit pair) (is_k : k ≡ choice_of x.black ps) (is_next : next ≡ limits_of x.black x.limit ps) where
      same_k : k ≡ choice_of (black_moves (m.view l)) ps
      same_k = is_k ∙ ap (λ b. choice_of b ps) side

      chosen_runs : (q : Option Worked) (b : Searcher G S) → Moved k next a q b → Runs 𝓢 (chosen x.limit a.left) a.store.now b.store.now (came q b.left)
      chosen_runs q b move =
          subst₂ (λ (k : ℕ) (n : Pair). Runs 𝓢 (played (go (k ∷ l) n) a.left) a.store.now b.store.now (came q b.left)) same_k (is_next ∙ ap (λ b. limits_of b x.limit ps) side)
          (subst (λ h. Runs 𝓢 (played (expand m a.floor h (k ∷ l) next) a.left) a.store.now b.store.now (came q b.left)) (sym (less_left m l k)) move.runs)

      goes_on : (q : Option Worked) (b c : Searcher G S) (r : Option Worked) (f : ℕ) → 0 < f → Moved k next a q b
          → Runs 𝓢 (again f (came q b.left)) b.store.now c.store.now (came r c.left)
          → Runs 𝓢 (turns m a.floor go f l x.limit ps a.left) a.store.now c.store.now (came r c.left)
      goes_on q b c r f pos move rest =
          subst (λ (y : Tree (Out Worked)). Runs 𝓢 y a.store.now c.store.now (came r c.left)) (sym (opened false f open_yet pos))
          (runs_bind 𝓢 (chosen x.limit a.left) (again f) a.store.now b.store.now c.store.now (came q b.left) (came r c.left) (chosen_runs q b move) rest)

      pub turn_goes : (w : Worked) (b c : Searcher G S) (r : Option Worked) → b.left < a.left → Moved k next a (Some w) b
          → Settles x.limit (set ps k w.pair) b r c → Settles x.limit ps a r c
      turn_goes w b c r falls move settled f lt =
          let rest = settled (f - 1) (omega arith) in
          record {
            leaves = leaves_then move.leaves rest.leaves;
            runs = goes_on (Some w) b c r f (omega arith) move
                (subst (λ n. Runs 𝓢 (turns m a.floor go (f - 1) l x.limit (set ps n w.pair) b.left) b.store.now c.store.now (came r c.left)) same_k
                (subst₃ (λ (m : Meaning) (floor : ℕ) (l : Line). Runs 𝓢 (turning (f - 1) x.limit (set ps k w.pair) m floor l b.left) b.store.now c.store.now (came r c.left))
                move.leaves.kept.same move.leaves.holds.floor move.leaves.kept.back rest.runs));
          }

      -- no play is left for what is below
      pub turn_stops : (b c : Searcher G S) → Moved k next a None b
          → Notes 𝓢 (record { key = x.key; finding = Open pair.pn pair.dn }) b c → Settles x.limit ps a None c
      turn_stops b c move h f lt =
          let same_entry : ◌≡◌ {A = Entry} (record { key = x.key; finding = Open pair.pn pair.dn }) (entry m a.floor l (Open (line_pair m l ps).pn (line_pair m l ps).dn)) =
          λ i. record { key = (told i).key; finding = Open (same_pair i).pn (same_pair i).dn } in
          record {
            leaves = leaves_then move.leaves (noted h);
            runs = goes_on None b c None f (omega arith) move (c.store.now, subst (λ (y : Entry). 𝓢.records b.store.now y c.store.now) same_entry h.records, (refl, refl));
          }

module _ {G S : Type 0} {means : G → Meaning} {line : G → Line} {𝓢 : StoreMeaning S} where
  -- the turns after which a limit is reached, no play is left, or there is another turn
  module _ {x : LineRecord} {ps qs : List Pair} {a b : Searcher G S} (so_far : Turning means line 𝓢 x ps a qs b) {pair : Pair} (is_pair : pair ≡ pair_of x.black qs) where
    pub turning_left : {found : Finding} {c : Searcher G S} → true ≡ reached x.limit pair → found ≡ finding_of x.black x.independent qs
        → Notes 𝓢 (record { key = x.key; finding = found }) b c → Settles means line 𝓢 x.limit ps a (Some (record { pair = pair; finding = found })) c
    turning_left {found} {c} at_limit is_found h = so_far.rest _ c (turn_leaves means line 𝓢 x qs b so_far.told pair is_pair found c at_limit is_found h)

    module _ {k : ℕ} {next : Pair} (open_yet : false ≡ reached x.limit pair) (is_k : k ≡ choice_of x.black qs) (is_next : next ≡ limits_of x.black x.limit qs) where
      pub turning_stopped : {c d : Searcher G S} → Moved means line 𝓢 k next b None c → Notes 𝓢 (record { key = x.key; finding = Open pair.pn pair.dn }) c d
          → Settles means line 𝓢 x.limit ps a None d
      turning_stopped {c} {d} move h = so_far.rest None d (turn_stops means line 𝓢 x qs b so_far.told pair is_pair k next open_yet is_k is_next c d move h)

      pub turning_more : {w : Worked} {c : Searcher G S} → Moved means line 𝓢 k next b (Some w) c → c.left < b.left → Turning means line 𝓢 x ps a (set qs k w.pair) c
      turning_more {w} {c} move falls =
          record {
            leaves = leaves_then so_far.leaves move.leaves;
            told = told_kept x move.leaves so_far.told;
            small = All-set Small qs k w.pair (moved_small k next w move) so_far.small;
            rest = λ r d h. so_far.rest r d (turn_goes means line 𝓢 x qs b so_far.told pair is_pair k next open_yet is_k is_next w c d r falls move h);
          }

  -- no move may be left
  pub expand_ends : (limit : Pair) {a : Searcher G S} → moves_left (means a.game.now) (line a.game.now) ≡ 0 → Expands means line 𝓢 limit a None a
  expand_ends limit {a} e =
      record {
        leaves = stays a;
        runs = subst (λ (x : Tree (Out Worked)). Runs 𝓢 x a.store.now a.store.now exhausted) (sym (expand_end (means a.game.now) a.floor (moves_left (means a.game.now) (line a.game.now)) (line a.game.now) limit a.left e)) (refl, refl);
      }

  pub expand_exhausted : (limit : Pair) {a b : Searcher G S} → 0 < moves_left (means a.game.now) (line a.game.now)
      → Does means line 𝓢 evaluating a None b → Expands means line 𝓢 limit a None b
  expand_exhausted limit {a} pos evaluated =
      does_as (expanding limit) (λ m floor l. evaluating m floor l >>= (λ ps. turns_of limit ps m floor l)) (evaluates limit (means a.game.now) a.floor (line a.game.now) a.left pos)
      (does_exhausted evaluating (turns_of limit) evaluated)

  pub expand_settled : (limit : Pair) {ps : List Pair} {a b c : Searcher G S} {r : Option Worked} → 0 < moves_left (means a.game.now) (line a.game.now)
      → Does means line 𝓢 evaluating a (Some ps) b → Settles means line 𝓢 limit ps b r c → Expands means line 𝓢 limit a r c
  expand_settled limit {ps} {a} {b} pos evaluated settled =
      does_as (expanding limit) (λ m floor l. evaluating m floor l >>= (λ ps. turns_of limit ps m floor l)) (evaluates limit (means a.game.now) a.floor (line a.game.now) a.left pos)
      (does_then evaluating (turns_of limit) evaluated (does_as (turns_of limit ps) (turning (suc b.left) limit ps) refl (settled (suc b.left) (omega arith))))

  -- a line that is not over is expanded without limits
  pub solve_expands : (budget : ℕ) {found : Option Worked} {a b : Searcher G S} {r : Answer} → (here means line a).score ≡ None → a.left ≡ budget
      → Expands means line 𝓢 no_limits a found b → r ≡ answer budget (came found b.left)
      → {t : S} → t ≡ b.store.now → Runs 𝓢 (solve (means a.game.now) (line a.game.now) a.floor budget) a.store.now t r
  solve_expands budget {found} {a} {b} {r} going all expands is {t} at_end =
      rw at_end
      (subst (λ (o : Option Score). Runs 𝓢 (solve_by (means a.game.now) (line a.game.now) a.floor budget o) a.store.now b.store.now r) (sym going)
      (runs_bind 𝓢 (expanding no_limits (means a.game.now) a.floor (line a.game.now) budget) (λ o. done (answer budget o)) a.store.now b.store.now b.store.now (came found b.left) r
      (subst (λ n. Runs 𝓢 (expanding no_limits (means a.game.now) a.floor (line a.game.now) n) a.store.now b.store.now (came found b.left)) all expands.runs) (refl, sym is)))
