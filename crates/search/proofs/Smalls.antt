-- The pairs of an initial evaluation and of an expansion have numbers up to INF.
use Rattle.std.proofs.Common.{◌≡◌, ℕ, zero, suc, Bool, true, false, cond, ◌&&◌, leb, List, ◌∷◌, set, Some, None, Option, refl, arith}
use Rattle.std.specs.List.{All}
use Rattle.std.proofs.lemmas.List.Elements.{All-nil, All-cons}
use Rattle.std.proofs.lemmas.Bool.Decides.{nat_tests}
use Rattle.game.specs.declared.kinds.Score.{Score}
use Rattle.game.specs.Kinds.{points}
use Rattle.game.specs.Meaning.{Line, Meaning}
use Rattle.game.specs.Value.{black_moves}
use Rattle.store.specs.Interface.{StoreMeaning}
use Rattle.store.specs.declared.entry.Entry.{Entry}
use Rattle.store.specs.declared.entry.Finding.{Finding}
use Rattle.store.specs.declared.entry.Finding.TheVariants.{Verdict, Open}
use Rattle.search_method.specs.declared.kinds.Pair.{Pair}
use Rattle.search_method.specs.declared.kinds.Worked.{Worked}
use Rattle.search_method.specs.Tree.{Tree, done, ask, note, bind, Runs}
use Rattle.search_method.specs.Pairs.{settled, unknown, between, in_range, choice_of, limits_of, reached}
use Rattle.search_method.specs.Search.{Out, exhausted, got, Part, give, next, ◌>>=◌, either, played, each, judged, simulate, confirm, appraise_by, appraise, judge, evaluate, line_pair, leave, resume, turns, expand, moves_left}
use Rattle.search_method.proofs.Good.{Good, good_bind, AnswerMeets, runs_good}
use Rattle.search.specs.declared.searcher.Searcher.{Searcher}
use Rattle.search.specs.Does.{Does}
use Rattle.search.specs.Parts.{after, judging, evaluating, expanding}
use Rattle.search.proofs.Rows.{pair_small}
use Rattle.search.specs.Numbers.{Small}

-- whatever is answered and noted, the result meets P
abbrev Any : Entry → Type 0
Any e = Unit {0}

abbrev Always : {A : Type 0} → (A → Type 0) → Tree A → Type 0
Always P x = Good (AnswerMeets Any) Any P x

always_runs : {S A : Type 0} (𝓢 : StoreMeaning S) (P : A → Type 0) (x : Tree A) (s t : S) (r : A) → Always P x → Runs 𝓢 x s t r → P r
always_runs 𝓢 P x s t r all h = (runs_good 𝓢 Any P x s t r (λ e held. tt) all h).0

always_any : {A : Type 0} (x : Tree A) → Always (λ (a : A). Unit {0}) x
always_any (done a) = tt
always_any (ask key g) = λ o h. always_any (g o)
always_any (note e x) = (tt, always_any x)

-- an answer, where there is one, meets P
abbrev IfGot : {A : Type 0} → (A → Type 0) → Out A → Type 0
IfGot P exhausted = Unit {0}
IfGot P (got x n) = P x

settled_small : (b : Bool) → Small (settled b)
settled_small true = omega arith
settled_small false = omega arith

range_small : (p d : ℕ) → Small (in_range p d)
range_small p d = by (between p && between d) refl
  where
    by : (b : Bool) → (between p && between d) ≡ b → Small (cond b (record { pn = p; dn = d }) unknown)
    by true e = (grind (arith, nat_tests), grind (arith, nat_tests))
    by false e = omega arith

confirm_small : (m : Meaning) (floor h : ℕ) (l : Line) (e : Entry) (v : Bool) (n : ℕ) → Always (IfGot Small) (confirm m floor h l e v n)
confirm_small m floor h l e v n =
    good_bind (AnswerMeets Any) Any (λ (o : Out Bool). Unit {0}) (IfGot Small) (simulate m floor h l v (Some e) n) (next (λ holds. give (cond holds (settled v) unknown)))
    (always_any (simulate m floor h l v (Some e) n)) (λ o u. after o)
  where
    held : (b : Bool) → Small (cond b (settled v) unknown)
    held true = settled_small v
    held false = omega arith

    after : (o : Out Bool) → Always (IfGot Small) (next (λ holds. give (cond holds (settled v) unknown)) o)
    after exhausted = tt
    after (got b n) = held b

appraise_small : (m : Meaning) (floor h : ℕ) (l : Line) (o : Option Entry) (n : ℕ) → Always (IfGot Small) (appraise m floor h l o n)
appraise_small m floor h l None n = omega arith
appraise_small m floor h l (Some e) n = by e.finding
  where
    marked : (v b : Bool) → Always (IfGot Small) (either b (give (settled v)) (confirm m floor h l e v) n)
    marked v true = settled_small v
    marked v false = confirm_small m floor h l e v n

    by : (f : Finding) → Always (IfGot Small) (appraise_by m floor h l e f n)
    by (Open p d) = range_small p d
    by (Verdict v c k) = marked v (c && (m.view l).independent)

judge_small : (m : Meaning) (floor h : ℕ) (l : Line) (n : ℕ) → Always (IfGot Small) (judge m floor h l n)
judge_small m floor h l n = by (m.view l).score
  where
    by : (o : Option Score) → Always (IfGot Small) (judged m floor settled (appraise m floor h l) l o n)
    by (Some s) = settled_small (leb floor (points s))
    by None = λ o meets. appraise_small m floor h l o n

played_small : {A : Type 0} (P : A → Type 0) (s : Part A) → ((n : ℕ) → Always (IfGot P) (s n)) → (n : ℕ) → Always (IfGot P) (played s n)
played_small P s h zero = tt
played_small P s h (suc n) = h n

each_small : (s : ℕ → Part Pair) → ((k n : ℕ) → Always (IfGot Small) (s k n)) → (r k n : ℕ) → Always (IfGot (All Small)) (each s k r n)
each_small s h zero k n = All-nil Small
each_small s h (suc r) k n =
    good_bind (AnswerMeets Any) Any (IfGot Small) (IfGot (All Small)) (played (s k) n) (next (λ x. each s (suc k) r >>= (λ xs. give (x ∷ xs)))) (played_small Small (s k) (h k) n)
    (after (each_small s h r (suc k)))
  where
    last : (x : Pair) → Small x → (o : Out (List Pair)) → IfGot (All Small) o → Always (IfGot (All Small)) (next (λ xs. give (x ∷ xs)) o)
    last x small exhausted all = tt
    last x small (got xs n) all = All-cons Small x xs small all

    after : ((n : ℕ) → Always (IfGot (All Small)) (each s (suc k) r n))
        → (o : Out Pair) → IfGot Small o → Always (IfGot (All Small)) (next (λ x. each s (suc k) r >>= (λ xs. give (x ∷ xs))) o)
    after ih exhausted small = tt
    after ih (got x n) small =
        good_bind (AnswerMeets Any) Any (IfGot (All Small)) (IfGot (All Small)) (each s (suc k) r n) (next (λ xs. give (x ∷ xs))) (ih n) (last x small)

-- what comes of a line has the pair of its row
abbrev pub SmallPair : Worked → Type 0
SmallPair w = Small w.pair

turns_small : (m : Meaning) (floor : ℕ) (go : Line → Pair → Part Worked) (f : ℕ) (l : Line) (lim : Pair) (ps : List Pair) (n : ℕ) → Always (IfGot SmallPair) (turns m floor go f l lim ps n)
unfolding turns
turns_small m floor go zero l lim ps n = tt
turns_small m floor go (suc f) l lim ps n = by (λ qs n. turns_small m floor go f l lim qs n) (reached lim (line_pair m l ps))
  where
    by : ((qs : List Pair) (n : ℕ) → Always (IfGot SmallPair) (turns m floor go f l lim qs n)) → (b : Bool) → Always (IfGot SmallPair) (either b (leave m floor l ps)
        (λ n'. bind (played (go (choice_of (black_moves (m.view l)) ps ∷ l) (limits_of (black_moves (m.view l)) lim ps)) n') (resume m floor (turns m floor go f l lim) l ps)) n)
    by ih true = (tt, pair_small (black_moves (m.view l)) ps)
    by ih false =
        good_bind (AnswerMeets Any) Any (λ (o : Out Worked). Unit {0}) (IfGot SmallPair) (played (go (choice_of (black_moves (m.view l)) ps ∷ l) (limits_of (black_moves (m.view l)) lim ps)) n) (resume m floor (turns m floor go f l lim) l ps)
        (always_any (played (go (choice_of (black_moves (m.view l)) ps ∷ l) (limits_of (black_moves (m.view l)) lim ps)) n)) (λ o u. elim o as (λ o. Always (IfGot SmallPair) (resume m floor (turns m floor go f l lim) l ps o)) [ exhausted ↦ (tt, tt) | got w n ↦ ih (set ps (choice_of (black_moves (m.view l)) ps) w.pair) n ])

expand_small : (m : Meaning) (floor h : ℕ) (l : Line) (lim : Pair) (n : ℕ) → Always (IfGot SmallPair) (expand m floor h l lim n)
unfolding expand
expand_small m floor zero l lim n = tt
expand_small m floor (suc h) l lim n =
    good_bind (AnswerMeets Any) Any (λ (o : Out (List Pair)). Unit {0}) (IfGot SmallPair) (evaluate m floor h l n) (next (λ ps n'. turns m floor (expand m floor h) (suc n') l lim ps n'))
    (always_any (evaluate m floor h l n)) (λ o u. after o)
  where
    after : (o : Out (List Pair)) → Always (IfGot SmallPair) (next (λ ps n'. turns m floor (expand m floor h) (suc n') l lim ps n') o)
    after exhausted = tt
    after (got ps n) = turns_small m floor (expand m floor h) (suc n) l lim ps n

module _ {G S : Type 0} {means : G → Meaning} {line : G → Line} {𝓢 : StoreMeaning S} where
  pub evaluate_small : (ps : List Pair) {a b : Searcher G S} → Does means line 𝓢 evaluating a (Some ps) b → (All Small) ps
  evaluate_small ps {a} {b} h =
      always_runs 𝓢 (IfGot (All Small)) (evaluating (means a.game.now) a.floor (line a.game.now) a.left) a.store.now b.store.now (got ps b.left)
      (each_small (λ k. judging (means a.game.now) a.floor (k ∷ line a.game.now)) (λ k n. judge_small (means a.game.now) a.floor (moves_left (means a.game.now) (k ∷ line a.game.now)) (k ∷ line a.game.now) n)
      ((means a.game.now).view (line a.game.now)).moves 0 a.left) h.runs

  pub moved_small : (k : ℕ) (limit : Pair) (w : Worked) {a b : Searcher G S} → Does means line 𝓢 (after k (expanding limit)) a (Some w) b → Small w.pair
  moved_small k limit w {a} {b} h =
      always_runs 𝓢 (IfGot SmallPair) (after k (expanding limit) (means a.game.now) a.floor (line a.game.now) a.left) a.store.now b.store.now (got w b.left)
      (played_small SmallPair (expanding limit (means a.game.now) a.floor (k ∷ line a.game.now)) (expand_small (means a.game.now) a.floor (moves_left (means a.game.now) (k ∷ line a.game.now)) (k ∷ line a.game.now) limit) a.left) h.runs
