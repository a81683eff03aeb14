-- Parts of the search, one after another, and the plays between them.
use Rattle.std.proofs.Common.{◌≡◌, ℕ, ◌-◌, ◌<◌, ◌∷◌, is_some, Some, None, Option, sym, refl, ap, ◌∙◌, subst, arith}
use mathlib.Core.Path.{subst₃}
use Rattle.game.specs.Meaning.{Line, Meaning}
use Rattle.game.specs.Laws.{Bounded, Room}
use Rattle.game.proofs.Bounds.{room_under}
use Rattle.game.proofs.Kept.{kept_same, kept_then}
use Rattle.store.specs.Interface.{StoreMeaning}
use Rattle.search_method.specs.Tree.{Tree, Runs}
use Rattle.search_method.specs.Search.{Out, exhausted, got, give, next, ◌>>=◌, height_of, moves_left}
use Rattle.search_method.proofs.Runs.{runs_bind}
use Rattle.search.specs.declared.searcher.Searcher.{Searcher}
use Rattle.search.specs.Moves.{Holds, Leaves}
use Rattle.search.specs.Does.{came, At, Does, Reads}

-- where a line of a bounded game goes on, moves are left
pub moves_left_lem : (m : Meaning) (l : Line) → Bounded m → Room m l → (m.view l).score ≡ None → 0 < moves_left m l
moves_left_lem m l bounded room going =
    let below = room_under m l bounded.0 bounded.1 room (ap is_some going) in
    let e : height_of m.height ≡ bounded.0 = ap height_of bounded.1.height in
    omega (arith, below, e)

-- one move on there is one move less to go
pub less_left : (m : Meaning) (l : Line) (k : ℕ) → moves_left m l - 1 ≡ moves_left m (k ∷ l)
less_left m l k = omega arith

pub holds_then : {G S : Type 0} {a b c : Searcher G S} → Holds a b → Holds b c → Holds a c
holds_then p q = record { floor = q.floor ∙ p.floor; game = q.game ∙ p.game; store = q.store ∙ p.store }

module _ {G S : Type 0} {means : G → Meaning} {line : G → Line} where
  pub stays : (a : Searcher G S) → Leaves means line a a
  stays a = record { holds = record { floor = refl; game = refl; store = refl }; kept = kept_same means line a.game.now; less = omega arith }

  pub leaves_then : {a b c : Searcher G S} → Leaves means line a b → Leaves means line b c → Leaves means line a c
  leaves_then p q = record { holds = holds_then p.holds q.holds; kept = kept_then p.kept q.kept; less = omega (arith, p.less, q.less) }

  module _ {𝓢 : StoreMeaning S} where
    -- what is answered at once
    pub does_give : {A : Type 0} (x : A) (a : Searcher G S) → Does means line 𝓢 (λ m floor l. give x) a (Some x) a
    does_give x a = record { leaves = stays a; runs = (refl, refl) }

    -- a part that is the same as another where the searcher stands
    pub does_as : {A : Type 0} (x y : At A) {a b : Searcher G S} {r : Option A}
        → x (means a.game.now) a.floor (line a.game.now) a.left ≡ y (means a.game.now) a.floor (line a.game.now) a.left
        → Does means line 𝓢 y a r b → Does means line 𝓢 x a r b
    does_as {A} x y {a} {b} {r} e h =
        record { leaves = h.leaves; runs = subst (λ (t : Tree (Out A)). Runs 𝓢 t a.store.now b.store.now (came r b.left)) (sym e) h.runs }

    -- one part after another
    pub does_then : {A B : Type 0} (x : At A) (y : A → At B) {a b c : Searcher G S} {v : A} {r : Option B}
        → Does means line 𝓢 x a (Some v) b → Does means line 𝓢 (y v) b r c → Does means line 𝓢 (λ m floor l. x m floor l >>= (λ v. y v m floor l)) a r c
    does_then {A} {B} x y {a} {b} {c} {v} {r} p q =
        record {
          leaves = leaves_then p.leaves q.leaves;
          runs = runs_bind 𝓢 (x (means a.game.now) a.floor (line a.game.now) a.left) (next (λ v. y v (means a.game.now) a.floor (line a.game.now))) a.store.now b.store.now c.store.now (got v b.left) (came r c.left) p.runs
              (subst₃ (λ (m : Meaning) (floor : ℕ) (l : Line). Runs 𝓢 (y v m floor l b.left) b.store.now c.store.now (came r c.left)) p.leaves.kept.same p.leaves.holds.floor p.leaves.kept.back q.runs);
        }

    -- where the first needs a play and none is left, so it is with the whole
    pub does_exhausted : {A B : Type 0} (x : At A) (y : A → At B) {a b : Searcher G S}
        → Does means line 𝓢 x a None b → Does means line 𝓢 (λ m floor l. x m floor l >>= (λ v. y v m floor l)) a None b
    does_exhausted {A} {B} x y {a} {b} p =
        record {
          leaves = p.leaves;
          runs = runs_bind 𝓢 (x (means a.game.now) a.floor (line a.game.now) a.left) (next (λ v. y v (means a.game.now) a.floor (line a.game.now))) a.store.now b.store.now b.store.now exhausted exhausted p.runs (refl, refl);
        }

    -- the same where the store is only read
    pub reads_give : {A : Type 0} (x : A) (a : Searcher G S) → Reads means line 𝓢 (λ m floor l. give x) a (Some x) a
    reads_give x a = record { does = does_give x a; same = refl }

    pub reads_as : {A : Type 0} (x y : At A) {a b : Searcher G S} {r : Option A}
        → x (means a.game.now) a.floor (line a.game.now) a.left ≡ y (means a.game.now) a.floor (line a.game.now) a.left
        → Reads means line 𝓢 y a r b → Reads means line 𝓢 x a r b
    reads_as x y e h = record { does = does_as x y e h.does; same = h.same }

    pub reads_then : {A B : Type 0} (x : At A) (y : A → At B) {a b c : Searcher G S} {v : A} {r : Option B}
        → Reads means line 𝓢 x a (Some v) b → Reads means line 𝓢 (y v) b r c → Reads means line 𝓢 (λ m floor l. x m floor l >>= (λ v. y v m floor l)) a r c
    reads_then x y p q = record { does = does_then x y p.does q.does; same = q.same ∙ p.same }

    pub reads_exhausted : {A B : Type 0} (x : At A) (y : A → At B) {a b : Searcher G S}
        → Reads means line 𝓢 x a None b → Reads means line 𝓢 (λ m floor l. x m floor l >>= (λ v. y v m floor l)) a None b
    reads_exhausted x y p = record { does = does_exhausted x y p.does; same = p.same }
