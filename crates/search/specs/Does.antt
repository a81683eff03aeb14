-- What the code does of a part of the search: the store and the plays left, before and after.
use Rattle.std.specs.Prelude.{◌≡◌, ℕ, List, Some, None, Option}
use Rattle.game.specs.Meaning.{Line, Meaning}
use Rattle.store.specs.Interface.{StoreMeaning}
use Rattle.search_method.specs.Tree.{Runs}
use Rattle.search_method.specs.Search.{Out, exhausted, got, Part}
use Rattle.search.specs.declared.searcher.Searcher.{Searcher}
use Rattle.search.specs.Moves.{Leaves}

-- an answer with the plays left, or none: a play was needed and none was left
abbrev pub came : {A : Type 0} → Option A → ℕ → Out A
came None after = exhausted
came (Some x) after = got x after

-- what a completed loop has put into memory
abbrev pub filled : {A : Type 0} → Option (Unit {0}) → List A → Option (List A)
filled None xs = None
filled (Some u) xs = Some xs

-- a part of the search, at any line of any game and for any floor
abbrev pub At : Type 0 → Type 0
At A = Meaning → ℕ → Line → Part A

-- the searcher a does the part x at its line, with the answer r, and is b then
pub record Does {G S A : Type 0} (means : G → Meaning) (line : G → Line) (𝓢 : StoreMeaning S) (x : At A) (a : Searcher G S) (r : Option A) (b : Searcher G S) : Type 0 where
  pub leaves : Leaves means line a b
  pub runs : Runs 𝓢 (x (means a.game.now) a.floor (line a.game.now) a.left) a.store.now b.store.now (came r b.left)

-- the same, and the store is only read
pub record Reads {G S A : Type 0} (means : G → Meaning) (line : G → Line) (𝓢 : StoreMeaning S) (x : At A) (a : Searcher G S) (r : Option A) (b : Searcher G S) : Type 0 where
  pub does : Does means line 𝓢 x a r b
  pub same : b.store.now ≡ a.store.now
