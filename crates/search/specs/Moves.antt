-- What a searcher does between two parts of the search, and what every part keeps.
use Rattle.std.specs.Prelude.{◌≡◌, ℕ, ◌+◌, ◌≤◌, ◌∷◌, Some, None, Option}
use Rattle.game.specs.Meaning.{Line, View, Meaning}
use Rattle.game.specs.Refusals.{shorter}
use Rattle.game.specs.Kept.{Kept}
use Rattle.store.specs.Interface.{StoreMeaning}
use Rattle.store.specs.declared.entry.Entry.{Entry}
use Rattle.search.specs.declared.searcher.Searcher.{Searcher}

-- the same game and the same store are in hand, for the same floor
pub record Holds {G S : Type 0} (a b : Searcher G S) : Type 0 where
  pub floor : b.floor ≡ a.floor
  pub game : b.game.ghost_name ≡ a.game.ghost_name
  pub store : b.store.ghost_name ≡ a.store.ghost_name

-- from a to b the entry has been recorded
pub record Notes {G S : Type 0} (𝓢 : StoreMeaning S) (e : Entry) (a b : Searcher G S) : Type 0 where
  pub holds : Holds a b
  pub game : b.game.now ≡ a.game.now
  pub left : b.left ≡ a.left
  pub records : 𝓢.records a.store.now e b.store.now

-- what the game tells of the line where a searcher stands
abbrev pub here : {G S : Type 0} → (G → Meaning) → (G → Line) → Searcher G S → View
here means line a = (means a.game.now).view (line a.game.now)

module _ {G S : Type 0} (means : G → Meaning) (line : G → Line) where
  -- from a to b the move k has been played and counted
  pub record Played (k : ℕ) (a b : Searcher G S) : Type 0 where
    pub holds : Holds a b
    pub same : means b.game.now ≡ means a.game.now
    pub goes : line b.game.now ≡ k ∷ line a.game.now
    pub counted : a.left ≡ b.left + 1
    pub reads : b.store.now ≡ a.store.now

  -- a play is made, or none is left and nothing is done
  abbrev pub Plays : ℕ → Searcher G S → Option (Unit {0}) → Searcher G S → Type 0
  Plays k a None b = (a.left ≡ 0) × (b ≡ a)
  Plays k a (Some u) b = Played k a b

  -- from a to b the last move has been taken back
  pub record TakesBack (a b : Searcher G S) : Type 0 where
    pub holds : Holds a b
    pub same : means b.game.now ≡ means a.game.now
    pub goes : line b.game.now ≡ shorter (line a.game.now)
    pub left : b.left ≡ a.left
    pub reads : b.store.now ≡ a.store.now

  -- what every part of the search keeps: the game at its line, and the plays that are left are no more than before
  pub record Leaves (a b : Searcher G S) : Type 0 where
    pub holds : Holds a b
    pub kept : Kept means line a.game.now b.game.now
    pub less : b.left ≤ a.left
