-- What every store means and owes, whatever it forgets.
use Rattle.std.specs.Prelude.{◌≡◌, ◌⊎◌, Some, Option}
pub use Rattle.store.specs.declared.entry.Key.{Key}
pub use Rattle.store.specs.declared.entry.Finding.{Finding}
pub use Rattle.store.specs.declared.entry.Finding.TheVariants.{Verdict, Open}
pub use Rattle.store.specs.declared.entry.Entry.{Entry}

-- a store by the entries that it holds, the entry that it shows for each key, and its own rules for recording an
-- entry and for clearing, each a relation from a state to the state after it
pub record StoreMeaning (S : Type 0) : Type 1 where
  pub holds : S → Entry → Type 0
  pub shows : S → Key → Option Entry
  pub records : S → Entry → S → Type 0
  pub clears : S → S → Type 0
  -- a shown entry is held, and has the key that it is shown for
  pub shown : (s : S) (k : Key) (e : Entry) → shows s k ≡ Some e → holds s e × (e.key ≡ k)
  -- after recording nothing is held but that entry and entries held before
  pub recorded : (s t : S) (e f : Entry) → records s e t → holds t f → (f ≡ e) ⊎ holds s f
  -- after clearing nothing is held
  pub cleared : (s t : S) (e : Entry) → clears s t → holds t e → ⊥
