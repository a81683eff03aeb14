-- A computation over a store, for any store: a tree that asks for the entry of a key and notes entries.
use Rattle.std.specs.Prelude.{◌≡◌, None, Option}
use Rattle.store.specs.declared.entry.Key.{Key}
use Rattle.store.specs.declared.entry.Entry.{Entry}
use Rattle.store.specs.Interface.{StoreMeaning}

-- it is done with an answer, or asks and goes on by what it is answered, or notes an entry and goes on
pub data Tree (A : Type 0) : Type 0 where
  done : A → Tree A
  ask : Key → (Option Entry → Tree A) → Tree A
  note : Entry → Tree A → Tree A

-- one computation, and then one that goes by its answer
abbrev pub bind : {A B : Type 0} → Tree A → (A → Tree B) → Tree B
bind (done x) g = g x
bind (ask k t) g = ask k (λ o. bind (t o) g)
bind (note e t) g = note e (bind t g)

-- what a store makes of it: asked it answers what it shows, noted entries it records by its own rule; it goes from the
-- state s to the state t, with the answer r
abbrev pub Runs : {S A : Type 0} → StoreMeaning S → Tree A → S → S → A → Type 0
Runs 𝓢 (done x) s t r = (s ≡ t) × (x ≡ r)
Runs 𝓢 (ask k g) s t r = Runs 𝓢 (g (𝓢.shows s k)) s t r
Runs {S = S} 𝓢 (note e g) s t r = (u : S) × 𝓢.records s e u × Runs 𝓢 g u t r

-- its answer over a store that never shows an entry
abbrev pub bare : {A : Type 0} → Tree A → A
bare (done x) = x
bare (ask k g) = bare (g None)
bare (note e t) = bare t
