-- What a written proof is good for.
use Rattle.std.specs.Prelude.{◌≡◌, ℕ, ◌<◌, ◌≤◌, Bool, ◌⊎◌, List, ◌∷◌, length, None}
use Rattle.game.specs.Meaning.{Line, Meaning, Reachable}
use Rattle.game.specs.Laws.{Lawful, BoundedBy}
use Rattle.game.specs.Value.{at_least, black_moves}
use Rattle.store.specs.Interface.{StoreMeaning}
use Rattle.search_method.specs.declared.kinds.Answer.TheVariants.{Solved}
use Rattle.search_method.specs.Tree.{Runs}
use Rattle.search_method.specs.Search.{solve}
use Rattle.search_method.specs.Truth.{AllSound}
use Rattle.proof_method.specs.Check.{accepted, check}
use Rattle.proof_method.specs.Write.{proof, unwritten, write, write_by}

-- over a sound store: what write wrote is accepted by check there under the same budget, with no more plays than write
-- made; it fits the buffer; and the store is sound again
abbrev pub WritesProofs : {S : Type 0} → StoreMeaning S → Type 0
WritesProofs {S} 𝓢 =
    (m : Meaning) (h : ℕ) → Lawful m → BoundedBy m h → (l : Line) → Reachable m l →
    (floor : ℕ) → 1 ≤ floor → floor ≤ 2 → (budget room : ℕ) (s t : S) (v : Bool) (bytes : List ℕ) (count : ℕ) →
    AllSound 𝓢 m h s → Runs 𝓢 (write m l floor budget room) s t (proof v bytes count) →
    ((p : ℕ) × (p ≤ count) × (check m l bytes budget ≡ accepted floor v (length bytes) p)) × (length bytes ≤ room) × AllSound 𝓢 m h t

-- at a turn of the claiming side where the claim v is true, a search over a sound store that ends with a verdict
-- answers the claim again, with a move of the line that keeps it true
abbrev pub ClaimFound : {S : Type 0} → StoreMeaning S → Type 0
ClaimFound {S} 𝓢 =
    (m : Meaning) (h : ℕ) → Lawful m → BoundedBy m h → (l : Line) → Reachable m l →
    (floor : ℕ) → 1 ≤ floor → floor ≤ 2 → (budget : ℕ) (s t : S) (v w : Bool) (k count : ℕ) →
    AllSound 𝓢 m h s → (m.view l).score ≡ None → black_moves (m.view l) ≡ v → at_least m h floor l ≡ v →
    Runs 𝓢 (solve m l floor budget) s t (Solved w k count) →
    (w ≡ v) × (k < (m.view l).moves) × (at_least m h floor (k ∷ l) ≡ v)

-- so, over a sound store, whatever a stray move would be refused with, write is refused with 7 or 8 only
abbrev pub NoStray : {S : Type 0} → StoreMeaning S → Type 0
NoStray {S} 𝓢 =
    (m : Meaning) (h : ℕ) → Lawful m → BoundedBy m h → (l : Line) → Reachable m l →
    (floor : ℕ) → 1 ≤ floor → floor ≤ 2 → (stray budget room : ℕ) (s t : S) (n : ℕ) →
    AllSound 𝓢 m h s → Runs 𝓢 (write_by stray m l floor budget room) s t (unwritten n) →
    ((n ≡ 7) ⊎ (n ≡ 8)) × AllSound 𝓢 m h t
