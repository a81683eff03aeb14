-- Every verdict of the search is that of the value, over every store in which the trusted verdicts are true.
use Rattle.std.specs.Prelude.{◌≡◌, ℕ, ◌<◌, ◌≤◌, Bool, true, false, not, ◌∷◌, None}
use Rattle.game.specs.Meaning.{Line, Meaning, Reachable}
use Rattle.game.specs.Laws.{Lawful, BoundedBy}
use Rattle.game.specs.Value.{at_least, black_moves}
use Rattle.store.specs.declared.entry.Key.{Key}
use Rattle.store.specs.declared.entry.Finding.{Finding}
use Rattle.store.specs.declared.entry.Finding.TheVariants.{Verdict, Open}
use Rattle.store.specs.declared.entry.Entry.{Entry}
use Rattle.store.specs.Interface.{StoreMeaning}
use Rattle.search_method.specs.Kinds.{Answer, Solved, OutOfBudget}
use Rattle.search_method.specs.Tree.{Runs}
use Rattle.search_method.specs.Search.{key, solve}

-- the verdict v is true at a path-independent reachable line with the key k
pub record TrueSomewhere (m : Meaning) (H : ℕ) (k : Key) (v : Bool) : Type 0 where
  pub line : Line
  pub reached : Reachable m line
  pub independent : (m.view line).independent ≡ true
  pub same_key : key m k.floor line ≡ k
  pub holds : at_least m H k.floor line ≡ v

-- a verdict that is marked path-independent must be true somewhere; any other entry may say anything
abbrev pub SoundFinding : Meaning → ℕ → Key → Finding → Type 0
SoundFinding m H k (Open p d) = Unit {0}
SoundFinding m H k (Verdict v false move) = Unit {0}
SoundFinding m H k (Verdict v true move) = TrueSomewhere m H k v

abbrev pub Sound : Meaning → ℕ → Entry → Type 0
Sound m H e = SoundFinding m H e.key e.finding

-- a store is sound if every entry that it holds is
abbrev pub AllSound : {S : Type 0} → StoreMeaning S → Meaning → ℕ → S → Type 0
AllSound 𝓢 m H s = (e : Entry) → 𝓢.holds s e → Sound m H e

-- a verdict is that of the value; its move, at a line that is not over with the claiming side on turn, is legal and
-- keeps the verdict, and with the other side on turn it is 255
pub record RightVerdict (m : Meaning) (H floor : ℕ) (l : Line) (v : Bool) (move : ℕ) : Type 0 where
  pub value : at_least m H floor l ≡ v
  pub keeps : (m.view l).score ≡ None → v ≡ black_moves (m.view l) → (move < (m.view l).moves) × (at_least m H floor (move ∷ l) ≡ v)
  pub no_move : v ≡ not (black_moves (m.view l)) → move ≡ 255

abbrev pub Right : Meaning → ℕ → ℕ → Line → Answer → Type 0
Right m H floor l (Solved v move count) = RightVerdict m H floor l v move
Right m H floor l (OutOfBudget count) = Unit {0}

-- for every lawful game of height H, at every reachable line, for floors 1 and 2 and any budget: from a sound state of
-- the store every verdict is right, and the store is sound again
abbrev pub VerdictsTrue : {S : Type 0} → StoreMeaning S → Type 0
VerdictsTrue {S} 𝓢 =
    (m : Meaning) (H : ℕ) → Lawful m → BoundedBy m H → (l : Line) → Reachable m l →
    (floor : ℕ) → 1 ≤ floor → floor ≤ 2 → (budget : ℕ) (s t : S) (r : Answer) →
    AllSound 𝓢 m H s → Runs 𝓢 (solve m l floor budget) s t r → Right m H floor l r × AllSound 𝓢 m H t
