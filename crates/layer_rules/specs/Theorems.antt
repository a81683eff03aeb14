-- What follows from the definitions alone, for every game below.
use Rattle.std.specs.Prelude.{◌≡◌, ℕ, ◌≤◌, length, ◌==◌}
use Rattle.game.specs.Meaning.{Line, Meaning, Reachable}
use Rattle.game.specs.Laws.{Lawful, BoundedBy}
use Rattle.layer_rules.specs.Layers.{limit_layer, limited, repeated}

-- under a limit, no reachable line is longer, and exactly those of that length end by it
abbrev pub LimitExact : Type 0
LimitExact = (n : ℕ) (m : Meaning) (l : Line) → Reachable (limited n m) l → (length l ≤ n) × ((limit_layer n m).ends l ≡ (length l == n))

-- both layers keep the laws of every game below
abbrev pub LawsKept : Type 0
LawsKept = (m : Meaning) → Lawful m → Lawful (repeated m) × ((n : ℕ) → n ≤ 96 → Lawful (limited n m))

-- a game under a limit has the limit as its height, and repetition keeps the height of a bounded game
abbrev pub Heights : Type 0
Heights = (m : Meaning) (h : ℕ) → (h ≤ 96 → BoundedBy (limited h m) h) × (BoundedBy m h → BoundedBy (repeated m) h)
