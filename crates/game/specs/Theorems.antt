-- What follows from the definitions alone.
use Rattle.std.specs.Prelude.{◌≡◌, ℕ}
use Rattle.game.specs.Meaning.{Line, Meaning, Reachable, Bisimilar}
use Rattle.game.specs.Laws.{Lawful, BoundedBy}
use Rattle.game.specs.Value.{value}
use Rattle.game.specs.Refusals.{played_line, shorter}

-- play and take back lead from reachable lines to reachable lines, whatever they answer
abbrev pub StaysReachable : Type 0
StaysReachable = (m : Meaning) (l : Line) (k : ℕ) → Reachable m l → Reachable m (played_line m l k) × Reachable m (shorter l)

-- bisimilar lines of two bounded games have the same value
abbrev pub OneValue : Type 0
OneValue =
    (m n : Meaning) (h g : ℕ) → Lawful m → BoundedBy m h → Lawful n → BoundedBy n g →
    (p q : Line) → Reachable m p → Bisimilar m p n q → value m h p ≡ value n g q

-- if p is bisimilar to q then q is bisimilar to p
abbrev pub BothWays : Type 0
BothWays = (m n : Meaning) (p q : Line) → Reachable m p → Bisimilar m p n q → Bisimilar n q m p
