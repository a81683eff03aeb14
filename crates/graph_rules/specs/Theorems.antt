-- Which rows of nodes are graphs, in words, and that every graph is a game.
use Rattle.std.specs.Prelude.{◌≡◌, ℕ, ◌<◌, ◌≤◌, false, ◌≢◌, List, length, is_some, Some, slice_index}
use Rattle.game.specs.Laws.{Lawful}
use Rattle.graph_rules.specs.declared.node.Node.{Node}
use Rattle.graph_rules.specs.Graphs.{graph_fault, node_at, graph}

-- one of `size` nodes: a side on turn; one to four targets where the game goes on, a score and none where it ends; each
-- counted target the number of a node
pub record Ruled (size : ℕ) (n : Node) : Type 0 where
  pub turn : n.turn ≤ 1
  pub going : n.score ≡ 255 → (1 ≤ n.count) × (n.count ≤ 4)
  pub ends : n.score ≢ 255 → (n.score ≤ 2) × (n.count ≡ 0)
  pub target : (k : ℕ) → k < n.count → slice_index n.targets k < size

-- one to 64 nodes, each of them by the rules
pub record Allowed (ns : List Node) : Type 0 where
  pub some : 1 ≤ length ns
  pub few : length ns ≤ 64
  pub each : (i : ℕ) → i < length ns → Ruled (length ns) (node_at ns i)

-- no fault is found in exactly the rows that are allowed
abbrev pub AllowedExactly : Type 0
AllowedExactly = (ns : List Node) → (is_some (graph_fault ns) ≡ false → Allowed ns) × (Allowed ns → is_some (graph_fault ns) ≡ false)

-- a fault in one to 64 nodes is at the first that is not by the rules
abbrev pub FirstBadNode : Type 0
FirstBadNode =
    (ns : List Node) (i : ℕ) → 1 ≤ length ns → length ns ≤ 64 → graph_fault ns ≡ Some i →
    (i < length ns) × (Ruled (length ns) (node_at ns i) → ⊥) × ((j : ℕ) → j < i → Ruled (length ns) (node_at ns j))

-- the game on every graph keeps the laws
abbrev pub GraphsLawful : Type 0
GraphsLawful = (ns : List Node) → Allowed ns → Lawful (graph ns)
