-- On one small graph, each shortcut takes two lines of different value for one another.
use Rattle.std.specs.Prelude.{◌≡◌, List, [], ◌∷◌, true, ℕ}
use Rattle.game.specs.Meaning.{Line, Meaning, Reachable, Bisimilar}
use Rattle.game.specs.Laws.{Lawful}
use Rattle.game.specs.Value.{value}
use Rattle.layer_rules.specs.Layers.{limited, repeated}
use Rattle.graph_rules.specs.declared.node.Node.{Node}
use Rattle.graph_rules.specs.Graphs.{graph}
use Rattle.layer_shortcuts.specs.Shortcuts.{shareless, levelless}

-- a node that goes on: side 0 is Black, 1 White; unused targets are 0
abbrev pub going : ℕ → ℕ → ℕ → ℕ → Node
going turn count first second = record { turn = turn; score = 255; count = count; targets = first ∷ second ∷ 0 ∷ 0 ∷ [] }

-- 0 White to 1 and 2; 1 Black to 3 and 4; 2 White to 3; 3 White to 1; 4 is won by Black
abbrev pub fork : List Node
fork =
    going 1 2 1 2 ∷ going 0 2 3 4 ∷ going 1 1 3 0 ∷ going 1 1 1 0
    ∷ record { turn = 0; score = 2; count = 0; targets = 0 ∷ 0 ∷ 0 ∷ 0 ∷ [] } ∷ []

-- two reachable path-independent lines with equal words that are not bisimilar
pub record Confused (m : Meaning) (p q : Line) : Type 0 where
  pub reached_p : Reachable m p
  pub reached_q : Reachable m q
  pub independent_p : (m.view p).independent ≡ true
  pub independent_q : (m.view q).independent ≡ true
  pub a : (m.view p).a ≡ (m.view q).a
  pub b : (m.view p).b ≡ (m.view q).b
  pub context : (m.view p).context ≡ (m.view q).context
  pub apart : Bisimilar m p m q → ⊥

-- Limit 3 without its share: the lines 0 and 1, 0, 0 both stand at node 1, but the second is already a draw, while Black
-- wins after the first; so the shortcut breaks a law that the graph and the true limit keep
abbrev pub ShareNeeded : Type 0
ShareNeeded =
    Lawful (limited 3 (graph fork))
    × Confused (shareless 3 (graph fork)) (0 ∷ []) (0 ∷ 0 ∷ 1 ∷ [])
    × (value (shareless 3 (graph fork)) 3 (0 ∷ []) ≡ 2)
    × (value (shareless 3 (graph fork)) 3 (0 ∷ 0 ∷ 1 ∷ []) ≡ 1)
    × (Lawful (shareless 3 (graph fork)) → ⊥)

-- Repeat without the levels: the lines 0, 0 and 1, 0 both stand at node 3 and neither is over, but the next move repeats
-- node 1 only after the first, while Black wins after the second
abbrev pub LevelsNeeded : Type 0
LevelsNeeded =
    Lawful (limited 10 (repeated (graph fork)))
    × Confused (levelless (graph fork)) (0 ∷ 0 ∷ []) (0 ∷ 1 ∷ [])
    × (value (limited 10 (levelless (graph fork))) 10 (0 ∷ 0 ∷ []) ≡ 1)
    × (value (limited 10 (levelless (graph fork))) 10 (0 ∷ 1 ∷ []) ≡ 2)
    × (Lawful (levelless (graph fork)) → ⊥)
