-- The worked examples: a position of Atari Go, a small graph under both layers, number forms, proof files.
use Rattle.std.specs.Prelude.{◌≡◌, ℕ, true, false, List, [], ◌∷◌, Some, None, codes, slice_index_or}
use Rattle.game.specs.declared.kinds.Score.TheVariants.{BlackWins}
use Rattle.game.specs.Meaning.{Line, Meaning}
use Rattle.go_rules.specs.Play.{moves_at, atari_go}
use Rattle.go_rules.specs.Text.{start_of, read_fault}
use Rattle.graph_rules.specs.declared.node.Node.{Node}
use Rattle.graph_rules.specs.Graphs.{graph}
use Rattle.layer_rules.specs.Layers.{limited, repeated}
use Rattle.search_method.specs.declared.kinds.Answer.TheVariants.{Solved, OutOfBudget}
use Rattle.search_method.specs.Bound.{enough}
use Rattle.search_method.specs.Tree.{done, bare}
use Rattle.search_method.specs.Search.{solve}
use Rattle.codec.specs.Numbers.{encode, read, refused}
use Rattle.proof_method.specs.Check.{Checked, accepted, faulty, check}

-- White's corner stone can be taken at once
abbrev pub corner : List ℕ
corner = codes "G3:B:WB......."

abbrev pub corner_game : Meaning
corner_game = atari_go 3 (start_of corner)

-- a node that goes on: side 0 is Black, 1 White; unused targets are 0
abbrev pub going : ℕ → ℕ → ℕ → ℕ → Node
going turn count first second = record { turn = turn; score = 255; count = count; targets = first ∷ second ∷ 0 ∷ 0 ∷ [] }

-- 0 White to 1 and 2; 1 Black to 3 and 4; 2 White to 3; 3 White to 1; 4 is won by Black
abbrev pub nodes : List Node
nodes =
    going 1 2 1 2 ∷ going 0 2 3 4 ∷ going 1 1 3 0 ∷ going 1 1 1 0
    ∷ record { turn = 0; score = 2; count = 0; targets = 0 ∷ 0 ∷ 0 ∷ 0 ∷ [] } ∷ []

-- a repeated position is a draw, and so is the tenth move
abbrev pub example : Meaning
example = limited 10 (repeated (graph nodes))

abbrev pub fault : ℕ → ℕ → ℕ → ℕ → Checked
fault number place depth carried = faulty (record { number = number; place = place; depth = depth; carried = carried })

-- a line has its newest move first; `bare` is over a store that shows nothing
pub record WorkedExamples : Type 0 where
  -- plays that suffice one move from the height
  pub one_move_to_go : enough 1 ≡ 67_108_865
  -- the position is allowed and has seven moves; move 1 is point 3, and Black has won
  pub corner_allowed : read_fault corner ≡ None
  pub corner_moves : (corner_game.view []).moves ≡ 7
  pub corner_point : slice_index_or (moves_at 3 (start_of corner)) 1 0 ≡ 3
  pub corner_won : (corner_game.view (1 ∷ [])).score ≡ Some BlackWins
  -- the graph, asked for at least 2
  pub graph_start : bare (solve example [] 2 1000) ≡ Solved true 255 12
  pub graph_12_plays : bare (solve example [] 2 12) ≡ Solved true 255 12
  pub graph_11_plays : bare (solve example [] 2 11) ≡ OutOfBudget 11
  pub graph_0_0 : bare (solve example (0 ∷ 0 ∷ []) 2 1000) ≡ Solved false 0 1
  pub graph_1_0 : bare (solve example (0 ∷ 1 ∷ []) 2 1000) ≡ Solved true 255 4
  -- under a limit of no moves every game that is not over below is drawn
  pub no_moves_allowed : (m : Meaning) (budget : ℕ) → (m.view []).score ≡ None → solve (limited 0 m) [] 1 budget ≡ done (Solved true 255 0)
  -- the forms of numbers
  pub three_hundred : encode 300 ≡ 0xac ∷ 0x02 ∷ []
  pub not_shortest : read (0x80 ∷ 0x00 ∷ []) ≡ refused
  pub not_shortest_checked : (m : Meaning) (l : Line) (budget : ℕ) → check m l (0x80 ∷ 0x00 ∷ []) budget ≡ fault 9 0 0 0
  -- proofs of the corner position: one that takes a play, and one with a move that there is not
  pub corner_proof : check corner_game [] (0x02 ∷ 0x01 ∷ 0x01 ∷ []) 1 ≡ accepted 2 true 3 1
  pub corner_no_move : (budget : ℕ) → check corner_game [] (0x02 ∷ 0x01 ∷ 0x07 ∷ []) budget ≡ fault 11 2 0 1
