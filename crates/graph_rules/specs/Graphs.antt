-- An explicit game graph: nodes with the side on turn, an end score or none, and one to four targets.
-- The game starts at node 0.
use Rattle.std.specs.Prelude.{ℕ, Bool, true, not, cond, ◌&&◌, List, [], ◌∷◌, length, take, Some, None, Option, ◌==◌, nat_le, nat_lt, slice_index, slice_index_or}
use Rattle.std.specs.List.{list_all, position}
use Rattle.game.specs.declared.kinds.Side.{Side}
use Rattle.game.specs.declared.kinds.Side.TheVariants.{Black, White}
use Rattle.game.specs.declared.kinds.Score.{Score}
use Rattle.game.specs.declared.kinds.Score.TheVariants.{WhiteWins, Draw, BlackWins}
use Rattle.game.specs.Meaning.{Line, View, Meaning}
use Rattle.game.specs.Refusals.{Refused}
use Rattle.graph_rules.specs.declared.node.Node.{Node}

-- an end has a score of 0 to 2 and no targets, any other node the score 255 and one to four targets
abbrev pub end_good : Node → Bool
end_good n = cond (n.score == 255) (nat_le 1 n.count && nat_le n.count 4) (nat_le n.score 2 && n.count == 0)

-- each target that is counted is the number of a node
abbrev pub targets_good : ℕ → Node → Bool
targets_good size n = list_all (λ t. nat_lt t size) (take n.count n.targets)

abbrev pub node_good : ℕ → Node → Bool
node_good size n = nat_le n.turn 1 && (end_good n && targets_good size n)

-- where a row of nodes is found not to be a graph: there are none, or more than 64, or one of them is bad
abbrev pub graph_fault : List Node → Option ℕ
graph_fault ns =
    cond (length ns == 0) (Some 0) (cond (nat_le (length ns) 64) (position (λ n. not (node_good (length ns) n)) ns) (Some 64))

-- a row of nodes that is no graph is a position that is not allowed, number 15
abbrev pub not_allowed : Option ℕ → Option Refused
not_allowed None = None
not_allowed (Some i) = Some (record { number = 15; place = i })

abbrev pub node_at : List Node → ℕ → Node
node_at ns i = slice_index_or ns i (record { turn = 0; score = 0; count = 0; targets = [] })

-- the number of the node that a line leads to
abbrev pub standing : List Node → Line → ℕ
standing ns [] = 0
standing ns (k ∷ l) = slice_index (node_at ns (standing ns l)).targets k

-- side 0 is Black, side 1 White
abbrev pub side_of : ℕ → Side
side_of t = cond (t == 0) Black White

-- the score of an end, by its points
abbrev pub score_of : ℕ → Option Score
score_of s = cond (s == 0) (Some WhiteWins) (cond (s == 1) (Some Draw) (cond (s == 2) (Some BlackWins) None))

-- at node i: the first position word is its number, and every line is path-independent
abbrev pub node_view : ℕ → Node → View
node_view i n = record {
  turn = side_of n.turn;
  moves = n.count;
  score = score_of n.score;
  a = i;
  b = 0;
  context = 0;
  level = 0;
  independent = true;
}

-- the game on a graph; it has no fixed height
abbrev pub graph : List Node → Meaning
graph ns = record {
  view = λ l. node_view (standing ns l) (node_at ns (standing ns l));
  height = None;
}
