-- Atari Go as a game: what a line leads to, and what is told of it.
use Rattle.std.specs.Prelude.{◌≡◌, ℕ, ◌+◌, ◌*◌, ◌^◌, true, cond, List, [], ◌∷◌, length, Some, None, ◌==◌, slice_index}
use Rattle.game.specs.declared.kinds.Side.{Side}
use Rattle.game.specs.declared.kinds.Side.TheVariants.{Black, White}
use Rattle.game.specs.declared.kinds.Score.{Score}
use Rattle.game.specs.declared.kinds.Score.TheVariants.{BlackWins, WhiteWins}
use Rattle.game.specs.Kinds.{number_of, is_black, other}
use Rattle.game.specs.Meaning.{Line, View, Meaning}
use Rattle.go_rules.specs.declared.place.Place.{Place}
use Rattle.point_sets.specs.Points.{has, list_of}
use Rattle.go_rules.specs.Groups.{OnBoard}
use Rattle.go_rules.specs.Rules.{free_of, with_stone, move_set}

-- Black's or White's, by the side
abbrev pub by_side : Side → ℕ → ℕ → ℕ
by_side side x y = cond (is_black side) x y

-- the position of these stones, with the legal moves of the side on turn
abbrev pub place_of : ℕ → ℕ → ℕ → Side → Place
place_of n black white side = record {
  black = black;
  white = white;
  side = side;
  moves = move_set n (by_side side black white) (by_side side white black);
}

-- the points of the legal moves: the number of a move is the place of its point in this list
abbrev pub moves_at : ℕ → Place → List ℕ
moves_at n x = list_of (n * n) (has x.moves)

-- a stone of the side on turn on p
abbrev pub placed : ℕ → Place → ℕ → Place
placed n x p =
    place_of n (by_side x.side (with_stone x.black p) x.black) (by_side x.side x.white (with_stone x.white p)) (other x.side)

-- the position after move k
abbrev pub after : ℕ → Place → ℕ → Place
after n x k = placed n x (slice_index (moves_at n x) k)

-- the position that a line leads to
abbrev pub standing : ℕ → Place → Line → Place
standing n x [] = x
standing n x (k ∷ l) = after n (standing n x l) k

-- the number of empty points
abbrev pub empty_ones : ℕ → Place → ℕ
empty_ones n x = length (list_of (n * n) (has (free_of n x.black x.white)))

-- the score of a win for a side
abbrev pub win_for : Side → Score
win_for Black = BlackWins
win_for White = WhiteWins

-- who has no move has lost
abbrev pub place_view : ℕ → Place → View
place_view n x = record {
  turn = x.side;
  moves = length (moves_at n x);
  score = cond (length (moves_at n x) == 0) (Some (win_for (other x.side))) None;
  a = x.black;
  b = x.white + 2 ^ 49 * number_of x.side;
  context = 0;
  level = empty_ones n x;
  independent = true;
}

-- the game on a board of n lines that starts at x; each move fills a point, so that its height is the number of empty points
abbrev pub atari_go : ℕ → Place → Meaning
atari_go n x = record {
  view = λ l. place_view n (standing n x l);
  height = Some (empty_ones n x);
}

-- stones of the board, with the legal moves of the side on turn
abbrev pub Position : ℕ → Place → Type 0
Position n x =
    OnBoard n x.black × OnBoard n x.white
    × (x.moves ≡ move_set n (by_side x.side x.black x.white) (by_side x.side x.white x.black))
