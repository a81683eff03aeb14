-- What a game means: what it tells of every line. A line is the list of the moves played, the newest first.
use Rattle.std.specs.Prelude.{◌≡◌, ℕ, ◌<◌, Bool, List, [], ◌∷◌, ◌++◌, Option}
use Rattle.game.specs.Kinds.{Side, Score}

abbrev pub Line : Type 0
Line = List ℕ

-- what a game tells of one line: the side on turn, the number of moves, the score where the line is over, the two
-- position words, the context word, the level, and whether the line is path-independent
pub record View : Type 0 where
  pub turn : Side
  pub moves : ℕ
  pub score : Option Score
  pub a : ℕ
  pub b : ℕ
  pub context : ℕ
  pub level : ℕ
  pub independent : Bool

-- what a game tells of every line, and the number of moves by which every line has ended, where there is one
pub record Meaning : Type 0 where
  pub view : Line → View
  pub height : Option ℕ

-- each move of the line was legal when it was played
abbrev pub Reachable : Meaning → Line → Type 0
Reachable m [] = Unit {0}
Reachable m (k ∷ l) = Reachable m l × (k < (m.view l).moves)

-- the same turn, number of moves, score and position words
pub record Same (v w : View) : Type 0 where
  pub turn : v.turn ≡ w.turn
  pub moves : v.moves ≡ w.moves
  pub score : v.score ≡ w.score
  pub a : v.a ≡ w.a
  pub b : v.b ≡ w.b

-- after p in m and q in n each same list of moves, the empty one too, finds the same
abbrev pub Bisimilar : Meaning → Line → Meaning → Line → Type 0
Bisimilar m p n q =
    (w : Line) → Reachable m (w ++ p) → Reachable n (w ++ q) × Same (m.view (w ++ p)) (n.view (w ++ q))
