-- The rules of Atari Go in the game's own words, over what the game tells of a line.
use Rattle.std.specs.Prelude.{◌≡◌, ℕ, ◌-◌, ◌*◌, ◌^◌, ◌<◌, true, ◌⊎◌, List, ◌∷◌, is_some, Some, None}
use Rattle.game.specs.Kinds.{number_of, other}
use Rattle.game.specs.Meaning.{Line, View, Meaning, Reachable}
use Rattle.point_sets.specs.Points.{has}
use Rattle.go_rules.specs.Rules.{free_of, HasLiberty, with_stone, LegalMove}
use Rattle.go_rules.specs.Play.{by_side, win_for}
use Rattle.go_rules.specs.Text.{lines_of, game_of, read_fault}

-- White's stones, out of the second position word; the first is Black's
abbrev pub white_of : View → ℕ
white_of v = v.b - 2 ^ 49 * number_of v.turn

-- the stones of the side on turn, and of the other side
abbrev pub own_of : View → ℕ
own_of v = by_side v.turn v.a (white_of v)

abbrev pub foe_of : View → ℕ
foe_of v = by_side v.turn (white_of v) v.a

-- every group of own has a liberty
abbrev pub Alive : ℕ → ℕ → ℕ → Type 0
Alive n own foe = (q : ℕ) → has own q ≡ true → HasLiberty n own (free_of n own foe) q

-- a group of own has no liberty
abbrev pub Taken : ℕ → ℕ → ℕ → Type 0
Taken n own foe = (q : ℕ) × (has own q ≡ true) × (HasLiberty n own (free_of n own foe) q → ⊥)

-- the side on turn, whose stones are own, has lost: one of its groups has no liberty, or it has no legal move
abbrev pub Lost : ℕ → ℕ → ℕ → Type 0
Lost n own foe = Taken n own foe ⊎ ((p : ℕ) → LegalMove n own foe p → ⊥)

-- the line l of the game m is told by the rules, where own and foe are the stones of the side on turn and of the other side
pub record ByRules (n : ℕ) (m : Meaning) (l : Line) (own foe : ℕ) : Type 0 where
  -- the point of each move
  pub point : ℕ → ℕ
  -- a move is a legal one of a side all of whose groups have a liberty, and each of these is a move
  pub legal : (k : ℕ) → k < (m.view l).moves → Alive n own foe × LegalMove n own foe (point k)
  pub every : (p : ℕ) → Alive n own foe → LegalMove n own foe p → (k : ℕ) × (k < (m.view l).moves) × (point k ≡ p)
  -- moves are in the order of their points
  pub ordered : (j k : ℕ) → j < k → k < (m.view l).moves → point j < point k
  -- a move puts a stone on its point, changes no other stone, and gives the turn to the other side
  pub turns : (k : ℕ) → (m.view (k ∷ l)).turn ≡ other (m.view l).turn
  pub stone : (k : ℕ) → foe_of (m.view (k ∷ l)) ≡ with_stone own (point k)
  pub rest : (k : ℕ) → own_of (m.view (k ∷ l)) ≡ foe
  -- the line is over exactly where the side on turn has lost, and then the other side wins
  pub over : is_some (m.view l).score ≡ true → Lost n own foe
  pub wins : Lost n own foe → (m.view l).score ≡ Some (win_for (other (m.view l).turn))

-- every reachable line of the game of a text that is read is told by the rules
abbrev pub ToldByRules : Type 0
ToldByRules =
    (t : List ℕ) → read_fault t ≡ None → (l : Line) → Reachable (game_of t) l →
    ByRules (lines_of t) (game_of t) l (own_of ((game_of t).view l)) (foe_of ((game_of t).view l))
