-- The value of a line in the game tree: what the best play of both sides comes to.
use Rattle.std.specs.Prelude.{ℕ, zero, suc, min, max, Bool, true, false, ◌∷◌, Some, None, Option, nat_le}
use Rattle.game.specs.Kinds.{Score, is_black, points}
use Rattle.game.specs.Meaning.{Line, View, Meaning}

-- the greatest and the least of g 0 .. g (n − 1)
abbrev pub greatest : ℕ → (ℕ → ℕ) → ℕ
greatest zero g = 0
greatest (suc n) g = max (greatest n g) (g n)

abbrev pub least : ℕ → (ℕ → ℕ) → ℕ
least zero g = 2
least (suc n) g = min (least n g) (g n)

-- the best of the moves for the side on turn
abbrev pub best : Bool → ℕ → (ℕ → ℕ) → ℕ
best true n g = greatest n g
best false n g = least n g

abbrev pub score_or : Option Score → ℕ → ℕ
score_or (Some s) v = points s
score_or None v = v

abbrev pub black_moves : View → Bool
black_moves v = is_black v.turn

-- the value of a line that is over is its score, and any other has the best value one move on; at most `fuel` moves
-- more are played, so that in a bounded game its height is fuel enough
unfoldable pub value : Meaning → ℕ → Line → ℕ
value m zero l = score_or (m.view l).score 0
value m (suc fuel) l =
    score_or (m.view l).score (best (black_moves (m.view l)) (m.view l).moves (λ k. value m fuel (k ∷ l)))

-- the verdict for a floor: is the value of the line at least the floor?
abbrev pub at_least : Meaning → ℕ → ℕ → Line → Bool
at_least m h floor l = nat_le floor (value m h l)
