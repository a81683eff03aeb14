-- What a proof says: a strategy of the claiming side, which is Black for yes and White for no.
use Rattle.std.specs.Prelude.{◌≡◌, ℕ, zero, suc, ◌+◌, ◌<◌, Bool, cond, not, List, [], ◌∷◌, ◌++◌, Some, None, nat_le}
use Rattle.codec.specs.Numbers.{encode}
use Rattle.game.specs.declared.kinds.Score.{Score}
use Rattle.game.specs.Kinds.{points}
use Rattle.game.specs.Meaning.{Line, Meaning}
use Rattle.game.specs.Value.{black_moves}

-- the line is over; the claiming side plays k; or each of the moves 0 .. r − 1 of the other side is answered
pub data Strategy : Type 0 where
  over : Strategy
  move : ℕ → Strategy → Strategy
  replies : ℕ → (ℕ → Strategy) → Strategy

-- g 0, g 1, .., g (r − 1) one after another
abbrev pub join : (ℕ → List ℕ) → ℕ → List ℕ
join g zero = []
join g (suc r) = g 0 ++ join (λ k. g (suc k)) r

-- the moves of a strategy as bytes, in the order in which they are met
abbrev pub written : Strategy → List ℕ
written over = []
written (move k s) = encode k ++ written s
written (replies r g) = join (λ k. written (g k)) r

-- r plays, and after the play of k those of g k
abbrev pub total : (ℕ → ℕ) → ℕ → ℕ
total g zero = 0
total g (suc r) = suc (g 0) + total (λ k. g (suc k)) r

-- the plays of a walk through the whole strategy
abbrev pub plays : Strategy → ℕ
plays over = 0
plays (move k s) = suc (plays s)
plays (replies r g) = total (λ k. plays (g k)) r

-- the strategy can be followed from the line l, and every end gives the verdict v for the floor
abbrev pub Wins : Meaning → ℕ → Bool → Line → Strategy → Type 0
Wins m floor v l over = (s : Score) × ((m.view l).score ≡ Some s) × (nat_le floor (points s) ≡ v)
Wins m floor v l (move k s) =
    ((m.view l).score ≡ None) × (black_moves (m.view l) ≡ v) × (k < (m.view l).moves) × Wins m floor v (k ∷ l) s
Wins m floor v l (replies r g) =
    ((m.view l).score ≡ None) × (black_moves (m.view l) ≡ not v) × (r ≡ (m.view l).moves)
    × ((k : ℕ) → k < r → Wins m floor v (k ∷ l) (g k))

-- a verdict as a number: 1 for yes, 0 for no
abbrev pub bit : Bool → ℕ
bit v = cond v 1 0

-- a whole proof file: the floor, the verdict, then the moves
abbrev pub file : ℕ → Bool → Strategy → List ℕ
file floor v s = encode floor ++ (encode (bit v) ++ written s)
