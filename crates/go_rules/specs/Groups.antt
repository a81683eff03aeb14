-- The board of n by n points, numbered by rows from 0.
use Rattle.std.specs.Prelude.{◌≡◌, ℕ, zero, suc, ◌+◌, ◌-◌, ◌*◌, ◌/◌, ◌%◌, ◌^◌, ◌<◌, Bool, true, false, ◌&&◌, ◌||◌, ltb, ◌⊎◌, Decides, ◌==◌, bit_or, nat_le, nat_lt}
use Rattle.std.specs.Int.Bits.{bit_and}
use Rattle.point_sets.specs.Points.{has, set_of}

-- one of two numbers follows the other
abbrev pub Next : ℕ → ℕ → Type 0
Next a b = (a + 1 ≡ b) ⊎ (b + 1 ≡ a)

-- p and q are neighbours on the board: in one row and in columns side by side, or in one column and in rows side by side
pub record Neighbours (n p q : ℕ) : Type 0 where
  pub on_board : p < n * n
  pub there : q < n * n
  pub near : ((p / n ≡ q / n) × Next (p % n) (q % n)) ⊎ ((p % n ≡ q % n) × Next (p / n) (q / n))

-- a chain of neighbouring points of the set s leads from p to q
pub data Joined (n s : ℕ) : ℕ → ℕ → Type 0 where
  here : {p : ℕ} → has s p ≡ true → Joined n s p p
  step : {p q r : ℕ} → Joined n s p q → Neighbours n q r → has s r ≡ true → Joined n s p r

-- point p has a neighbour in m: to the left, to the right, above, below
abbrev pub touches : ℕ → ℕ → ℕ → Bool
touches n m p =
    ((nat_lt 0 (p % n) && has m (p - 1)) || (nat_lt (p % n + 1) n && has m (p + 1)))
    || ((nat_le n p && has m (p - n)) || has m (p + n))

-- the neighbours of the points of m, a set of points of the board
unfoldable pub around : ℕ → ℕ → ℕ
around n m = set_of (n * n) (touches n m)

-- the words that go with a board of n lines: all of its points, those with a neighbour to the left, those with one to the right
abbrev pub points : ℕ → ℕ
points n = set_of (n * n) (λ p. true)

abbrev pub left_ones : ℕ → ℕ
left_ones n = set_of (n * n) (λ p. ltb 0 (p % n))

abbrev pub right_ones : ℕ → ℕ
right_ones n = set_of (n * n) (λ p. ltb (p % n + 1) n)

-- g and its neighbours, within s
abbrev pub grown : ℕ → ℕ → ℕ → ℕ
grown n s g = bit_and s (bit_or g (around n g))

-- g grown within s until nothing is added, at most k times
abbrev pub spread : ℕ → ℕ → ℕ → ℕ → ℕ
spread zero n s g = g
spread (suc k) n s g = elim (grown n s g == g) [ true ↦ g | false ↦ spread k n s (grown n s g) ]

-- the points of s that are joined within s to a point of f: each growth makes the number larger, so that s growths are enough
unfoldable pub reach : ℕ → ℕ → ℕ → ℕ
reach n s f = spread s n s (bit_and f s)

-- m is a set of points of the board
abbrev pub OnBoard : ℕ → ℕ → Type 0
OnBoard n m = m < 2 ^ (n * n)

-- r is the set of the points that a chain within s joins to a point of f
abbrev pub Chained : ℕ → ℕ → ℕ → ℕ → Type 0
Chained n s f r = (q : ℕ) → Decides (has r q) ((p : ℕ) × (has f p ≡ true) × Joined n s p q)
