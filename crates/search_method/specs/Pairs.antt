-- Proof and disproof numbers: the pair of each move, the pair of a line, the choice of a move and its limits.
use Rattle.std.specs.Prelude.{ℕ, zero, suc, ◌+◌, ◌-◌, min, Bool, true, false, cond, ◌&&◌, ◌||◌, List, [], ◌∷◌, map, ◌==◌, nat_le, slice_index_or}
use Rattle.search_method.specs.Kinds.{Pair}

-- the greatest number of an open pair
abbrev pub M : ℕ
M = 1_048_575

-- the number of what can no longer be proved, or disproved
abbrev pub INF : ℕ
INF = 1_048_576

-- yes is proved, no is disproved
abbrev pub settled : Bool → Pair
settled true = record { pn = 0; dn = INF }
settled false = record { pn = INF; dn = 0 }

-- the pair of a move of which nothing is known
abbrev pub unknown : Pair
unknown = record { pn = 1; dn = 1 }

abbrev pub between : ℕ → Bool
between n = nat_le 1 n && nat_le n M

-- the open pair p, d where both are between 1 and M, otherwise 1, 1
abbrev pub in_range : ℕ → ℕ → Pair
in_range p d = cond (between p && between d) (record { pn = p; dn = d }) unknown

-- the least of the numbers, INF if there are none
abbrev pub least : List ℕ → ℕ
least [] = INF
least (x ∷ xs) = min x (least xs)

abbrev pub plain : List ℕ → ℕ
plain [] = 0
plain (x ∷ xs) = x + plain xs

-- one of the numbers is INF
abbrev pub endless : List ℕ → Bool
endless [] = false
endless (x ∷ xs) = x == INF || endless xs

-- INF if a term is INF, otherwise the smaller of M and the plain sum
abbrev pub sum : List ℕ → ℕ
sum xs = cond (endless xs) INF (min M (plain xs))

-- the place of the first x
abbrev pub first : ℕ → List ℕ → ℕ
first x [] = 0
first x (y ∷ ys) = cond (y == x) 0 (suc (first x ys))

-- all numbers but the one at place i
abbrev pub others : ℕ → List ℕ → List ℕ
others i [] = []
others zero (x ∷ xs) = xs
others (suc i) (x ∷ xs) = x ∷ others i xs

-- a pair as the side on turn sees it: for White the two numbers trade roles
abbrev pub seen : Bool → Pair → Pair
seen true p = p
seen false p = record { pn = p.dn; dn = p.pn }

abbrev pub pns : List Pair → List ℕ
pns ps = map (λ (p : Pair). p.pn) ps

abbrev pub dns : List Pair → List ℕ
dns ps = map (λ (p : Pair). p.dn) ps

-- with Black on turn, the pair of a line from those of its moves: the least proof number, the sum of the disproof numbers
abbrev pub near : List Pair → Pair
near ps = record { pn = least (pns ps); dn = sum (dns ps) }

-- with Black on turn, the move to expand: the first with the least proof number
abbrev pub choice : List Pair → ℕ
choice ps = first (least (pns ps)) (pns ps)

-- with Black on turn, the limits of that move: it is left when another move has become better, or the line's own
-- limits are reached
abbrev pub limits : Pair → List Pair → Pair
limits lim ps =
    record {
      pn = min lim.pn (min (least (others (choice ps) (pns ps)) + 1) INF);
      dn = cond (lim.dn == INF) INF (lim.dn - sum (dns ps) + (slice_index_or ps (choice ps) unknown).dn);
    }

-- the same three with either side on turn
abbrev pub pair_of : Bool → List Pair → Pair
pair_of black ps = seen black (near (map (seen black) ps))

abbrev pub choice_of : Bool → List Pair → ℕ
choice_of black ps = choice (map (seen black) ps)

abbrev pub limits_of : Bool → Pair → List Pair → Pair
limits_of black lim ps = seen black (limits (seen black lim) (map (seen black) ps))

-- one of the numbers has come to its limit
abbrev pub reached : Pair → Pair → Bool
reached lim p = nat_le lim.pn p.pn || nat_le lim.dn p.dn

-- the move of a verdict: the first proved one for yes with Black on turn, the first disproved one for no with White
-- on turn, otherwise 255
abbrev pub best_move : Bool → Bool → List Pair → ℕ
best_move true true ps = first 0 (pns ps)
best_move false false ps = first 0 (dns ps)
best_move true false ps = 255
best_move false true ps = 255
