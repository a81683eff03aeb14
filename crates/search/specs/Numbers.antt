-- The numbers of a line's moves as the side on turn sees them, and how large they are.
use Rattle.std.specs.Prelude.{ℕ, ◌+◌, ◌-◌, ◌<◌, ◌≤◌, min, Bool, true, false, cond, ◌||◌, List, map, Some, None, Option, ◌==◌}
use Rattle.store.specs.declared.entry.Finding.{Finding}
use Rattle.store.specs.declared.entry.Finding.TheVariants.{Verdict, Open}
use Rattle.search_method.specs.declared.kinds.Pair.{Pair}
use Rattle.search_method.specs.Pairs.{M, INF, seen, pns, dns, pair_of, first}

-- the numbers that the side on turn wants to be small, and the others
abbrev pub mine : Bool → List Pair → List ℕ
mine black ps = pns (map (seen black) ps)

abbrev pub theirs : Bool → List Pair → List ℕ
theirs black ps = dns (map (seen black) ps)

-- the sum of two numbers: INF if one is INF, otherwise the smaller of M and the plain sum
abbrev pub plus : ℕ → ℕ → ℕ
plus x y = cond (x == INF || y == INF) INF (min M (x + y))

abbrev pub own_limit : ℕ → ℕ → ℕ
own_limit limit second = min limit (min (second + 1) INF)

abbrev pub other_limit : ℕ → ℕ → ℕ → ℕ
other_limit limit total own = cond (limit == INF) INF (limit - total + own)

-- what is recorded of a line, from the side on turn, its path-independence and the pairs of its moves
abbrev pub finding_of : Bool → Bool → List Pair → Finding
finding_of black independent ps =
    cond ((pair_of black ps).pn == 0) (Verdict true independent (cond black (first 0 (mine black ps)) 255))
    (cond ((pair_of black ps).dn == 0) (Verdict false independent (cond black 255 (first 0 (mine black ps))))
    (Open (pair_of black ps).pn (pair_of black ps).dn))

-- numbers up to INF
abbrev pub Small : Pair → Type 0
Small p = (p.pn ≤ INF) × (p.dn ≤ INF)

-- an answer has cost a play
abbrev pub Costs : {A : Type 0} → Option A → ℕ → ℕ → Type 0
Costs None before after = Unit {0}
Costs (Some x) before after = after < before
