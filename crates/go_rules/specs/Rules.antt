-- Liberties and legal moves: own and foe are the stones of the side on turn and of the other side.
use Rattle.std.specs.Prelude.{◌≡◌, ℕ, ◌*◌, ◌^◌, Bool, true, cond, not, ◌&&◌, ◌||◌, ◌⊎◌, Decides, ◌==◌, bit_and, bit_or}
use Rattle.point_sets.specs.Points.{has, set_of}
use Rattle.go_rules.specs.Groups.{Neighbours, Joined, around, reach}

-- the empty points
unfoldable pub free_of : ℕ → ℕ → ℕ → ℕ
free_of n s t = set_of (n * n) (λ p. not (has s p || has t p))

-- the group of p, of the stones s, has a liberty: a free neighbour of a stone that a chain joins to p
pub record HasLiberty (n s f p : ℕ) : Type 0 where
  pub stone : ℕ
  pub liberty : ℕ
  pub joined : Joined n s p stone
  pub next : Neighbours n stone liberty
  pub free : has f liberty ≡ true

-- the stones of s whose groups have a liberty, where the points of f are free
unfoldable pub living : ℕ → ℕ → ℕ → ℕ
living n s f = reach n s (around n f)

-- r is the set of the stones of s whose groups have a liberty
abbrev pub Living : ℕ → ℕ → ℕ → ℕ → Type 0
Living n s f r = (p : ℕ) → Decides (has r p) (HasLiberty n s f p)

-- the group of the stone on p among the stones s; empty where there is no stone on p
abbrev pub group_of : ℕ → ℕ → ℕ → ℕ
group_of n s p = cond (has s p) (reach n s (2 ^ p)) 0

-- the liberties of that group, where the points of f are free
abbrev pub liberties_of : ℕ → ℕ → ℕ → ℕ → ℕ
liberties_of n s f p = bit_and f (around n (group_of n s p))

-- r is the set of the stones of s that a chain joins to p
abbrev pub Group : ℕ → ℕ → ℕ → ℕ → Type 0
Group n s p r = (q : ℕ) → Decides (has r q) (Joined n s p q)

-- r is the set of the free points beside a stone that a chain joins to p
abbrev pub Liberties : ℕ → ℕ → ℕ → ℕ → ℕ → Type 0
Liberties n s f p r =
    (q : ℕ) → Decides (has r q) ((has f q ≡ true) × ((stone : ℕ) × Joined n s p stone × Neighbours n stone q))

-- every group of s, beside the stones t, has a liberty
unfoldable pub all_live : ℕ → ℕ → ℕ → Bool
all_live n s t = living n s (free_of n s t) == s

abbrev pub with_stone : ℕ → ℕ → ℕ
with_stone s p = bit_or s (2 ^ p)

-- a stone on p leaves its own group a liberty
abbrev pub leaves_one : ℕ → ℕ → ℕ → ℕ → Bool
leaves_one n own foe p = has (living n (with_stone own p) (free_of n (with_stone own p) foe)) p

-- a stone on p takes the last liberty of an enemy group: fewer enemy stones have one
abbrev pub takes_last : ℕ → ℕ → ℕ → ℕ → Bool
takes_last n own foe p = not (living n foe (free_of n (with_stone own p) foe) == living n foe (free_of n own foe))

unfoldable pub may_fill : ℕ → ℕ → ℕ → ℕ → Bool
may_fill n own foe p = leaves_one n own foe p || takes_last n own foe p

unfoldable pub legal : ℕ → ℕ → ℕ → ℕ → Bool
legal n own foe p = has (free_of n own foe) p && may_fill n own foe p

-- the points of the legal moves; none where a group of the side on turn has no liberty
unfoldable pub move_set : ℕ → ℕ → ℕ → ℕ
move_set n own foe = cond (all_live n own foe) (set_of (n * n) (legal n own foe)) 0

-- a stone on p takes the last liberty of the enemy group of `stone`
pub record Takes (n own foe p : ℕ) : Type 0 where
  pub stone : ℕ
  pub had : HasLiberty n foe (free_of n own foe) stone
  pub lost : HasLiberty n foe (free_of n (with_stone own p) foe) stone → ⊥

-- a legal move fills an empty point, and takes an enemy group's last liberty or leaves its own group one
pub record LegalMove (n own foe p : ℕ) : Type 0 where
  pub empty : has (free_of n own foe) p ≡ true
  pub fair : HasLiberty n (with_stone own p) (free_of n (with_stone own p) foe) p ⊎ Takes n own foe p

-- r is the set of the legal moves of a side all of whose groups have a liberty, and is empty for any other
abbrev pub Moves : ℕ → ℕ → ℕ → ℕ → Type 0
Moves n own foe r =
    (p : ℕ) → Decides (has r p) (((q : ℕ) → has own q ≡ true → HasLiberty n own (free_of n own foe) q) × LegalMove n own foe p)
