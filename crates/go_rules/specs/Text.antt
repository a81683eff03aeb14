-- The text of a position: `G`, the number of lines, `:`, the side on turn, `:`, and a byte for each point.
use Rattle.std.specs.Prelude.{◌≡◌, ℕ, ◌+◌, ◌-◌, ◌*◌, Bool, cond, not, ◌&&◌, ◌||◌, List, [], ◌∷◌, Some, None, Option, ◌==◌, nat_eq, nat_le, nat_lt, slice_index}
use Rattle.game.specs.declared.kinds.Side.{Side}
use Rattle.game.specs.declared.kinds.Side.TheVariants.{Black, White}
use Rattle.game.specs.Meaning.{Meaning}
use Rattle.game.specs.Refusals.{Refused}
use Rattle.go_rules.specs.declared.place.Place.{Place}
use Rattle.point_sets.specs.Points.{has, set_of, list_of}
use Rattle.go_rules.specs.Rules.{free_of, living}
use Rattle.go_rules.specs.Play.{place_of, atari_go}

-- a colour: `B` or `W`
abbrev pub colour : ℕ → Bool
colour b = b == 66 || b == 87

-- the byte b may stand at place i of the text of a board of n lines
abbrev pub fits_at : ℕ → ℕ → ℕ → Bool
fits_at n i b =
    cond (i == 0) (b == 71)
    (cond (i == 1) (nat_le 51 b && nat_le b 55)
    (cond (i == 2) (b == 58)
    (cond (i == 3) (colour b)
    (cond (i == 4) (b == 58) (nat_lt i (5 + n * n) && (b == 46 || colour b))))))

-- the first byte out of form, counted from i; the end of the text where that comes early
abbrev pub first_unfit : ℕ → ℕ → List ℕ → Option ℕ
first_unfit n i [] = cond (nat_lt i (5 + n * n)) (Some i) None
first_unfit n i (b ∷ t) = cond (fits_at n i b) (first_unfit n (i + 1) t) (Some i)

abbrev pub lines_of : List ℕ → ℕ
lines_of t = slice_index t 1 - 48

abbrev pub text_fault : List ℕ → Option ℕ
text_fault t = first_unfit (lines_of t) 0 t

-- the stones of a colour
unfoldable pub stones_of : ℕ → ℕ → List ℕ → ℕ
stones_of n c t = set_of (n * n) (λ p. nat_eq (slice_index t (5 + p)) c)

abbrev pub side_of : List ℕ → Side
side_of t = cond (slice_index t 3 == 66) Black White

-- the stones whose groups have no liberty
unfoldable pub dead_set : ℕ → ℕ → ℕ → ℕ
dead_set n black white =
    set_of (n * n) (λ p.
    (has black p && not (has (living n black (free_of n black white)) p)) || (has white p && not (has (living n white (free_of n black white)) p)))

abbrev pub first_of : List ℕ → Option ℕ
first_of [] = None
first_of (p ∷ ps) = Some p

-- the first point of a group without liberty
abbrev pub dead_point : ℕ → ℕ → ℕ → Option ℕ
dead_point n black white = first_of (list_of (n * n) (has (dead_set n black white)))

-- the position that a text in form tells
abbrev pub start_of : List ℕ → Place
start_of t = place_of (lines_of t) (stones_of (lines_of t) 66 t) (stones_of (lines_of t) 87 t) (side_of t)

-- the game that a text tells
abbrev pub game_of : List ℕ → Meaning
game_of t = atari_go (lines_of t) (start_of t)

-- the first byte out of form goes before the first point of a group without liberty
abbrev pub first_fault : Option ℕ → Option ℕ → Option Refused
first_fault (Some i) d = Some (record { number = 14; place = i })
first_fault None (Some p) = Some (record { number = 15; place = p })
first_fault None None = None

-- what a text is refused with, if it is
abbrev pub read_fault : List ℕ → Option Refused
read_fault t = first_fault (text_fault t) (dead_point (lines_of t) (stones_of (lines_of t) 66 t) (stones_of (lines_of t) 87 t))

-- what a text in form tells: the number of lines and the position
pub record Told (t : List ℕ) (n : ℕ) (x : Place) : Type 0 where
  pub lines : n ≡ lines_of t
  pub start : x ≡ start_of t
