-- What holds at a line that was played.
use Rattle.std.proofs.Common.{ℕ, zero, suc, ◌-◌, ◌*◌, ◌^◌, ◌<◌, ◌≤◌, [], ◌∷◌, length, drop, arith}
use mathlib.Core.Sum.{⊎_set}
use denote.Struct.Props.{props}
use Rattle.game.specs.Meaning.{Line, Meaning, Reachable}
use Rattle.game.specs.Laws.{Present, Room}
use Rattle.game.specs.Prefixes.{prefix}
use Rattle.point_sets.specs.Points.{has}
use Rattle.point_sets.proofs.Lists.{length_le}
use Rattle.go_rules.specs.declared.place.Place.{Place}
use Rattle.go_rules.specs.Rules.{free_of}
use Rattle.go_rules.specs.Play.{moves_at, standing, atari_go, Position}
use Rattle.go_rules.proofs.Laws.{Placed, placed_of, go_lawful, reached_good, moves_few, word}
use Rattle.go_rules.proofs.Around.{small_board}

reachable_drop : (m : Meaning) (i : ℕ) (l : Line) → Reachable m l → Reachable m (drop i l)
reachable_drop m zero l r = r
reachable_drop m (suc i) [] r = r
reachable_drop m (suc i) (k ∷ l) r = reachable_drop m i l r.0

pub reachable_prefix : (m : Meaning) (i : ℕ) (l : Line) → Reachable m l → Reachable m (prefix i l)
reachable_prefix m i l r = reachable_drop m (length l - i) l r

-- two positions are equal in one way at most
pub Place-set : IsSet Place
Place-set = hlevel (⊎_set, props)

pub few_moves : (n : ℕ) → n ≤ 7 → (x : Place) → length (moves_at n x) ≤ 49
few_moves n high x = omega (arith, length_le (has x.moves) (n * n), small_board n high)

module _ (n : ℕ) (high : n ≤ 7) (start : Place) (position : Position n start) (l : Line) (legal : Reachable (atari_go n start) l) where
  good : Placed n start
  good = placed_of n start position

  pub walked_present : Present (atari_go n start) l
  walked_present =
      let here = (reached_good n high start good l legal).1 in
      let few = length_le (has (free_of n start.black start.white)) (n * n) in
      let small = small_board n high in
      record { fit = (go_lawful n high start good).fit l legal; short = omega arith }

  -- while the line goes on there is an empty point
  pub walked_room : Room (atari_go n start) l
  walked_room going =
      let here = reached_good n high start good l legal in
      let few = moves_few n (standing n start l) here.0 in
      let some = ((go_lawful n high start good).fit l legal).going going in
      omega (arith, here.1)

  pub white_word : (standing n start l).white < 2 ^ 49
  white_word = word n high start good _ (reached_good n high start good l legal).0.white
