-- The laws of Atari Go.
use Rattle.std.proofs.Common.{◌≡◌, ℕ, ◌+◌, ◌*◌, ◌^◌, ◌<◌, ◌≤◌, Bool, true, false, cond, not, ◌||◌, eqb, List, [], ◌∷◌, ◌++◌, length, is_some, Some, None, sym, refl, ap, ◌∙◌, subst, inl, inr, lt_of_lt_of_le, arith, lit≤}
use native.Mathlib.Nat.{pow-le-pow_right}
use Rattle.std.proofs.lemmas.Bool.Decides.{nat_tests}
use Rattle.std.proofs.lemmas.Bool.{cond_both, eq-eqb, ne_eqb, cases_Bool}
use Rattle.game.specs.declared.kinds.Side.{Side}
use Rattle.game.specs.declared.kinds.Side.TheVariants.{Black, White}
use Rattle.game.specs.Kinds.{number_of, is_black, other}
use Rattle.game.specs.Meaning.{Reachable, Same, Bisimilar}
use Rattle.game.specs.Laws.{Fit, Lawful, BoundedBy}
use Rattle.go_rules.specs.declared.place.Place.{Place}
use Rattle.point_sets.specs.Points.{has}
use Rattle.go_rules.specs.Groups.{OnBoard}
use Rattle.go_rules.specs.Rules.{free_of, with_stone, legal, move_set, all_live}
use Rattle.go_rules.specs.Play.{place_of, win_for, moves_at, placed, after, standing, empty_ones, place_view, atari_go, Position}
use Rattle.point_sets.proofs.Sets.{has_set, has_zero, has_or, has_pow}
use Rattle.go_rules.proofs.Around.{small_board}
use Rattle.go_rules.proofs.Liberties.{stone_on}
use Rattle.point_sets.proofs.Lists.{length_le, length_sub, length-drop, member}

-- a position, and the whole of it made again from its stones
pub record Placed (n : ℕ) (x : Place) : Type 0 where
  pub black : OnBoard n x.black
  pub white : OnBoard n x.white
  pub whole : x ≡ place_of n x.black x.white x.side

pub placed_of : (n : ℕ) (x : Place) → Position n x → Placed n x
placed_of n x good = record {
  black = good.0;
  white = good.1;
  whole = λ i. record { black = x.black; white = x.white; side = x.side; moves = good.2 i };
}

-- a legal move goes to an empty point
legal_free : (n own foe p : ℕ) → p < n * n → has (move_set n own foe) p ≡ true → has (free_of n own foe) p ≡ true
unfolding move_set legal
legal_free n own foe p h e =
    elim (cases_Bool (all_live n own foe)) [
      | inl t ↦ grind (arith, has_set (n * n) (legal n own foe) p h)
      | inr t ↦ grind (arith, has_zero p)
    ]

empty_at : (n s t p : ℕ) → p < n * n → has (free_of n s t) p ≡ not (has s p || has t p)
unfolding free_of
empty_at n s t p h = has_set (n * n) (λ p. not (has s p || has t p)) p h

stone_at : (s p q : ℕ) → has (with_stone s p) q ≡ (has s q || eqb q p)
stone_at s p q = has_or s (2 ^ p) q ∙ ap (λ b. has s q || b) (has_pow p q)

-- whose the stones are does not matter
free_by_side : (c : Bool) (n b w p : ℕ) → p < n * n → has (free_of n (cond c b w) (cond c w b)) p ≡ has (free_of n b w) p
free_by_side true n b w p h = refl
free_by_side false n b w p h = grind (arith, empty_at n w b p h, empty_at n b w p h)

-- the empty points after a stone on p
next_empty : (c : Bool) (n b w p q : ℕ) → q < n * n →
    has (free_of n (cond c (with_stone b p) b) (cond c w (with_stone w p))) q ≡ not (has b q || has w q || eqb q p)
next_empty true n b w p q h = grind (arith, empty_at n (with_stone b p) w q h, stone_at b p q)
next_empty false n b w p q h = grind (arith, empty_at n b (with_stone w p) q h, stone_at w p q)

level_drops : (n : ℕ) (x : Place) (p : ℕ) → p < n * n → has (free_of n x.black x.white) p ≡ true → empty_ones n (placed n x p) + 1 ≡ empty_ones n x
level_drops n x p h free =
    let c = is_black x.side in
    let b = x.black in
    let w = x.white in
    length-drop (has (free_of n b w)) (has (free_of n (cond c (with_stone b p) b) (cond c w (with_stone w p)))) (n * n) p h free
    (grind (arith, next_empty c n b w p p h, eq-eqb p p refl))
    (λ q l ne. grind (arith, next_empty c n b w p q l, empty_at n b w q l, ne_eqb q p ne))

placed_good : (n : ℕ) (x : Place) (p : ℕ) → Placed n x → p < n * n → Placed n (placed n x p)
placed_good n x p good h = record {
  black = cond_both (is_black x.side) _ _ (OnBoard n) (λ _. stone_on n x.black p h good.black) (λ _. good.black);
  white = cond_both (is_black x.side) _ _ (OnBoard n) (λ _. good.white) (λ _. stone_on n x.white p h good.white);
  whole = refl;
}

module _ (n : ℕ) (x : Place) (good : Placed n x) where
  -- the points of the legal moves are empty
  move_free : (p : ℕ) → p < n * n → has x.moves p ≡ true → has (free_of n x.black x.white) p ≡ true
  move_free p h e =
      let c = is_black x.side in
      sym (free_by_side c n x.black x.white p h)
      ∙ legal_free n (cond c x.black x.white) (cond c x.white x.black) p h (ap (λ (y : Place). has y.moves p) (sym good.whole) ∙ e)

  pub moves_few : length (moves_at n x) ≤ empty_ones n x
  moves_few = length_sub (has x.moves) (has (free_of n x.black x.white)) (n * n) move_free

  after_good : (k : ℕ) → k < length (moves_at n x) → Placed n (after n x k) × (empty_ones n (after n x k) + 1 ≡ empty_ones n x)
  after_good k h =
      let m = member (has x.moves) (n * n) k h in
      (placed_good n x _ good m.0, level_drops n x _ m.0 (move_free _ m.0 m.1))

-- the number of a side is 0 or 1, and tells it
pub number_low : (s : Side) → number_of s ≤ 1
number_low Black = omega arith
number_low White = omega arith

pub one_side : (s t : Side) → number_of s ≡ number_of t → s ≡ t
one_side Black Black e = refl
one_side Black White e = absurd (omega arith)
one_side White Black e = absurd (omega arith)
one_side White White e = refl

module _ (n : ℕ) (high : n ≤ 7) (start : Place) (good : Placed n start) where
  -- each move of a reachable line fills one point
  pub reached_good : (l : List ℕ) → Reachable (atari_go n start) l → Placed n (standing n start l) × (empty_ones n (standing n start l) + length l ≡ empty_ones n start)
  reached_good [] r = (good, omega arith)
  reached_good (k ∷ l) r =
      let before = reached_good l r.0 in
      let next = after_good n (standing n start l) before.0 k r.1 in
      (next.0, omega (arith, before.1, next.1))

  pub word : (m : ℕ) → OnBoard n m → m < 2 ^ 49
  word m on = lt_of_lt_of_le on (pow-le-pow_right (lit≤ tt) (small_board n high))

  go_fit : (l : List ℕ) → Reachable (atari_go n start) l → Fit ((atari_go n start).view l)
  go_fit l r =
      let x = standing n start l in
      let here = (reached_good l r).0 in
      let few = length_le (has x.moves) (n * n) in
      let low = length_le (has (free_of n x.black x.white)) (n * n) in
      let small = small_board n high in
      let black = word x.black here.black in
      let white = word x.white here.white in
      let side = number_low x.side in
      record {
        moves = omega arith;
        a = omega arith;
        b = omega arith;
        context = omega arith;
        level = omega arith;
        over = λ e. grind (arith, nat_tests);
        going = λ e. grind (arith, nat_tests);
      }

  -- equal words a and b are of one position
  one_place : (x y : Place) → Placed n x → Placed n y → x.black ≡ y.black → x.white + 2 ^ 49 * number_of x.side ≡ y.white + 2 ^ 49 * number_of y.side → x ≡ y
  one_place x y gx gy a b =
      let wx = word x.white gx.white in
      let wy = word y.white gy.white in
      let low_x = number_low x.side in
      let low_y = number_low y.side in
      let number : number_of x.side ≡ number_of y.side = omega arith in
      let side = one_side x.side y.side number in
      let white : x.white ≡ y.white = omega arith in
      gx.whole ∙ (λ i. place_of n (a i) (white i) (side i)) ∙ sym gy.whole

  same_standing : (p q : List ℕ) → standing n start p ≡ standing n start q → (w : List ℕ) → standing n start (w ++ p) ≡ standing n start (w ++ q)
  same_standing p q e [] = e
  same_standing p q e (k ∷ w) = ap (λ x. after n x k) (same_standing p q e w)

  same_view : (x y : Place) → x ≡ y → Same (place_view n x) (place_view n y)
  same_view x y e = record {
    turn = ap (λ x. (place_view n x).turn) e;
    moves = ap (λ x. (place_view n x).moves) e;
    score = ap (λ x. (place_view n x).score) e;
    a = ap (λ x. (place_view n x).a) e;
    b = ap (λ x. (place_view n x).b) e;
  }

  goes_on : (p q : List ℕ) → standing n start p ≡ standing n start q → Reachable (atari_go n start) q → Bisimilar (atari_go n start) p (atari_go n start) q
  goes_on p q e rq [] r = (rq, same_view _ _ e)
  goes_on p q e rq (k ∷ w) r =
      let on = goes_on p q e rq w r.0 in
      ((on.0, subst (λ (m : ℕ). k < m) on.1.moves r.1), same_view _ _ (same_standing p q e (k ∷ w)))

  falls : (w p : List ℕ) → Reachable (atari_go n start) (w ++ p) → empty_ones n (standing n start (w ++ p)) ≤ empty_ones n (standing n start p)
  falls [] p r = omega arith
  falls (k ∷ w) p r =
      let x = standing n start (w ++ p) in
      let next = after_good n x (reached_good (w ++ p) r.0).0 k r.1 in
      omega (arith, falls w p r.0, next.1)

  same_place : (p q : List ℕ) → Reachable (atari_go n start) p → Reachable (atari_go n start) q →
      ((atari_go n start).view p).a ≡ ((atari_go n start).view q).a → ((atari_go n start).view p).b ≡ ((atari_go n start).view q).b → standing n start p ≡ standing n start q
  same_place p q rp rq i j = one_place (standing n start p) (standing n start q) (reached_good p rp).0 (reached_good q rq).0 i j

  pub go_lawful : Lawful (atari_go n start)
  go_lawful = record {
    fit = go_fit;
    falls = falls;
    levels = λ p q rp rq i j. ap (empty_ones n) (same_place p q rp rq i j);
    alike = λ p q rp rq cp cq i j k. goes_on p q (same_place p q rp rq i j) rq;
  }

  pub go_bounded : BoundedBy (atari_go n start) (empty_ones n start)
  go_bounded =
      let low = length_le (has (free_of n start.black start.white)) (n * n) in
      let small = small_board n high in
      record {
        height = refl;
        low = omega arith;
        ends = λ l r h.
            let here = reached_good l r in
            let few = moves_few n (standing n start l) here.0 in
            let none : length (moves_at n (standing n start l)) ≡ 0 = omega (arith, here.1, few) in
            ap (λ b. is_some (cond b (Some (win_for (other (standing n start l).side))) None)) (eq-eqb _ 0 none);
      }

-- the height, as a program counts it
pub go_height : (n : ℕ) (start : Place) (h : ℕ) → h ≡ empty_ones n start → n ≤ 7 → Position n start → BoundedBy (atari_go n start) h
go_height n start h e high good = subst (BoundedBy (atari_go n start)) (sym e) (go_bounded n high start (placed_of n start good))
