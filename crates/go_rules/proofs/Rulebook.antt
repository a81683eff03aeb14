-- The game is told by the rules.
use Rattle.std.proofs.Common.{◌≡◌, ℕ, ◌*◌, ◌<◌, ◌≤◌, true, eqb, length, get_or, Some, None, Option, sym, refl, ap, ◌∙◌, subst, inl, inr, arith}
use Rattle.std.proofs.lemmas.Bool.{cases_lt, cond_both, cond-true, eq-eqb}
use Rattle.game.specs.declared.kinds.Side.{Side}
use Rattle.game.specs.declared.kinds.Side.TheVariants.{Black, White}
use Rattle.game.specs.Kinds.{is_black, other}
use Rattle.game.specs.Meaning.{Line, Reachable}
use Rattle.point_sets.specs.Points.{has, list_of}
use Rattle.point_sets.proofs.Sets.{has_inside}
use Rattle.point_sets.proofs.Lists.{member, place_of, place_low, list_ordered}
use Rattle.go_rules.specs.declared.place.Place.{Place}
use Rattle.go_rules.specs.Rules.{free_of, with_stone, LegalMove, Moves}
use Rattle.go_rules.specs.Groups.{OnBoard}
use Rattle.go_rules.specs.Play.{by_side, moves_at, after, standing, win_for, place_view, atari_go}
use Rattle.go_rules.specs.Text.{lines_of, start_of, text_fault, first_fault}
use Rattle.go_rules.specs.Rulebook.{white_of, own_of, foe_of, Alive, Lost, ByRules, ToldByRules}
use Rattle.go_rules.proofs.Liberties.{moves_found, alive_or_not, free_on}
use Rattle.go_rules.proofs.Laws.{Placed, placed_of, reached_good, go_lawful}
use Rattle.go_rules.proofs.Texts.{in_form, start_good}

white_is : (n : ℕ) (x : Place) → white_of (place_view n x) ≡ x.white
white_is n x = omega arith

own_is : (n : ℕ) (x : Place) → own_of (place_view n x) ≡ by_side x.side x.black x.white
own_is n x = ap (by_side x.side x.black) (white_is n x)

foe_is : (n : ℕ) (x : Place) → foe_of (place_view n x) ≡ by_side x.side x.white x.black
foe_is n x = ap (λ w. by_side x.side w x.black) (white_is n x)

-- a stone of the side on turn, seen from the other side
gained : (s : Side) (b w p : ℕ) → by_side (other s) (by_side s w (with_stone w p)) (by_side s (with_stone b p) b) ≡ with_stone (by_side s b w) p
gained Black b w p = refl
gained White b w p = refl

kept : (s : Side) (b w p : ℕ) → by_side (other s) (by_side s (with_stone b p) b) (by_side s w (with_stone w p)) ≡ by_side s w b
kept Black b w p = refl
kept White b w p = refl

side_on : (s : Side) (n a b : ℕ) → OnBoard n a → OnBoard n b → OnBoard n (by_side s a b)
side_on s n a b h k = cond_both (is_black s) a b (OnBoard n) (λ _. h) (λ _. k)

module _ (n : ℕ) (high : n ≤ 7) (start : Place) (good : Placed n start) (l : Line) (reached : Reachable (atari_go n start) l) where
  here : Placed n (standing n start l)
  here = (reached_good n high start good l reached).0

  own : ℕ
  own = by_side (standing n start l).side (standing n start l).black (standing n start l).white

  foe : ℕ
  foe = by_side (standing n start l).side (standing n start l).white (standing n start l).black

  are : Moves n own foe (standing n start l).moves
  unfolding own foe
  are =
      let s = (standing n start l).side in
      moves_found n own foe (standing n start l).moves (ap (λ (y : Place). y.moves) here.whole) (side_on s n _ _ here.black here.white)
      (side_on s n _ _ here.white here.black)

  legal_at : (k : ℕ) → k < length (moves_at n (standing n start l)) → Alive n own foe × LegalMove n own foe (get_or (moves_at n (standing n start l)) k 0)
  legal_at k h = (are (get_or (moves_at n (standing n start l)) k 0)).0 (member (has (standing n start l).moves) (n * n) k h).1

  every_at : (p : ℕ) → Alive n own foe → LegalMove n own foe p →
      (k : ℕ) × (k < length (moves_at n (standing n start l))) × (get_or (moves_at n (standing n start l)) k 0 ≡ p)
  every_at p alive legal =
      let f = has (standing n start l).moves in
      let e : f p ≡ true = (are p).1 (alive, legal) in
      let h : p < n * n = has_inside (n * n) (free_of n own foe) p (free_on n own foe) legal.empty in
      (length (list_of p f), place_low f (n * n) p h e, place_of f (n * n) p h e)

  lost_at : length (moves_at n (standing n start l)) ≡ 0 → Lost n own foe
  unfolding own foe
  lost_at none =
      let s = (standing n start l).side in
      elim (alive_or_not n own foe (side_on s n _ _ here.black here.white) (side_on s n _ _ here.white here.black)) [
        | inl alive ↦ inr (λ p legal. omega (arith, (every_at p alive legal).1))
        | inr taken ↦ inl taken
      ]

  none_at : Lost n own foe → length (moves_at n (standing n start l)) ≡ 0
  none_at lost =
      elim (cases_lt 0 (length (moves_at n (standing n start l)))) [
        | inl some ↦
            let first = legal_at 0 some in
            absurd (elim lost [ inl taken ↦ taken.2 (first.0 taken.0 taken.1) | inr nowhere ↦ nowhere _ first.1 ])
        | inr none ↦ omega arith
      ]

  by_rules : ByRules n (atari_go n start) l own foe
  unfolding own foe
  by_rules =
      let y = standing n start l in
      record {
        point = λ k. get_or (moves_at n y) k 0;
        legal = legal_at;
        every = every_at;
        ordered = λ j k h b. list_ordered (has y.moves) (n * n) j k h b;
        turns = λ k. refl;
        stone = λ k. foe_is n (after n y k) ∙ gained y.side y.black y.white (get_or (moves_at n y) k 0);
        rest = λ k. own_is n (after n y k) ∙ kept y.side y.black y.white (get_or (moves_at n y) k 0);
        over = λ e. lost_at (((go_lawful n high start good).fit l reached).over e);
        wins = λ lost.
            cond-true (eqb (length (moves_at n y)) 0) (Some (win_for (other y.side))) None (eq-eqb _ 0 (none_at lost));
      }

  pub told_by_rules : ByRules n (atari_go n start) l (own_of (place_view n (standing n start l))) (foe_of (place_view n (standing n start l)))
  unfolding own foe
  told_by_rules =
      subst (λ (a : ℕ). ByRules n (atari_go n start) l a (foe_of (place_view n (standing n start l)))) (sym (own_is n (standing n start l)))
      (subst (λ (b : ℕ). ByRules n (atari_go n start) l own b) (sym (foe_is n (standing n start l))) by_rules)

fine : (o d : Option ℕ) → first_fault o d ≡ None → o ≡ None
fine None d e = refl
fine (Some i) d e = cc

pub all_told : ToldByRules
all_told t e l reached =
    let form = in_form t (fine (text_fault t) _ e) in
    let good = placed_of (lines_of t) (start_of t) (start_good t (lines_of t) (start_of t) (record { lines = refl; start = refl })) in
    told_by_rules (lines_of t) form.high (start_of t) good l reached
