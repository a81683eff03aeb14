-- The two short lives, computed.
use Rattle.std.proofs.Common.{◌≡◌, ℕ, ◌≤◌, true, List, [], ◌∷◌, ◌++◌, length, is_some, refl, subst, true≢false, arith}
use mathlib.Core.Bool.{false≢true}
use Rattle.codec.specs.Numbers.{shortest, digits}
use Rattle.game.specs.Meaning.{Line, Reachable, Bisimilar}
use Rattle.game.specs.Laws.{Fit, Lawful, BoundedBy}
use Rattle.game.specs.Value.{value}
use Rattle.search_method.specs.Tree.{Runs}
use Rattle.search_method.specs.Search.{simulate, turns, expand}
use Rattle.proof_method.specs.Check as C
use Rattle.proof_method.specs.Check.{check}
use Rattle.proof_method.specs.Write as W
use Rattle.life.specs.Life.{Call, Answer, Step, Life}
use Rattle.life.specs.Example.{game, plenty, nothing, first_life, second_life, TwoLive, deep, UnclearedLies}

bounded : BoundedBy game 1
bounded = record { height = refl; low = omega arith; ends = ends }
  where
    ends : (l : Line) → Reachable game l → length l ≡ 1 → is_some (game.view l).score ≡ true
    ends [] r e = absurd (omega (arith, e))
    ends (k ∷ l) r e = refl

few : (l : Line) → (game.view l).moves ≤ 2
few [] = omega arith
few (k ∷ l) = omega arith

lawful : Lawful game
lawful = record { fit = fit; falls = falls; levels = levels; alike = alike }
  where
    fit : (l : Line) → Reachable game l → Fit (game.view l)
    fit [] r =
        record {
          moves = omega arith;
          a = omega arith;
          b = omega arith;
          context = omega arith;
          level = omega arith;
          over = λ z. absurd (false≢true z);
          going = λ z. omega arith;
        }
    fit (k ∷ l) r =
        record {
          moves = omega arith;
          a = omega (arith, few l, r.1);
          b = omega arith;
          context = omega arith;
          level = omega arith;
          over = λ z. refl;
          going = λ z. absurd (true≢false z);
        }

    falls : (w p : Line) → Reachable game (w ++ p) → (game.view (w ++ p)).level ≤ (game.view p).level
    falls [] p r = omega arith
    falls (k ∷ w) p r = omega arith

    levels : (p q : Line) → Reachable game p → Reachable game q → (game.view p).a ≡ (game.view q).a → (game.view p).b ≡ (game.view q).b →
        (game.view p).level ≡ (game.view q).level
    levels [] [] r s e f = refl
    levels [] (k ∷ q) r s e f = absurd (omega (arith, e))
    levels (k ∷ p) [] r s e f = absurd (omega (arith, e))
    levels (k ∷ p) (j ∷ q) r s e f = refl

    alike : (p q : Line) → Reachable game p → Reachable game q → (game.view p).independent ≡ true → (game.view q).independent ≡ true →
        (game.view p).a ≡ (game.view q).a → (game.view p).b ≡ (game.view q).b → (game.view p).context ≡ (game.view q).context →
        Bisimilar game p game q
    alike [] [] r s c d e f g = λ w x. (x, record { turn = refl; moves = refl; score = refl; a = refl; b = refl })
    alike [] (k ∷ q) r s c d e f g = absurd (false≢true d)
    alike (k ∷ p) [] r s c d e f g = absurd (false≢true c)
    alike (k ∷ p) (j ∷ q) r s c d e f g = absurd (false≢true c)

-- a write at the empty line with a budget of three plays
writes : (floor : ℕ) (buffer : List ℕ) (r : W.Written) → Runs nothing (W.write_in 97 6_208 game [] floor 3 (length buffer)) tt tt r →
    Step game nothing [] tt (Call.write floor 3 buffer plenty) (Answer.wrote r (W.buffer buffer r)) [] tt
writes floor buffer r run = Step.written run

first : Life game nothing [] tt first_life (1 ∷ []) tt
unfolding shortest digits simulate turns expand check C.walk W.walk
first =
    Life.lived (Life.lived (Life.lived (Life.lived (Life.lived (Life.lived (Life.lived (Life.lived (Life.lived (Life.lived (Life.lived
    (Life.opened tt tt)
    (Step.not_solved refl))
    (Step.not_solved refl))
    (Step.solved refl (refl, refl)))
    (Step.solved refl (tt, tt, (refl, refl))))
    (Step.cleared tt))
    (writes 3 (9 ∷ 9 ∷ []) (W.unwritten 5) (refl, refl)))
    (writes 2 (9 ∷ 9 ∷ 9 ∷ 9 ∷ []) (W.proof true (2 ∷ 1 ∷ 1 ∷ []) 3) (tt, tt, (refl, refl))))
    (writes 2 (9 ∷ 9 ∷ []) (W.unwritten 8) (tt, tt, (refl, refl))))
    (Step.played refl))
    (Step.not_played {n = 1} refl))
    (Step.solved refl (refl, refl))

second : Life game nothing (0 ∷ []) tt second_life [] tt
unfolding shortest digits simulate turns expand check C.walk W.walk
second =
    Life.lived (Life.lived (Life.lived (Life.lived
    (Life.opened reached tt)
    Step.taken_back)
    Step.not_taken)
    Step.walked)
    Step.walked
  where
    reached : Reachable game (0 ∷ [])
    reached = (tt, omega arith)

pub two_live : TwoLive
two_live = (bounded, lawful, first, second)

deep_bounded : BoundedBy deep 2
deep_bounded = record { height = refl; low = omega arith; ends = ends }
  where
    ends : (l : Line) → Reachable deep l → length l ≡ 2 → is_some (deep.view l).score ≡ true
    ends [] r e = absurd (omega (arith, e))
    ends (k ∷ []) r e = absurd (omega (arith, e))
    ends (j ∷ (k ∷ l)) r e = refl

deep_lawful : Lawful deep
deep_lawful = record { fit = fit; falls = λ w p r. falls p (w ++ p); levels = λ p q r s e f. level p q; alike = alike }
  where
    fit : (l : Line) → Reachable deep l → Fit (deep.view l)
    fit [] r =
        record {
          moves = omega arith;
          a = omega arith;
          b = omega arith;
          context = omega arith;
          level = omega arith;
          over = λ z. absurd (false≢true z);
          going = λ z. omega arith;
        }
    fit (k ∷ []) r =
        record {
          moves = omega arith;
          a = omega arith;
          b = omega arith;
          context = omega arith;
          level = omega arith;
          over = λ z. absurd (false≢true z);
          going = λ z. omega arith;
        }
    fit (j ∷ (k ∷ l)) r =
        record {
          moves = omega arith;
          a = omega arith;
          b = omega arith;
          context = omega arith;
          level = omega arith;
          over = λ z. refl;
          going = λ z. absurd (true≢false z);
        }

    flat : (l : Line) → (deep.view l).level ≡ 0
    flat [] = refl
    flat (k ∷ []) = refl
    flat (j ∷ (k ∷ l)) = refl

    falls : (p q : Line) → (deep.view q).level ≤ (deep.view p).level
    falls p q = omega (arith, flat p, flat q)

    level : (p q : Line) → (deep.view p).level ≡ (deep.view q).level
    level p q = omega (arith, flat p, flat q)

    same : (p : Line) → Bisimilar deep p deep p
    same p w r = (r, record { turn = refl; moves = refl; score = refl; a = refl; b = refl })

    alike : (p q : Line) → Reachable deep p → Reachable deep q → (deep.view p).independent ≡ true → (deep.view q).independent ≡ true →
        (deep.view p).a ≡ (deep.view q).a → (deep.view p).b ≡ (deep.view q).b → (deep.view p).context ≡ (deep.view q).context →
        Bisimilar deep p deep q
    alike [] q r s c d e f g = absurd (false≢true c)
    alike (j ∷ (k ∷ p)) q r s c d e f g = absurd (false≢true c)
    alike (k ∷ []) [] r s c d e f g = absurd (false≢true d)
    alike (k ∷ []) (i ∷ (j ∷ q)) r s c d e f g = absurd (false≢true d)
    alike (k ∷ []) (j ∷ []) r s c d e f g =
        let z : k ≡ j = omega (arith, r.1, s.1) in
        subst (λ (i : ℕ). Bisimilar deep (k ∷ []) deep (i ∷ [])) z (same (k ∷ []))

pub uncleared_lies : UnclearedLies
unfolding value simulate turns expand
uncleared_lies = (deep_bounded, deep_lawful, refl, (tt, tt, (refl, refl)))
