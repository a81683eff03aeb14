-- A strategy that wins shows the value.
use Rattle.std.proofs.Common.{◌≡◌, ℕ, ◌≤◌, Bool, not, leb, ◌∷◌, sym, ap, ◌∙◌}
use Rattle.game.specs.Meaning.{Line, Meaning, Reachable}
use Rattle.game.specs.Laws.{Lawful, BoundedBy}
use Rattle.game.specs.Value.{black_moves, value, at_least}
use Rattle.game.proofs.Value.{value_over, value_step, one_settles, all_settle}
use Rattle.proof_method.specs.Strategy.{Strategy, over, move, replies, Wins}
use Rattle.std.proofs.Math.Bool.{not-not}

module _ (m : Meaning) (H : ℕ) (lawful : Lawful m) (law : BoundedBy m H) (floor : ℕ) (low : 1 ≤ floor) (high : floor ≤ 2) (v : Bool) where
  pub strategy_true : (l : Line) → Reachable m l → (s : Strategy) → Wins m floor v l s → at_least m H floor l ≡ v
  strategy_true l r over w = ap (leb floor) (value_over m H l w.0 w.1) ∙ w.2
  strategy_true l r (move k s) w =
      ap (leb floor) (value_step m H lawful law l r w.0)
      ∙ one_settles floor (black_moves (m.view l)) (m.view l).moves (λ j. value m H (j ∷ l)) k w.2
      (strategy_true (k ∷ l) (r, w.2) s w.3 ∙ sym w.1)
      ∙ w.1
  strategy_true l r (replies c g) w =
      ap (leb floor) (value_step m H lawful law l r w.0)
      ∙ all_settle floor (black_moves (m.view l)) (m.view l).moves (λ j. value m H (j ∷ l)) low high
      (λ k x. strategy_true (k ∷ l) (r, x) (g k) (w.3 k (rw w.2 x)) ∙ sym other)
      ∙ other
    where
      other : not (black_moves (m.view l)) ≡ v
      other = ap not w.1 ∙ not-not v
