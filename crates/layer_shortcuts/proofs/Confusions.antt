-- The two shortcuts on the small graph, by computing.
use mathlib.Core.Path.{◌≡◌, refl}
use mathlib.Core.List.{[], ◌∷◌}
use Prim.Native.Nat.{ℕ}
use native.Mathlib.Omega.{arith}
use Rattle.game.specs.Meaning.{Line, Meaning}
use Rattle.game.specs.Laws.{Lawful}
use Rattle.game.specs.Value.{value}
use Rattle.layer_rules.specs.Layers.{limited, repeated}
use Rattle.layer_rules.proofs.Limits.{limited_lawful}
use Rattle.layer_rules.proofs.Repeats.{repeated_lawful}
use Rattle.graph_rules.specs.Graphs.{graph}
use Rattle.graph_rules.proofs.Graphs.{graph_lawful}
use Rattle.layer_shortcuts.specs.Shortcuts.{shareless, levelless}
use Rattle.layer_shortcuts.specs.Theorems.{fork, Confused}

-- lines that a game confuses break its laws
pub confused_unlawful : (m : Meaning) (p q : Line) → Confused m p q → Lawful m → ⊥
confused_unlawful m p q h law =
    h.apart (law.alike p q h.reached_p h.reached_q h.independent_p h.independent_q h.a h.b h.context)

fork_lawful : Lawful (graph fork)
fork_lawful = graph_lawful fork refl

pub limit_lawful : Lawful (limited 3 (graph fork))
limit_lawful = limited_lawful 3 (graph fork) (omega arith) fork_lawful

pub repeat_lawful : Lawful (limited 10 (repeated (graph fork)))
repeat_lawful = limited_lawful 10 (repeated (graph fork)) (omega arith) (repeated_lawful (graph fork) fork_lawful)

pub share_confused : Confused (shareless 3 (graph fork)) (0 ∷ []) (0 ∷ 0 ∷ 1 ∷ [])
share_confused = record {
  reached_p = (tt, omega arith);
  reached_q = (((tt, omega arith), omega arith), omega arith);
  independent_p = refl;
  independent_q = refl;
  a = refl;
  b = refl;
  context = refl;
  apart = λ alike. let z : ◌≡◌ {A = ℕ} 2 0 = (alike [] (tt, omega arith)).1.moves in absurd (omega arith);
}

pub levels_confused : Confused (levelless (graph fork)) (0 ∷ 0 ∷ []) (0 ∷ 1 ∷ [])
levels_confused = record {
  reached_p = ((tt, omega arith), omega arith);
  reached_q = ((tt, omega arith), omega arith);
  independent_p = refl;
  independent_q = refl;
  a = refl;
  b = refl;
  context = refl;
  apart = λ alike. let z : ◌≡◌ {A = ℕ} 0 2 = (alike (0 ∷ []) (((tt, omega arith), omega arith), omega arith)).1.moves in absurd (omega arith);
}

pub share_values : (value (shareless 3 (graph fork)) 3 (0 ∷ []) ≡ 2) × (value (shareless 3 (graph fork)) 3 (0 ∷ 0 ∷ 1 ∷ []) ≡ 1)
unfolding value
share_values = (refl, refl)

pub levels_values :
    (value (limited 10 (levelless (graph fork))) 10 (0 ∷ 0 ∷ []) ≡ 1) × (value (limited 10 (levelless (graph fork))) 10 (0 ∷ 1 ∷ []) ≡ 2)
unfolding value
levels_values = (refl, refl)
