-- A walk from a position, step by step.
use Rattle.std.specs.Prelude.{◌≡◌, ℕ, ◌-◌, List, [], ◌∷◌, length, drop, map}
use Rattle.game.specs.Meaning.{Line}
use Rattle.history.specs.declared.history.Step.{Step}

-- where a walk starts, and its steps, the newest first
pub record Walk (P : Type 0) : Type 0 where
  pub start : P
  pub steps : List (Step P)

module _ {P : Type 0} where
  -- the line of the numbers of steps
  abbrev pub numbers : List (Step P) → Line
  numbers steps = map (λ s. s.number) steps

  abbrev pub line_of : Walk P → Line
  line_of w = numbers w.steps

  -- the position that steps lead to, and the start where there are none
  abbrev pub led_to : P → List (Step P) → P
  led_to start [] = start
  led_to start (s ∷ ss) = s.place

  -- the position after the first n steps, and after all where there are no more
  abbrev pub place_at : Walk P → ℕ → P
  place_at w n = led_to w.start (drop (length w.steps - n) w.steps)

  -- the walk of one step more, and of one step less
  abbrev pub step_more : Walk P → ℕ → P → Walk P
  step_more w number place = record { start = w.start; steps = record { number = number; place = place } ∷ w.steps }

  abbrev pub step_less : Walk P → Walk P
  step_less w = record { start = w.start; steps = drop 1 w.steps }

  abbrev pub LeadTo : (Line → P) → P → List (Step P) → Type 0
  LeadTo stands start [] = start ≡ stands []
  LeadTo stands start (s ∷ ss) = (s.place ≡ stands (numbers (s ∷ ss))) × LeadTo stands start ss

  -- the start and each step lead to where the line up to there stands
  abbrev pub Follows : (Line → P) → Walk P → Type 0
  Follows stands w = LeadTo stands w.start w.steps
