-- Where the steps of a walk lead.
use Rattle.std.proofs.Common.{◌≡◌, ℕ, zero, suc, ◌-◌, min, List, [], ◌∷◌, length, take, drop, reverse, sym, ap, ◌∙◌, arith, take-append-drop, length-drop}
use Rattle.std.proofs.lemmas.List.{length-map, drop-map, drop_at, reverse-append, length-reverse}
use Rattle.game.specs.Meaning.{Line}
use Rattle.game.specs.Prefixes.{prefix}
use Rattle.history.specs.declared.history.Step.{Step}
use Rattle.history.specs.Walks.{Walk, numbers, line_of, led_to, place_at, step_less, LeadTo, Follows}

module _ {P : Type 0} (stands : Line → P) (start : P) where
  stand : (ss : List (Step P)) → LeadTo stands start ss → led_to start ss ≡ stands (numbers ss)
  stand [] f = f
  stand (s ∷ ss) f = f.0

  lead_less : (n : ℕ) (ss : List (Step P)) → LeadTo stands start ss → LeadTo stands start (drop n ss)
  lead_less zero ss f = f
  lead_less (suc n) [] f = f
  lead_less (suc n) (s ∷ ss) f = lead_less n ss f.1

module _ {P : Type 0} (stands : Line → P) (w : Walk P) (f : Follows stands w) where
  pub here_stands : led_to w.start w.steps ≡ stands (line_of w)
  here_stands = stand stands w.start w.steps f

  pub at_stands : (n : ℕ) → place_at w n ≡ stands (prefix n (line_of w))
  at_stands n =
      let rest = length w.steps - n in
      let line : drop rest (line_of w) ≡ numbers (drop rest w.steps) = drop-map (λ (s : Step P). s.number) rest w.steps in
      let len : length (line_of w) ≡ length w.steps = length-map w.steps (λ (s : Step P). s.number) in
      stand stands w.start (drop rest w.steps) (lead_less stands w.start rest w.steps f)
      ∙ ap stands (sym line ∙ ap (λ i. drop (i - n) (line_of w)) (sym len))

  pub less_follows : Follows stands (step_less w)
  less_follows = lead_less stands w.start 1 w.steps f

-- the first n of a row, and all of it where it has no more, are the last n of its reverse
pub first_reversed : {X : Type 0} (xs : List X) (n : ℕ) → reverse (take (min n (length xs)) xs) ≡ drop (length (reverse xs) - n) (reverse xs)
first_reversed xs n =
    let k = min n (length xs) in
    let len : length (reverse (drop k xs)) ≡ length (reverse xs) - n = omega (arith, length-reverse xs, length-reverse (drop k xs), length-drop k xs) in
    sym (ap (drop (length (reverse xs) - n)) (ap reverse (sym (take-append-drop k xs)) ∙ reverse-append (take k xs) (drop k xs)) ∙ drop_at _ _ _ len)
