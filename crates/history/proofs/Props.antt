-- The facts that a game keeps of its line have one proof at most.
use Rattle.std.proofs.Common.{List, [], ◌∷◌}
use denote.Struct.Props.{props}
use Rattle.game.specs.Meaning.{Line, Meaning, Reachable}
use Rattle.history.specs.declared.history.Step.{Step}
use Rattle.history.specs.Walks.{Walk, LeadTo, Follows}

pub Reachable-prop : (m : Meaning) (l : Line) → IsProp (Reachable m l)
Reachable-prop m [] = hlevel props
Reachable-prop m (k ∷ l) = hlevel (Reachable-prop m l, props)

module _ {P : Type 0} (set : IsSet P) (stands : Line → P) where
  LeadTo-prop : (start : P) (steps : List (Step P)) → IsProp (LeadTo stands start steps)
  LeadTo-prop start [] = hlevel (set, props)
  LeadTo-prop start (s ∷ ss) = hlevel (set, LeadTo-prop start ss, props)

  pub Follows-prop : (w : Walk P) → IsProp (Follows stands w)
  Follows-prop w = LeadTo-prop w.start w.steps
