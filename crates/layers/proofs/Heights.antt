-- The height under the rule of repetition.
use Rattle.std.proofs.Common.{◌≡◌, ℕ, true, length, is_some}
use Rattle.game.specs.Meaning.{Line, Meaning, Reachable}
use Rattle.game.specs.Laws.{BoundedBy}
use Rattle.layer_rules.specs.Layers.{repeated}
use Rattle.layer_rules.proofs.Repeats.{repeated_bounded}

-- a line as long as the height of the game below is over
pub over_repeated : (m : Meaning) (h : ℕ) → BoundedBy m h → (l : Line) → Reachable (repeated m) l → length l ≡ h → is_some ((repeated m).view l).score ≡ true
over_repeated m h bounded = (repeated_bounded m h bounded).ends
