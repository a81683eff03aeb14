-- A game that is left and comes back.
use Rattle.std.specs.Prelude.{◌≡◌}
use Rattle.game.specs.Meaning.{Line, Meaning}

-- a game of the meaning and at the line that it had before
pub record Kept {G : Type 0} (means : G → Meaning) (line : G → Line) (before after : G) : Type 0 where
  pub same : means after ≡ means before
  pub back : line after ≡ line before
