-- What every part of the walk leaves as it was.
use Rattle.std.specs.Prelude.{◌≡◌, length}
use Rattle.game.specs.Meaning.{Line, Meaning}
use Rattle.game.specs.Kept.{Kept}
use Rattle.search_method.specs.Memory.{Lent}
use Rattle.proof_writer.specs.declared.walk.Writer.{Writer}

-- the same references, the game's line, the claim, the size of the buffer, and the work memory that is lent
pub record Leaves {G S : Type 0} {g : _} {s : _} (means : G → Meaning) (line : G → Line) (before after : Writer G S g s) : Type 0 where
  pub references :
      (after.game.ghost_name ≡ before.game.ghost_name) × (after.store.ghost_name ≡ before.store.ghost_name)
      × (after.memory.ghost_name ≡ before.memory.ghost_name) × (after.out.ghost_name ≡ before.out.ghost_name)
  pub game : Kept means line before.game.now after.game.now
  pub claim : after.claim ≡ before.claim
  pub room : length after.out.now ≡ length before.out.now
  pub lent : Lent before.memory.now after.memory.now
