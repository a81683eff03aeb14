-- Work memory that is lent, and is the lender's again afterwards.
use Rattle.std.specs.Prelude.{◌≡◌, length}
use Rattle.search_method.specs.declared.memory.WorkMemory.{WorkMemory}

-- the same two rows, as long as before
pub record Lent {L M : Type 0} (before after : WorkMemory L M) : Type 0 where
  pub lines : after.lines.ghost_name ≡ before.lines.ghost_name
  pub moves : after.moves.ghost_name ≡ before.moves.ghost_name
  pub line_records : length after.lines.now ≡ length before.lines.now
  pub move_records : length after.moves.now ≡ length before.moves.now
