-- Work memory that is lent more than once.
use Rattle.std.proofs.Common.{◌≡◌, ◌∙◌, refl}
use Rattle.search_method.specs.declared.memory.WorkMemory.{WorkMemory}
use Rattle.search_method.specs.Memory.{Lent}

pub lent_same : {L M : Type 0} (w : WorkMemory L M) → Lent w w
lent_same w = record { lines = refl; moves = refl; line_records = refl; move_records = refl }

pub lent_then : {L M : Type 0} {v w x : WorkMemory L M} → Lent v w → Lent w x → Lent v x
lent_then p q =
    record {
      lines = q.lines ∙ p.lines;
      moves = q.moves ∙ p.moves;
      line_records = q.line_records ∙ p.line_records;
      move_records = q.move_records ∙ p.move_records;
    }
