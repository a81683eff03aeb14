-- What is kept of a line while it is expanded.
use Rattle.std.specs.Prelude.{ℕ}
use Rattle.game.specs.Meaning.{Line, Meaning}
use Rattle.game.specs.Value.{black_moves}
use Rattle.search_method.specs.declared.kinds.Pair.{Pair}
use Rattle.search_method.specs.Search.{key}
use Rattle.search.specs.declared.memory.LineRecord.{LineRecord}

abbrev pub record_of : Meaning → ℕ → Line → Pair → LineRecord
record_of m floor l limit =
    record { key = key m floor l; black = black_moves (m.view l); independent = (m.view l).independent; limit = limit }
