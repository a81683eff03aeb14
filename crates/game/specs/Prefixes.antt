-- The prefixes of a line, and the words by which a position is known again.
use Rattle.std.specs.Prelude.{ℕ, ◌-◌, Bool, false, ◌||◌, [], ◌∷◌, length, drop}
use Rattle.game.specs.declared.kinds.Words.{Words}
use Rattle.game.specs.Meaning.{Line, Meaning}

-- the first n moves of a line, and the whole line where it has no more
abbrev pub prefix : ℕ → Line → Line
prefix n l = drop (length l - n) l

-- one of the prefixes of a line passes a test; the line itself is none of them
abbrev pub any_prefix : (Line → Bool) → Line → Bool
any_prefix f [] = false
any_prefix f (k ∷ l) = f l || any_prefix f l

abbrev pub words_of : Meaning → Line → Words
words_of m l = record { a = (m.view l).a; b = (m.view l).b; level = (m.view l).level }
