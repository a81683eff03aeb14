-- What is read of a text of digits.
use Rattle.std.specs.Prelude.{ℕ, List, Option, Some, None, Result, Ok, Err}
use Rattle.std.specs.Char.{is_ascii_digit}
use Rattle.std.specs.List.{AllPass}

-- a number where the text has only digits and `parse` gives that number of it; none where it has others or `parse` an error
abbrev pub IsRead : {N E : Type 0} → (List ℕ → Result N E → Type 0) → List ℕ → Option N → Type 0
IsRead gives text (Some n) = AllPass is_ascii_digit text × gives text (Ok n)
IsRead {E = E} gives text None = AllPass is_ascii_digit text → (e : E) × gives text (Err e)
