-- Which calls of the search are refused before anything is done.
use Rattle.std.specs.Prelude.{ℕ, Bool, cond, ◌&&◌, ◌||◌, Some, None, Ok, Err, Option, Result, ◌==◌, nat_le}
use Rattle.search_method.specs.Kinds.{SolveRefusal, Floor, Memory}

abbrev pub refusal_number : SolveRefusal → ℕ
refusal_number Floor = 5
refusal_number Memory = 6

-- the floors that can be asked for
abbrev pub is_floor : ℕ → Bool
is_floor floor = floor == 1 || floor == 2

-- a record for each of the 97 lines of a game of at most 96 moves, and one for each of the 64 moves at each of them
abbrev pub memory_suffices : ℕ → ℕ → Bool
memory_suffices lines moves = nat_le 97 lines && nat_le 6_208 moves

-- the number of the refusal that is due for a floor and so many line and move records of work memory
abbrev pub refusal_due : ℕ → ℕ → ℕ → Option ℕ
refusal_due floor lines moves = cond (is_floor floor) (cond (memory_suffices lines moves) None (Some 6)) (Some 5)

-- the number that an answer was refused with
abbrev pub refused_by : {A : Type 0} → Result A SolveRefusal → Option ℕ
refused_by (Ok x) = None
refused_by (Err e) = Some (refusal_number e)
