-- The parts of the search at any line of any game and for any floor, in the words of its definition.
use Rattle.std.specs.Prelude.{ℕ, ◌-◌, Bool, List, ◌∷◌, Option}
use Rattle.store.specs.declared.entry.Entry.{Entry}
use Rattle.search_method.specs.declared.kinds.Pair.{Pair}
use Rattle.search_method.specs.declared.kinds.Worked.{Worked}
use Rattle.search_method.specs.Search.{played, each, every, holds_at, simulate, confirm, appraise, judge, turns, expand, moves_left}
use Rattle.search.specs.Does.{At}

-- a part after the move k, which is played for it
abbrev pub after : {A : Type 0} → ℕ → At A → At A
after k x m floor l = played (x m floor (k ∷ l))

-- SIMULATION of the verdict v at a line that is not over, with the entry in hand
abbrev pub simulation : Bool → Option Entry → At Bool
simulation v o m floor l = simulate m floor (moves_left m l) l v o

-- the same at any line
abbrev pub holding : Bool → At Bool
holding v m floor l = holds_at m floor (simulate m floor (moves_left m l) l v) l v

-- and after r moves from k on, until one fails
abbrev pub all_holding : Bool → ℕ → ℕ → At Bool
all_holding v k r m floor l = every (λ k. holding v m floor (k ∷ l)) k r

-- INITIAL EVALUATION of a line, of one that is not over with the entry in hand, and by a verdict that is to be confirmed
abbrev pub judging : At Pair
judging m floor l = judge m floor (moves_left m l) l

abbrev pub appraising : Option Entry → At Pair
appraising o m floor l = appraise m floor (moves_left m l) l o

abbrev pub confirming : Entry → Bool → At Pair
confirming e v m floor l = confirm m floor (moves_left m l) l e v

-- after r moves from k on, and after all moves of a line
abbrev pub all_judging : ℕ → ℕ → At (List Pair)
all_judging k r m floor l = each (λ k. judging m floor (k ∷ l)) k r

abbrev pub evaluating : At (List Pair)
evaluating m floor l = all_judging 0 (m.view l).moves m floor l

-- EXPANSION of a line under limits, and its turns, at most f of them, from these pairs of its moves
abbrev pub expanding : Pair → At Worked
expanding lim m floor l = expand m floor (moves_left m l) l lim

abbrev pub turning : ℕ → Pair → List Pair → At Worked
turning f lim ps m floor l = turns m floor (expand m floor (moves_left m l - 1)) f l lim ps
