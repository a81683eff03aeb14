-- What a simulation does next at a line.
use Rattle.std.specs.Prelude.{ℕ, Bool, false, cond, ◌&&◌, Some, None, Option, nat_lt}
use Rattle.std.specs.Bool.{beq}
use Rattle.game.specs.Meaning.{View}
use Rattle.game.specs.Value.{black_moves}
use Rattle.store.specs.declared.entry.Entry.{Entry}
use Rattle.store.specs.declared.entry.Finding.{Finding}
use Rattle.store.specs.declared.entry.Finding.TheVariants.{Verdict, Open}
use Rattle.search_method.specs.Search.{give}
use Rattle.search.specs.Does.{At}
use Rattle.search.specs.Parts.{after, holding, all_holding}
use Rattle.search.specs.declared.simulation.Step.{Step}
use Rattle.search.specs.declared.simulation.Step.TheVariants.{Stop, One, All}

-- without a verdict the claiming side has no move to show; the other side has all of its moves
abbrev pub step_without : Bool → ℕ → Step
step_without claims moves = cond claims (Stop false) (All moves)

abbrev pub step_by : Bool → ℕ → Bool → Bool → Finding → Step
step_by claims moves independent v (Open pn dn) = step_without claims moves
step_by claims moves independent v (Verdict w c k) =
    cond (c && independent) (Stop (beq w v))
    (cond claims (cond (beq w v && nat_lt k moves) (One k) (Stop false)) (All moves))

-- the step at a line that is not over, by the verdict that is simulated and what is known of the line
abbrev pub step_of : View → Bool → Option Entry → Step
step_of w v None = step_without (beq v (black_moves w)) w.moves
step_of w v (Some e) = step_by (beq v (black_moves w)) w.moves w.independent v e.finding

-- what a step comes to
abbrev pub go_by : Bool → Step → At Bool
go_by v (Stop held) m floor l = give held
go_by v (One k) m floor l = after k (holding v) m floor l
go_by v (All n) m floor l = all_holding v 0 n m floor l
