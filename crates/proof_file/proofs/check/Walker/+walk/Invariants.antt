use Rattle.std.proofs.Common.{◌+◌, ◌*◌}
use Rattle.game.specs.Kept.{Kept}
use Rattle.proof_file.proofs.Walking.{Through}
use Rattle.proof_file.proofs.check.Walker.+walk.Given as goal

abbrev pub decreases-walk : goal.decreases-walk
decreases-walk g l = 3 * l.state.left + 2

abbrev pub decreases-all_moves : goal.decreases-all_moves
decreases-all_moves g l = 3 * l.start.left + 1

abbrev pub decreases-descend : goal.decreases-descend
decreases-descend g l = 3 * l.state.left

abbrev pub invariant-all_moves-loop-k : goal.invariant-all_moves-loop-k
invariant-all_moves-loop-k g l =
    Kept g.G.Game.means g.G.Game.line l.initial.game l.game
    × Through (g.G.Game.means l.initial.game) l.self.proof.now l.self.claim (g.G.Game.line l.initial.game) l.depth l.initial.state l.k l.state
