use Rattle.std.proofs.Common.{◌+◌, ◌*◌}
use Rattle.proof_writer.specs.Leaving.{Leaves}
use Rattle.proof_writer.proofs.Steps.{Begun}
use Rattle.proof_writer.proofs.walk.Writer.+walk.Given as goal

abbrev pub decreases-walk : goal.decreases-walk
decreases-walk g l = 4 * l.state.left + 3

abbrev pub decreases-all_moves : goal.decreases-all_moves
decreases-all_moves g l = 4 * l.start.left + 2

abbrev pub decreases-own_turn : goal.decreases-own_turn
decreases-own_turn g l = 4 * l.state.left + 2

abbrev pub decreases-own : goal.decreases-own
decreases-own g l = 4 * l.state.left + 1

abbrev pub decreases-step : goal.decreases-step
decreases-step g l = 4 * l.state.left

abbrev pub invariant-all_moves-loop-k : goal.invariant-all_moves-loop-k
invariant-all_moves-loop-k g l =
    Leaves g.G.Game.means g.G.Game.line l.initial.self l.self
    × Begun g.S.Store.store (g.G.Game.means l.initial.self.game.now) l.initial.self.claim (g.G.Game.line l.initial.self.game.now) l.initial.state l.initial.self.out.now l.initial.self.store.now l.k l.state l.self.out.now l.self.store.now
