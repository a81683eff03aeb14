use Rattle.std.proofs.Common.{◌+◌, ◌*◌}
use Rattle.search.proofs.Expanding.{Turning}
use Rattle.search.proofs.searcher.Searcher.+expansion.Given as goal

abbrev pub decreases-expand : goal.decreases-expand
decreases-expand g l = 4 * l.self.now.left + 3

abbrev pub decreases-expand_line : goal.decreases-expand_line
decreases-expand_line g l = 4 * l.self.now.left + 2

abbrev pub decreases-take_turns : goal.decreases-take_turns
decreases-take_turns g l = 4 * l.self.now.left + 1

abbrev pub decreases-expand_move : goal.decreases-expand_move
decreases-expand_move g l = 4 * l.self.now.left

abbrev pub invariant-take_turns-turns : goal.invariant-take_turns-turns
invariant-take_turns-turns g l = Turning g.G.Game.means g.G.Game.line g.S.Store.store l.line l.initial.pairs l.initial.self l.pairs l.self

abbrev pub decreases-take_turns-turns : goal.decreases-take_turns-turns
decreases-take_turns-turns g l = l.self.left
