use Rattle.std.proofs.Common.{◌+◌, ◌*◌}
use Rattle.search.proofs.Trying.{Trying}
use Rattle.search.proofs.searcher.Searcher.+simulation.Given as goal

abbrev pub decreases-holds_now : goal.decreases-holds_now
decreases-holds_now g l = 4 * l.self.now.left + 3

abbrev pub decreases-simulate : goal.decreases-simulate
decreases-simulate g l = 4 * l.self.now.left + 2

abbrev pub decreases-try_all : goal.decreases-try_all
decreases-try_all g l = 4 * l.self.now.left + 1

abbrev pub decreases-try_move : goal.decreases-try_move
decreases-try_move g l = 4 * l.self.now.left

abbrev pub invariant-try_all-loop-k : goal.invariant-try_all-loop-k
invariant-try_all-loop-k g l = Trying g.G.Game.means g.G.Game.line g.S.Store.store l.yes l.moves l.k l.initial.self l.self
