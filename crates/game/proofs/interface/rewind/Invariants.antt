use Rattle.std.proofs.Common.{◌≡◌, length}
use Rattle.game.proofs.interface.rewind.Given as goal

abbrev pub invariant-loop : goal.invariant-loop
invariant-loop g l = g.G.Game.means l.game ≡ g.G.Game.means l.initial.game

abbrev pub decreases-loop : goal.decreases-loop
decreases-loop g l = length (g.G.Game.line l.game)
