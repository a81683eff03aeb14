use Rattle.std.proofs.Common.{length, take}
use Rattle.search.proofs.Judging.{Judging}
use Rattle.search.proofs.searcher.Searcher.evaluate.Given as goal

abbrev pub invariant-loop-k : goal.invariant-loop-k
invariant-loop-k g l = Judging g.G.Game.means g.G.Game.line g.S.Store.store (length l.initial.pairs) l.k (take l.k l.pairs) l.initial.self l.self
