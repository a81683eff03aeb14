use Rattle.std.proofs.Common.{◌≡◌, length, Some, arith}
use Rattle.std.proofs.lemmas.Grind.{common_steps}
use Rattle.proof_method.specs.Strategy.{bit}
use Rattle.proof_method.specs.Write.{Part, number}
use Rattle.proof_writer.specs.Writing.{line_part}
use Rattle.proof_writer.proofs.Steps.{framed_then, started}
use Rattle.proof_writer.proofs.walk.Writer.put_file.Goals as goal

pub returns-in_err-verdict-clause-is : goal.returns-in_err-verdict-clause-is
returns-in_err-verdict-clause-is g c f le =
    let m = g.G.Game.means c.args.self.now.game.now in
    let l = g.G.Game.line c.args.self.now.game.now in
    let walk : Part = line_part m c.args.self.now.claim l (length c.args.self.now.out.now) (Some c.args.best) f in
    let floor = c.in_err-verdict.ensures.is (number (length c.args.self.now.out.now) (bit c.args.self.now.claim.yes) walk) in
    grind (arith, common_steps)

pub returns-in_err-moves-clause-is : goal.returns-in_err-moves-clause-is
returns-in_err-moves-clause-is g c f le =
    let m = g.G.Game.means c.args.self.now.game.now in
    let l = g.G.Game.line c.args.self.now.game.now in
    let walk : Part = line_part m c.args.self.now.claim l (length c.args.self.now.out.now) (Some c.args.best) f in
    let floor = c.in_ok-verdict.ensures.is (number (length c.args.self.now.out.now) (bit c.args.self.now.claim.yes) walk) in
    let verdict = c.in_err-moves.ensures.is walk in
    grind (arith, common_steps)

pub returns-clause-is : goal.returns-clause-is
returns-clause-is g c =
    let floor = rw c.from.ensures at c.in_ok-verdict.ensures.is in
    let yes : c.from-2.result ≡ bit c.args.self.now.claim.yes = grind arith in
    let verdict = rw yes at c.in_ok-moves.ensures.is in
    started g.S.Store.store (g.G.Game.means c.args.self.now.game.now) c.args.self.now.claim (g.G.Game.line c.args.self.now.game.now) c.args.best c.args.state c.in_ok-verdict.verdict c.in_ok-moves.moves
    c.args.self.now.out.now c.put.new.out c.put-2.new.out c.put.auto.out c.put-2.auto.out floor c.in_ok-verdict.ensures.framed verdict c.in_ok-moves.ensures.framed
    c.args.self.now.store.now c.walk.new.self.out.now c.walk.new.self.store.now c.walk.result c.walk.ensures.is

pub returns-clause-framed : goal.returns-clause-framed
returns-clause-framed g c =
    let first = framed_then c.in_ok-verdict.verdict c.in_ok-moves.moves c.put.new.out c.put-2.new.out c.walk.new.self.out.now c.walk.result c.put-2.auto.out c.in_ok-moves.ensures.framed c.walk.ensures.framed in
    framed_then c.args.state c.in_ok-verdict.verdict c.args.self.now.out.now c.put.new.out c.walk.new.self.out.now c.walk.result c.put.auto.out c.in_ok-verdict.ensures.framed first
