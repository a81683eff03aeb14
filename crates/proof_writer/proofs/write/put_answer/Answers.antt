use Rattle.std.proofs.Common.{arith}
use Rattle.std.proofs.lemmas.Grind.{common_steps}
use Rattle.proof_writer.proofs.Steps.{filed}
use Rattle.proof_writer.proofs.write.put_answer.Goals as goal

pub returns-in_err-end-clause-is : goal.returns-in_err-end-clause-is
returns-in_err-end-clause-is g c =
    let starts = rw c.from.ensures at c.put_file.ensures.is in
    let ended =
    filed g.S.Store.store (g.G.Game.means c.args.game.now) (record { floor = c.args.floor; yes = c.in-Solved.yes }) (g.G.Game.line c.args.game.now)
    c.in-Solved.best c.in-Solved.count c.args.budget c.args.out.now c.put_file.new.self.out.now c.args.store.now c.put_file.new.self.store.now c.put_file.result starts in
    grind (arith, common_steps)

pub returns-clause-is : goal.returns-clause-is
returns-clause-is g c =
    let starts = rw c.from.ensures at c.put_file.ensures.is in
    let ended =
    filed g.S.Store.store (g.G.Game.means c.args.game.now) (record { floor = c.args.floor; yes = c.in-Solved.yes }) (g.G.Game.line c.args.game.now)
    c.in-Solved.best c.in-Solved.count c.args.budget c.args.out.now c.put_file.new.self.out.now c.args.store.now c.put_file.new.self.store.now c.put_file.result starts in
    grind (arith, common_steps)
