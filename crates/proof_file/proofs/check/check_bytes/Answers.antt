use Rattle.std.proofs.Common.{arith, suc, drop-cons}
use Rattle.std.proofs.lemmas.Grind.{common_steps}
use Rattle.proof_file.proofs.Checking.{check_is, floor_is, verdict_is}
use Rattle.proof_file.proofs.check.check_bytes.Goals as goal

pub returns-in_err-floor-clause-is : goal.returns-in_err-floor-clause-is
returns-in_err-floor-clause-is g c = grind (arith, common_steps, check_is)

pub returns-in_err-verdict-clause-is : goal.returns-in_err-verdict-clause-is
returns-in_err-verdict-clause-is g c =
    let first = floor_is (g.G.Game.means c.args.game.now) (g.G.Game.line c.args.game.now) c.args.proof.now c.args.budget c.in_ok-floor.ensures in
    grind (arith, common_steps)

pub returns-in_err-end-clause-is : goal.returns-in_err-end-clause-is
returns-in_err-end-clause-is g c =
    let claimed = verdict_is (g.G.Game.means c.args.game.now) (g.G.Game.line c.args.game.now) c.args.proof.now c.args.budget c.in_ok-floor.ensures c.in_ok-verdict.ensures in
    let walked = c.walk.ensures.is (suc c.args.budget) (omega arith) in
    grind (arith, common_steps)

pub returns-then-end-proof-clause-is : goal.returns-then-end-proof-clause-is
returns-then-end-proof-clause-is g c =
    let claimed = verdict_is (g.G.Game.means c.args.game.now) (g.G.Game.line c.args.game.now) c.args.proof.now c.args.budget c.in_ok-floor.ensures c.in_ok-verdict.ensures in
    let walked = c.walk.ensures.is (suc c.args.budget) (omega arith) in
    let left = drop-cons c.args.proof.now c.in_ok-end.end.at 0 c.if-end-proof.true in
    grind (arith, common_steps)

pub returns-clause-is : goal.returns-clause-is
returns-clause-is g c =
    let claimed = verdict_is (g.G.Game.means c.args.game.now) (g.G.Game.line c.args.game.now) c.args.proof.now c.args.budget c.in_ok-floor.ensures c.in_ok-verdict.ensures in
    let walked = c.walk.ensures.is (suc c.args.budget) (omega arith) in
    grind (arith, common_steps)
