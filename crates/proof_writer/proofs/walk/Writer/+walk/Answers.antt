use Rattle.std.proofs.Common.{◌-◌, refl, arith, length}
use Rattle.std.proofs.lemmas.Grind.{common_steps}
use Rattle.game.proofs.Kept.{visited}
use Rattle.proof_method.specs.Write.{played}
use Rattle.proof_writer.specs.Writing.{on}
use Rattle.proof_writer.proofs.Steps.{legal_goes, solve_then, framed_then, walk_part, leaves_then, begun_more, begun_fails}
use Rattle.proof_writer.proofs.walk.Writer.+walk.Goals as goal

pub step-returns-clause-is : goal.step-returns-clause-is
step-returns-clause-is g t c f le =
    let goes = legal_goes (g.G.Game.means c.args.self.now.game.now) (g.G.Game.line c.args.self.now.game.now) (g.G.Game.line c.play.new.self) c.args.k (g.met.G.Game.present c.args.self.now.game.now) (g.met.G.Bounded.bounded c.args.self.now.game.now) (g.met.G.Bounded.room c.args.self.now.game.now) c.requires.legal c.play.ensures.moved in
    let below = rw (c.play.ensures.same, goes) at c.walk-below.ensures.is in
    let now = below (f - 1) (omega arith) in
    grind (arith, walk_part)

pub step-returns-clause-leaves : goal.step-returns-clause-leaves
step-returns-clause-leaves g t c =
    let goes = legal_goes (g.G.Game.means c.args.self.now.game.now) (g.G.Game.line c.args.self.now.game.now) (g.G.Game.line c.play.new.self) c.args.k (g.met.G.Game.present c.args.self.now.game.now) (g.met.G.Bounded.bounded c.args.self.now.game.now) (g.met.G.Bounded.room c.args.self.now.game.now) c.requires.legal c.play.ensures.moved in
    let below = c.walk-below.ensures.leaves in
    record {
      references = below.references;
      game = visited c.play.ensures.same goes below.game c.take_back.ensures.same c.take_back.ensures.moved;
      claim = below.claim;
      room = below.room;
      lent = below.lent;
    }

pub own-returns-in_err-after-clause-is : goal.own-returns-in_err-after-clause-is
own-returns-in_err-after-clause-is g t c f le =
    let putting = c.in_err-after.ensures.is (played (on (g.G.Game.means c.args.self.now.game.now) c.args.self.now.claim (g.G.Game.line c.args.self.now.game.now) (length c.args.self.now.out.now) f c.args.k)) in
    grind (arith, common_steps)

pub own-returns-clause-is : goal.own-returns-clause-is
own-returns-clause-is g t c f le =
    let putting = c.in_ok-after.ensures.is (played (on (g.G.Game.means c.args.self.now.game.now) c.args.self.now.claim (g.G.Game.line c.args.self.now.game.now) (length c.args.self.now.out.now) f c.args.k)) in
    let one = c.step.ensures.is f (omega (arith, c.in_ok-after.ensures.framed.2)) in
    grind (arith, common_steps)

pub own-returns-clause-framed : goal.own-returns-clause-framed
own-returns-clause-framed g t c =
    framed_then c.args.state c.in_ok-after.after c.args.self.now.out.now c.put.new.out c.step.new.self.out.now c.step.result c.put.auto.out c.in_ok-after.ensures.framed c.step.ensures.framed

pub own_turn-returns-in-OutOfBudget-clause-is : goal.own_turn-returns-in-OutOfBudget-clause-is
own_turn-returns-in-OutOfBudget-clause-is g t c f le =
    let answers = rw (c.in-OutOfBudget.is, c.from-floor.ensures) at c.in_ok-solve.ensures.answers in
    solve_then g.S.Store.store (g.G.Game.means c.args.self.now.game.now) (g.G.Game.line c.args.self.now.game.now) c.args.self.now.claim.floor c.args.state.left _ _ _ _ _ _ _ answers (refl, refl)

pub own_turn-returns-in-Solved-clause-is : goal.own_turn-returns-in-Solved-clause-is
own_turn-returns-in-Solved-clause-is g t c f le =
    let answers = rw (c.in-Solved.is, c.from-floor.ensures) at c.in_ok-solve.ensures.answers in
    let kept = c.solve.ensures.kept in
    let own = rw (kept.same, kept.back, c.from.ensures) at c.own.ensures.is in
    solve_then g.S.Store.store (g.G.Game.means c.args.self.now.game.now) (g.G.Game.line c.args.self.now.game.now) c.args.self.now.claim.floor c.args.state.left _ _ _ _ _ _ _ answers (own f (omega arith))

pub walk-returns-in-None-clause-is : goal.walk-returns-in-None-clause-is
walk-returns-in-None-clause-is g t c f le =
    let own = c.own_turn.ensures.is f le in
    grind (arith, common_steps)

pub all_moves-returns-in_err-state-clause-is : goal.all_moves-returns-in_err-state-clause-is
all_moves-returns-in_err-state-clause-is g t c =
    let left = c.loop-k.invariant.0 in
    let one = rw (left.game.same, left.game.back, left.claim) at c.in_err-state.ensures.is in
    begun_fails _ _ _ _ c.loop-k.invariant.1 (omega arith) left.room _ _ c.in_err-state.field-0.0 one c.from_residual.result c.from_residual.ensures.1

pub all_moves-loop-k-preserved : goal.all_moves-loop-k-preserved
all_moves-loop-k-preserved g t c =
    let left = c.loop-k.invariant.0 in
    let one = rw (left.game.same, left.game.back, left.claim) at c.in_ok-state.ensures.is in
    (leaves_then left c.step.ensures.leaves, begun_more _ _ _ _ c.loop-k.invariant.1 (omega arith) left.room _ _ c.in_ok-state.state one c.in_ok-state.ensures.framed)
