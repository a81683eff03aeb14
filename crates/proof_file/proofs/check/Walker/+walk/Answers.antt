use Rattle.std.proofs.Common.{◌≤◌, ◌-◌, arith}
use Rattle.std.proofs.lemmas.Grind.{common_steps}
use Rattle.game.proofs.Kept.{kept_then}
use Rattle.proof_file.proofs.Walking.{has_room, walk_line, read_is, through_more, through_fails}
use Rattle.proof_file.proofs.check.Walker.+walk.Goals as goal

pub walk-returns-then-not-claims-clause-is : goal.walk-returns-then-not-claims-clause-is
walk-returns-then-not-claims-clause-is g t c f lt =
    let below : c.args.state.left ≤ f - 1 = omega arith in
    let all = c.all_moves.ensures.is (f - 1) below in
    grind (arith, walk_line)

pub walk-returns-clause-is : goal.walk-returns-clause-is
walk-returns-clause-is g t c f lt =
    let below : c.args.state.left ≤ f - 1 = omega arith in
    let one = c.descend.ensures.is (f - 1) below in
    let next = read_is c.args.self.now.proof.now c.args.state.at c.args.depth c.requires.inside c.in_ok-number.ensures in
    grind (arith, walk_line)

pub descend-returns-in_err-map_err-clause-is : goal.descend-returns-in_err-map_err-clause-is
descend-returns-in_err-map_err-clause-is g t c =
    let room = has_room (g.G.Game.means c.args.game.now) (g.G.Game.line c.args.game.now) (g.met.G.Bounded.bounded c.args.game.now) (g.met.G.Bounded.room c.args.game.now) c.requires.going in
    grind (arith, common_steps)

pub all_moves-returns-in_err-state-clause-is : goal.all_moves-returns-in_err-state-clause-is
all_moves-returns-in_err-state-clause-is g t c =
    let kept = c.loop-k.invariant.0 in
    let one = rw (kept.same, kept.back) at c.in_err-state.ensures.is in
    through_fails _ _ _ _ _ _ c.in_err-state.field-0.0 c.from_residual.result (omega arith) c.loop-k.invariant.1 one c.from_residual.ensures.1

pub all_moves-loop-k-preserved : goal.all_moves-loop-k-preserved
all_moves-loop-k-preserved g t c =
    let kept = c.loop-k.invariant.0 in
    let one = rw (kept.same, kept.back) at c.in_ok-state.ensures.is in (
      kept_then kept c.descend.ensures.kept,
      through_more _ _ _ _ _ _ c.in_ok-state.state (omega arith) c.loop-k.invariant.1 one c.in_ok-state.ensures.within,
    )
