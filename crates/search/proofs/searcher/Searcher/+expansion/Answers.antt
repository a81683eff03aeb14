use Rattle.std.proofs.Common.{ap, arith, rules}
use Rattle.std.specs.List.{All}
use Rattle.search_method.specs.Search.{height_of}
use Rattle.search.specs.Numbers.{Small}
use Rattle.search.proofs.Smalls.{evaluate_small}
use Rattle.search.proofs.Expanding.{told_kept, turning_left, turning_stopped, turning_more, expand_ends, expand_exhausted, expand_settled}
use Rattle.search.proofs.searcher.Searcher.+expansion.Goals as goal

pub expand-returns-then-played-height : goal.expand-returns-then-played-height
expand-returns-then-played-height g t c =
    let high = ap height_of c.height.ensures.height in
    expand_ends c.args.limit (omega (arith, high, c.played.ensures, c.if-played-height.true))

pub expand_line-returns-in_err-evaluate : goal.expand_line-returns-in_err-evaluate
expand_line-returns-in_err-evaluate g t c =
    rw c.from_residual.ensures (expand_exhausted c.args.line.now.limit c.requires.going c.in_err-evaluate.ensures.does)

pub expand_line-take_turns-requires : goal.expand_line-take_turns-requires
expand_line-take_turns-requires g t c κs within =
    let small : All Small c.evaluate.new.pairs = evaluate_small c.evaluate.new.pairs c.in_ok-evaluate.ensures.does in
    let told = told_kept c.args.line.now c.evaluate.ensures.does.leaves c.requires.told in
    search rules

pub expand_line-returns : goal.expand_line-returns
expand_line-returns g t c = expand_settled c.args.line.now.limit c.requires.going c.in_ok-evaluate.ensures.does c.take_turns.ensures

pub take_turns-returns-then-reaches : goal.take_turns-returns-then-reaches
take_turns-returns-then-reaches g t c = turning_left c.turns.invariant c.pair-pair.ensures c.if-reaches.ensures c.finding-finding.ensures c.note.ensures

pub take_turns-returns-in_default : goal.take_turns-returns-in_default
take_turns-returns-in_default g t c =
    turning_stopped c.turns.invariant c.pair-pair.ensures c.if-reaches.ensures c.choice-k.ensures.is c.limits-next.ensures.is c.in_default.ensures.does c.note-in_default.ensures

pub take_turns-turns-preserved : goal.take_turns-turns-preserved
take_turns-turns-preserved g t c =
    turning_more c.turns.invariant c.pair-pair.ensures c.if-reaches.ensures c.choice-k.ensures.is c.limits-next.ensures.is c.in-Some.ensures.does c.in-Some.ensures.costs
