-- The worked examples, computed.
use Rattle.std.proofs.Common.{refl}
use Rattle.point_sets.specs.Points.{has}
use Rattle.go_rules.specs.Groups.{around, reach}
use Rattle.go_rules.specs.Rules.{free_of, living, all_live, may_fill, legal, move_set}
use Rattle.go_rules.specs.Text.{stones_of, dead_set}
use Rattle.search_method.specs.Bound.{enough}
use Rattle.search_method.specs.Search.{simulate, turns, expand}
use Rattle.codec.specs.Numbers.{shortest, digits}
use Rattle.proof_method.specs.Check.{walk, check}
use Rattle.worked_examples.specs.Table.{WorkedExamples}

pub table : WorkedExamples
unfolding has around reach free_of living all_live may_fill legal move_set stones_of dead_set enough simulate turns expand shortest digits walk check
table = record {
  one_move_to_go = refl;
  corner_allowed = refl;
  corner_moves = refl;
  corner_point = refl;
  corner_won = refl;
  graph_start = refl;
  graph_12_plays = refl;
  graph_11_plays = refl;
  graph_0_0 = refl;
  graph_1_0 = refl;
  no_moves_allowed = λ m budget e. rw e refl;
  three_hundred = refl;
  not_shortest = refl;
  not_shortest_checked = λ m l budget. refl;
  corner_proof = refl;
  corner_no_move = λ budget. refl;
}
