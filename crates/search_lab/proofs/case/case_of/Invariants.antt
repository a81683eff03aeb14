use Rattle.std.proofs.Common.{length}
use Rattle.std.specs.Iterator.Adapters.{items_left_with_peeked, peekable_peeked, peekable_source}
use Rattle.search_lab.proofs.case.case_of.Given as goal

abbrev pub decreases-loop-field : goal.decreases-loop-field
decreases-loop-field l = items_left_with_peeked (peekable_peeked l.case.questions) (length (peekable_source l.case.questions).rest.now)
