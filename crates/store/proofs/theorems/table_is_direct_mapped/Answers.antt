use Rattle.std.proofs.Common.{arith}
use Rattle.std.proofs.lemmas.Bool.Decides.{nat_tests}
use Rattle.std.proofs.lemmas.Grind.{common_steps}
use Rattle.store.specs.Shown.{in_its_slot, in_other_slots, empty_shows}
use Rattle.store.proofs.theorems.table_is_direct_mapped.Goals as goal

pub returns : goal.returns
returns c = record {
  newest = λ s t e r some. grind (arith, nat_tests, in_its_slot);
  displaced = λ s t e k r same other. grind (arith, nat_tests, common_steps);
  others = λ s t e k r other. grind (arith, in_other_slots);
  nothing = λ s t k c. grind (arith, empty_shows);
  recording_keeps_slots = λ s t e r. grind (arith, common_steps);
  clearing_keeps_slots = λ s t c. grind (arith, common_steps);
}
