use Rattle.layer_shortcuts.proofs.Confusions.{confused_unlawful, repeat_lawful, levels_confused, levels_values}
use Rattle.layer_shortcuts.proofs.theorems.levels_needed.Goals as goal

pub returns : goal.returns
returns c = (repeat_lawful, levels_confused, levels_values.0, levels_values.1, confused_unlawful _ _ _ levels_confused)
