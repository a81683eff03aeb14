use Rattle.layer_shortcuts.proofs.Confusions.{confused_unlawful, limit_lawful, share_confused, share_values}
use Rattle.layer_shortcuts.proofs.theorems.share_needed.Goals as goal

pub returns : goal.returns
returns c = (limit_lawful, share_confused, share_values.0, share_values.1, confused_unlawful _ _ _ share_confused)
