-- Two layers that are not ours: Limit and Repeat with one shortcut each.
use Rattle.std.specs.Prelude.{cond, ℕ, ◌*◌}
use Rattle.game.specs.Meaning.{Meaning}
use Rattle.layer_rules.specs.Layers.{Layer, short_context, limit_layer, repeat_layer, layered}

-- Limit, but the number of moves left has no share in the context word
abbrev pub shareless_layer : ℕ → Meaning → Layer
shareless_layer n m = record {
  ends = (limit_layer n m).ends;
  context = λ l. cond (short_context (m.view l)) (256 * (m.view l).context) (m.view l).context;
  independent = (limit_layer n m).independent;
  height = (limit_layer n m).height;
}

abbrev pub shareless : ℕ → Meaning → Meaning
shareless n m = layered m (shareless_layer n m)

-- Repeat, but a line is path-independent wherever it is so below, though a prefix has its level
abbrev pub levelless_layer : Meaning → Layer
levelless_layer m = record {
  ends = (repeat_layer m).ends;
  context = (repeat_layer m).context;
  independent = λ l. (m.view l).independent;
  height = (repeat_layer m).height;
}

abbrev pub levelless : Meaning → Meaning
levelless m = layered m (levelless_layer m)
