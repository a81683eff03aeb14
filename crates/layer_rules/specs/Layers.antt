-- Rule layers: a layer ends some lines of the game below with a draw, and says anew which lines are path-independent.
use Rattle.std.specs.Prelude.{ℕ, ◌+◌, ◌-◌, ◌*◌, ◌^◌, Bool, true, false, cond, not, ◌&&◌, length, Some, None, Option, ◌==◌, nat_eq, nat_le, nat_lt}
use Rattle.game.specs.declared.kinds.Score.{Score}
use Rattle.game.specs.declared.kinds.Score.TheVariants.{Draw}
use Rattle.game.specs.declared.kinds.Words.{Words}
use Rattle.game.specs.Meaning.{Line, View, Meaning}
use Rattle.game.specs.Prefixes.{any_prefix, words_of}

-- what is over below keeps its score, and any other line that ends here is a draw
abbrev pub ended_score : Option Score → Bool → Option Score
ended_score (Some s) e = Some s
ended_score None true = Some Draw
ended_score None false = None

-- what is over has no moves
abbrev pub moves_at : Option Score → ℕ → ℕ
moves_at (Some s) n = 0
moves_at None n = n

-- what a layer adds: where a line ends, its context word, whether it is path-independent, and the height
pub record Layer : Type 0 where
  pub ends : Line → Bool
  pub context : Line → ℕ
  pub independent : Line → Bool
  pub height : Option ℕ

-- the view below, but for what the layer adds; all else passes through
abbrev pub layered_view : View → Bool → ℕ → Bool → View
layered_view v e t c = record {
  turn = v.turn;
  moves = moves_at (ended_score v.score e) v.moves;
  score = ended_score v.score e;
  a = v.a;
  b = v.b;
  context = t;
  level = v.level;
  independent = c;
}

-- a game under a layer
abbrev pub layered : Meaning → Layer → Meaning
layered m y = record {
  view = λ l. layered_view (m.view l) (y.ends l) (y.context l) (y.independent l);
  height = y.height;
}

-- Limit counts a line as path-independent where it is so below, with a context word that leaves eight bits free
abbrev pub short_context : View → Bool
short_context v = v.independent && nat_lt v.context (2 ^ 56)

-- Limit: a line of n moves ends (no reachable line is longer, see LimitExact); the context word of a path-independent
-- line has the number of the moves left in its lowest eight bits
abbrev pub limit_layer : ℕ → Meaning → Layer
limit_layer n m = record {
  ends = λ l. nat_le n (length l);
  context = λ l. cond (short_context (m.view l)) (256 * (m.view l).context + (n - length l)) (m.view l).context;
  independent = λ l. short_context (m.view l);
  height = Some n;
}

abbrev pub limited : ℕ → Meaning → Meaning
limited n m = layered m (limit_layer n m)

-- both position words are these
abbrev pub same_position : Words → ℕ → ℕ → Bool
same_position w a b = w.a == a && w.b == b

-- one of the prefixes of the line has these position words
abbrev pub has_position : Meaning → ℕ → ℕ → Line → Bool
has_position m a b = any_prefix (λ l. same_position (words_of m l) a b)

-- one of the prefixes of the line has this level
abbrev pub has_level : Meaning → ℕ → Line → Bool
has_level m v = any_prefix (λ l. nat_eq (m.view l).level v)

-- Repeat: a line ends where a prefix has its position words; it is path-independent if it is so below and no prefix
-- has its level
abbrev pub repeat_layer : Meaning → Layer
repeat_layer m = record {
  ends = λ l. has_position m (m.view l).a (m.view l).b l;
  context = λ l. (m.view l).context;
  independent = λ l. (m.view l).independent && not (has_level m (m.view l).level l);
  height = m.height;
}

abbrev pub repeated : Meaning → Meaning
repeated m = layered m (repeat_layer m)
