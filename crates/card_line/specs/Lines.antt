-- A line of 80 bytes: a text, and zeros after it.
use Rattle.std.specs.Prelude.{ℕ, ◌-◌, ◌^◌, ◌<◌, ◌≤◌, Bool, cond, List, ◌++◌, length, replicate, codes, decimal}
use Prim.Native.String.{String}

-- a text at the front of a line
abbrev pub lined : List ℕ → List ℕ
lined text = text ++ replicate (80 - length text) 0

-- a label and a number in decimal digits
abbrev pub entry : String → ℕ → List ℕ
entry label n = codes label ++ decimal n

-- the word for a verdict
abbrev pub verdict_word : Bool → List ℕ
verdict_word said = cond said (codes "yes") (codes "no")

-- what is claimed of a card, as `card 1: at least 2 yes`
abbrev pub claim_text : ℕ → ℕ → Bool → List ℕ
claim_text card floor said = entry "card " card ++ entry ": at least " floor ++ codes " " ++ verdict_word said

-- what its proof costs, as `, bytes 3, plays 1`
abbrev pub cost_text : ℕ → ℕ → List ℕ
cost_text bytes plays = entry ", bytes " bytes ++ entry ", plays " plays

-- the text of a card, as `card 1: at least 2 yes, bytes 3, plays 1`
abbrev pub card_text : ℕ → ℕ → Bool → ℕ → ℕ → List ℕ
card_text card floor said bytes plays = claim_text card floor said ++ cost_text bytes plays

-- however wide its numbers are, the text of a card leaves room in the line
abbrev pub Fits : Type 0
Fits = (card floor bytes plays : ℕ) (said : Bool) → card < 2 ^ 32 → floor < 2 ^ 8 → bytes < 2 ^ 64 → plays < 2 ^ 32 → length (card_text card floor said bytes plays) ≤ 79
