-- The numbers of the sides and of the scores.
use Rattle.std.specs.Prelude.{ℕ, Bool, true, false}
pub use Rattle.game.specs.declared.kinds.Side.{Side}
pub use Rattle.game.specs.declared.kinds.Side.TheVariants.{Black, White}
pub use Rattle.game.specs.declared.kinds.Score.{Score}
pub use Rattle.game.specs.declared.kinds.Score.TheVariants.{WhiteWins, Draw, BlackWins}

-- Black is side 0, White is side 1
abbrev pub number_of : Side → ℕ
number_of Black = 0
number_of White = 1

abbrev pub is_black : Side → Bool
is_black Black = true
is_black White = false

abbrev pub other : Side → Side
other Black = White
other White = Black

-- a score as a number, the greater the better for Black
abbrev pub points : Score → ℕ
points WhiteWins = 0
points Draw = 1
points BlackWins = 2
