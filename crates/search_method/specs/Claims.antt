-- A claim, at an end and at a turn.
use Rattle.std.specs.Prelude.{Bool, nat_le}
use Rattle.std.specs.Bool.{beq}
use Rattle.game.specs.declared.kinds.Side.{Side}
use Rattle.game.specs.declared.kinds.Score.{Score}
use Rattle.game.specs.Kinds.{is_black, points}
use Rattle.search_method.specs.declared.claim.Claim.{Claim}

-- an end with this score gives the claimed verdict
abbrev pub given_by : Claim → Score → Bool
given_by c s = beq (nat_le c.floor (points s)) c.yes

-- the claiming side is Black for yes and White for no
abbrev pub claims : Claim → Side → Bool
claims c s = beq (is_black s) c.yes
