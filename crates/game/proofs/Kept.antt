-- A game that is left and comes back, one part after another.
use Rattle.std.proofs.Common.{◌≡◌, ℕ, ◌∷◌, refl, ap, ◌∙◌}
use Rattle.game.specs.Meaning.{Line, Meaning}
use Rattle.game.specs.Refusals.{shorter}
use Rattle.game.specs.Kept.{Kept}

pub kept_same : {G : Type 0} (means : G → Meaning) (line : G → Line) (g : G) → Kept means line g g
kept_same means line g = record { same = refl; back = refl }

pub kept_then : {G : Type 0} {means : G → Meaning} {line : G → Line} {f g h : G} → Kept means line f g → Kept means line g h → Kept means line f h
kept_then p q = record { same = q.same ∙ p.same; back = q.back ∙ p.back }

-- a move is played, something is done there that keeps the game, and the move is taken back
pub visited : {G : Type 0} {means : G → Meaning} {line : G → Line} {a b c d : G} {k : ℕ} → means b ≡ means a → line b ≡ k ∷ line a →
    Kept means line b c → means d ≡ means c → line d ≡ shorter (line c) → Kept means line a d
visited same goes kept back_same back_goes =
    record { same = back_same ∙ kept.same ∙ same; back = back_goes ∙ ap shorter (kept.back ∙ goes) }
