-- Where a bounded game goes on there is room for a move, at the present line of any value.
use Rattle.std.proofs.Common.{◌≡◌, ℕ, ◌<◌, Bool, true, false, length, is_some, IsSomeAnd, Option, refl, subst, arith}
use Rattle.game.specs.Meaning.{Line, Meaning}
use Rattle.game.specs.Laws.{Present, BoundedBy, Bounded, Room}
use Rattle.game.specs.Refusals.{play_answer}
use Rattle.game.proofs.Plays.{answer_ok}

-- while a line of a bounded game goes on it has less than 96 moves, and less than the height
pub room_under : (m : Meaning) (l : Line) (h : ℕ) → BoundedBy m h → Room m l → is_some (m.view l).score ≡ false → length l < h
room_under m l h bounded room going = subst (λ (o : Option ℕ). IsSomeAnd o (λ h. length l < h)) bounded.height (room going)

pub going_by : (b : Bool) (n k : ℕ) → (b ≡ true → n ≡ 0) → k < n → b ≡ false
going_by true n k h lt = let z = h refl in absurd (omega arith)
going_by false n k h lt = refl

-- in a bounded game a legal move of the present line is never refused
pub play_goes : (m : Meaning) (l : Line) (k : ℕ) → Present m l → Bounded m → Room m l → k < (m.view l).moves → play_answer m l k ≡ 0
play_goes m l k here bounded room lt =
    let going = going_by (is_some (m.view l).score) (m.view l).moves k here.fit.over lt in
    let below = room_under m l bounded.0 bounded.1 room going in
    let low = bounded.1.low in
    answer_ok m l k going lt (omega arith)
