-- The laws of every game.
use Rattle.std.specs.Prelude.{◌≡◌, ℕ, ◌^◌, ◌<◌, ◌≤◌, true, false, ◌++◌, length, is_some, IsSomeAnd, Some}
use Rattle.game.specs.Meaning.{Line, View, Meaning, Reachable, Bisimilar}

-- the numbers of a view are within their ranges, and there are no moves exactly where the line is over
pub record Fit (v : View) : Type 0 where
  pub moves : v.moves ≤ 64
  pub a : v.a < 2 ^ 64
  pub b : v.b < 2 ^ 64
  pub context : v.context < 2 ^ 64
  pub level : v.level < 2 ^ 16
  pub over : is_some v.score ≡ true → v.moves ≡ 0
  pub going : is_some v.score ≡ false → 0 < v.moves

-- the laws over all reachable lines, of any length
pub record Lawful (m : Meaning) : Type 0 where
  pub fit : (l : Line) → Reachable m l → Fit (m.view l)
  -- the level never rises along a line
  pub falls : (w p : Line) → Reachable m (w ++ p) → (m.view (w ++ p)).level ≤ (m.view p).level
  -- lines with equal position words have equal levels
  pub levels :
      (p q : Line) → Reachable m p → Reachable m q →
      (m.view p).a ≡ (m.view q).a → (m.view p).b ≡ (m.view q).b → (m.view p).level ≡ (m.view q).level
  -- path-independent lines with equal position words and context words are bisimilar
  pub alike :
      (p q : Line) → Reachable m p → Reachable m q → (m.view p).independent ≡ true → (m.view q).independent ≡ true →
      (m.view p).a ≡ (m.view q).a → (m.view p).b ≡ (m.view q).b → (m.view p).context ≡ (m.view q).context → Bisimilar m p m q

-- what every game promises of its present line
pub record Present (m : Meaning) (l : Line) : Type 0 where
  pub fit : Fit (m.view l)
  pub short : length l ≤ 96

-- the fixed height is h, at most 96, and every reachable line of that length is over
pub record BoundedBy (m : Meaning) (h : ℕ) : Type 0 where
  pub height : m.height ≡ Some h
  pub low : h ≤ 96
  pub ends : (l : Line) → Reachable m l → length l ≡ h → is_some (m.view l).score ≡ true

abbrev pub Bounded : Meaning → Type 0
Bounded m = (h : ℕ) × BoundedBy m h

-- what every bounded game promises of its present line: while it goes on it is shorter than the height
abbrev pub Room : Meaning → Line → Type 0
Room m l = is_some (m.view l).score ≡ false → IsSomeAnd m.height (λ h. length l < h)
