-- What the answer to a play says of the line, and the line after it.
use Rattle.std.proofs.Common.{◌≡◌, ℕ, zero, suc, ◌<◌, ◌≤◌, Bool, true, false, leb, List, [], ◌∷◌, length, is_some, refl, ap, arith, le-leb, leb-false}
use borrow.Author.Tests.{lt-leb}
use Rattle.game.specs.Meaning.{Meaning, Reachable}
use Rattle.game.specs.Refusals.{first_against, play_answer, line_after, played_line, shorter}

pub record Legal (m : Meaning) (l : List ℕ) (k : ℕ) : Type 0 where
  pub going : is_some (m.view l).score ≡ false
  pub legal : k < (m.view l).moves
  pub room : length l < 96
  pub line : played_line m l k ≡ k ∷ l

tested : (s t u : Bool) → first_against s t u ≡ 0 → (s ≡ false) × (t ≡ false) × (u ≡ false)
tested true t u e = absurd (omega arith)
tested false true u e = absurd (omega arith)
tested false false true e = absurd (omega arith)
tested false false false e = (refl, refl, refl)

pub legal_play : (m : Meaning) (l : List ℕ) (k : ℕ) → play_answer m l k ≡ 0 → Legal m l k
legal_play m l k e =
    let t = tested (is_some (m.view l).score) (leb (m.view l).moves k) (leb 96 (length l)) e in
    record {
      going = t.0;
      legal = leb-false _ _ t.1;
      room = leb-false _ _ t.2;
      line = ap (λ r. line_after r (k ∷ l) l) e;
    }

-- what a play answers where none of the reasons against it holds, and where the line is full
pub answer_ok : (m : Meaning) (l : List ℕ) (k : ℕ) → is_some (m.view l).score ≡ false → k < (m.view l).moves → length l < 96 → play_answer m l k ≡ 0
answer_ok m l k going legal room =
    let e = lt-leb (m.view l).moves k legal in
    let f = lt-leb 96 (length l) room in
    λ i. first_against (going i) (e i) (f i)

pub answer_full : (m : Meaning) (l : List ℕ) (k : ℕ) → is_some (m.view l).score ≡ false → k < (m.view l).moves → 96 ≤ length l → play_answer m l k ≡ 3
answer_full m l k going legal full =
    let e = lt-leb (m.view l).moves k legal in
    let f = le-leb 96 (length l) full in
    λ i. first_against (going i) (e i) (f i)

after_by : (m : Meaning) (l : List ℕ) (k r : ℕ) → (r ≡ 0 → k < (m.view l).moves) → Reachable m l → Reachable m (line_after r (k ∷ l) l)
after_by m l k zero legal reached = (reached, legal refl)
after_by m l k (suc r) legal reached = reached

-- play and take back lead from reachable lines to reachable lines
pub played_reachable : (m : Meaning) (l : List ℕ) (k : ℕ) → Reachable m l → Reachable m (played_line m l k)
played_reachable m l k = after_by m l k (play_answer m l k) (λ e. (legal_play m l k e).legal)

pub shorter_reachable : (m : Meaning) (l : List ℕ) → Reachable m l → Reachable m (shorter l)
shorter_reachable m [] reached = tt
shorter_reachable m (k ∷ l) reached = reached.0
