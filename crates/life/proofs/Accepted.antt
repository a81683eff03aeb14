-- What check accepts shows a strategy that wins, whatever numbers stand in the place of bytes.
use Rattle.std.proofs.Common.{◌≡◌, ℕ, zero, suc, ◌+◌, ◌<◌, ◌≤◌, Bool, true, false, cond, ◌||◌, T, eqb, ltb, leb, List, [], ◌∷◌, length, Some, None, Option, sym, refl, subst, arith, eqb→eq}
use mathlib.Core.Bool.{beq, false≢true}
use Rattle.codec.specs.Numbers.{Read, number, refused, read}
use Rattle.codec.proofs.Numbers.{lt_of}
use Rattle.game.specs.declared.kinds.Score.{Score}
use Rattle.game.specs.Kinds.{points}
use Rattle.game.specs.Meaning.{Line, Meaning}
use Rattle.game.specs.Value.{black_moves}
use Rattle.proof_method.specs.Strategy.{Strategy, over, move, replies, Wins}
use Rattle.proof_method.specs.Check.{Walked, through, stopped, Step, then, choose, fault, played, own, each, at_line, walk, Checked, accepted, faulty, finish, claim, by_verdict, by_floor, check}
use Rattle.proof_method.proofs.Bools.{beq_same, beq_other}
use Rattle.proof_method.proofs.Walk.{never, first_then}

-- a floor that is not refused is 1 or 2
pub one_or_two : (n : ℕ) → eqb n 1 || eqb n 2 ≡ true → (1 ≤ n) × (n ≤ 2)
one_or_two n e = by (eqb n 1) refl (eqb n 2) refl e
  where
    by : (s : Bool) → eqb n 1 ≡ s → (t : Bool) → eqb n 2 ≡ t → s || t ≡ true → (1 ≤ n) × (n ≤ 2)
    by true x t y z = let q = eqb→eq n 1 (subst T (sym x) tt) in omega arith
    by false x true y z = let q = eqb→eq n 2 (subst T (sym y) tt) in omega arith
    by false x false y z = absurd (false≢true z)

-- a strategy wins at the line, and one for each of r moves from k on
abbrev Won : Meaning → ℕ → Bool → Line → Type 0
Won m floor v l = (t : Strategy) × Wins m floor v l t

abbrev WonEach : Meaning → ℕ → Bool → Line → ℕ → ℕ → Type 0
WonEach m floor v l k r = (g : ℕ → Strategy) × ((j : ℕ) → j < r → Wins m floor v ((j + k) ∷ l) (g j))

-- where the part of the walk goes through, a strategy wins
abbrev Leads : Meaning → ℕ → Bool → Line → Step → Type 0
Leads m floor v l s = (rest : List ℕ) (n : ℕ) (after : List ℕ) (left : ℕ) → s rest n ≡ through after left → Won m floor v l

module _ (whole : ℕ) (m : Meaning) (floor : ℕ) (v : Bool) where
  module _ (d : ℕ) (l : Line) (go : ℕ → Step) (leads : (k : ℕ) → Leads m floor v (k ∷ l) (go k)) where
    played_won : (k : ℕ) → Leads m floor v (k ∷ l) (played whole d (go k))
    played_won k rest zero after left e = never (fault whole 7 0 rest d) after left e
    played_won k rest (suc n) after left e = leads k rest n after left e

    own_won : (rest : List ℕ) (n : ℕ) (after : List ℕ) (left : ℕ) → (m.view l).score ≡ None → black_moves (m.view l) ≡ v →
        (x : Read) → own whole d (m.view l).moves go rest n x ≡ through after left → Won m floor v l
    own_won rest n after left s b refused e = never (fault whole 9 0 rest d) after left e
    own_won rest n after left s b (number k next) e = by (ltb k (m.view l).moves) refl e
      where
        by : (t : Bool) → ltb k (m.view l).moves ≡ t →
            choose t (played whole d (go k) next n) (stopped (fault whole 11 1 rest d)) ≡ through after left → Won m floor v l
        by false y z = never (fault whole 11 1 rest d) after left z
        by true y z =
            let p = played_won k next n after left z in
            (move k p.0, (s, b, lt_of k (m.view l).moves y, p.1))

    each_won : (r k : ℕ) (rest : List ℕ) (n : ℕ) (after : List ℕ) (left : ℕ) → each whole d go k r rest n ≡ through after left →
        WonEach m floor v l k r
    each_won zero k rest n after left e = (λ j. over, λ j h. absurd (omega arith))
    each_won (suc r) k rest n after left e = by (played whole d (go k) rest n) refl e (each_won r (suc k))
      where
        join : Won m floor v (k ∷ l) → WonEach m floor v l (suc k) r → WonEach m floor v l k (suc r)
        join p a = (first_then p.0 a.0, win)
          where
            win : (j : ℕ) → j < suc r → Wins m floor v ((j + k) ∷ l) (first_then p.0 a.0 j)
            win zero h = subst (λ (i : ℕ). Wins m floor v (i ∷ l) p.0) (omega arith) p.1
            win (suc j) h = subst (λ (i : ℕ). Wins m floor v (i ∷ l) (a.0 j)) (omega arith) (a.1 j (omega arith))

        by : (x : Walked) → played whole d (go k) rest n ≡ x → then x (each whole d go (suc k) r) ≡ through after left →
            ((rest : List ℕ) (n : ℕ) (after : List ℕ) (left : ℕ) → each whole d go (suc k) r rest n ≡ through after left →
            WonEach m floor v l (suc k) r) → WonEach m floor v l k (suc r)
        by (stopped f) z e' ih = never f after left e'
        by (through next c) z e' ih = join (played_won k rest n next c z) (ih next c after left e')

    line_won : (rest : List ℕ) (n : ℕ) (after : List ℕ) (left : ℕ) → (o : Option Score) → (m.view l).score ≡ o →
        at_line whole floor v d (black_moves (m.view l)) (m.view l).moves go o rest n ≡ through after left → Won m floor v l
    line_won rest n after left (Some s) z e = by (beq (leb floor (points s)) v) refl e
      where
        by : (t : Bool) → beq (leb floor (points s)) v ≡ t →
            choose t (through rest n) (stopped (fault whole 12 0 rest d)) ≡ through after left → Won m floor v l
        by false y e' = never (fault whole 12 0 rest d) after left e'
        by true y e' = (over, (s, z, beq_same (leb floor (points s)) v y))
    line_won rest n after left None z e = by (beq (black_moves (m.view l)) v) refl e
      where
        by : (t : Bool) → beq (black_moves (m.view l)) v ≡ t →
            choose t (own whole d (m.view l).moves go rest n (read rest)) (each whole d go 0 (m.view l).moves rest n) ≡ through after left →
            Won m floor v l
        by true y e' = own_won rest n after left z (beq_same (black_moves (m.view l)) v y) (read rest) e'
        by false y e' =
            let a = each_won (m.view l).moves 0 rest n after left e' in (
              replies (m.view l).moves a.0,
              (z, beq_other (black_moves (m.view l)) v y, refl, λ k h. subst (λ (i : ℕ). Wins m floor v (i ∷ l) (a.0 k)) (omega arith) (a.1 k h)),
            )

  walk_won : (f d : ℕ) (l : Line) → Leads m floor v l (walk whole m floor v f d l)
  unfolding walk
  walk_won zero d l rest n after left e = never (fault whole 7 0 rest d) after left e
  walk_won (suc f) d l rest n after left e =
      line_won d l (λ k. walk whole m floor v f (suc d) (k ∷ l)) (λ k. walk_won f (suc d) (k ∷ l)) rest n after left (m.view l).score refl e

-- what an accepted claim has behind it
pub record Shown (m : Meaning) (l : Line) (floor : ℕ) (v : Bool) : Type 0 where
  pub low : 1 ≤ floor
  pub high : floor ≤ 2
  pub strategy : Strategy
  pub wins : Wins m floor v l strategy

module _ (m : Meaning) (l : Line) (bytes : List ℕ) (budget : ℕ) where
  abbrev pub IfAccepted : Checked → Type 0
  IfAccepted (accepted floor v n p) = Shown m l floor v
  IfAccepted (faulty f) = Unit {0}

  claim_shown : (floor : ℕ) (v : Bool) (rest : List ℕ) → 1 ≤ floor → floor ≤ 2 →
      (x : Walked) → walk (length bytes) m floor v (suc budget) 0 l rest budget ≡ x → IfAccepted (finish (length bytes) budget floor v x)
  claim_shown floor v rest low high (stopped f) z = tt
  claim_shown floor v rest low high (through (b ∷ more) c) z = tt
  claim_shown floor v rest low high (through [] c) z =
      let t = walk_won (length bytes) m floor v (suc budget) 0 l rest budget [] c z in
      record { low = low; high = high; strategy = t.0; wins = t.1 }

  verdict_shown : (floor : ℕ) (rest : List ℕ) → 1 ≤ floor → floor ≤ 2 → (x : Read) → IfAccepted (by_verdict m l bytes budget floor rest x)
  verdict_shown floor rest low high refused = tt
  verdict_shown floor rest low high (number x after) = by (ltb x 2)
    where
      by : (t : Bool) → IfAccepted (cond t (claim m l bytes budget floor (eqb x 1) after) (faulty (fault (length bytes) 10 0 rest 0)))
      by false = tt
      by true = claim_shown floor (eqb x 1) after low high (walk (length bytes) m floor (eqb x 1) (suc budget) 0 l after budget) refl

  floor_shown : (x : Read) → IfAccepted (by_floor m l bytes budget x)
  floor_shown refused = tt
  floor_shown (number floor after) = by (eqb floor 1 || eqb floor 2) refl
    where
      by : (t : Bool) → eqb floor 1 || eqb floor 2 ≡ t →
          IfAccepted (cond t (by_verdict m l bytes budget floor after (read after)) (faulty (fault (length bytes) 10 0 bytes 0)))
      by false y = tt
      by true y = verdict_shown floor after (one_or_two floor y).0 (one_or_two floor y).1 (read after)

  pub check_shown : IfAccepted (check m l bytes budget)
  unfolding check
  check_shown = floor_shown (read bytes)
