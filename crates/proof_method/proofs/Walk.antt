-- The walk of check goes through exactly on the bytes of a strategy that wins.
use Rattle.std.proofs.Common.{◌≡◌, ℕ, zero, suc, ◌+◌, ◌<◌, ◌≤◌, Bool, true, false, leb, List, [], ◌∷◌, ◌++◌, Some, None, Option, sym, refl, ap, ◌∙◌, subst, append_assoc, arith}
use mathlib.Core.Bool.{beq}
use Rattle.codec.specs.Numbers.{Read, number, refused, read, encode, Bytes}
use Rattle.codec.proofs.Numbers.{read_back, read_only}
use Rattle.game.specs.declared.kinds.Score.{Score}
use Rattle.game.specs.Kinds.{points}
use Rattle.game.specs.Meaning.{Line, Meaning, Reachable}
use Rattle.game.specs.Value.{black_moves}
use Rattle.proof_method.proofs.Bools.{beq_same, beq_other}
use Rattle.proof_method.specs.Strategy.{Strategy, over, move, replies, join, written, total, plays, Wins}
use Rattle.proof_method.specs.Check.{Walked, through, stopped, Fault, Step, then, choose, fault, played, own, each, at_line, walk}

pub never : {A : Type 0} (f : Fault) (rest : List ℕ) (n : ℕ) → stopped f ≡ through rest n → A
never f rest n e = cc

-- the first of two parts that go through
then_through : (x : Walked) (s : Step) (after : List ℕ) (left : ℕ) → then x s ≡ through after left →
    (next : List ℕ) × (c : ℕ) × (x ≡ through next c) × (s next c ≡ through after left)
then_through (through next c) s after left e = (next, c, refl, e)
then_through (stopped f) s after left e = cc

pub bytes_after : (xs ys : List ℕ) → Bytes (xs ++ ys) → Bytes ys
bytes_after [] ys h = h
bytes_after (x ∷ xs) ys h = bytes_after xs ys h.1

-- a strategy for the first move, and for the moves after it
abbrev pub first_then : {A : Type 0} → A → (ℕ → A) → ℕ → A
first_then x g zero = x
first_then x g (suc k) = g k

-- wins of the first of them, at k, and of those after it
pub wins_then : (m : Meaning) (floor : ℕ) (v : Bool) (l : Line) (k r : ℕ) (s : Strategy) (g : ℕ → Strategy) → Wins m floor v (k ∷ l) s →
    ((j : ℕ) → j < r → Wins m floor v ((j + suc k) ∷ l) (g j)) → (j : ℕ) → j < suc r → Wins m floor v ((j + k) ∷ l) (first_then s g j)
wins_then m floor v l k r s g first later zero h = subst (λ (i : ℕ). Wins m floor v (i ∷ l) s) (omega arith) first
wins_then m floor v l k r s g first later (suc j) h = subst (λ (i : ℕ). Wins m floor v (i ∷ l) (g j)) (omega arith) (later j (omega arith))

-- a winning strategy at l has the bytes between `rest` and `after`, and takes the plays between n and `left`
pub record Followed (m : Meaning) (floor : ℕ) (v : Bool) (l : Line) (rest : List ℕ) (n : ℕ) (after : List ℕ) (left : ℕ) : Type 0 where
  pub strategy : Strategy
  pub wins : Wins m floor v l strategy
  pub form : rest ≡ written strategy ++ after
  pub cost : n ≡ plays strategy + left

-- the same for r moves from k on
pub record Answered (m : Meaning) (floor : ℕ) (v : Bool) (l : Line) (k r : ℕ) (rest : List ℕ) (n : ℕ) (after : List ℕ) (left : ℕ) : Type 0 where
  pub strategies : ℕ → Strategy
  pub win : (j : ℕ) → j < r → Wins m floor v ((j + k) ∷ l) (strategies j)
  pub form : rest ≡ join (λ j. written (strategies j)) r ++ after
  pub cost : n ≡ total (λ j. plays (strategies j)) r + left

abbrev pub Leads : Meaning → ℕ → Bool → Line → Step → Type 0
Leads m floor v l s =
    (rest : List ℕ) (n : ℕ) (after : List ℕ) (left : ℕ) → Bytes rest → s rest n ≡ through after left → Followed m floor v l rest n after left

module _ (whole : ℕ) (m : Meaning) (floor : ℕ) (v : Bool) where
  module _ (d : ℕ) (l : Line) (go : ℕ → Step) (leads : (k : ℕ) → Leads m floor v (k ∷ l) (go k)) where
    played_sound : (k : ℕ) (rest : List ℕ) (n : ℕ) (after : List ℕ) (left : ℕ) → Bytes rest → played whole d (go k) rest n ≡ through after left →
        (c : ℕ) × (n ≡ suc c) × Followed m floor v (k ∷ l) rest c after left
    played_sound k rest zero after left ok e = cc
    played_sound k rest (suc n) after left ok e = (n, refl, leads k rest n after left ok e)

    own_sound : (rest : List ℕ) (n : ℕ) (after : List ℕ) (left : ℕ) → (m.view l).score ≡ None → black_moves (m.view l) ≡ v → Bytes rest →
        (x : Read) → read rest ≡ x → own whole d (m.view l).moves go rest n x ≡ through after left → Followed m floor v l rest n after left
    own_sound rest n after left s b ok refused z e = cc
    own_sound rest n after left s b ok (number k next) z e =
        let legal : k < (m.view l).moves = grind arith in
        let goes : played whole d (go k) next n ≡ through after left = grind arith in
        let form = (read_only rest next k ok z).0 in
        let p = played_sound k next n after left (bytes_after (encode k) next (subst Bytes form ok)) goes in
        let q = p.2 in
        record {
          strategy = move k q.strategy;
          wins = (s, b, legal, q.wins);
          form = form ∙ ap (λ (x : List ℕ). encode k ++ x) q.form ∙ sym (append_assoc (encode k) (written q.strategy) after);
          cost = omega (arith, p.1, q.cost);
        }

    each_sound : (r k : ℕ) (rest : List ℕ) (n : ℕ) (after : List ℕ) (left : ℕ) → Bytes rest → each whole d go k r rest n ≡ through after left →
        Answered m floor v l k r rest n after left
    each_sound zero k rest n after left ok e =
        let none : n ≡ left = cc in
        record { strategies = λ j. over; win = λ j h. absurd (omega arith); form = cc; cost = omega arith }
    each_sound (suc r) k rest n after left ok e =
        let t = then_through (played whole d (go k) rest n) (each whole d go (suc k) r) after left e in
        let p = played_sound k rest n t.0 t.1 ok t.2 in
        let q = p.2 in
        let a = each_sound r (suc k) t.0 t.1 after left (bytes_after (written q.strategy) t.0 (subst Bytes q.form ok)) t.3 in
        record {
          strategies = first_then q.strategy a.strategies;
          win = wins_then m floor v l k r q.strategy a.strategies q.wins a.win;
          form =
              q.form
              ∙ ap (λ (x : List ℕ). written q.strategy ++ x) a.form
              ∙ sym (append_assoc (written q.strategy) (join (λ j. written (a.strategies j)) r) after);
          cost = omega (arith, p.1, q.cost, a.cost);
        }

    line_sound : (rest : List ℕ) (n : ℕ) (after : List ℕ) (left : ℕ) → Bytes rest → (o : Option Score) → (m.view l).score ≡ o →
        at_line whole floor v d (black_moves (m.view l)) (m.view l).moves go o rest n ≡ through after left → Followed m floor v l rest n after left
    line_sound rest n after left ok (Some s) z e =
        let given : leb floor (points s) ≡ v = grind arith in
        let same : rest ≡ after = grind arith in
        let none : n ≡ left = grind arith in
        record { strategy = over; wins = (s, z, given); form = same; cost = omega (arith, none) }
    line_sound rest n after left ok None z e = by (beq (black_moves (m.view l)) v) refl e
      where
        by : (t : Bool) → beq (black_moves (m.view l)) v ≡ t →
            choose t (own whole d (m.view l).moves go rest n (read rest)) (each whole d go 0 (m.view l).moves rest n) ≡ through after left →
            Followed m floor v l rest n after left
        by true y e' = own_sound rest n after left z (beq_same (black_moves (m.view l)) v y) ok (read rest) refl e'
        by false y e' =
            let a = each_sound (m.view l).moves 0 rest n after left ok e' in
            record {
              strategy = replies (m.view l).moves a.strategies;
              wins = (
                z,
                beq_other (black_moves (m.view l)) v y,
                refl,
                λ k h. subst (λ (i : ℕ). Wins m floor v (i ∷ l) (a.strategies k)) (omega arith) (a.win k h),
              );
              form = a.form;
              cost = a.cost;
            }

  pub walk_sound : (f d : ℕ) (l : Line) → Leads m floor v l (walk whole m floor v f d l)
  unfolding walk
  walk_sound zero d l rest n after left ok e = never (fault whole 7 0 rest d) after left e
  walk_sound (suc f) d l rest n after left ok e =
      line_sound d l (λ k. walk whole m floor v f (suc d) (k ∷ l)) (λ k. walk_sound f (suc d) (k ∷ l)) rest n after left ok (m.view l).score refl e

-- s goes through on the bytes of every winning strategy that n < f plays cover
abbrev pub Passes : Meaning → ℕ → Bool → ℕ → Line → Step → Type 0
Passes m floor v f l s =
    (t : Strategy) (after : List ℕ) (n left : ℕ) → Wins m floor v l t → n ≡ plays t + left → n < f → s (written t ++ after) n ≡ through after left

module _ (whole : ℕ) (m : Meaning) (floor : ℕ) (v : Bool) (few : (q : Line) → Reachable m q → (m.view q).moves ≤ 64) where
  module _ (d f : ℕ) (l : Line) (r : Reachable m l) (go : ℕ → Step) (passes : (k : ℕ) → k < (m.view l).moves → Passes m floor v f (k ∷ l) (go k)) where
    played_complete : (k : ℕ) → k < (m.view l).moves → (t : Strategy) (after : List ℕ) (n left : ℕ) → Wins m floor v (k ∷ l) t →
        n ≡ suc (plays t) + left → n < suc f → played whole d (go k) (written t ++ after) n ≡ through after left
    played_complete k x t after zero left w e h = absurd (omega arith)
    played_complete k x t after (suc n) left w e h = passes k x t after n left w (omega arith) (omega arith)

    each_complete : (c k : ℕ) → c + k ≤ (m.view l).moves → (g : ℕ → Strategy) (after : List ℕ) (n left : ℕ) →
        ((j : ℕ) → j < c → Wins m floor v ((j + k) ∷ l) (g j)) → n ≡ total (λ j. plays (g j)) c + left → n < suc f →
        each whole d go k c (join (λ j. written (g j)) c ++ after) n ≡ through after left
    each_complete zero k x g after n left w e h = grind arith
    each_complete (suc c) k x g after n left w e h =
        let later_bytes = join (λ j. written (g (suc j))) c in
        let later = total (λ j. plays (g (suc j))) c + left in
        let first =
        played_complete k (omega arith) (g 0) (later_bytes ++ after) n later
        (subst (λ (i : ℕ). Wins m floor v (i ∷ l) (g 0)) (omega arith) (w 0 (omega arith))) (omega arith) h in
        let rest =
        each_complete c (suc k) (omega arith) (λ j. g (suc j)) after later left
        (λ j y. subst (λ (i : ℕ). Wins m floor v (i ∷ l) (g (suc j))) (omega arith) (w (suc j) (omega arith))) refl (omega arith) in
        rw (append_assoc (written (g 0)) later_bytes after, first, rest)

    line_complete : Passes m floor v (suc f) l (at_line whole floor v d (black_moves (m.view l)) (m.view l).moves go (m.view l).score)
    line_complete over after n left w e h = grind arith
    line_complete (move k t) after n left w e h =
        let read_is = read_back k (written t ++ after) (omega (arith, few l r, w.2)) in
        let goes = played_complete k w.2 t after n left w.3 e h in
        grind (arith, append_assoc)
    line_complete (replies c g) after n left w e h =
        let all =
        each_complete c 0 (omega (arith, w.2)) g after n left (λ j y. subst (λ (i : ℕ). Wins m floor v (i ∷ l) (g j)) (omega arith) (w.3 j y)) e h in
        grind arith

  pub walk_complete : (f d : ℕ) (l : Line) → Reachable m l → Passes m floor v f l (walk whole m floor v f d l)
  unfolding walk
  walk_complete zero d l r t after n left w e h = absurd (omega arith)
  walk_complete (suc f) d l r t after n left w e h =
      line_complete d f l r (λ k. walk whole m floor v f (suc d) (k ∷ l)) (λ k x. walk_complete f (suc d) (k ∷ l) (r, x)) t after n left w e h
