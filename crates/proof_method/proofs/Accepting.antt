-- Check accepts exactly the proofs that the budget covers, and an accepted claim is true.
use Rattle.std.proofs.Common.{◌≡◌, ℕ, suc, ◌-◌, ◌^◌, ◌<◌, ◌≤◌, Bool, true, false, cond, ◌||◌, eqb, ltb, List, [], ◌∷◌, ◌++◌, length, refl, ap, ◌∙◌, subst, append-nil, arith}
use Rattle.codec.specs.Numbers.{Read, number, refused, read, encode, Bytes}
use Rattle.codec.proofs.Numbers.{read_back, read_only}
use Rattle.game.specs.Meaning.{Line, Meaning, Reachable}
use Rattle.proof_method.specs.Strategy.{written, bit}
use Rattle.proof_method.specs.Check.{Walked, through, stopped, fault, walk, Checked, accepted, faulty, finish, claim, by_verdict, by_floor, check}
use Rattle.proof_method.specs.Theorems.{Proof, AcceptsProofs, ClaimsTrue}
use Rattle.proof_method.proofs.Walk.{bytes_after, walk_sound, walk_complete}
use Rattle.proof_method.proofs.Strategy.{strategy_true}

module _ (m : Meaning) (l : Line) (bytes : List ℕ) (budget : ℕ) where
  -- what is accepted is a proof that the budget covers
  abbrev Right : Checked → Type 0
  Right (accepted floor v n p) = Proof m l bytes floor v p × (n ≡ length bytes) × (p ≤ budget)
  Right (faulty f) = Unit {0}

  claim_sound : (floor : ℕ) (v : Bool) (rest : List ℕ) → 1 ≤ floor → floor ≤ 2 → Bytes rest → bytes ≡ encode floor ++ (encode (bit v) ++ rest) →
      (x : Walked) → walk (length bytes) m floor v (suc budget) 0 l rest budget ≡ x → Right (finish (length bytes) budget floor v x)
  claim_sound floor v rest low high ok form (stopped y) z = tt
  claim_sound floor v rest low high ok form (through (b ∷ more) c) z = tt
  claim_sound floor v rest low high ok form (through [] c) z =
      let t = walk_sound (length bytes) m floor v (suc budget) 0 l rest budget [] c ok z in (
        record {
          strategy = t.strategy;
          low = low;
          high = high;
          wins = t.wins;
          form = form ∙ ap (λ (y : List ℕ). encode floor ++ (encode (bit v) ++ y)) (t.form ∙ append-nil (written t.strategy));
          cost = omega (arith, t.cost);
        },
        refl,
        omega arith,
      )

  verdict_sound : (floor : ℕ) (rest : List ℕ) → 1 ≤ floor → floor ≤ 2 → Bytes rest → bytes ≡ encode floor ++ rest →
      (x : Read) → read rest ≡ x → Right (by_verdict m l bytes budget floor rest x)
  verdict_sound floor rest low high ok form refused z = tt
  verdict_sound floor rest low high ok form (number x after) z = by (ltb x 2) refl
    where
      here : rest ≡ encode x ++ after
      here = (read_only rest after x ok z).0

      by : (t : Bool) → ltb x 2 ≡ t → Right (cond t (claim m l bytes budget floor (eqb x 1) after) (faulty (fault (length bytes) 10 0 rest 0)))
      by false y = tt
      by true y =
          let same : x ≡ bit (eqb x 1) = grind arith in
          claim_sound floor (eqb x 1) after low high (bytes_after (encode x) after (subst Bytes here ok))
          (form ∙ ap (λ (w : List ℕ). encode floor ++ w) (here ∙ ap (λ (w : ℕ). encode w ++ after) same))
          (walk (length bytes) m floor (eqb x 1) (suc budget) 0 l after budget) refl

  floor_sound : Bytes bytes → (x : Read) → read bytes ≡ x → Right (by_floor m l bytes budget x)
  floor_sound ok refused z = tt
  floor_sound ok (number floor after) z = by (eqb floor 1 || eqb floor 2) refl
    where
      here : bytes ≡ encode floor ++ after
      here = (read_only bytes after floor ok z).0

      by : (t : Bool) → eqb floor 1 || eqb floor 2 ≡ t →
          Right (cond t (by_verdict m l bytes budget floor after (read after)) (faulty (fault (length bytes) 10 0 bytes 0)))
      by false y = tt
      by true y =
          verdict_sound floor after (grind arith) (grind arith) (bytes_after (encode floor) after (subst Bytes here ok)) here (read after) refl

  check_sound : Bytes bytes → Right (check m l bytes budget)
  unfolding check
  check_sound ok = floor_sound ok (read bytes) refl

  check_complete : (floor p : ℕ) (v : Bool) → ((q : Line) → Reachable m q → (m.view q).moves ≤ 64) → Reachable m l →
      Proof m l bytes floor v p → p ≤ budget → check m l bytes budget ≡ accepted floor v (length bytes) p
  unfolding check
  check_complete floor p v few r proof enough =
      let moves = written proof.strategy in
      let small : bit v < 2 ^ 32 = grind arith in
      let floor_is = read_back floor (encode (bit v) ++ moves) (omega (arith, proof.high)) in
      let verdict_is = read_back (bit v) moves small in
      let none = append-nil moves in
      let walked =
      walk_complete (length bytes) m floor v few (suc budget) 0 l r proof.strategy [] budget (budget - p) proof.wins
      (omega (arith, proof.cost)) (omega arith) in
      grind arith

pub accepts_proofs : AcceptsProofs
accepts_proofs =
    record {
      only = λ m l bytes budget floor n p v ok e. subst (Right m l bytes budget) e (check_sound m l bytes budget ok);
      all = λ m l bytes budget floor p v few r proof h. check_complete m l bytes budget floor p v few r proof h;
    }

pub claims_true : ClaimsTrue
claims_true m H lawful law l r bytes budget floor n p v ok e =
    let a = (accepts_proofs.only m l bytes budget floor n p v ok e).0 in
    strategy_true m H lawful law floor a.low a.high v l r a.strategy a.wins
