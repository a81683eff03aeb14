-- The initial evaluation: a verdict that is confirmed, and the moves that have been judged.
use Rattle.std.proofs.Common.{◌≡◌, ℕ, suc, ◌+◌, ◌-◌, ◌<◌, ◌≤◌, Bool, cond, List, [], ◌∷◌, ◌++◌, Some, None, Option, sym, refl, ap, ◌∙◌, subst, append_assoc, append-nil, arith}
use Rattle.game.specs.Meaning.{Line, Meaning}
use Rattle.store.specs.Interface.{StoreMeaning}
use Rattle.store.specs.declared.entry.Entry.{Entry}
use Rattle.search_method.specs.declared.kinds.Pair.{Pair}
use Rattle.search_method.specs.Pairs.{settled, unknown}
use Rattle.search_method.specs.Search.{give, ◌>>=◌}
use Rattle.search.specs.declared.searcher.Searcher.{Searcher}
use Rattle.search.specs.Moves.{here, Leaves}
use Rattle.search.specs.Does.{At, Reads}
use Rattle.search.specs.Parts.{after, simulation, confirming, judging, all_judging, evaluating}
use Rattle.search.proofs.Doing.{leaves_then, reads_give, reads_as, reads_then, reads_exhausted}

-- pairs before those of a row
abbrev pub prepend : List Pair → Option (List Pair) → Option (List Pair)
prepend ps None = None
prepend ps (Some qs) = Some (ps ++ qs)

prepend_more : (ps : List Pair) (p : Pair) (r : Option (List Pair)) → prepend ps (prepend (p ∷ []) r) ≡ prepend (ps ++ (p ∷ [])) r
prepend_more ps p None = refl
prepend_more ps p (Some qs) = ap Some (sym (append_assoc ps (p ∷ []) qs))

module _ {G S : Type 0} (means : G → Meaning) (line : G → Line) (𝓢 : StoreMeaning S) where
  -- what `judge_move` does, and what is done of n moves from k on
  abbrev pub Judged : ℕ → Searcher G S → Option Pair → Searcher G S → Type 0
  Judged k a r b = Reads means line 𝓢 (after k judging) a r b

  abbrev pub Judges : ℕ → ℕ → Searcher G S → Option (List Pair) → Searcher G S → Type 0
  Judges k n a r b = Reads means line 𝓢 (all_judging k n) a r b

  -- from a to b the moves before k, of so many, have been judged: however the rest ends, so does the whole
  pub record Judging (moves k : ℕ) (so_far : List Pair) (a b : Searcher G S) : Type 0 where
    pub leaves : Leaves means line a b
    pub rest : (r : Option (List Pair)) (c : Searcher G S) → Judges k (moves - k) b r c → Judges 0 moves a (prepend so_far r) c

-- one pair before those of the other moves
abbrev with_rest : ℕ → ℕ → Pair → At (List Pair)
with_rest k n p m floor l = all_judging k n m floor l >>= (λ ps. give (p ∷ ps))

-- a verdict that counts if its simulation holds
abbrev believed : Bool → Bool → At Pair
believed v held m floor l = give (cond held (settled v) unknown)

module _ {G S : Type 0} {means : G → Meaning} {line : G → Line} {𝓢 : StoreMeaning S} where
  -- what `confirm` does
  pub confirmed : (e : Entry) (v : Bool) {held : Bool} {p : Pair} {a b : Searcher G S} → Reads means line 𝓢 (simulation v (Some e)) a (Some held) b
      → p ≡ cond held (settled v) unknown → Reads means line 𝓢 (confirming e v) a (Some p) b
  confirmed e v {held} {p} {a} {b} h is =
      rw is (reads_then (simulation v (Some e)) (believed v) h (reads_give (cond held (settled v) unknown) b))

  pub unconfirmed : (e : Entry) (v : Bool) {a b : Searcher G S} → Reads means line 𝓢 (simulation v (Some e)) a None b → Reads means line 𝓢 (confirming e v) a None b
  unconfirmed e v h = reads_exhausted (simulation v (Some e)) (believed v) h

  with_one : (k n : ℕ) (p : Pair) (a b : Searcher G S) (r : Option (List Pair)) → Judges means line 𝓢 k n a r b → Reads means line 𝓢 (with_rest k n p) a (prepend (p ∷ []) r) b
  with_one k n p a b None h = reads_exhausted (all_judging k n) (λ ps m floor l. give (p ∷ ps)) h
  with_one k n p a b (Some ps) h = reads_then (all_judging k n) (λ ps m floor l. give (p ∷ ps)) h (reads_give (p ∷ ps) b)

  -- all moves of a line
  evaluated : {moves : ℕ} {a b : Searcher G S} {r : Option (List Pair)} → moves ≡ (here means line a).moves
      → Judges means line 𝓢 0 moves a r b → Reads means line 𝓢 evaluating a r b
  evaluated {moves} {a} e h =
      reads_as evaluating (all_judging 0 moves) (λ i. all_judging 0 (sym e i) (means a.game.now) a.floor (line a.game.now) a.left) h

  module _ {moves k : ℕ} {so_far : List Pair} {a b : Searcher G S} where
    rest_from : k < moves → Judging means line 𝓢 moves k so_far a b
        → (r : Option (List Pair)) (c : Searcher G S) → Judges means line 𝓢 k (suc (moves - suc k)) b r c → Judges means line 𝓢 0 moves a (prepend so_far r) c
    rest_from lt judged r c h =
        let e : moves - k ≡ suc (moves - suc k) = omega arith in
        judged.rest r c (rw e h)

    pub judging_more : {more : List Pair} {p : Pair} {c : Searcher G S} → k < moves → more ≡ so_far ++ (p ∷ [])
        → Judging means line 𝓢 moves k so_far a b → Judged means line 𝓢 k b (Some p) c → Judging means line 𝓢 moves (k + 1) more a c
    judging_more {more} {p} {c} lt e judged one =
        let up : k + 1 ≡ suc k = omega arith in
        record {
          leaves = leaves_then judged.leaves one.does.leaves;
          rest = λ r d h.
              subst (λ (ps : List Pair). Judges means line 𝓢 0 moves a (prepend ps r) d) (sym e)
              (subst (λ (q : Option (List Pair)). Judges means line 𝓢 0 moves a q d) (prepend_more so_far p r)
              (rest_from lt judged (prepend (p ∷ []) r) d
              (reads_then (after k judging) (with_rest (suc k) (moves - suc k)) one (with_one (suc k) (moves - suc k) p c d r (rw up at h)))));
        }

    pub judging_exhausted : {c : Searcher G S} → k < moves → moves ≡ (here means line a).moves
        → Judging means line 𝓢 moves k so_far a b → Judged means line 𝓢 k b None c → Reads means line 𝓢 evaluating a None c
    judging_exhausted {c} lt all judged one =
        evaluated all (rest_from lt judged None c (reads_exhausted (after k judging) (with_rest (suc k) (moves - suc k)) one))

    pub judging_all : {ps : List Pair} → moves ≤ k → moves ≡ (here means line a).moves → so_far ≡ ps
        → Judging means line 𝓢 moves k so_far a b → Reads means line 𝓢 evaluating a (Some ps) b
    judging_all {ps} le all e judged =
        let none_left : moves - k ≡ 0 = omega arith in
        evaluated all
        (subst (λ (ps : List Pair). Judges means line 𝓢 0 moves a (Some ps) b) (append-nil so_far ∙ e) (judged.rest (Some []) b (rw none_left (reads_give [] b))))
