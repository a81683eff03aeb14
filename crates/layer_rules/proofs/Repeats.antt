-- The laws of a game in which repetition is a draw.
use Rattle.std.proofs.Common.{◌≡◌, ℕ, ◌<◌, ◌≤◌, Bool, true, false, ◌&&◌, ◌||◌, eqb, [], ◌∷◌, ◌++◌, length, sym, refl, ap, ◌∙◌, ap₂, arith}
use Rattle.std.proofs.lemmas.Bool.{and_parts, or_parts, or_from, not-true}
use Rattle.game.specs.Meaning.{Line, Meaning, Reachable, Bisimilar}
use Rattle.game.specs.Laws.{Lawful, Present, BoundedBy, Bounded, Room}
use Rattle.layer_rules.specs.Layers.{has_position, has_level, repeat_layer, repeated}
use Rattle.game.specs.Prefixes.{prefix, any_prefix}
use Rattle.game.proofs.Prefixes.{prefix_all, prefix_of, any_hit}
use Rattle.layer_rules.proofs.Layers.{below, layered_present, layered_lawful, layered_bounded, Agreeing}

module _ (m : Meaning) (law : Lawful m) where
  -- where no prefix of s has the level v, and x has v or less, no prefix of s has the position words of x
  none_before :
      (x s : Line) (v : ℕ) → Reachable m x → Reachable m s → (m.view x).level ≤ v → v ≤ (m.view s).level → has_level m v s ≡ false →
      has_position m (m.view x).a (m.view x).b s ≡ false
  none_before x [] v rx rs low high new = refl
  none_before x (k ∷ r) v rx rs low high new =
      let parts = or_parts (eqb (m.view r).level v) (has_level m v r) new in
      let falls = law.falls (k ∷ []) r rs in
      let same = law.levels r x rs.0 rx in
      let before = none_before x r v rx rs.0 low (omega arith) parts.1 in
      grind arith

  -- continuations of bisimilar lines, as far as the two lines themselves matter not
  same_within :
      (p q : Line) (a b : ℕ) → Bisimilar m p m q → has_position m a b p ≡ false → has_position m a b q ≡ false →
      (w : Line) → Reachable m (w ++ p) → has_position m a b (w ++ p) ≡ has_position m a b (w ++ q)
  same_within p q a b bisim np nq [] r = np ∙ sym nq
  same_within p q a b bisim np nq (k ∷ w) r =
      let same = (bisim w r.0).1 in
      ap₂ (λ s t. s || t)
      (ap₂ (λ s t. eqb s a && eqb t b) same.a same.b)
      (same_within p q a b bisim np nq w r.0)

  -- no prefix of a line that is new at its level is repeated after it
  none_after :
      (p w : Line) → Reachable m (w ++ p) → Reachable m p → has_level m (m.view p).level p ≡ false →
      has_position m (m.view (w ++ p)).a (m.view (w ++ p)).b p ≡ false
  none_after p w r rp new = none_before (w ++ p) p (m.view p).level r rp (law.falls w p r) (omega arith) new

  same_ends :
      (p q : Line) → Bisimilar m p m q → Reachable m p → Reachable m q →
      has_level m (m.view p).level p ≡ false → has_level m (m.view q).level q ≡ false →
      (w : Line) → Reachable m (w ++ p) → (repeat_layer m).ends (w ++ p) ≡ (repeat_layer m).ends (w ++ q)
  same_ends p q bisim rp rq np nq w r =
      let on = bisim w r in
      let P : ℕ → ℕ → Type 0 = λ a b. has_position m a b q ≡ false in
      let none_q = none_after q w on.0 rq nq in
      same_within p q _ _ bisim (none_after p w r rp np)
      (ap₂ (λ a b. has_position m a b q) on.1.a on.1.b ∙ none_q) w r
      ∙ ap₂ (λ a b. has_position m a b (w ++ q)) on.1.a on.1.b

  repeated_agreeing : Agreeing m (repeat_layer m)
  repeated_agreeing p q rp rq cp cq i j e =
      let bp = below m (repeat_layer m) p rp in
      let bq = below m (repeat_layer m) q rq in
      let independent_p = and_parts _ _ cp in
      let independent_q = and_parts _ _ cq in
      let bisim = law.alike p q bp bq independent_p.0 independent_q.0 i j e in
      record {
        bisimilar = bisim;
        ends = λ w r. same_ends p q bisim bp bq (not-true _ independent_p.1) (not-true _ independent_q.1) w (below m (repeat_layer m) (w ++ p) r);
      }

  pub repeated_lawful : Lawful (repeated m)
  repeated_lawful =
      layered_lawful m (repeat_layer m) law (λ l r. (law.fit l (below m (repeat_layer m) l r)).context) repeated_agreeing

pub repeated_present : (m : Meaning) (l : Line) → Present m l → Present (repeated m) l
repeated_present m l here = layered_present m (repeat_layer m) l here here.fit.context

pub repeated_bounded : (m : Meaning) (h : ℕ) → BoundedBy m h → BoundedBy (repeated m) h
repeated_bounded m h = layered_bounded m (repeat_layer m) h refl

pub repeated_height : (m : Meaning) → Bounded m → Bounded (repeated m)
repeated_height m bounded = (bounded.0, repeated_bounded m bounded.0 bounded.1)

pub repeated_room : (m : Meaning) (l : Line) → Room m l → Room (repeated m) l
repeated_room m l room going = room (grind arith)

-- a search among the prefixes of a line that finds the one of n moves, or none
any_fails : (f : Line → Bool) (l : Line) → ((n : ℕ) → n < length l → f (prefix n l) ≡ false) → any_prefix f l ≡ false
any_fails f [] none = refl
any_fails f (k ∷ l) none =
    or_from _ _
    (ap f (sym (prefix_of (length l) k l (omega arith) ∙ prefix_all (length l) l (omega arith))) ∙ none (length l) (omega arith))
    (any_fails f l (λ n less. ap f (sym (prefix_of n k l (omega arith))) ∙ none n (omega arith)))

pub any_found : (f : Line → Bool) (l : Line) (found : Bool) → (found ≡ true → (n : ℕ) × (n < length l) × (f (prefix n l) ≡ true)) →
    (found ≡ false → (n : ℕ) → n < length l → f (prefix n l) ≡ false) → found ≡ any_prefix f l
any_found f l true hit miss = let h = hit refl in sym (any_hit f h.0 l h.1 h.2)
any_found f l false hit miss = sym (any_fails f l (miss refl))
