-- Liberties and legal moves, in the words of the game.
use Rattle.std.proofs.Common.{◌≡◌, ℕ, ◌*◌, ◌%◌, ◌^◌, ◌<◌, true, false, not, ◌||◌, ◌⊎◌, Decides, sym, refl, ap, ◌∙◌, subst, inl, inr, lt_of_le_of_lt, arith}
use lib.Bits.{or_lt}
use Rattle.std.proofs.lemmas.Nat.{one_shl, pow_below, pow_pos}
use Rattle.std.proofs.lemmas.Bool.Decides.{Decides-or}
use Rattle.std.proofs.lemmas.Bool.{cases_Bool, true≢false, and_parts, and_from, cond-true, eqb-true, eq-eqb, ne_eqb}
use Rattle.point_sets.specs.Points.{has, set_of}
use Rattle.go_rules.specs.Groups.{Neighbours, Joined, here, step, around, reach, OnBoard}
use Rattle.go_rules.specs.Rules.{free_of, HasLiberty, living, Living, all_live, group_of, liberties_of, Group, Liberties, with_stone, leaves_one, takes_last, may_fill, legal, move_set, Takes, LegalMove, Moves}
use Rattle.point_sets.proofs.Sets.{has_set, has_inside, has_zero, has_and, has_or, has_pow, set_lt, same_set, cases_differ}
use Rattle.go_rules.proofs.Chains.{around_from, around_to, reach_chained, starts}
use Rattle.go_rules.proofs.Reach.{reach_le}

near_sym : (n p q : ℕ) → Neighbours n p q → Neighbours n q p
near_sym n p q b = record {
  on_board = b.there;
  there = b.on_board;
  near = grind (arith, b.near);
}

in_front : (n s p q r : ℕ) → has s p ≡ true → Neighbours n p q → Joined n s q r → Joined n s p r
in_front n s p q r i b (here j) = step (here i) b j
in_front n s p q r i b (step {q = x} j c k) = step (in_front n s p q x i b j) c k

joined_sym : (n s p q : ℕ) → Joined n s p q → Joined n s q p
joined_sym n s p q (here i) = here i
joined_sym n s p q (step {q = x} j b i) = in_front n s q x p i (near_sym n x q b) (joined_sym n s p x j)

module _ (n : ℕ) where
  pub living_is : (s f : ℕ) → OnBoard n s → OnBoard n f → Living n s f (living n s f)
  unfolding living
  living_is s f on_s on_f p =
      let chained = reach_chained n s (around n f) on_s p in (
        λ e.
            let j = chained.0 e in
            let b = around_from n f j.0 on_f j.1 in
            record {
              stone = j.0;
              liberty = b.0;
              joined = joined_sym n s j.0 p j.2;
              next = near_sym n b.0 j.0 b.2;
              free = b.1;
            },
        λ h.
            chained.1 (
              h.stone,
              around_to n f h.stone h.liberty h.free (near_sym n h.stone h.liberty h.next),
              joined_sym n s p h.stone h.joined,
            ),
      )

  living_on : (s f : ℕ) → OnBoard n s → OnBoard n (living n s f)
  unfolding living
  living_on s f on = lt_of_le_of_lt (reach_le n s (around n f)) on

  own_stone : (s f p : ℕ) → OnBoard n s → HasLiberty n s f p → has s p ≡ true
  own_stone s f p on h = starts n s p h.stone h.joined

pub free_on : (n s t : ℕ) → OnBoard n (free_of n s t)
unfolding free_of
free_on n s t = set_lt (n * n) _

pub stone_on : (n s p : ℕ) → p < n * n → OnBoard n s → OnBoard n (with_stone s p)
stone_on n s p h on = or_lt (n * n) s (2 ^ p) on (pow_below p (n * n) h)

-- a stone more leaves no more points free
was_free : (n own foe p r : ℕ) → has (free_of n (with_stone own p) foe) r ≡ true → has (free_of n own foe) r ≡ true
unfolding free_of
was_free n own foe p r e =
    let f = λ (q : ℕ). not (has (with_stone own p) q || has foe q) in
    let h : r < n * n = has_inside (n * n) (set_of (n * n) f) r (set_lt (n * n) f) e in
    grind (arith, has_set (n * n) f r h, has_set (n * n) (λ q. not (has own q || has foe q)) r h, has_or own (2 ^ p) r)

module _ (n own foe : ℕ) (on_own : OnBoard n own) (on_foe : OnBoard n foe) where
  foe_before : Living n foe (free_of n own foe) (living n foe (free_of n own foe))
  foe_before = living_is n foe (free_of n own foe) on_foe (free_on n own foe)

  foe_after : (p : ℕ) → Living n foe (free_of n (with_stone own p) foe) (living n foe (free_of n (with_stone own p) foe))
  foe_after p = living_is n foe (free_of n (with_stone own p) foe) on_foe (free_on n (with_stone own p) foe)

  takes_is : (p : ℕ) → Decides (takes_last n own foe p) (Takes n own foe p)
  takes_is p =
      let before = living n foe (free_of n own foe) in
      let later = living n foe (free_of n (with_stone own p) foe) in (
        λ e.
            elim (cases_differ (n * n) later before) [
              | inl same ↦
                  let equal = same_set (n * n) later before (living_on n foe _ on_foe) (living_on n foe _ on_foe) same in
                  absurd (true≢false (sym e ∙ ap not (eq-eqb later before equal)))
              | inr d ↦ elim d.2 [
                | inl x ↦
                    let h = (foe_after p d.0).0 x.0 in
                    let was : HasLiberty n foe (free_of n own foe) d.0 = record {
                      stone = h.stone;
                      liberty = h.liberty;
                      joined = h.joined;
                      next = h.next;
                      free = was_free n own foe p h.liberty h.free;
                    } in
                    absurd (true≢false (sym ((foe_before d.0).1 was) ∙ x.1))
                | inr x ↦ record {
                  stone = d.0;
                  had = (foe_before d.0).0 x.1;
                  lost = λ h. true≢false (sym ((foe_after p d.0).1 h) ∙ x.0);
                }
              ]
            ],
        λ t.
            ap not (ne_eqb later before (λ equal.
            t.lost ((foe_after p t.stone).0 (ap (λ (m : ℕ). has m t.stone) equal ∙ (foe_before t.stone).1 t.had)))),
      )

  all_live_lem : Decides (all_live n own foe) ((q : ℕ) → has own q ≡ true → HasLiberty n own (free_of n own foe) q)
  unfolding all_live
  all_live_lem =
      let live = living n own (free_of n own foe) in
      let is = living_is n own (free_of n own foe) on_own (free_on n own foe) in (
        λ e q h. (is q).0 (ap (λ (m : ℕ). has m q) (eqb-true live own e) ∙ h),
        λ each.
            eq-eqb live own (same_set (n * n) live own (living_on n own _ on_own) on_own (λ p h. grind (arith, is p, each p, own_stone n own (free_of n own foe) p on_own))),
      )

  -- each group of the side on turn has a liberty, or one has none
  pub alive_or_not :
      ((q : ℕ) → has own q ≡ true → HasLiberty n own (free_of n own foe) q)
      ⊎ ((q : ℕ) × (has own q ≡ true) × (HasLiberty n own (free_of n own foe) q → ⊥))
  alive_or_not =
      let live = living n own (free_of n own foe) in
      let is = living_is n own (free_of n own foe) on_own (free_on n own foe) in
      elim (cases_differ (n * n) live own) [
        | inl same ↦ inl (λ q h. (is q).0 (same q (has_inside (n * n) own q on_own h) ∙ h))
        | inr d ↦ elim d.2 [
          | inl x ↦ absurd (true≢false (sym (own_stone n own (free_of n own foe) d.0 on_own ((is d.0).0 x.0)) ∙ x.1))
          | inr x ↦ inr (d.0, x.1, λ h. true≢false (sym ((is d.0).1 h) ∙ x.0))
        ]
      ]

  legal_is : (p : ℕ) → p < n * n → Decides (legal n own foe p) (LegalMove n own foe p)
  unfolding legal may_fill
  legal_is p h =
      let own_after = living_is n (with_stone own p) (free_of n (with_stone own p) foe) (stone_on n own p h on_own) (free_on n (with_stone own p) foe) p in
      let fill = Decides-or (leaves_one n own foe p) (takes_last n own foe p) own_after (takes_is p) in
      let free = has (free_of n own foe) p in (
        λ e. let x = and_parts free _ e in record { empty = x.0; fair = fill.0 x.1 },
        λ m. and_from free _ m.empty (fill.1 m.fair),
      )

  -- the set of the legal moves, where each group of the side on turn has a liberty
  pub moves_live : (p : ℕ) → living n own (free_of n own foe) ≡ own
      → (has (set_of (n * n) (legal n own foe)) p ≡ true → ((q : ℕ) → has own q ≡ true → HasLiberty n own (free_of n own foe) q) × LegalMove n own foe p)
      × (((q : ℕ) → has own q ≡ true → HasLiberty n own (free_of n own foe) q) × LegalMove n own foe p → has (set_of (n * n) (legal n own foe)) p ≡ true)
  unfolding all_live
  moves_live p alive = (
    λ e.
        let h = has_inside (n * n) (set_of (n * n) (legal n own foe)) p (set_lt (n * n) (legal n own foe)) e in
        (all_live_lem.0 (eq-eqb _ own alive), (legal_is p h).0 (sym (has_set (n * n) (legal n own foe) p h) ∙ e)),
    λ m.
        let h = has_inside (n * n) (free_of n own foe) p (free_on n own foe) m.1.empty in
        has_set (n * n) (legal n own foe) p h ∙ (legal_is p h).1 m.1,
  )

  -- the test of a program, where each group has one
  pub alive_all : ((q : ℕ) → has own q ≡ true → HasLiberty n own (free_of n own foe) q) → living n own (free_of n own foe) ≡ own
  unfolding all_live
  alive_all each = eqb-true _ own (all_live_lem.1 each)

  moves_are : Moves n own foe (move_set n own foe)
  unfolding move_set all_live
  moves_are p =
      elim (cases_Bool (all_live n own foe)) [
        | inl t ↦ rw t (moves_live p (eqb-true _ own t))
        | inr t ↦ rw t (λ e. absurd (true≢false (sym e ∙ has_zero p)), λ m. absurd (true≢false (sym (all_live_lem.1 m.0) ∙ t)))
      ]

-- the moves that a program found are the legal ones
pub moves_found : (n own foe r : ℕ) → r ≡ move_set n own foe → OnBoard n own → OnBoard n foe → Moves n own foe r
moves_found n own foe r e on_own on_foe = subst (Moves n own foe) (sym e) (moves_are n own foe on_own on_foe)

-- the group of a stone, as a program finds it
pub group_found : (n s p : ℕ) → has s p ≡ true → p < 64 → reach n s (1 * 2 ^ p % 2 ^ 64) ≡ group_of n s p
group_found n s p t h = ap (reach n s) (one_shl p 64 h) ∙ sym (cond-true (has s p) (reach n s (2 ^ p)) 0 t)

pub group_empty : (n s p q : ℕ) → has s p ≡ false → (has 0 q ≡ true → Joined n s p q) × (Joined n s p q → has 0 q ≡ true)
group_empty n s p q t = (
  λ e. absurd (true≢false (sym e ∙ has_zero q)),
  λ j. absurd (true≢false (sym (starts n s p q j) ∙ t)),
)

-- the group of one point, and its liberties
module _ (n s p : ℕ) (on : OnBoard n s) where
  pub group_is : Group n s p (group_of n s p)
  group_is q =
      elim (cases_Bool (has s p)) [
        | inl t ↦
            let chained = reach_chained n s (2 ^ p) on q in rw t (
              λ e. let j = chained.0 e in subst (λ (x : ℕ). Joined n s x q) (eqb-true j.0 p (sym (has_pow p j.0) ∙ j.1)) j.2,
              λ j. chained.1 (p, has_pow p p ∙ eq-eqb p p refl, j),
            )
        | inr t ↦ rw t (group_empty n s p q t)
      ]

  group_on : OnBoard n (group_of n s p)
  group_on =
      elim (cases_Bool (has s p)) [
        | inl t ↦ rw t (lt_of_le_of_lt (reach_le n s (2 ^ p)) on)
        | inr t ↦ rw t (pow_pos (n * n))
      ]

  pub liberties_are : (f : ℕ) → Liberties n s f p (liberties_of n s f p)
  liberties_are f q =
      let g = group_of n s p in (
        λ e.
            let x = and_parts _ _ (sym (has_and f (around n g) q) ∙ e) in
            let b = around_from n g q group_on x.1 in
            (x.0, (b.0, (group_is b.0).0 b.1, b.2)),
        λ l.
            has_and f (around n g) q ∙ and_from _ _ l.0 (around_to n g q l.1.0 ((group_is l.1.0).1 l.1.1) l.1.2),
      )
