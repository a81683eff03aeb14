-- What a row of slots shows, before and after recording an entry: facts from which the laws of the table follow.
use Rattle.std.specs.Prelude.{◌≡◌, ◌<◌, ◌⊎◌, [], ◌∷◌, length, Some, None, ◌≢◌}
use Rattle.std.proofs.Common.{inr, ⊎_elim, sym, ◌∙◌, arith}
use Rattle.std.proofs.lemmas.Bool.{cases_eq}
use Rattle.std.proofs.lemmas.Bool.Decides.{nat_tests}
use Rattle.std.proofs.lemmas.Grind.{common_steps}
use Rattle.store.specs.Interface.{Entry, Key}
use Rattle.store.specs.Slots.{Row, slot_of, shown_by, shown_in, recorded_in, emptied}

-- a row shows no entry but those in their own slots, each only for its own key
pub shown_is_held : (row : Row) (k : Key) (e : Entry) → shown_in row k ≡ Some e → (shown_in row e.key ≡ Some e) × (e.key ≡ k)
shown_is_held row k e s = grind (arith, nat_tests)

-- in the slot of the recorded entry stands that entry
pub in_its_slot : (row : Row) (e : Entry) (k : Key) → 0 < length row → slot_of k (length row) ≡ slot_of e.key (length row) →
    shown_in (recorded_in row e) k ≡ shown_by (Some e) k
in_its_slot row e k some same = grind (arith, common_steps)

-- other slots show what they showed
pub in_other_slots : (row : Row) (e : Entry) (k : Key) → (slot_of k (length row) ≢ slot_of e.key (length row)) →
    shown_in (recorded_in row e) k ≡ shown_in row k
in_other_slots row e k other = grind (arith, common_steps)

pub recorded_or_held : (row : Row) (e f : Entry) → shown_in (recorded_in row e) f.key ≡ Some f → (f ≡ e) ⊎ (shown_in row f.key ≡ Some f)
recorded_or_held [] e f s = inr s
recorded_or_held (x ∷ rest) e f s =
    let row : Row = x ∷ rest in
    ⊎_elim
    (λ same. let here : shown_by (Some e) f.key ≡ Some f = sym (in_its_slot row e f.key (omega arith) same) ∙ s in grind (arith, nat_tests))
    (λ other. inr (sym (in_other_slots row e f.key other) ∙ s))
    (cases_eq (slot_of f.key (length row)) (slot_of e.key (length row)))

pub empty_shows : (row : Row) (k : Key) → shown_in (emptied row) k ≡ None
empty_shows row k = grind (arith, common_steps)
