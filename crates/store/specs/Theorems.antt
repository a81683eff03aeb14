-- What a direct-mapped table remembers, and what a rotation is, in words that name no step of the program.
use Rattle.std.specs.Prelude.{◌≡◌, ℕ, ◌+◌, ◌-◌, ◌*◌, ◌^◌, ◌<◌, ◌≤◌, length, Some, None, ◌≢◌}
use Rattle.store.specs.declared.table.Table.{Table}
use Rattle.store.specs.Interface.{Entry, Key}
use Rattle.store.specs.Slots.{rotated, slot_of}
use Rattle.store.specs.Stores.{table_store}

-- the number of slots of a table, and the slot of a key in it
abbrev pub slots : Table → ℕ
slots t = length t.slots.now

abbrev pub slot_in : Table → Key → ℕ
slot_in t k = slot_of k (slots t)

-- of tables s and t, where t is s after recording an entry or after clearing
pub record DirectMapped : Type 0 where
  -- the recorded entry is shown for its key, if there is any slot
  pub newest : (s t : Table) (e : Entry) → table_store.records s e t → 0 < slots s → table_store.shows t e.key ≡ Some e
  -- for another key of the same slot nothing is shown
  pub displaced : (s t : Table) (e : Entry) (k : Key) → table_store.records s e t → slot_in s k ≡ slot_in s e.key → (k ≢ e.key) → table_store.shows t k ≡ None
  -- for a key of another slot, what was shown before
  pub others : (s t : Table) (e : Entry) (k : Key) → table_store.records s e t → (slot_in s k ≢ slot_in s e.key) → table_store.shows t k ≡ table_store.shows s k
  -- after clearing nothing is shown
  pub nothing : (s t : Table) (k : Key) → table_store.clears s t → table_store.shows t k ≡ None
  -- no call changes the number of slots
  pub recording_keeps_slots : (s t : Table) (e : Entry) → table_store.records s e t → slots t ≡ slots s
  pub clearing_keeps_slots : (s t : Table) → table_store.clears s t → slots t ≡ slots s

-- rotating a word left by n moves its n highest bits below the others
abbrev pub Rotates : Type 0
Rotates = (n high low : ℕ) → n ≤ 64 → high < 2 ^ n → low < 2 ^ (64 - n) → rotated n (high * 2 ^ (64 - n) + low) ≡ low * 2 ^ n + high
