-- A row of slots, each with an entry or none: the slot of a key, what the row shows, what recording and clearing make of it.
use Rattle.std.specs.Prelude.{ℕ, ◌-◌, ◌*◌, ◌/◌, ◌%◌, ◌^◌, Bool, cond, ◌&&◌, List, length, replicate, Some, None, Option, ◌==◌, bit_or, bit_xor, slice_index_or, slice_set}
use Rattle.store.specs.Interface.{Entry, Key}

abbrev pub Row : Type 0
Row = List (Option Entry)

-- a word of 64 bits rotated left: the bits that leave at the top come in at the bottom
abbrev pub rotated : ℕ → ℕ → ℕ
rotated by w = bit_or ((w * 2 ^ by) % 2 ^ 64) (w / 2 ^ (64 - by))

-- the four fields of a key mixed into one word
abbrev pub hash : Key → ℕ
hash k = bit_xor (bit_xor (bit_xor k.a (rotated 21 k.b)) (rotated 43 k.context)) k.floor

-- the slot of a key in a row of n slots
abbrev pub slot_of : Key → ℕ → ℕ
slot_of k n = hash k % n

abbrev pub same_keys : Key → Key → Bool
same_keys k l = k.a == l.a && (k.b == l.b && (k.context == l.context && k.floor == l.floor))

-- what one slot shows for a key: its entry, if that is the entry's own key in every field
abbrev pub shown_by : Option Entry → Key → Option Entry
shown_by None k = None
shown_by (Some e) k = cond (same_keys e.key k) (Some e) None

-- what the row shows for a key: only that key's slot is read, and a row without slots shows nothing
abbrev pub shown_in : Row → Key → Option Entry
shown_in row k = shown_by (slice_index_or row (slot_of k (length row)) None) k

-- the row with an entry in its key's slot, whatever was there; a row without slots stays as it is
abbrev pub recorded_in : Row → Entry → Row
recorded_in row e = slice_set row (slot_of e.key (length row)) (Some e)

-- as many slots with nothing in them
abbrev pub emptied : Row → Row
emptied row = replicate (length row) None
