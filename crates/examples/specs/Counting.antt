-- A store under a count of the calls that change it.
use Rattle.std.specs.Prelude.{◌≡◌, ℕ, ◌+◌, ◌-◌, ◌^◌, cond, nat_lt}
use Rattle.store.specs.declared.entry.Entry.{Entry}
use Rattle.store.specs.Interface.{StoreMeaning}
use Rattle.examples.specs.declared.counting.Counting.{Counting}

-- one more, but never past 64 bits
abbrev pub one_more : ℕ → ℕ
one_more n = cond (nat_lt n (2 ^ 64 - 1)) (n + 1) n

-- u is t after a recording: the store below has recorded the entry by its own rule, and it was counted
pub record Recorded {S : Type 0} (m : StoreMeaning S) (t : Counting S) (e : Entry) (u : Counting S) : Type 0 where
  pub below_records : m.records t.below e u.below
  pub counts : u.recorded ≡ one_more t.recorded
  pub other_count : u.cleared ≡ t.cleared

-- u is t after a clearing
pub record Cleared {S : Type 0} (m : StoreMeaning S) (t u : Counting S) : Type 0 where
  pub below_clears : m.clears t.below u.below
  pub counts : u.cleared ≡ one_more t.cleared
  pub other_count : u.recorded ≡ t.recorded

-- it holds and shows what the store below does
abbrev pub counted : {S : Type 0} → StoreMeaning S → StoreMeaning (Counting S)
counted m = record {
  holds = λ t. m.holds t.below;
  shows = λ t. m.shows t.below;
  records = Recorded m;
  clears = Cleared m;
  shown = λ t. m.shown t.below;
  recorded = λ t u e f r. m.recorded t.below u.below e f r.below_records;
  cleared = λ t u e c. m.cleared t.below u.below e c.below_clears;
}
