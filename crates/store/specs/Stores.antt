-- The two stores: the one that holds nothing, and the direct-mapped table over a lent row.
use Rattle.std.specs.Prelude.{◌≡◌, Some, None}
use Rattle.std.proofs.Common.{ap, sym, subst, ◌∙◌}
use Rattle.std.proofs.lemmas.Option.{none-some}
use Rattle.store.specs.declared.null.Null.{Null}
use Rattle.store.specs.declared.table.Table.{Table}
use Rattle.store.specs.Interface.{StoreMeaning}
use Rattle.store.specs.Slots.{Row, shown_in, recorded_in, emptied}
use Rattle.store.specs.Shown.{shown_is_held, recorded_or_held, empty_shows}

-- the null store holds nothing and never changes
abbrev pub null_store : StoreMeaning Null
null_store = record {
  holds = λ s e. ⊥;
  shows = λ s k. None;
  records = λ s e t. t ≡ s;
  clears = λ s t. t ≡ s;
  shown = λ s k e p. absurd (none-some e p);
  recorded = λ s t e f r held. absurd held;
  cleared = λ s t e c held. held;
}

-- the table u is on the same lent row as t, which is now `row`
pub record Rewritten (t : Table) (row : Row) (u : Table) : Type 0 where
  pub row_is : u.slots.now ≡ row
  pub same_loan : u.slots.ghost_name ≡ t.slots.ghost_name

-- the table holds what it shows for the entry's own key: each entry in its row that stands in its own slot
abbrev pub table_store : StoreMeaning Table
table_store = record {
  holds = λ t e. shown_in t.slots.now e.key ≡ Some e;
  shows = λ t. shown_in t.slots.now;
  records = λ t e u. Rewritten t (recorded_in t.slots.now e) u;
  clears = λ t u. Rewritten t (emptied t.slots.now) u;
  shown = λ t. shown_is_held t.slots.now;
  recorded = λ t u e f r h. recorded_or_held t.slots.now e f (subst (λ row. shown_in row f.key ≡ Some f) r.row_is h);
  cleared = λ t u e c h. none-some e (sym (empty_shows t.slots.now e.key) ∙ ap (λ row. shown_in row e.key) (sym c.row_is) ∙ h);
}
