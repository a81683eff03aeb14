-- A budget that is never used up, whatever any store answers.
use Rattle.std.specs.Prelude.{◌≡◌, ℕ, zero, suc, ◌+◌, ◌-◌, ◌*◌, ◌<◌, ◌≤◌, length, Option}
use Rattle.game.specs.Meaning.{Line, Meaning, Reachable}
use Rattle.game.specs.Laws.{Lawful, BoundedBy}
use Rattle.store.specs.declared.entry.Entry.{Entry}
use Rattle.search_method.specs.Kinds.{Answer, Solved, OutOfBudget}
use Rattle.search_method.specs.Tree.{Tree, done, ask, note}
use Rattle.search_method.specs.Pairs.{M}
use Rattle.search_method.specs.Search.{solve}

-- plays that suffice for a line with at most h moves to go
unfoldable pub enough : ℕ → ℕ
enough zero = 0
enough (suc h) = (64 * M + 65) * (1 + enough h)

-- every way through the tree, whatever is answered, ends with P
abbrev pub Always : {A : Type 0} → (A → Type 0) → Tree A → Type 0
Always P (done x) = P x
Always P (ask k g) = (o : Option Entry) → Always P (g o)
Always P (note e t) = Always P t

-- a verdict takes no more plays than the budget and than t, and only a budget below t is used up, to its last play
abbrev pub Within : ℕ → ℕ → Answer → Type 0
Within budget t (Solved v move count) = (count ≤ budget) × (count ≤ t)
Within budget t (OutOfBudget count) = (count ≡ budget) × (budget < t)

-- so it is for every lawful game of height H at every reachable line, for any floor and budget and any answers
abbrev pub BudgetEnough : Type 0
BudgetEnough =
    (m : Meaning) (H : ℕ) → Lawful m → BoundedBy m H → (l : Line) → Reachable m l → (floor budget : ℕ) →
    Always (Within budget (enough (H - length l))) (solve m l floor budget)

-- the first of these numbers: with one move to go 67,108,865 plays suffice
pub record WorkedBounds : Type 0 where
  pub none_to_go : enough 0 ≡ 0
  pub one_to_go : enough 1 ≡ 67_108_865
