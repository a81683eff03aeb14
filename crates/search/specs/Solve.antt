-- What a call of the search answers.
use Rattle.std.specs.Prelude.{◌≡◌, ℕ, ◌≤◌, Some, None, Ok, Err, Option, Result}
use Rattle.store.specs.Interface.{StoreMeaning}
use Rattle.search_method.specs.declared.kinds.Answer.{Answer}
use Rattle.search_method.specs.declared.kinds.Answer.TheVariants.{Solved, OutOfBudget}
use Rattle.search_method.specs.declared.kinds.SolveRefusal.{SolveRefusal}
use Rattle.search_method.specs.Refusals.{refusal_number, refused_by, refusal_due}
use Rattle.search_method.specs.Tree.{Tree, Runs}

-- a refusal that is due is answered by its number and leaves the store; any other call runs the search
abbrev pub Answers : {S : Type 0} → StoreMeaning S → Tree Answer → Option ℕ → S → S → Result Answer SolveRefusal → Type 0
Answers 𝓢 tree (Some e) s t r = (refused_by r ≡ Some e) × (s ≡ t)
Answers 𝓢 tree None s t (Ok a) = Runs 𝓢 tree s t a
Answers 𝓢 tree None s t (Err e) = ⊥

abbrev pub count_of : Answer → ℕ
count_of (Solved v best count) = count
count_of (OutOfBudget count) = count

-- no more plays are made than the budget allows
abbrev pub Within : ℕ → Result Answer SolveRefusal → Type 0
Within budget (Ok a) = count_of a ≤ budget
Within budget (Err e) = Unit {0}

-- the floor of a call that is not refused, and the number of the refusal of any other
abbrev pub Admitted : ℕ → ℕ → ℕ → Result ℕ SolveRefusal → Type 0
Admitted floor lines moves (Ok f) = (f ≡ floor) × (97 ≤ lines) × (6_208 ≤ moves) × (refusal_due floor lines moves ≡ None)
Admitted floor lines moves (Err e) = refusal_due floor lines moves ≡ Some (refusal_number e)
