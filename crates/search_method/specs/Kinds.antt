-- The types that the definition shares with the code.
pub use Rattle.search_method.specs.declared.kinds.Pair.{Pair}
pub use Rattle.search_method.specs.declared.kinds.Worked.{Worked}
pub use Rattle.search_method.specs.declared.kinds.Answer.{Answer}
pub use Rattle.search_method.specs.declared.kinds.Answer.TheVariants.{Solved, OutOfBudget}
pub use Rattle.search_method.specs.declared.kinds.SolveRefusal.{SolveRefusal}
pub use Rattle.search_method.specs.declared.kinds.SolveRefusal.TheVariants.{Floor, Memory}
