use Rattle.std.proofs.Common.{sym, refl, rules}
use Rattle.search.proofs.Expanding.{solve_expands}
use Rattle.search.proofs.solve.run.Goals as goal

pub returns-clause-runs : goal.returns-clause-runs
returns-clause-runs g c = solve_expands c.args.budget (sym c.in_default.ensures) refl c.expand-found.ensures c.answer_of.ensures.is (search rules)
