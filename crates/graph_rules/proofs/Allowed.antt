-- The test of a row of nodes finds exactly what the rules say, and the first bad node.
use Rattle.std.proofs.Common.{◌≡◌, ℕ, zero, suc, ◌+◌, ◌<◌, ◌≤◌, ◌≢◌, Bool, true, false, not, cond, ◌&&◌, eqb, leb, ltb, List, [], ◌∷◌, length, get_or, take, is_some, Some, None, Option, sym, refl, ap, ◌∙◌, inl, inr, arith, lt-ltb, eq-eqb, ne_eqb, eqb-true, le-leb, leb-true, ltb-true}
use borrow.Author.Tests.{both_ways, eqb-false}
use Rattle.std.specs.List.{list_all, position, position_or_len}
use Rattle.std.proofs.lemmas.Bool.{cases_eq, cases_lt, and_parts, and_from}
use Rattle.std.proofs.lemmas.Bool.Decides.{nat_tests}
use Rattle.std.proofs.lemmas.List.Quantifiers.{position-Some}
use Rattle.std.proofs.lemmas.List.Sums.{position_or_len_is, fails_before_first}
use Rattle.graph_rules.specs.declared.node.Node.{Node}
use Rattle.graph_rules.specs.Graphs.{end_good, targets_good, node_good, graph_fault, node_at}
use Rattle.graph_rules.specs.Theorems.{Ruled, Allowed}

end_going : (n : Node) → end_good n ≡ true → n.score ≡ 255 → (1 ≤ n.count) × (n.count ≤ 4)
end_going n t e = grind (arith, nat_tests)

end_over : (n : Node) → end_good n ≡ true → n.score ≢ 255 → (n.score ≤ 2) × (n.count ≡ 0)
end_over n t e = grind (arith, nat_tests)

end_ruled : (size : ℕ) (n : Node) → Ruled size n → end_good n ≡ true
end_ruled size n r = let going = r.going in let ends = r.ends in grind (arith, nat_tests)

targets_low : (size count : ℕ) (ts : List ℕ) → 0 < size → list_all (λ t. ltb t size) (take count ts) ≡ true → (k : ℕ) → k < count → get_or ts k 0 < size
targets_low size count [] some h k lt = some
targets_low size zero (t ∷ ts) some h k lt = absurd (omega arith)
targets_low size (suc count) (t ∷ ts) some h zero lt = ltb-true t size (and_parts _ _ h).0
targets_low size (suc count) (t ∷ ts) some h (suc k) lt = targets_low size count ts some (and_parts _ _ h).1 k (omega arith)

low_targets : (size count : ℕ) (ts : List ℕ) → ((k : ℕ) → k < count → get_or ts k 0 < size) → list_all (λ t. ltb t size) (take count ts) ≡ true
low_targets size zero ts low = refl
low_targets size (suc count) [] low = refl
low_targets size (suc count) (t ∷ ts) low =
    and_from _ _ (lt-ltb t size (low 0 (omega arith))) (low_targets size count ts (λ k lt. low (suc k) (omega arith)))

good_ruled : (size : ℕ) (n : Node) → 0 < size → node_good size n ≡ true → Ruled size n
good_ruled size n some h =
    let first = and_parts (leb n.turn 1) (end_good n && targets_good size n) h in
    let rest = and_parts (end_good n) (targets_good size n) first.1 in
    record {
      turn = leb-true n.turn 1 first.0;
      going = end_going n rest.0;
      ends = end_over n rest.0;
      target = targets_low size n.count n.targets some rest.1;
    }

ruled_good : (size : ℕ) (n : Node) → Ruled size n → node_good size n ≡ true
ruled_good size n r =
    and_from _ _ (le-leb n.turn 1 r.turn)
    (and_from _ _ (end_ruled size n r) (low_targets size n.count n.targets r.target))

-- the node fails the test
abbrev bad : ℕ → Node → Bool
bad size n = not (node_good size n)

passed : (size : ℕ) (n : Node) → bad size n ≡ false → node_good size n ≡ true
passed size n e = grind arith

none_found : (ns : List Node) → position (bad (length ns)) ns ≡ None → (i : ℕ) → i < length ns → node_good (length ns) (node_at ns i) ≡ true
none_found ns e i h =
    let all : length ns ≤ position_or_len (bad (length ns)) ns = grind (arith, nat_tests) in
    passed (length ns) (node_at ns i) (fails_before_first (bad (length ns)) ns i _ (omega arith))

pub fault_allowed : (ns : List Node) → is_some (graph_fault ns) ≡ false → Allowed ns
fault_allowed ns e =
    let some : 1 ≤ length ns = grind (arith, nat_tests) in
    let few : length ns ≤ 64 = grind (arith, nat_tests) in
    let none : position (bad (length ns)) ns ≡ None = grind (arith, nat_tests) in
    record {
      some = some;
      few = few;
      each = λ i h. good_ruled (length ns) (node_at ns i) some (none_found ns none i h);
    }

good_passes : (ns : List Node) → Allowed ns → (i : ℕ) → i < length ns → bad (length ns) (node_at ns i) ≡ false
good_passes ns a i h = ap not (ruled_good (length ns) (node_at ns i) (a.each i h))

pub allowed_fault : (ns : List Node) → Allowed ns → is_some (graph_fault ns) ≡ false
allowed_fault ns a =
    let all : position_or_len (bad (length ns)) ns ≡ length ns =
    position_or_len_is (bad (length ns)) ns (length ns) _ (omega arith) (good_passes ns a) (λ h. absurd (omega arith)) in
    let some = a.some in
    let few = a.few in
    grind (arith, nat_tests)

pub first_bad_lem : (ns : List Node) (i : ℕ) → 1 ≤ length ns → length ns ≤ 64 → graph_fault ns ≡ Some i →
    (i < length ns) × (Ruled (length ns) (node_at ns i) → ⊥) × ((j : ℕ) → j < i → Ruled (length ns) (node_at ns j))
first_bad_lem ns i some few e =
    let at : position (bad (length ns)) ns ≡ Some i = grind (arith, nat_tests) in
    let first = position-Some (bad (length ns)) ns i _ at in (
      first.0,
      λ r. both_ways _ (ap not (ruled_good (length ns) (node_at ns i) r)) first.1,
      λ j lt. good_ruled (length ns) (node_at ns j) some (passed (length ns) (node_at ns j) (first.2 j lt)),
    )
