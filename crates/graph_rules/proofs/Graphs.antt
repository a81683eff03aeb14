-- The laws of the game on a graph.
use Rattle.std.proofs.Common.{◌≡◌, ℕ, ◌<◌, ◌≤◌, true, false, [], ◌∷◌, ◌++◌, List, length, get_or, is_some, refl, ap, subst, arith}
use Rattle.std.proofs.lemmas.Bool.Decides.{nat_tests}
use Rattle.game.specs.Meaning.{Line, Reachable, Same, Bisimilar}
use Rattle.game.specs.Laws.{Fit, Lawful, Present}
use Rattle.graph_rules.specs.declared.node.Node.{Node}
use Rattle.graph_rules.specs.Graphs.{graph_fault, node_at, standing, side_of, score_of, node_view, graph}
use Rattle.graph_rules.specs.Theorems.{Ruled}
use Rattle.graph_rules.proofs.Allowed.{fault_allowed}

-- exactly the ends have a score, and exactly they have no targets
over_ends : (size : ℕ) (n : Node) → Ruled size n → is_some (score_of n.score) ≡ true → n.count ≡ 0
over_ends size n r e = let going = r.going in let ends = r.ends in grind (arith, nat_tests)

going_goes : (size : ℕ) (n : Node) → Ruled size n → is_some (score_of n.score) ≡ false → 0 < n.count
going_goes size n r e = let going = r.going in let ends = r.ends in grind (arith, nat_tests)

few_targets : (size : ℕ) (n : Node) → Ruled size n → n.count ≤ 4
few_targets size n r = let going = r.going in let ends = r.ends in grind (arith, nat_tests)

module _ (ns : List Node) (sound : is_some (graph_fault ns) ≡ false) where
  node_ruled : (i : ℕ) → i < length ns → Ruled (length ns) (node_at ns i)
  node_ruled i h = (fault_allowed ns sound).each i h

  -- wherever a line leads to is a node of the graph
  pub standing_low : (l : Line) → Reachable (graph ns) l → standing ns l < length ns
  standing_low [] r = (fault_allowed ns sound).some
  standing_low (k ∷ l) r = (node_ruled (standing ns l) (standing_low l r.0)).target k r.1

  pub standing_few : (l : Line) → Reachable (graph ns) l → (node_at ns (standing ns l)).count ≤ 4
  standing_few l r = few_targets (length ns) _ (node_ruled (standing ns l) (standing_low l r))

  graph_fit : (l : Line) → Reachable (graph ns) l → Fit ((graph ns).view l)
  graph_fit l r =
      let low = standing_low l r in
      let ruled = node_ruled (standing ns l) low in
      let size = (fault_allowed ns sound).few in
      let few = standing_few l r in
      record {
        moves = omega arith;
        a = omega arith;
        b = omega arith;
        context = omega arith;
        level = omega arith;
        over = over_ends (length ns) _ ruled;
        going = going_goes (length ns) _ ruled;
      }

  same_standing : (p q : Line) → standing ns p ≡ standing ns q → (w : Line) → standing ns (w ++ p) ≡ standing ns (w ++ q)
  same_standing p q e [] = e
  same_standing p q e (k ∷ w) = ap (λ i. get_or (node_at ns i).targets k 0) (same_standing p q e w)

  same_view : (p q : Line) → standing ns p ≡ standing ns q → Same ((graph ns).view p) ((graph ns).view q)
  same_view p q e = record {
    turn = ap (λ i. side_of (node_at ns i).turn) e;
    moves = ap (λ i. (node_at ns i).count) e;
    score = ap (λ i. (node_view i (node_at ns i)).score) e;
    a = e;
    b = refl;
  }

  goes_on : (p q : Line) → standing ns p ≡ standing ns q → Reachable (graph ns) q → Bisimilar (graph ns) p (graph ns) q
  goes_on p q e rq [] r = (rq, same_view p q e)
  goes_on p q e rq (k ∷ w) r =
      let on = goes_on p q e rq w r.0 in
      let P : ℕ → Type 0 = λ n. k < n in
      ((on.0, subst P on.1.moves r.1), same_view (k ∷ (w ++ p)) (k ∷ (w ++ q)) (same_standing p q e (k ∷ w)))

  pub graph_lawful : Lawful (graph ns)
  graph_lawful = record {
    fit = graph_fit;
    falls = λ w p r. omega arith;
    levels = λ p q rp rq i j. refl;
    alike = λ p q rp rq cp cq i j k. goes_on p q i rq;
  }

  pub graph_present : (l : Line) → Reachable (graph ns) l → length l ≤ 96 → Present (graph ns) l
  graph_present l legal short = record { fit = graph_fit l legal; short = short }
