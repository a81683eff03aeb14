-- Where the steps of a game on a graph lead.
use Rattle.std.proofs.Common.{◌≡◌, ◌<◌, ℕ, List, Ok, Err, Result, OnOk, OnErr, slice_index, sym, subst}
use Rattle.game.specs.declared.refusal.Refusal.{Refusal}
use Rattle.game.specs.Meaning.{Reachable}
use Rattle.game.specs.Prefixes.{prefix}
use Rattle.graph_rules.specs.declared.node.Node.{Node}
use Rattle.graph_rules.specs.Graphs.{node_at, standing, graph}
use Rattle.history.specs.Walks.{Walk, line_of, place_at, step_more, Follows}
use Rattle.history.proofs.Walks.{at_stands}

-- the node of the first n moves is the place after as many steps
pub earlier_stands : (ns : List Node) (w : Walk ℕ) (n : ℕ) → Follows (standing ns) w → standing ns (prefix n (line_of w)) ≡ place_at w n
earlier_stands ns w n f = sym (at_stands (standing ns) w f n)

-- a move that is legal, and leads to the node that it says, or is refused
module _ (ns : List Node) (w v : Walk ℕ) (k place : ℕ) where
  pub pushed_legal :
      (r : Result (Unit {0}) Refusal) → OnOk r (v ≡ step_more w k place) → OnErr r (v ≡ w) → Reachable (graph ns) (line_of w) →
      k < (node_at ns (standing ns (line_of w))).count → Reachable (graph ns) (line_of v)
  pushed_legal (Ok u) more full legal in_count = subst (λ (x : Walk ℕ). Reachable (graph ns) (line_of x)) (sym more) (legal, in_count)
  pushed_legal (Err e) more full legal in_count = subst (λ (x : Walk ℕ). Reachable (graph ns) (line_of x)) (sym full) legal

  pub pushed_follows :
      (r : Result (Unit {0}) Refusal) → OnOk r (v ≡ step_more w k place) → OnErr r (v ≡ w) → Follows (standing ns) w →
      place ≡ slice_index (node_at ns (standing ns (line_of w))).targets k → Follows (standing ns) v
  pushed_follows (Ok u) more full follows leads = subst (Follows (standing ns)) (sym more) (leads, follows)
  pushed_follows (Err e) more full follows leads = subst (Follows (standing ns)) (sym full) follows
