use Rattle.std.proofs.Common.{◌≤◌, length, sym, ap, ap₂, ◌∙◌, subst, arith}
use Rattle.graph_rules.specs.declared.node.Node.{Node}
use Rattle.graph_rules.specs.Graphs.{standing, node_at}
use Rattle.graph_rules.proofs.Graphs.{standing_low, standing_few}
use Rattle.graph.proofs.graph.Graph.here.Goals as goal

pub bounds-deref-from : goal.bounds-deref-from
bounds-deref-from c =
    let s = c.args.self.now in
    let at = c.here.ensures.stands (standing s.nodes.items) s.follows in
    omega (arith, at, standing_low s.nodes.items s.good _ s.legal, ap length c.deref.ensures.0)

pub returns : goal.returns
returns c =
    let s = c.args.self.now in
    let at = c.from.ensures ∙ c.here.ensures.stands (standing s.nodes.items) s.follows in
    let is = ap₂ node_at c.deref.ensures.0 at in
    record {
      is = is;
      few = subst (λ (n : Node). n.count ≤ 4) (sym is) (standing_few s.nodes.items s.good _ s.legal);
    }
