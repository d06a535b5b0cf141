use Rattle.std.proofs.Common.{◌≡◌, ◌∙◌, ap, subst, sym, length}
use Rattle.cb_plain.specs.Flows.{no_flow}
use Rattle.cb_flow.specs.Networks.{AreGains, Linked}
use Rattle.cb_flow.proofs.Empty.{no_gains_are, nothing_held}
use Rattle.cb_flow.proofs.network.Network.make.Goals as goal

pub invariant_of-result : goal.invariant_of-result
invariant_of-result c =
    let are = no_gains_are c.in_ok-gains.gains.items c.args.parts c.in_ok-gains.ensures in
    let parts : c.in_ok-graph.graph.parts ≡ c.args.parts = ap (λ (g : Linked). g.parts) c.in_ok-graph.ensures in
    let edges : c.in_ok-graph.graph.edges ≡ c.args.edges.now = ap (λ (g : Linked). g.edges) c.in_ok-graph.ensures in
    record {
      are = subst (λ n. AreGains n c.in_ok-gains.gains.items) (sym parts) are;
      held = nothing_held c.in_ok-gains.gains.items c.in_ok-graph.graph.edges c.args.parts c.in_ok-flow.flow are.each (c.in_ok-flow.ensures ∙ ap (λ all. no_flow c.args.parts (length all)) (sym edges));
      visit_each = c.in_ok-search.ensures.visits ∙ sym are.each;
      seen_each = c.in_ok-search.ensures.seen ∙ sym are.each;
    }
