use Rattle.std.proofs.Common.{◌≡◌, ◌∙◌, ap, subst, sym, length}
use Rattle.cb_plain.specs.Flows.{no_flow}
use Rattle.cb_flow.specs.Networks.{AreGains}
use Rattle.cb_flow.proofs.Empty.{nothing_held}
use Rattle.cb_flow.proofs.network.Network.load.Goals as goal

pub invariant_of-self : goal.invariant_of-self
invariant_of-self c =
    let parts = c.self.invariant.are.each in
    let seen : c.self.inside.graph.parts ≡ c.args.self.now.parts = ap (λ n. n.parts) c.self.view_is in
    let each : length c.copy_gains.new.gains.items ≡ c.self.inside.graph.parts = ap length c.copy_gains.ensures ∙ c.requires.each ∙ sym seen in
    let given : AreGains c.self.inside.graph.parts c.args.gains.now = subst (λ n. AreGains n c.args.gains.now) (sym seen) (record { each = c.requires.each; high = c.requires.high; low = c.requires.low }) in
    record {
      are = subst (AreGains c.self.inside.graph.parts) (sym c.copy_gains.ensures) given;
      held = nothing_held c.copy_gains.new.gains.items c.self.inside.graph.edges (length c.args.gains.now) c.clear.new.flow (ap length c.copy_gains.ensures)
          (c.clear.ensures ∙ ap (no_flow (length c.args.gains.now)) c.edge_count-edges.ensures);
      visit_each = c.self.invariant.visit_each ∙ parts ∙ sym each;
      seen_each = c.self.invariant.seen_each ∙ parts ∙ sym each;
    }
