use Rattle.std.proofs.Common.{◌≡◌, ◌∙◌, ap, length, subst}
use Rattle.cb_link.specs.Calls.{initial_parents}
use Rattle.cb_link.proofs.Grown.{entry_is}
use Rattle.cb_link.proofs.program.Program.parent_count.Goals as goal

pub returns : goal.returns
returns c =
    let classes = c.self.inside.base.classes in
    subst (λ program. c.len.result ≡ length (initial_parents program.classes c.args.class)) c.self.view_is
    (c.len.ensures ∙ ap length (entry_is (length classes) (initial_parents classes) c.self.inside.tables.members.calls.parents c.args.class c.get.result.now c.self.invariant.of_calls.parents c.get.ensures))
