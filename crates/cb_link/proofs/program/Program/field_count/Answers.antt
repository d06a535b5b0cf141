use Rattle.std.proofs.Common.{◌≡◌, ◌∙◌, ap, length, subst}
use Rattle.cb_link.specs.Slots.{object_fields}
use Rattle.cb_link.proofs.Grown.{entry_is}
use Rattle.cb_link.proofs.program.Program.field_count.Goals as goal

pub returns : goal.returns
returns c =
    let classes = c.self.inside.base.classes in
    subst (λ program. c.len.result ≡ length (object_fields program.classes c.args.class)) c.self.view_is
    (c.len.ensures ∙ ap length (entry_is (length classes) (object_fields classes) c.self.inside.tables.members.fields.layouts c.args.class c.get.result.now c.self.invariant.of_fields.layouts c.get.ensures))
