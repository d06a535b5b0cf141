use Rattle.std.proofs.Common.{◌∙◌, ap, sym}
use Rattle.cb_verify.specs.InnerCopies.{is_category}
use Rattle.cb_verify.proofs.FrameLists.{begins_at}
use Rattle.cb_verify.proofs.type_frame.TypeFrame.is_of_category.Goals as goal

pub returns-then-place-depth-clause-is_of : goal.returns-then-place-depth-clause-is_of
returns-then-place-depth-clause-is_of c =
    c.is_category.ensures ∙ ap (is_category c.args.wanted) c.category.ensures
    ∙ sym (begins_at c.args.wanted c.args.self.now.stack c.args.place c.top.result c.top.ensures)
