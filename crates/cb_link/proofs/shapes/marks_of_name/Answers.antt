use Rattle.std.proofs.Common.{◌≡◌, ◌∙◌, ◌<◌, ap, arith, length, sym, map, Some}
use Rattle.std.proofs.lemmas.Option.{same_Some, slice_get_within}
use Rattle.std.proofs.lemmas.Result.{IfOk-weaker}
use Rattle.cb_link.specs.Numbers.{class_number}
use Rattle.cb_link.specs.Slots.{basic_of_field, field_marks, is_some_reference, object_fields}
use Rattle.cb_link.proofs.shapes.marks_of_name.Goals as goal

pub returns-in-Some : goal.returns-in-Some
returns-in-Some c =
    let program = c.args.base.now in
    let class = c.in-Some.class in
    let low : class < length program.classes = omega (arith, slice_get_within c.args.layouts.now class c.get.result.now c.get.ensures, c.requires.as_many) in
    let fields : c.get.result.now ≡ object_fields program.classes class = same_Some _ _ (sym c.get.ensures ∙ c.requires.each class low) in
    let found : Some class ≡ class_number program.classes c.args.name.now = c.in-Some.ensures ∙ ap (λ program. class_number program.classes c.args.name.now) c.base.view_is in
    IfOk-weaker c.marks.result _ _
    (λ marks is. is ∙ ap (map (λ number. is_some_reference (basic_of_field program number))) (c.as_slice.ensures ∙ fields) ∙ ap (field_marks program) found)
    c.marks.ensures
