use Rattle.std.proofs.Common.{◌≡◌, ◌∙◌, ap, subst, sym, Some}
use Rattle.std.specs.Prelude.{slice_get}
use Rattle.cb_link.specs.Having.{IsWhole}
use Rattle.cb_link.specs.Named.{IsThere}
use Rattle.cb_link.specs.Slots.{statics}
use Rattle.cb_link.specs.InnerPlaces.{HasField}
use Rattle.cb_link.proofs.ConstantAnswers.{field_class, field_place, initial_is, static_within}
use Rattle.cb_link.proofs.NamedThere.{class_constant_there}
use Rattle.cb_link.proofs.program.Program.static_initial.Goals as goal

pub field-linked-requires : goal.field-linked-requires
field-linked-requires c =
    static_within c.self.inside.base c.args.slot c.get-number.result.now c.self.invariant.whole
    (ap (λ all. slice_get all c.args.slot) (sym c.self.invariant.of_fields.statics) ∙ c.get-number.ensures)

pub class-class-requires : goal.class-class-requires
class-class-requires c =
    field_class c.args.self.now c.get-number.result.now c.field-linked.result.now (subst (λ program. HasField program c.get-number.result.now c.field-linked.result.now) c.self.view_is c.field-linked.ensures)

pub get-field-requires : goal.get-field-requires
get-field-requires c =
    field_place c.args.self.now c.get-number.result.now c.field-linked.result.now
    (subst (λ program. HasField program c.get-number.result.now c.field-linked.result.now) c.self.view_is c.field-linked.ensures) c.class-class.result.now c.class-class.ensures

pub returns-clause-found : goal.returns-clause-found
returns-clause-found c =
    let at : slice_get (statics c.args.self.now.classes) c.args.slot ≡ Some c.get-number.result.now =
    ap (λ program. slice_get (statics program.classes) c.args.slot) (sym c.self.view_is) ∙ ap (λ all. slice_get all c.args.slot) (sym c.self.invariant.of_fields.statics) ∙ c.get-number.ensures in
    c.constant_of.ensures
    ∙ initial_is c.args.self.now c.get-number.result.now c.field-linked.result.now
    (subst (λ program. HasField program c.get-number.result.now c.field-linked.result.now) c.self.view_is c.field-linked.ensures) c.class-class.result.now c.class-class.ensures
    c.args.slot c.get-field.result.now at c.get-field.ensures

pub returns-clause-within : goal.returns-clause-within
returns-clause-within c =
    subst (IsThere c.args.self.now) (sym c.constant_of.ensures)
    (class_constant_there c.args.self.now (subst IsWhole c.self.view_is c.self.invariant.whole) c.field-linked.result.now.class c.get-field.result.now.constant)
