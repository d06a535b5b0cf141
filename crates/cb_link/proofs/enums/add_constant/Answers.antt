use Rattle.std.proofs.Common.{◌≡◌, ◌∙◌, ◌<◌, ◌++◌, ◌∷◌, [], ℕ, List, ap, ap₂, arith, get_or, length, sym, slice_set}
use Rattle.std.proofs.lemmas.List.{get_or_read}
use Rattle.std.proofs.lemmas.Option.{same_Some, slice_get_within}
use Rattle.cb_classfile.specs.declared.field.Field.{Field}
use Rattle.cb_link.specs.Numbers.{Numbered}
use Rattle.cb_link.specs.Slots.{is_enum_static, slot_of}
use Rattle.cb_link.proofs.EnumRows.{enums_more, enums_same}
use Rattle.cb_link.proofs.FieldPlaces.{class_is, member_is, pool_is, within_classes, within_fields}
use Rattle.cb_link.proofs.enums.add_constant.Goals as goal
use Rattle.cb_link.proofs.enums.add_constant.Goals.{In_ok-is_constant}

pub class-class-requires : goal.class-class-requires
class-class-requires c = within_classes c.args.base.now c.args.number c.linked_field-linked.result.now c.linked_field-linked.ensures.placed

pub get-field-requires : goal.get-field-requires
get-field-requires c = within_fields c.args.base.now c.args.number c.linked_field-linked.result.now c.linked_field-linked.ensures.placed c.class-class.result.now c.class-class.ensures

told : (c : In_ok-is_constant) → is_enum_static c.args.base.now.classes c.linked_field-linked.ensures.placed.numbered ≡ c.in_ok-is_constant.field-0
told c =
    let program = c.args.base.now in
    let number = c.args.number in
    let linked = c.linked_field-linked.result.now in
    let has = c.linked_field-linked.ensures.placed in
    let class = c.class-class.result.now in
    let class_same = class_is program number linked has in
    let pool_same = pool_is program number linked has class c.class-class.ensures in
    let member_same = member_is program number linked has class c.class-class.ensures c.get-field.result.now c.get-field.ensures in
    let numbered : Numbered Field = record { class = linked.class; place = has.numbered.place; pool = class.pool; member = c.get-field.result.now } in
    let same : has.numbered ≡ numbered = λ i. record { class = class_same i; place = has.numbered.place; pool = pool_same i; member = member_same i } in
    ap (is_enum_static program.classes) same ∙ ap (λ program. is_enum_static program.classes numbered) (sym c.base.view_is) ∙ sym (c.in_ok-is_constant.ensures has.numbered.place)

pub returns-in_ok-push : goal.returns-in_ok-push
returns-in_ok-push c =
    let program = c.args.base.now in
    let number = c.args.number in
    let linked = c.linked_field-linked.result.now in
    let has = c.linked_field-linked.ensures.placed in
    let rows = c.args.rows.now.items in
    let low : linked.class < length program.classes = within_classes program number linked has in
    let within : linked.class < length rows = omega (arith, low, c.requires.rows.as_many) in
    let class_same : linked.class ≡ has.numbered.class = sym (class_is program number linked has) in
    let numbered_low : has.numbered.class < length program.classes = omega (arith, low, class_same) in
    let number_low = slice_get_within c.args.slots.now number c.get.result.now c.get.ensures in
    let slot : c.get.result.now ≡ slot_of program.classes number = same_Some _ _ (sym c.get.ensures ∙ c.requires.slots.each number (omega (arith, number_low, c.requires.slots.as_many))) in
    let row : c.index_mut.result.now ≡ get_or rows has.numbered.class [] = get_or_read rows linked.class c.index_mut.result.now within c.index_mut.ensures.value [] ∙ ap (λ class. get_or rows class []) class_same in
    let pushed : c.push.new.self ≡ get_or rows has.numbered.class [] ++ slot_of program.classes number ∷ [] =
    c.in_ok-push.ensures.ok ∙ ap₂ (λ (row : List ℕ) slot. row ++ slot ∷ []) row slot in
    enums_more program.classes number has.numbered has.there rows (slice_set rows linked.class c.push.new.self) (told (goal.at.returns-in_ok-push c).In_ok-is_constant ∙ c.if-branch.true) numbered_low c.requires.rows
    (λ i. slice_set rows (class_same i) (pushed i))

pub returns-else-branch : goal.returns-else-branch
returns-else-branch c =
    enums_same c.args.base.now.classes c.args.number c.linked_field-linked.ensures.placed.numbered c.linked_field-linked.ensures.placed.there c.args.rows.now.items (told (goal.at.returns-else-branch c).In_ok-is_constant ∙ c.if-branch.false) c.requires.rows
