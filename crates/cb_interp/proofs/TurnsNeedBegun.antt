-- A class of a typed state may begin to be initialised: there are all classes, and all static fields.
use Rattle.std.proofs.Common.{◌≡◌, ◌∙◌, ap, sym, subst, arith, ℕ, ◌<◌, ◌≤◌, nat_lt, Bool, true, false, List, length, map, Option, Some, refl}
use Rattle.std.proofs.lemmas.Bool.{ltb-false, ltb-true}
use Rattle.std.proofs.lemmas.List.{length-map}
use Rattle.std.proofs.lemmas.Option.{slice_get_within}
use Rattle.std.specs.Prelude.{option_and_then, option_map}
use Rattle.cb_heap.specs.Reading.{read_value, seen}
use Rattle.cb_link.specs.Numbers.{fields_of, ranked_field, ranked_fields}
use Rattle.cb_link.specs.Program.{Linked, linked_field}
use Rattle.cb_link.specs.Slots.{basic_of_field, static_basic, statics}
use Rattle.cb_link.specs.declared.linked.LinkedField.{LinkedField}
use Rattle.cb_plain.specs.State.{Object, Roots}
use Rattle.cb_plain.specs.declared.value.Value.{Value}
use Rattle.cb_safety.specs.Kinds.{Kinds}
use Rattle.cb_safety.specs.Linked.{IsLinked}
use Rattle.cb_safety.specs.States.{AreStatics, IsTypedState}
use Rattle.cb_act.specs.Turning.{Outside, state_of}
use Rattle.cb_act.proofs.Laws.{all_at}
use Rattle.cb_interp.proofs.LinkedFit.{numbers_low, there_at}

-- each static field has a value
values_enough : (program : Linked) (kinds : Kinds) (values : List Value) → length program.fields ≡ length (ranked_fields program.classes)
    → AreStatics program kinds values → length (statics program.classes) ≤ length values
values_enough program kinds values fields are = go (nat_lt (length values) (length (statics program.classes))) refl where
  go : (is : Bool) → nat_lt (length values) (length (statics program.classes)) ≡ is → length (statics program.classes) ≤ length values
  go false is = ltb-false (length values) (length (statics program.classes)) is
  go true is =
      let (number, there) = there_at (statics program.classes) (length values) (ltb-true (length values) (length (statics program.classes)) is) in
      let low : number < length (ranked_fields program.classes) =
      all_at (λ number. number < length (ranked_fields program.classes)) (statics program.classes) (length values) number
      (numbers_low (λ entry. entry.1.is_static) (length (ranked_fields program.classes)) 0 (ranked_fields program.classes) (omega arith)) there in
      let (field, own) = there_at program.fields number (omega (arith, low, fields)) in
      let basic : static_basic program (length values) ≡ Some field.basic =
      ap (option_and_then (basic_of_field program)) there ∙ ap (option_map (λ (field : LinkedField). field.basic)) own in
      let has = are.each (length values) field.basic basic in
      let within = slice_get_within values (length values) has.value has.there in
      absurd (omega (arith, within))

-- of a linked program
fields_count : (program : Linked) → IsLinked program → length program.fields ≡ length (ranked_fields program.classes)
fields_count program linked =
    let fields : program.fields ≡ map (linked_field program.kinds) (fields_of program.classes) =
    subst (λ (program : Linked). program.fields ≡ map (linked_field program.kinds) (fields_of program.classes)) (sym linked.all) refl in
    ap (λ (fields : List LinkedField). length fields) fields ∙ length-map (fields_of program.classes) (linked_field program.kinds)
    ∙ sym (length-map (fields_of program.classes) (ranked_field program.classes))

module _ (program : Linked) (index : ℕ → ℕ) (objects : List (Option Object)) (held : Roots) (outside : Outside)
    (typed : IsTypedState program (state_of (seen index objects held) outside)) where
  pub statics_there : IsLinked program → length (statics program.classes) ≤ length held.statics
  statics_there linked =
      subst (λ (count : ℕ). length (statics program.classes) ≤ count) (length-map held.statics (read_value index))
      (values_enough program _ (map (read_value index) held.statics) (fields_count program linked) typed.roots.statics)

  pub class_there : (class : ℕ) → class < length program.classes → class < length held.classes
  class_there class low = subst (λ (count : ℕ). class < count) (sym typed.roots.classes) low
