-- The native that finds a constant of an enum by its name (Java SE 8 API, Enum.valueOf). Its class is initialised first.
use Rattle.std.specs.Prelude.{ℤ, pos, ℕ, Bool, false, List, [], ◌∷◌, Option, Some, None, option_and_then, option_map, slice_get}
use Rattle.std.specs.List.{find}
use Rattle.cb_classfile.specs.Pool.{text_at}
use Rattle.cb_classfile.specs.declared.field.Field.{Field}
use Rattle.cb_kinds.specs.Texts.{same_text}
use Rattle.cb_link.specs.Calls.{class_of_kind}
use Rattle.cb_link.specs.Numbers.{Numbered, or_none}
use Rattle.cb_link.specs.Program.{Linked}
use Rattle.cb_link.specs.Slots.{enum_statics, static_at}
use Rattle.cb_plain.specs.declared.class_state.ClassState.{ClassState}
use Rattle.cb_plain.specs.declared.class_state.ClassState.TheVariants.{Busy, Done}
use Rattle.cb_plain.specs.declared.value.Value.{Value}
use Rattle.cb_plain.specs.declared.value.Value.TheVariants.{Ref}
use Rattle.cb_plain.specs.State.{Object}
use Rattle.cb_machine.specs.Initialising.{once_ready}
use Rattle.cb_machine.specs.Performing.{Call, Performed, Stops, gives, number_at, on_object, on_text, stops, value_slot}
use Rattle.cb_machine.specs.Sites.{illegal_argument}

-- the static field of a constant by its name
abbrev pub has_name : List ℕ → Option (Numbered Field) → Bool
has_name name None = false
has_name name (Some field) = same_text (or_none (text_at field.pool field.member.name)) name

abbrev pub constant_named : Linked → ℕ → List ℕ → Option ℕ
constant_named program class name = find (λ slot. has_name name (static_at program slot)) (enum_statics program.classes class)

abbrev pub gives_static : Call → Option ℕ → Option Performed
gives_static call None = stops call illegal_argument
gives_static call (Some slot) = option_and_then (λ value. gives call (value ∷ [])) (slice_get call.state.roots.statics slot)

-- the call goes on once the class is ready, and is stopped where it has failed or has to be initialised
abbrev pub once_class : Call → ℕ → Option Performed → ClassState → Option Performed
once_class call class ready Busy = ready
once_class call class ready Done = ready
once_class call class ready other = option_map Stops (once_ready call.machine call.state class None)

abbrev pub of_class : Call → ℕ → Option ℕ → Option Performed
of_class call name None = on_text call name (λ units. stops call illegal_argument)
of_class call name (Some class) =
    option_and_then (once_class call class (on_text call name (λ units. gives_static call (constant_named call.machine.program class units))))
    (slice_get call.state.roots.classes class)

abbrev pub kind_of_number : ℤ → Option ℕ
kind_of_number (pos kind) = Some kind
kind_of_number other = None

abbrev pub of_object : Call → ℕ → Object → Option Performed
of_object call name class =
    of_class call name (option_and_then (class_of_kind call.machine.program) (option_and_then kind_of_number (number_at class value_slot)))

abbrev pub finds_constant : Call → List Value → Option Performed
finds_constant call (Ref class ∷ Ref name ∷ []) = on_object call class (of_object call name)
finds_constant call other = None
