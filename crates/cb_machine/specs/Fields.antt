-- Instructions on fields (JVMS §6.5, getstatic to putfield).
use Rattle.std.specs.Prelude.{ℕ, List, [], ◌∷◌, Option, None, option_and_then, option_map, slice_get}
use Rattle.cb_kinds.specs.declared.basic.Basic.{Basic}
use Rattle.cb_link.specs.Slots.{field_basic, static_basic}
use Rattle.cb_link.specs.declared.named.Named.{Named}
use Rattle.cb_link.specs.declared.named.Named.TheVariants as meanings
use Rattle.cb_plain.specs.declared.value.Value.{Value}
use Rattle.cb_plain.specs.declared.value.Value.TheVariants.{Ref}
use Rattle.cb_plain.specs.State.{Object}
use Rattle.cb_plain.specs.Updates.{with_static}
use Rattle.cb_shapes.specs.declared.sort.Sort.TheVariants as sorts
use Rattle.cb_machine.specs.Arrays.{with_element, with_object}
use Rattle.cb_machine.specs.Initialising.{once_ready}
use Rattle.cb_machine.specs.Plans.{Plan, leaving}
use Rattle.cb_machine.specs.Standing.{Now, leaves, leaves_with, taken, named_here}
use Rattle.cb_machine.specs.Values.{content_of, kept_value, sort_of_basic, value_in}

-- getstatic, once the class that declares the field is ready
abbrev gets_static : Now → Named → Option Plan
gets_static now (meanings.Static class slot) =
    once_ready now.machine now.state class (option_and_then (λ value. leaves now (value ∷ now.frame.stack)) (slice_get now.state.roots.statics slot))
gets_static now other = None

abbrev pub gets_static_field : Now → Option Plan
gets_static_field now = gets_static now (named_here now)

-- putstatic
abbrev sets_static : Now → ℕ → Basic → List Value × List Value → Option Plan
sets_static now slot basic (value ∷ [], rest) = leaves_with now rest (leaving (with_static now.state slot (kept_value basic value)))
sets_static now slot basic other = None

abbrev sets_static_of : Now → ℕ → Basic → Option Plan
sets_static_of now slot basic = option_and_then (sets_static now slot basic) (taken (sort_of_basic basic ∷ []) now.frame.stack)

abbrev puts_static : Now → Named → Option Plan
puts_static now (meanings.Static class slot) =
    once_ready now.machine now.state class (option_and_then (sets_static_of now slot) (static_basic now.machine.program slot))
puts_static now other = None

abbrev pub puts_static_field : Now → Option Plan
puts_static_field now = puts_static now (named_here now)

-- getfield
abbrev field_in : Object → ℕ → Basic → Option Value
field_in object slot basic = option_map (value_in basic) (slice_get object.contents slot)

abbrev gets_from : Now → ℕ → Basic → List Value → Object → Option Plan
gets_from now slot basic rest object = option_and_then (λ value. leaves now (value ∷ rest)) (field_in object slot basic)

abbrev gets_taken : Now → ℕ → Basic → List Value × List Value → Option Plan
gets_taken now slot basic (Ref object ∷ [], rest) = with_object now object (gets_from now slot basic rest)
gets_taken now slot basic other = None

abbrev gets_of : Now → ℕ → Basic → Option Plan
gets_of now slot basic = option_and_then (gets_taken now slot basic) (taken (sorts.Reference ∷ []) now.frame.stack)

abbrev gets_named : Now → Named → Option Plan
gets_named now (meanings.Field class slot) = option_and_then (gets_of now slot) (field_basic now.machine.program class slot)
gets_named now other = None

abbrev pub gets_field : Now → Option Plan
gets_field now = gets_named now (named_here now)

-- putfield
abbrev puts_taken : Now → ℕ → Basic → List Value × List Value → Option Plan
puts_taken now slot basic (value ∷ Ref serial ∷ [], rest) =
    with_object now serial (λ object. with_element now serial object slot (content_of (kept_value basic value)) rest)
puts_taken now slot basic other = None

abbrev puts_of : Now → ℕ → Basic → Option Plan
puts_of now slot basic = option_and_then (puts_taken now slot basic) (taken (sort_of_basic basic ∷ sorts.Reference ∷ []) now.frame.stack)

abbrev puts_named : Now → Named → Option Plan
puts_named now (meanings.Field class slot) = option_and_then (puts_of now slot) (field_basic now.machine.program class slot)
puts_named now other = None

abbrev pub puts_field : Now → Option Plan
puts_field now = puts_named now (named_here now)
