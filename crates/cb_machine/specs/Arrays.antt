-- Instructions on arrays (JVMS §6.5, iaload to saload, iastore to sastore, arraylength). Of what can go wrong null comes first, then the
-- index, then the type.
use Rattle.std.specs.Prelude.{ℤ, pos, ℕ, Bool, true, false, List, [], ◌∷◌, length, Option, Some, None, option_and_then, option_map, slice_get, nat_lt, if◌then◌else◌, zero, suc, slice_set}
use Rattle.cb_kinds.specs.Basics.{component_of}
use Rattle.cb_kinds.specs.declared.basic.Basic.{Basic}
use Rattle.cb_kinds.specs.declared.basic.Basic.TheVariants as basics
use Rattle.cb_link.specs.Numbers.{or_none}
use Rattle.cb_link.specs.Program.{Linked}
use Rattle.cb_link.specs.Subtypes.{instance}
use Rattle.cb_plain.specs.declared.value.Value.{Value}
use Rattle.cb_plain.specs.declared.value.Value.TheVariants.{Int, Ref}
use Rattle.cb_plain.specs.State.{Content, Object}
use Rattle.cb_plain.specs.Updates.{object_at, with_contents_at}
use Rattle.cb_shapes.specs.Sorts.{sort_of_elements}
use Rattle.cb_shapes.specs.declared.elements.Elements.{Elements}
use Rattle.cb_shapes.specs.declared.sort.Sort.TheVariants as sorts
use Rattle.cb_machine.specs.Plans.{Plan, leaving}
use Rattle.cb_machine.specs.Sites.{array_index, array_store, null_pointer}
use Rattle.cb_machine.specs.Standing.{Now, leaves, leaves_with, taken}
use Rattle.cb_machine.specs.Throwing.{throws}
use Rattle.cb_machine.specs.Values.{content_of, kept_value, value_in, natural}

-- what the elements of an array of a kind are
abbrev pub element_of : Linked → ℕ → Option Basic
element_of program kind = component_of program.kinds (or_none (slice_get program.kinds kind))

-- an object that an instruction asks for, or null
abbrev pub with_object : Now → ℕ → (Object → Option Plan) → Option Plan
with_object now zero go = Some (throws now.machine now.state null_pointer)
with_object now (suc place) go = option_and_then go (object_at now.state (suc place))

-- an element at an index, which must be one
abbrev pub is_index : ℤ → ℕ → Bool
is_index (pos index) count = nat_lt index count
is_index other count = false

abbrev pub within : Now → ℤ → Object → Option Plan → Option Plan
within now index array go = if is_index index (length array.contents) then go else Some (throws now.machine now.state array_index)

-- loads
abbrev element_at : Now → ℤ → Object → Basic → Option Value
element_at now index array basic = option_map (value_in basic) (slice_get array.contents (natural index))

abbrev element_in : Now → ℤ → Object → Option Value
element_in now index array = option_and_then (element_at now index array) (element_of now.machine.program array.kind)

abbrev loads_at : Now → ℤ → List Value → Object → Option Plan
loads_at now index rest array = within now index array (option_and_then (λ value. leaves now (value ∷ rest)) (element_in now index array))

abbrev loads_taken : Now → List Value × List Value → Option Plan
loads_taken now (Int index ∷ Ref array ∷ [], rest) = with_object now array (loads_at now index rest)
loads_taken now other = None

abbrev pub loads_element : Now → Option Plan
loads_element now = option_and_then (loads_taken now) (taken (sorts.Int ∷ sorts.Reference ∷ []) now.frame.stack)

-- an array with another element
abbrev pub with_element : Now → ℕ → Object → ℕ → Content → List Value → Option Plan
with_element now serial array index content rest =
    leaves_with now rest (leaving (with_contents_at now.state serial (slice_set array.contents index content)))

-- stores of numbers keep what the elements hold
abbrev stores_number : Now → ℕ → ℤ → Value → List Value → Object → Basic → Option Plan
stores_number now serial index value rest array basic = with_element now serial array (natural index) (content_of (kept_value basic value)) rest

abbrev stores_at : Now → ℕ → ℤ → Value → List Value → Object → Option Plan
stores_at now serial index value rest array =
    within now index array (option_and_then (stores_number now serial index value rest array) (element_of now.machine.program array.kind))

abbrev stores_taken : Now → List Value × List Value → Option Plan
stores_taken now (value ∷ Int index ∷ Ref array ∷ [], rest) = with_object now array (stores_at now array index value rest)
stores_taken now other = None

abbrev pub stores_element : Now → Elements → Option Plan
stores_element now elements =
    option_and_then (stores_taken now) (taken (sort_of_elements elements ∷ sorts.Int ∷ sorts.Reference ∷ []) now.frame.stack)

-- stores of references ask that the object is an instance of what the elements are: null always is
abbrev pub fits_kind : Linked → ℕ → Option Object → Bool
fits_kind program kind None = false
fits_kind program kind (Some object) = instance program object.kind kind

abbrev pub fits_element : Now → Option Basic → ℕ → Bool
fits_element now element zero = true
fits_element now (Some (basics.Reference kind)) (suc place) = fits_kind now.machine.program kind (object_at now.state (suc place))
fits_element now other (suc place) = false

abbrev stores_fitting : Now → ℕ → ℤ → ℕ → List Value → Object → Bool → Option Plan
stores_fitting now serial index value rest array true = with_element now serial array (natural index) (content_of (Ref value)) rest
stores_fitting now serial index value rest array false = Some (throws now.machine now.state array_store)

abbrev stores_reference_at : Now → ℕ → ℤ → ℕ → List Value → Object → Option Plan
stores_reference_at now serial index value rest array =
    within now index array (stores_fitting now serial index value rest array (fits_element now (element_of now.machine.program array.kind) value))

abbrev stores_reference_taken : Now → List Value × List Value → Option Plan
stores_reference_taken now (Ref value ∷ Int index ∷ Ref array ∷ [], rest) = with_object now array (stores_reference_at now array index value rest)
stores_reference_taken now other = None

abbrev pub stores_reference : Now → Option Plan
stores_reference now =
    option_and_then (stores_reference_taken now) (taken (sorts.Reference ∷ sorts.Int ∷ sorts.Reference ∷ []) now.frame.stack)

-- arraylength
abbrev length_taken : Now → List Value × List Value → Option Plan
length_taken now (Ref array ∷ [], rest) = with_object now array (λ object. leaves now (Int (pos (length object.contents)) ∷ rest))
length_taken now other = None

abbrev pub measures : Now → Option Plan
measures now = option_and_then (length_taken now) (taken (sorts.Reference ∷ []) now.frame.stack)
