-- What natives are given and give, and how they read objects.
use Rattle.std.specs.Prelude.{ℤ, pos, ℕ, ◌-◌, ◌^◌, ◌∷◌, List, [], map, take, length, Option, Some, None, option_and_then, option_map, slice_get, nat_le, zero, suc, if◌then◌else◌, slice_set}
use Rattle.std.specs.Int.{int_rem_euclid}
use Rattle.cb_plain.specs.declared.value.Value.{Value}
use Rattle.cb_plain.specs.declared.value.Value.TheVariants.{Int, Ref}
use Rattle.cb_plain.specs.State.{Content, Number, Object, Reference, State}
use Rattle.cb_plain.specs.Updates.{object_at, with_contents_at}
use Rattle.cb_machine.specs.Machine.{Machine}
use Rattle.cb_machine.specs.Plans.{Plan, leaving}
use Rattle.cb_machine.specs.Sites.{made_characters, made_strings, negative_size, null_pointer}
use Rattle.cb_machine.specs.Strings.{Placed, with_string}
use Rattle.cb_machine.specs.Throwing.{throws}

-- the call of a native
pub record Call : Type 0 where
  pub machine : Machine
  pub state : State

-- an answer of at most one value; or the call stops before it has one
pub data Performed : Type 0 where
  Gives : Plan → List Value → Performed
  Stops : Plan → Performed

-- nothing is placed, and this is the answer; or an exception of a site is thrown
abbrev pub gives : Call → List Value → Option Performed
gives call answer = Some (Gives (leaving call.state) answer)

abbrev pub gives_int : Call → ℤ → Option Performed
gives_int call number = gives call (Int number ∷ [])

abbrev pub stops : Call → ℕ → Option Performed
stops call site = Some (Stops (throws call.machine call.state site))

-- an object that isn't null
abbrev pub on_object : Call → ℕ → (Object → Option Performed) → Option Performed
on_object call zero go = stops call null_pointer
on_object call (suc place) go = option_and_then go (object_at call.state (suc place))

-- words of objects
abbrev pub number_in : Content → Option ℤ
number_in (Number number) = Some number
number_in (Reference serial) = None

abbrev pub reference_in : Content → Option ℕ
reference_in (Number number) = None
reference_in (Reference serial) = Some serial

abbrev pub number_at : Object → ℕ → Option ℤ
number_at object slot = option_and_then number_in (slice_get object.contents slot)

abbrev pub reference_at : Object → ℕ → Option ℕ
reference_at object slot = option_and_then reference_in (slice_get object.contents slot)

-- the number that a box or a class object holds
abbrev pub value_slot : ℕ
value_slot = 0

abbrev pub on_number : Call → ℕ → (ℤ → Option Performed) → Option Performed
on_number call serial go = on_object call serial (λ object. option_and_then go (number_at object value_slot))

-- an object with another word
abbrev pub with_word : State → ℕ → Object → ℕ → Content → State
with_word state serial object slot content = with_contents_at state serial (slice_set object.contents slot content)

-- the words of the array that an object has in its first field. Where that is null there are none: a String and a StringBuilder have
-- theirs from their constructors, and no native is given one before (JVMS §4.10.1.9)
abbrev pub words_at : State → ℕ → Option (List Content)
words_at state zero = Some []
words_at state (suc place) = option_map (λ array. array.contents) (object_at state (suc place))

abbrev pub array_words : State → Object → Option (List Content)
array_words state object = option_and_then (words_at state) (reference_at object value_slot)

-- the units of an array of chars, of a string, and of a builder, of whose array so many count, none where that is negative
abbrev pub unit_in : Content → ℕ
unit_in (Number (pos unit)) = unit
unit_in other = 0

abbrev pub units_of : Object → List ℕ
units_of array = map unit_in array.contents

abbrev pub count_slot : ℕ
count_slot = 1

abbrev pub text_of : State → Object → Option (List ℕ)
text_of state string = option_map (map unit_in) (array_words state string)

abbrev pub on_text : Call → ℕ → (List ℕ → Option Performed) → Option Performed
on_text call serial go = on_object call serial (λ string. option_and_then go (text_of call.state string))

abbrev pub counted : List ℕ → ℤ → List ℕ
counted units (pos count) = take count units
counted units other = []

abbrev pub built_text : State → Object → Option (List ℕ)
built_text state builder = option_and_then (λ units. option_map (counted units) (number_at builder count_slot)) (text_of state builder)

-- no array is longer than this
abbrev pub most_elements : ℕ
most_elements = 2 ^ 31 - 1

abbrev pub if_short : Call → ℕ → Option Performed → Option Performed
if_short call count go = if nat_le count most_elements then go else stops call negative_size

-- a new string
abbrev pub gives_placed : Placed → Option Performed
gives_placed placed = Some (Gives placed.plan (Ref placed.serial ∷ []))

abbrev pub gives_text : Call → List ℕ → Option Performed
gives_text call units =
    if_short call (length units) (gives_placed (with_string call.machine made_strings made_characters units (leaving call.state)))

-- the identity hash of an object
abbrev pub identity_hash : ℕ → ℤ
identity_hash serial = int_rem_euclid (pos serial) (pos (2 ^ 31))
