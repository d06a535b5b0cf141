-- The state with which a run begins.
use Rattle.std.specs.Prelude.{ℕ, ◌+◌, ◌*◌, List, [], ◌∷◌, map, length, replicate, Option, Some, None, nat_lt, if◌then◌else◌}
use Rattle.std.specs.List.{fold, range_with_len}
use Rattle.cb_kinds.specs.declared.basic.Basic.{Basic}
use Rattle.cb_link.specs.Program.{Linked}
use Rattle.cb_link.specs.Slots.{static_basic, statics}
use Rattle.cb_plain.specs.declared.class_state.ClassState.{ClassState}
use Rattle.cb_plain.specs.declared.class_state.ClassState.TheVariants.{Done, Untouched}
use Rattle.cb_plain.specs.declared.value.Value.{Value}
use Rattle.cb_plain.specs.declared.value.Value.TheVariants.{Ref}
use Rattle.cb_plain.specs.State.{Content, Reference, Roots, State, Tables, small_chars, small_numbers}
use Rattle.cb_plain.specs.Updates.{with_argument, with_static}
use Rattle.cb_machine.specs.Initialising.{own_statics}
use Rattle.cb_machine.specs.Library as library
use Rattle.cb_machine.specs.Machine.{Machine, kind_of_site}
use Rattle.cb_machine.specs.Plans.{Plan, leaving, made, with_left, with_one}
use Rattle.cb_machine.specs.Sites as sites
use Rattle.cb_machine.specs.Strings.{with_string}
use Rattle.cb_machine.specs.Values.{blank_value, null}

-- the library's classes are ready, and no other is touched
abbrev class_at_first : ℕ → ClassState
class_at_first class = if nat_lt class library.classes then Done else Untouched

abbrev blank_static : Option Basic → Value
blank_static None = null
blank_static (Some basic) = blank_value basic

abbrev pub empty_tables : Linked → Tables
empty_tables program =
    record { constants = replicate (length program.constants) 0; classes = replicate (length program.kinds) 0; integers = replicate small_numbers 0; longs = replicate small_numbers 0; characters = replicate small_chars 0; booleans = replicate 2 0 }

abbrev pub empty_roots : Linked → Roots
empty_roots program =
    record { frames = []; pending = 0; statics = map (λ slot. blank_static (static_basic program slot)) (range_with_len 0 (length (statics program.classes))); classes = map class_at_first (range_with_len 0 (length program.classes)); tables = empty_tables program; argument = 0 }

abbrev pub empty_state : Linked → List ℕ → State
empty_state program input = record { roots = empty_roots program; objects = []; input = input; printed = []; exit = None }

-- the array of arguments is placed first, then each argument with its characters before it, and then the two streams. The array holds the
-- strings that come behind it
abbrev string_behind : ℕ → Content
string_behind turn = Reference (2 * turn + 3)

abbrev with_argument_array : Machine → ℕ → Plan → Plan
with_argument_array machine count plan =
    with_one plan sites.arguments (kind_of_site machine.program sites.arguments) (map string_behind (range_with_len 0 count))

abbrev with_argument_string : Machine → Plan → List ℕ → Plan
with_argument_string machine plan units = (with_string machine sites.argument_strings sites.argument_characters units plan).plan

abbrev with_arguments : Machine → List (List ℕ) → Plan → Plan
with_arguments machine arguments plan = fold (with_argument_string machine) (with_argument_array machine (length arguments) plan) arguments

-- the streams stand in the two static fields of System
abbrev set_streams : Plan → List ℕ → ℕ → Plan
set_streams plan [] serial = plan
set_streams plan (slot ∷ slots) serial = set_streams (with_left plan (with_static plan.left slot (Ref serial))) slots (serial + 1)

abbrev with_streams : Machine → Plan → Plan
with_streams machine plan =
    set_streams (with_one (with_one plan sites.system_out (kind_of_site machine.program sites.system_out) []) sites.system_in (kind_of_site machine.program sites.system_in) [])
    (own_statics machine.program library.system) plan.next

-- main waits for the array
abbrev pub start_plan : Machine → List (List ℕ) → List ℕ → Plan
start_plan machine arguments input =
    let plan = with_streams machine (with_arguments machine arguments (leaving (empty_state machine.program input))) in
    with_left plan (with_argument plan.left 1)

abbrev pub start : Machine → List (List ℕ) → List ℕ → State
start machine arguments input = made (start_plan machine arguments input)
