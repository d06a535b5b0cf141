-- What is there before the first step of a run: roots in order, the array of arguments with its strings, and the two streams of System
-- (JLS §12.1.4, JVMS §5.2).
use Rattle.std.specs.Prelude.{◌≡◌, ◌<◌, ◌^◌, ◌++◌, ℕ, List, [], ◌∷◌, Option, Some, None, length, pos, replicate, nat_lt, if◌then◌else◌}
use Rattle.std.specs.List.{fold, range_with_len}
use Rattle.std.specs.declared.result.Result.TheVariants.{Err, Ok}
use Rattle.cb_heap.specs.Rules.{Rules}
use Rattle.cb_heap.specs.declared.no_room.NoRoom.{NoRoom}
use Rattle.cb_kinds.specs.declared.basic.Basic.{Basic}
use Rattle.cb_link.specs.Having.{site_kinds}
use Rattle.cb_link.specs.Program.{Linked}
use Rattle.cb_link.specs.Slots.{static_basic, statics}
use Rattle.cb_machine.specs.Initialising.{own_statics}
use Rattle.cb_machine.specs.Library as library
use Rattle.cb_machine.specs.Machine.{Machine, kind_of_site}
use Rattle.cb_machine.specs.Plans.{asked, object_of}
use Rattle.cb_machine.specs.Sites.{arguments, system_in, system_out}
use Rattle.cb_machine.specs.Starting.{empty_state, empty_tables, start, start_plan}
use Rattle.cb_machine.specs.Values.{blank_value, null}
use Rattle.cb_plain.specs.declared.class_state.ClassState.{ClassState}
use Rattle.cb_plain.specs.declared.class_state.ClassState.TheVariants.{Done, Untouched}
use Rattle.cb_plain.specs.declared.shape.Shape.{Shape}
use Rattle.cb_plain.specs.declared.value.Value.{Value}
use Rattle.cb_plain.specs.declared.value.Value.TheVariants.{Int, Ref}
use Rattle.cb_plain.specs.Roots.{with_argument, with_class, with_static}
use Rattle.cb_plain.specs.State.{Object, Reference, Roots}
use Rattle.cb_interp.specs.Arguments.{MayHold, knows_texts, with_texts}
use Rattle.cb_interp.specs.Fit.{IsPlacedAs}
use Rattle.cb_act.specs.Steps.{view_of}
use Rattle.cb_act.specs.Turning.{Moment, Outside, facts_behind}

-- new roots, with room for what a program has
abbrev pub new_roots : Linked → Roots
new_roots program =
    record { frames = []; pending = 0; statics = replicate (length (statics program.classes)) (Int (pos 0)); classes = replicate (length program.classes) Untouched; tables = empty_tables program; argument = 0 }

-- the library's classes are ready, and each static field holds the first value of its type
abbrev pub first_state : ℕ → ClassState
first_state class = if nat_lt class library.classes then Done else Untouched

abbrev pub first_of_type : Option Basic → Value
first_of_type None = null
first_of_type (Some basic) = blank_value basic

abbrev pub first_value : Linked → ℕ → Value
first_value program slot = first_of_type (static_basic program slot)

abbrev pub set_ready : Roots → ℕ → Roots
set_ready roots class = with_class roots class (first_state class)

abbrev pub set_first : Linked → Roots → ℕ → Roots
set_first program roots slot = with_static roots slot (first_value program slot)

-- all of them, one after the other
abbrev pub with_ready : Linked → Roots → Roots
with_ready program roots = fold set_ready roots (range_with_len 0 (length program.classes))

abbrev pub with_first : Linked → Roots → Roots
with_first program roots = fold (set_first program) roots (range_with_len 0 (length (statics program.classes)))

-- what is placed: the array, whose words refer to nothing at first, the arguments, and the streams, which have no words
abbrev pub bare : Linked → ℕ → Object
bare program site = object_of site (kind_of_site program site) []

abbrev pub blank_array : Linked → ℕ → Object
blank_array program count = object_of arguments (kind_of_site program arguments) (replicate count (Reference 0))

abbrev pub first_objects : Linked → List (List ℕ) → List (Option Object)
first_objects program given =
    (with_texts program (Some (blank_array program (length given)) ∷ []) 0 given ++ Some (bare program system_out) ∷ []) ++ Some (bare program system_in) ∷ []

abbrev pub knows_first : {Facts : Type 0} → Rules Facts → Facts → List (List ℕ) → Facts
knows_first rules facts given =
    rules.placed (rules.placed (knows_texts rules (rules.placed facts arguments (length given)) given) system_out 0) system_in 0

-- of some static fields the first one holds one reference, and the others another
abbrev pub with_streams : List ℕ → (out input : ℕ) → Roots → Roots
with_streams [] out input roots = roots
with_streams (slot ∷ slots) out input roots = with_streams slots input input (with_static roots slot (Ref out))

-- the streams stand in the static fields of System, and main waits for the array
abbrev pub settled : Linked → (array out input : ℕ) → Roots → Roots
settled program array out input roots = with_argument (with_streams (own_statics program library.system) out input roots) array

-- what is asked of a program: classes have numbers, the machine's own sites are there, and by the shapes of its kinds the array refers to
-- objects, strings to their characters, and the streams have no words; System has two static fields
pub record MayStart (program : Linked) (shapes : List Shape) : Type 0 where
  pub few : length program.classes < 2 ^ 32
  pub sites : (site : ℕ) → site < 32 → site < length (site_kinds program)
  pub array : (size : ℕ) → IsPlacedAs shapes arguments (kind_of_site program arguments) size (replicate size (Reference 0))
  pub strings : MayHold program shapes
  pub out : IsPlacedAs shapes system_out (kind_of_site program system_out) 0 []
  pub input : IsPlacedAs shapes system_in (kind_of_site program system_in) 0 []
  pub first : ℕ
  pub second : ℕ
  pub slots : own_statics program library.system ≡ first ∷ second ∷ []

-- nothing is printed yet
abbrev pub unread : List ℕ → Outside
unread input = record { input = input; printed = [] }

-- a run begins with a moment: over no objects the store has made room for what is there at the start, by its rule, and this was placed
pub record BeginsWith {Facts : Type 0} (rules : Rules Facts) (machine : Machine) (given : List (List ℕ)) (input : List ℕ) (known : Facts) (moment : Moment Facts) : Type 0 where
  pub middle : Facts
  pub ruled : rules.makes_room known (view_of (empty_state machine.program input)) (asked (start_plan machine given input)) (Ok tt) (record { facts = middle; residents = [] })
  pub starts : moment.state ≡ start machine given input
  pub knows : moment.facts ≡ facts_behind rules middle (start_plan machine given input).placed

-- or there is no room for it
pub record RefusesStart {Facts : Type 0} (rules : Rules Facts) (machine : Machine) (given : List (List ℕ)) (known : Facts) (reason : NoRoom) (facts : Facts) : Type 0 where
  pub refused : (input : List ℕ) → rules.makes_room known (view_of (empty_state machine.program input)) (asked (start_plan machine given input)) (Err reason)
      (record { facts = facts; residents = [] })
