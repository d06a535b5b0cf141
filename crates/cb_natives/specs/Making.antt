-- What natives do that place objects or change them: which room is asked for, and what is left (Java SE 8 API, java.lang).
use Rattle.std.specs.Prelude.{◌≡◌, ◌<◌, ◌≤◌, ◌^◌, ℕ, ◌+◌, Bool, true, false, List, [], ◌∷◌, length, Option, Some, None, slice_get}
use Rattle.std.specs.List.{flat_map, fold}
use Rattle.std.specs.declared.result.Result.{Result}
use Rattle.std.specs.declared.result.Result.TheVariants.{Err, Ok}
use Rattle.cb_heap.specs.Follows.{Follows}
use Rattle.cb_heap.specs.Reading.{View, serial_of}
use Rattle.cb_heap.specs.Rules.{Rules}
use Rattle.cb_library.specs.declared.native.Native.{Native}
use Rattle.cb_link.specs.Having.{site_kinds}
use Rattle.cb_link.specs.Program.{Linked}
use Rattle.cb_machine.specs.Machine.{Machine, kind_of_site}
use Rattle.cb_machine.specs.Natives.{performed}
use Rattle.cb_machine.specs.Performing.{Gives, Stops}
use Rattle.cb_machine.specs.Plans.{Placing, Plan, asked, made, objects_of}
use Rattle.cb_machine.specs.Sites as own
use Rattle.cb_machine.specs.Throwing.{throws}
use Rattle.cb_plain.specs.State.{Object, State}
use Rattle.cb_plain.specs.declared.shape.Shape.{Shape}
use Rattle.cb_plain.specs.declared.shape.Shape.TheVariants.{Elements, Fields}
use Rattle.cb_plain.specs.declared.value.Value.{Value}
use Rattle.cb_plain.specs.declared.value.Value.TheVariants as values
use Rattle.cb_plain.specs.declared.want.Want.{Want}
use Rattle.cb_natives.specs.Exceptions.{site_of}
use Rattle.cb_natives.specs.declared.answers.Exception.{Exception}

-- the machine and the state in which a native is called, whatever its limit of frames, and whatever was read and printed
abbrev pub machine_in : Linked → ℕ → Machine
machine_in program frames = record { program = program; frames = frames }

abbrev pub state_in : View → (input printed : List ℕ) → State
state_in view input printed = record { roots = view.roots; objects = view.objects; input = input; printed = printed; exit = None }

-- an answer that is a reference, or none
abbrev pub given_back : (ℕ → ℕ) → Option ℕ → List Value
given_back index None = []
given_back index (Some at) = values.Ref (serial_of index at) ∷ []

-- the native gives an answer, and asks for this room
pub record Makes (machine : Machine) (state : State) (native : Native) (arguments : List Value) (wants : List Want) : Type 0 where
  pub own : Plan
  pub answer : List Value
  pub is : performed machine state native arguments ≡ Some (Gives own answer)
  pub asks : asked own ≡ wants

abbrev pub Asks : Linked → View → Native → List Value → List Want → Type 0
Asks program view native arguments wants =
    (frames : ℕ) → (input printed : List ℕ) → Makes (machine_in program frames) (state_in view input printed) native arguments wants

-- or it throws
abbrev pub Throws : Linked → View → Native → List Value → Exception → Type 0
Throws program view native arguments exception =
    (frames : ℕ) → (input printed : List ℕ)
    → performed (machine_in program frames) (state_in view input printed) native arguments
    ≡ Some (Stops (throws (machine_in program frames) (state_in view input printed) (site_of exception)))

abbrev pub Planned : Linked → View → Native → List Value → List Want → Result (Unit {0}) Exception → Type 0
Planned program view native arguments wants (Ok done) = Asks program view native arguments wants
Planned program view native arguments wants (Err exception) = Throws program view native arguments exception

-- what a store knows when these were placed one after the other
abbrev pub knows_placed : {Facts : Type 0} → Rules Facts → Facts → Object → Facts
knows_placed rules facts object = rules.placed facts object.site (length object.contents)

abbrev pub facts_behind : {Facts : Type 0} → Rules Facts → Facts → List Placing → Facts
facts_behind rules facts placed = fold (knows_placed rules) facts (flat_map objects_of placed)

-- the native was performed: its plan was carried out, and this is its answer
pub record Made {Facts : Type 0} (rules : Rules Facts) (machine : Machine) (native : Native) (arguments : List Value)
    (before : State) (facts : Facts) (after : State) (now : Facts) (answer : List Value) : Type 0 where
  pub own : Plan
  pub is : performed machine before native arguments ≡ Some (Gives own answer)
  pub steps : after ≡ made own
  pub knows : now ≡ facts_behind rules facts own.placed

abbrev pub Performs : {Facts : Type 0} → Rules Facts → Linked → Native → List Value → (before : View) → Facts → (after : View) → Facts → List Value → Type 0
Performs rules program native arguments before facts after now answer =
    (frames : ℕ) → (input printed : List ℕ)
    → Made rules (machine_in program frames) native arguments (state_in before input printed) facts (state_in after input printed) now answer

-- where the native gives an answer, the references of what it leaves follow what sites allow: with some limit of frames, and some bytes that
-- were read and printed
pub record MayLeave (program : Linked) (allows : ℕ → ℕ → Bool) (view : View) (native : Native) (arguments : List Value) : Type 0 where
  pub frames : ℕ
  pub input : List ℕ
  pub printed : List ℕ
  pub each : (own : Plan) (answer : List Value)
      → performed (machine_in program frames) (state_in view input printed) native arguments ≡ Some (Gives own answer)
      → Follows allows (made own).objects

-- room was made as it was asked for
pub record HasRoom (objects : List (Option Object)) (wants room : List Want) : Type 0 where
  pub granted : room ≡ wants
  pub serials : length objects + 2 < 2 ^ 63

-- what natives place has the words that its kind says
pub record MayMake (program : Linked) (shapes : List Shape) : Type 0 where
  pub sites : 32 ≤ length (site_kinds program)
  pub strings : slice_get shapes (kind_of_site program own.made_strings) ≡ Some (Fields (true ∷ []))
  pub characters : slice_get shapes (kind_of_site program own.made_characters) ≡ Some (Elements false)
  pub builders : slice_get shapes (kind_of_site program own.builder_characters) ≡ Some (Elements false)
  pub classes : slice_get shapes (kind_of_site program own.class_objects) ≡ Some (Fields (false ∷ []))
  pub integers : slice_get shapes (kind_of_site program own.integers) ≡ Some (Fields (false ∷ []))
  pub longs : slice_get shapes (kind_of_site program own.longs) ≡ Some (Fields (false ∷ []))
  pub boxed_characters : slice_get shapes (kind_of_site program own.characters) ≡ Some (Fields (false ∷ []))
  pub booleans : slice_get shapes (kind_of_site program own.booleans) ≡ Some (Fields (false ∷ []))
