-- States of a machine that are typed.
use Rattle.std.specs.Prelude.{◌≡◌, ◌<◌, ◌^◌, ℕ, List, Some, length, slice_get}
use Rattle.std.specs.List.{AllByRecursion}
use Rattle.cb_kinds.specs.declared.basic.Basic.{Basic}
use Rattle.cb_link.specs.Program.{Linked}
use Rattle.cb_link.specs.Slots.{static_basic}
use Rattle.cb_machine.specs.Library as library
use Rattle.cb_machine.specs.Sites as sites
use Rattle.cb_machine.specs.Machine.{kind_of_site}
use Rattle.cb_plain.specs.State.{Frame, Roots, State, Tables, small_chars, small_numbers}
use Rattle.cb_plain.specs.declared.value.Value.{Value}
use Rattle.cb_verify.specs.Within.{kind_of_class, kind_of_string, kind_of_throwable}
use Rattle.cb_safety.specs.Frames.{AreCovered, AreStanding}
use Rattle.cb_safety.specs.Heap.{IsHeap}
use Rattle.cb_safety.specs.Held.{HasBasic}
use Rattle.cb_safety.specs.Kinds.{AreKnown, IsOfKind, Kinds, Refers, kinds_of}

-- a table has so many entries, each null or an object of a kind
pub record IsTable (program : Linked) (kinds : Kinds) (kind size : ℕ) (entries : List ℕ) : Type 0 where
  pub count : length entries ≡ size
  pub each : (place serial : ℕ) → slice_get entries place ≡ Some serial → Refers program kinds kind serial

pub record AreTables (program : Linked) (kinds : Kinds) (tables : Tables) : Type 0 where
  pub constants : IsTable program kinds kind_of_string (length program.constants) tables.constants
  pub classes : IsTable program kinds kind_of_class (length program.kinds) tables.classes
  pub integers : IsTable program kinds library.integer small_numbers tables.integers
  pub longs : IsTable program kinds library.long small_numbers tables.longs
  pub characters : IsTable program kinds library.character small_chars tables.characters
  pub booleans : IsTable program kinds library.boolean 2 tables.booleans

-- each static field has a value of its type
pub record HasStatic (program : Linked) (kinds : Kinds) (held : List Value) (slot : ℕ) (basic : Basic) : Type 0 where
  pub value : Value
  pub there : slice_get held slot ≡ Some value
  pub fits : HasBasic program kinds basic value

pub record AreStatics (program : Linked) (kinds : Kinds) (held : List Value) : Type 0 where
  pub each : (slot : ℕ) → (basic : Basic) → static_basic program slot ≡ Some basic → HasStatic program kinds held slot basic
  pub known : AreKnown kinds held

-- while an exception is pending it is one that can be thrown, and else the topmost frame stands at what is next
pub data AreFrames (program : Linked) (kinds : Kinds) : ℕ → List Frame → Type 0 where
  Running : (frames : List Frame) → AreStanding program kinds frames → AreFrames program kinds 0 frames
  Unwinding : (serial : ℕ) → (frames : List Frame) → IsOfKind program kinds kind_of_throwable serial → AreCovered program kinds frames → AreFrames program kinds serial frames

pub record AreRoots (program : Linked) (kinds : Kinds) (roots : Roots) : Type 0 where
  pub frames : AreFrames program kinds roots.pending roots.frames
  pub statics : AreStatics program kinds roots.statics
  pub classes : length roots.classes ≡ length program.classes
  pub tables : AreTables program kinds roots.tables
  pub argument : Refers program kinds (kind_of_site program sites.arguments) roots.argument

-- what is left of the input is bytes
abbrev pub IsInput : List ℕ → Type 0
IsInput input = AllByRecursion (λ byte. byte < 2 ^ 8) input

pub record IsTypedState (program : Linked) (state : State) : Type 0 where
  pub heap : IsHeap program state.objects
  pub roots : AreRoots program (kinds_of state.objects) state.roots
  pub input : IsInput state.input
