-- What a program asks of roots and objects before an instruction of it is done: room on the stack, and words that hold what is read of them.
use Rattle.std.specs.Prelude.{◌≡◌, ◌<◌, ◌≤◌, ◌^◌, ℕ, Bool, true, IsTrue, length, Option, Some}
use Rattle.cb_frames.specs.Tops.{left, runs_method, top_room}
use Rattle.cb_heap.specs.Follows.{Follows}
use Rattle.cb_heap.specs.Kept.{contents_at, is_held}
use Rattle.cb_heap.specs.Reading.{View, read_value}
use Rattle.cb_kinds.specs.declared.basic.Basic.{Basic}
use Rattle.cb_kinds.specs.declared.basic.Basic.TheVariants as basics
use Rattle.cb_link.specs.Decoding.{basic_named}
use Rattle.cb_link.specs.Program.{Linked}
use Rattle.cb_link.specs.Slots.{field_basic}
use Rattle.cb_link.specs.declared.decoded.Decoded.{Decoded}
use Rattle.cb_link.specs.declared.named.Named.TheVariants as meanings
use Rattle.cb_machine.specs.Values.{sort_of_basic}
use Rattle.cb_plain.specs.declared.value.Value.{Value}
use Rattle.cb_plain.specs.State.{Object}
use Rattle.cb_plain.specs.Updates.{object_in}
use Rattle.cb_shapes.specs.Sorts.{sort_of_elements}
use Rattle.cb_shapes.specs.declared.action.Action.{Action}
use Rattle.cb_shapes.specs.declared.action.Action.TheVariants as actions
use Rattle.cb_shapes.specs.declared.elements.Elements.{Elements}
use Rattle.cb_shapes.specs.declared.sort.Sort.{Sort}
use Rattle.cb_shapes.specs.declared.sort.Sort.TheVariants as sorts
use Rattle.cb_machine.specs.Growing.{lays_one}
use Rattle.cb_act.specs.Acting.{ArgumentsFit, Deed, Does, acted, basic_on}
use Rattle.cb_act.specs.Framing.{growth_at}
use Rattle.cb_act.specs.Objects.{SuitsWord, SuitsWords, object_on}

-- the array at a depth of the stack has elements of a sort, each of which holds what is read of it
pub record SuitsArray (program : Linked) (sort : Sort) (depth : ℕ) (view : View) : Type 0 where
  pub sorted : sort_of_basic (basic_on program sort view depth) ≡ sort
  pub words : SuitsWords (basic_on program sort view depth) depth view

-- what is asked of the roots: a method runs, and there is room for what its instruction lays on the stack, and for the answer where it
-- returns one
pub record HasRoom (decoded : Decoded) (view : View) : Type 0 where
  pub runs : runs_method view.roots ≡ true
  pub grows : (action : Action) → decoded.action ≡ Some action → growth_at action view.roots ≤ top_room view.roots
  pub lays : (action : Action) → decoded.action ≡ Some action → lays_one action ≡ true → 0 < top_room view.roots
  pub returns : (sort : Sort) → decoded.action ≡ Some (actions.Return (Some sort)) → runs_method (left view.roots) ≡ true → 0 < top_room (left view.roots)

-- of the objects on the stack, and of their words
pub record HasWords (program : Linked) (decoded : Decoded) (view : View) : Type 0 where
  pub kinds : (serial : ℕ) (object : Object) → object_in view.objects serial ≡ Some object → object.kind < length program.kinds
  pub told : decoded.basic ≡ basic_named program decoded.named
  pub whole : (value : Value) → decoded.named ≡ meanings.Whole value → (index : ℕ → ℕ) → read_value index value ≡ value
  pub static_low : (index class slot : ℕ) → decoded.action ≡ Some (actions.PutStatic index) → decoded.named ≡ meanings.Static class slot → slot < length view.roots.statics
  pub held : (depth : ℕ) → IsTrue (is_held view.objects (object_on view depth))
  pub read : (index class slot : ℕ) (basic : Basic) → decoded.action ≡ Some (actions.GetField index) → decoded.named ≡ meanings.Field class slot
      → field_basic program class slot ≡ Some basic → SuitsWord basic 0 slot view
  pub written : (index class slot : ℕ) (basic : Basic) → decoded.action ≡ Some (actions.PutField index) → decoded.named ≡ meanings.Field class slot
      → field_basic program class slot ≡ Some basic → SuitsWord basic 1 slot view
  pub measured : decoded.action ≡ Some actions.Length → length (contents_at view.objects (object_on view 0)) < 2 ^ 31
  pub loaded : (elements : Elements) → decoded.action ≡ Some (actions.LoadNumber elements) → SuitsArray program (sort_of_elements elements) 1 view
  pub stored : (elements : Elements) → decoded.action ≡ Some (actions.StoreNumber elements) → SuitsArray program (sort_of_elements elements) 2 view
  pub references_loaded : decoded.action ≡ Some actions.LoadReference → SuitsArray program sorts.Reference 1 view
  pub references_stored : decoded.action ≡ Some actions.StoreReference → SuitsWords (basics.Reference 0) 2 view

-- all of that; and the arguments of a call fit
pub record Suited (program : Linked) (decoded : Decoded) (view : View) : Type 0 where
  pub room : HasRoom decoded view
  pub words : HasWords program decoded view
  pub arguments : ArgumentsFit program view (λ limit. acted program limit decoded view)

-- what the instruction leaves, where it is done, has references that follow what sites allow
pub record MayDo (allows : ℕ → ℕ → Bool) (deed : Option Deed) : Type 0 where
  pub each : (after : View) → deed ≡ Some (Does after) → Follows allows after.objects
