-- What an instruction makes that waits for room: its step, and that what is placed has the words that the machine's step gives it.
use Rattle.std.proofs.Common.{◌≡◌, ◌∙◌, ap, refl, sym, subst, subst₂, ℕ, ◌<◌, ◌≤◌, arith, pos, Bool, true, false, List, [], ◌∷◌, drop, length, map, replicate, Option, Some, None}
use Rattle.std.proofs.lemmas.Bool.{and_parts, eq-eqb, eqb-true, false≢true}
use Rattle.std.proofs.lemmas.Option.{none-some, same_Some, slice_get_within}
use Rattle.std.specs.Prelude.{is_some, option_and_then, slice_get, take}
use Rattle.std.specs.List.{list_all}
use Rattle.cb_frames.specs.Tops.{on_top, stack_in, top_room, top_stack, topmost}
use Rattle.cb_frames.specs.declared.frame.Frame.TheVariants as shown
use Rattle.cb_heap.proofs.Laws.{reads_stack}
use Rattle.cb_heap.specs.Reading.{View, read_value, seen}
use Rattle.cb_kinds.specs.declared.basic.Basic.{Basic}
use Rattle.cb_link.specs.Calls.{class_of_kind}
use Rattle.cb_link.specs.Having.{IsWhole}
use Rattle.cb_link.specs.Program.{Linked}
use Rattle.cb_link.specs.Slots.{shape}
use Rattle.cb_link.specs.declared.decoded.Decoded.{Decoded}
use Rattle.cb_link.specs.declared.named.Named.{Named}
use Rattle.cb_link.specs.declared.named.Named.TheVariants as meanings
use Rattle.cb_machine.specs.Arrays.{element_of}
use Rattle.cb_machine.specs.Creating.{blank_element, blank_fields, is_size, site_number}
use Rattle.cb_machine.specs.Machine.{Machine, kind_of_site}
use Rattle.cb_machine.specs.Standing.{Now}
use Rattle.cb_machine.specs.Steps.{done, plan}
use Rattle.cb_machine.specs.Plans.{object_of}
use Rattle.cb_plain.specs.State.{Object, Roots, State, blank}
use Rattle.cb_plain.specs.declared.class_state.ClassState.{ClassState}
use Rattle.cb_plain.specs.declared.class_state.ClassState.TheVariants as states
use Rattle.cb_plain.specs.declared.shape.Shape.{Shape}
use Rattle.cb_plain.specs.declared.shape.Shape.TheVariants as shapes
use Rattle.cb_plain.specs.declared.value.Value.{Value}
use Rattle.cb_plain.specs.declared.value.Value.TheVariants.{Int}
use Rattle.cb_safety.specs.Linked.{IsLinked}
use Rattle.cb_safety.specs.Making.{is_of_arrays}
use Rattle.cb_safety.specs.States.{IsTypedState}
use Rattle.cb_shapes.specs.Shapes.{action_of}
use Rattle.cb_shapes.specs.Targets.{goes_on}
use Rattle.cb_shapes.specs.declared.action.Action.{Action}
use Rattle.cb_shapes.specs.declared.action.Action.TheVariants as actions
use Rattle.cb_verify.specs.Typed.{IsTyped}
use Rattle.cb_act.specs.Acting.{Asks, Deed, acted, acted_as, arrays_deed, new_deed, on_kind, or_need, need_of, when_ready}
use Rattle.cb_interp.specs.Fit.{ArraysFit, IsPlacedAs, ShapesOf}
use Rattle.cb_act.specs.Going.{is_ready}
use Rattle.cb_act.specs.Here.{Here}
use Rattle.cb_interp.specs.Making.{makes_array, makes_one}
use Rattle.cb_interp.specs.Needing.{IsArrayHere, IsObjectHere, IsSiteOf, MakesKinds, TellsDimensions, fields_count, holds_size, makes_array_by, makes_object_by}
use Rattle.cb_act.specs.Steps.{StandsBefore}
use Rattle.cb_act.specs.Turning.{Outside, machine_of, state_of}
use Rattle.cb_act.specs.declared.need.Need.TheVariants as needs
use Rattle.cb_interp.specs.declared.need_sites.Making.{Making}
use Rattle.cb_act.proofs.Laws.{now, sizes_count, sizes_so}
use Rattle.cb_interp.proofs.MakingSteps.{array_is, makes_is}
use Rattle.cb_interp.proofs.TurnsMaking.{room_read}
use Rattle.cb_safety.proofs.Laws.{count_of}
use Rattle.cb_interp.proofs.TurnsNeedThere.{array_kinds, elements_there, method_in, next_there, object_kinds, pc_in}
use Rattle.cb_interp.proofs.TurnsSwitched.{top_again}
use Rattle.cb_interp.proofs.FollowHere.{room_here}

-- ---- what is placed

-- an object of as many words as its shape has fields; an array of none is one too
pub object_placed : (program : Linked) (all : List Shape) (site kind size : ℕ) → ShapesOf program all → kind < length program.kinds → fields_count (shape program kind) ≡ size
    → IsPlacedAs all site kind size (blank_fields program kind)
object_placed program all site kind size are low sized = go (shape program kind) refl sized where
  go : (own : Shape) → shape program kind ≡ own → fields_count own ≡ size → IsPlacedAs all site kind size (blank_fields program kind)
  go (shapes.Fields marks) is sized =
      let there : slice_get all kind ≡ Some (shapes.Fields marks) = are kind low ∙ ap {B = Option Shape} Some is in
      record { sized = rw there (eq-eqb (length marks) size sized); shaped = rw (there, is) refl }
  go (shapes.Elements mark) is sized =
      let there : slice_get all kind ≡ Some (shapes.Elements mark) = are kind low ∙ ap {B = Option Shape} Some is in
      record { sized = rw there refl; shaped = rw (there, is) (ap (λ (size : ℕ). object_of site kind (replicate size (blank mark))) (sym sized)) }

pub array_placed : (program : Linked) (all : List Shape) (site kind size : ℕ) → ArraysFit program all → is_some (element_of program kind) ≡ true
    → IsPlacedAs all site kind size (replicate size (blank_element program kind))
array_placed program all site kind size fit some = go (element_of program kind) refl some where
  go : (element : Option Basic) → element_of program kind ≡ element → is_some element ≡ true → IsPlacedAs all site kind size (replicate size (blank_element program kind))
  go None at some = absurd (false≢true some)
  go (Some basic) at some = fit site kind size basic at

-- ---- where it is made

first_of : (stack : List Value) (value : Value) → slice_get stack 0 ≡ Some value → stack ≡ value ∷ drop 1 stack
first_of [] value is = absurd (none-some value is)
first_of (first ∷ rest) value is = ap (λ (value : Value). value ∷ rest) (same_Some first value is)

abbrev need_in : Option Deed → Bool
need_in (Some (Asks needs.Makes)) = true
need_in other = false

-- a class may be used that is named by an instruction which makes an object
record IsReady (program : Linked) (view : View) (named : Named) : Type 0 where
  pub kind : ℕ
  pub class : ℕ
  pub names : named ≡ meanings.Kind kind
  pub classed : class_of_kind program kind ≡ Some class
  pub ready : is_ready (slice_get view.roots.classes class) ≡ true

ready_so : (program : Linked) (view : View) (named : Named) → on_kind (new_deed program view) named ≡ Some (Asks needs.Makes) → IsReady program view named
ready_so program view named is = go named refl (ap need_in is) where
  of_state : (kind class : ℕ) → named ≡ meanings.Kind kind → class_of_kind program kind ≡ Some class → (own : Option ClassState) → slice_get view.roots.classes class ≡ own
      → need_in (option_and_then (λ state. or_need (Some (Asks needs.Makes)) (need_of class state)) own) ≡ true → IsReady program view named
  of_state kind class names classed None at made = absurd (false≢true made)
  of_state kind class names classed (Some states.Untouched) at made = absurd (false≢true made)
  of_state kind class names classed (Some states.Failed) at made = absurd (false≢true made)
  of_state kind class names classed (Some states.Busy) at made = record { kind = kind; class = class; names = names; classed = classed; ready = ap is_ready at }
  of_state kind class names classed (Some states.Done) at made = record { kind = kind; class = class; names = names; classed = classed; ready = ap is_ready at }

  of_class : (kind : ℕ) → named ≡ meanings.Kind kind → (class : Option ℕ) → class_of_kind program kind ≡ class
      → need_in (option_and_then (λ class. when_ready view class (Some (Asks needs.Makes))) class) ≡ true → IsReady program view named
  of_class kind names None classed made = absurd (false≢true made)
  of_class kind names (Some class) classed made = of_state kind class names classed (slice_get view.roots.classes class) refl made

  go : (found : Named) → named ≡ found → need_in (on_kind (new_deed program view) found) ≡ true → IsReady program view named
  go (meanings.Kind kind) names made = of_class kind names (class_of_kind program kind) refl made
  go meanings.Nothing names made = absurd (false≢true made)
  go (meanings.Static class slot) names made = absurd (false≢true made)
  go (meanings.Field class slot) names made = absurd (false≢true made)
  go (meanings.Method method) names made = absurd (false≢true made)
  go (meanings.Text text) names made = absurd (false≢true made)
  go (meanings.Whole value) names made = absurd (false≢true made)

-- which action it is
pub data MakesObject (action : Option Action) : Type 0 where
  New : (index : ℕ) → action ≡ Some (actions.New index) → MakesObject action

pub makes_object_so : (action : Option Action) → makes_object_by action ≡ true → MakesObject action
makes_object_so None makes = absurd (false≢true makes)
makes_object_so (Some action) makes = go action makes where
  go : (action : Action) → makes_object_by (Some action) ≡ true → MakesObject (Some action)
  go (actions.New index) makes = New index refl
  go other makes = absurd (false≢true makes)

pub data MakesArray (action : Option Action) : Type 0 where
  Numbers : (code : ℕ) → action ≡ Some (actions.NewNumbers code) → MakesArray action
  References : (index : ℕ) → action ≡ Some (actions.NewReferences index) → MakesArray action
  Arrays : (index : ℕ) → action ≡ Some (actions.NewArrays index 1) → MakesArray action

pub makes_array_so : (action : Option Action) → makes_array_by action ≡ true → MakesArray action
makes_array_so None makes = absurd (false≢true makes)
makes_array_so (Some action) makes = go action makes where
  go : (action : Action) → makes_array_by (Some action) ≡ true → MakesArray (Some action)
  go (actions.NewNumbers code) makes = Numbers code refl
  go (actions.NewReferences index) makes = References index refl
  go (actions.NewArrays index dimensions) makes = Arrays index (ap (λ (dimensions : ℕ). Some (actions.NewArrays index dimensions)) (eqb-true dimensions 1 makes))
  go other makes = absurd (false≢true makes)

module _ (program : Linked) (limit : ℕ) (index : ℕ → ℕ) (objects : List (Option Object)) (held : Roots) (outside : Outside) (decoded : Decoded) where
  abbrev view : View
  view = seen index objects held

  abbrev state : State
  state = state_of view outside

  abbrev machine : Machine
  machine = machine_of program limit

  abbrev AsksToMake : Type 0
  AsksToMake = acted program limit decoded view ≡ Some (Asks needs.Makes)

  -- there are sizes
  pub sizes_there : (dimensions : ℕ) → arrays_deed view dimensions ≡ Some (Asks needs.Makes)
      → (dimensions ≤ length (top_stack held)) × (list_all is_size (take dimensions (top_stack held)) ≡ true)
  sizes_there dimensions is =
      (sizes_count index objects held dimensions (ap is_some is), go (list_all is_size (take dimensions (top_stack held))) refl)
    where
      go : (are : Bool) → list_all is_size (take dimensions (top_stack held)) ≡ are → list_all is_size (take dimensions (top_stack held)) ≡ true
      go true so = so
      go false so = absurd (false≢true (ap need_in (sym (sizes_so index objects held dimensions (ap is_some is) false so) ∙ is)))

  pub size_there : makes_array_by decoded.action ≡ true → AsksToMake → holds_size (slice_get (top_stack held) 0) ≡ true
  size_there makes asked = go (makes_array_so decoded.action makes) where
    by : (stack : List Value) → 1 ≤ length stack → list_all is_size (take 1 stack) ≡ true → holds_size (slice_get stack 0) ≡ true
    by [] low sized = absurd (omega (arith, low))
    by (value ∷ stack) low sized = (and_parts (is_size value) true sized).0

    there : arrays_deed view 1 ≡ Some (Asks needs.Makes) → holds_size (slice_get (top_stack held) 0) ≡ true
    there is = let (low, sized) = sizes_there 1 is in by (top_stack held) low sized

    go : MakesArray decoded.action → holds_size (slice_get (top_stack held) 0) ≡ true
    go (Numbers code is) = there (sym (ap (option_and_then (acted_as program limit decoded view)) is) ∙ asked)
    go (References index is) = there (sym (ap (option_and_then (acted_as program limit decoded view)) is) ∙ asked)
    go (Arrays index is) = there (sym (ap (option_and_then (acted_as program limit decoded view)) is) ∙ asked)

  module _ (at : Here machine state decoded) where
    abbrev at_now : Now
    at_now = now machine state at.frame at.below at.insn at.frames

    does : (action : Action) → decoded.action ≡ Some action → action_of at.insn ≡ Some action
    does action is = sym (ap (λ (decoded : Decoded). decoded.action) at.is) ∙ is

    whole : (action : Action) → decoded.action ≡ Some action → plan machine state ≡ done at_now at.insn.operand action
    whole action is = rw (at.quiet, at.frames, at.there, does action is) refl

    stands : (pc : ℕ) → decoded.next ≡ Some pc → StandsBefore at_now pc
    stands pc next = record { frames = at.frames; next = sym (ap (λ (decoded : Decoded). decoded.next) at.is) ∙ next }

    told : TellsDimensions program → (site : ℕ) → IsSiteOf program held 0 site → site_number program at.frame.method at.frame.pc 0 ≡ Some site
    told tells site here =
        let top : topmost held.frames ≡ Some (shown.Running at.frame.method at.frame.pc) = sym (top_again index held) ∙ ap topmost at.frames in
        let same : Some (shown.Running here.method here.pc) ≡ Some (shown.Running at.frame.method at.frame.pc) = sym here.top ∙ top in
        subst₂ (λ (method pc : ℕ). site_number program method pc 0 ≡ Some site) (ap method_in same) (ap pc_in same) (tells here.method here.pc 0 site here.is)

    pub object_plan : TellsDimensions program → makes_object_by decoded.action ≡ true → AsksToMake → (making : Making) → IsObjectHere program held decoded making
        → plan machine state ≡ Some (makes_one machine state making.site making.next)
    object_plan tells makes asked making here = go (makes_object_so decoded.action makes) where
      go : MakesObject decoded.action → plan machine state ≡ Some (makes_one machine state making.site making.next)
      go (New number is) =
          let ready : IsReady program view decoded.named =
          ready_so program view decoded.named (sym (ap (option_and_then (acted_as program limit decoded view)) is) ∙ asked) in
          whole (actions.New number) is
          ∙ makes_is at_now making.next (stands making.next here.next) ready.kind ready.class making.site
          (sym (ap (λ (decoded : Decoded). decoded.named) at.is) ∙ ready.names) ready.classed ready.ready (told tells making.site here.here)

    pub array_plan : TellsDimensions program → makes_array_by decoded.action ≡ true → (making : Making) → IsArrayHere program held decoded making
        → plan machine state ≡ Some (makes_array machine state making.site making.size making.next)
    array_plan tells makes making here = go (makes_array_so decoded.action makes) where
      stack : at.frame.stack ≡ Int (pos making.size) ∷ map (read_value index) (drop 1 (top_stack held))
      stack =
          sym (ap (on_top [] stack_in) at.frames) ∙ reads_stack index held
          ∙ ap (map (read_value index)) (first_of (top_stack held) (Int (pos making.size)) here.sized)

      go : MakesArray decoded.action → plan machine state ≡ Some (makes_array machine state making.site making.size making.next)
      go (Numbers code is) =
          whole (actions.NewNumbers code) is
          ∙ array_is at_now making.next (stands making.next here.next) making.site making.size (map (read_value index) (drop 1 (top_stack held))) stack
          (told tells making.site here.here)
      go (References number is) =
          whole (actions.NewReferences number) is
          ∙ array_is at_now making.next (stands making.next here.next) making.site making.size (map (read_value index) (drop 1 (top_stack held))) stack
          (told tells making.site here.here)
      go (Arrays number is) =
          whole (actions.NewArrays number 1) is
          ∙ array_is at_now making.next (stands making.next here.next) making.site making.size (map (read_value index) (drop 1 (top_stack held))) stack
          (told tells making.site here.here)

    -- what is looked at of an object is there
    pub object_there : IsLinked program → IsTyped program → IsTypedState program state → IsWhole program → makes_object_by decoded.action ≡ true
        → MakesKinds program held 1 × (is_some decoded.next ≡ true)
    object_there linked fits typed whole makes = go (makes_object_so decoded.action makes) where
      go : MakesObject decoded.action → MakesKinds program held 1 × (is_some decoded.next ≡ true)
      go (New number is) = (
        object_kinds program limit index objects held outside decoded at linked fits typed whole number is,
        next_there program limit index objects held outside decoded at linked fits typed (actions.New number) is refl,
      )

    -- and of an array
    pub array_there : IsLinked program → IsTyped program → IsTypedState program state → IsWhole program → makes_array_by decoded.action ≡ true
        → MakesKinds program held 1 × (is_some decoded.next ≡ true)
    array_there linked fits typed whole makes = go (makes_array_so decoded.action makes) where
      by : (action : Action) → decoded.action ≡ Some action → is_of_arrays action ≡ true → goes_on action ≡ true → 1 ≤ count_of action
          → MakesKinds program held 1 × (is_some decoded.next ≡ true)
      by action is arrays on some = (
        array_kinds program limit index objects held outside decoded at linked fits typed whole action is arrays 1 some,
        next_there program limit index objects held outside decoded at linked fits typed action is on,
      )

      go : MakesArray decoded.action → MakesKinds program held 1 × (is_some decoded.next ≡ true)
      go (Numbers code is) = by (actions.NewNumbers code) is refl refl (omega arith)
      go (References number is) = by (actions.NewReferences number) is refl refl (omega arith)
      go (Arrays number is) = by (actions.NewArrays number 1) is refl refl (omega arith)

    -- whose kind is an array's
    pub array_elements : IsLinked program → IsTyped program → IsTypedState program state → IsWhole program → TellsDimensions program → makes_array_by decoded.action ≡ true
        → (site : ℕ) → IsSiteOf program held 0 site → is_some (element_of program (kind_of_site program site)) ≡ true
    array_elements linked fits typed whole tells makes site here = go (makes_array_so decoded.action makes) where
      by : (action : Action) → decoded.action ≡ Some action → is_of_arrays action ≡ true → 0 < count_of action → is_some (element_of program (kind_of_site program site)) ≡ true
      by action is arrays some = elements_there program limit index objects held outside decoded at linked fits typed whole action is arrays tells 0 site some here

      go : MakesArray decoded.action → is_some (element_of program (kind_of_site program site)) ≡ true
      go (Numbers code is) = by (actions.NewNumbers code) is refl (omega arith)
      go (References number is) = by (actions.NewReferences number) is refl (omega arith)
      go (Arrays number is) = by (actions.NewArrays number 1) is refl (omega arith)

    -- there is room for a reference to an object
    pub object_room : IsLinked program → IsTyped program → IsTypedState program state → makes_object_by decoded.action ≡ true → 0 < top_room held
    object_room linked fits typed makes = go (makes_object_so decoded.action makes) where
      go : MakesObject decoded.action → 0 < top_room held
      go (New number is) =
          let room = room_here machine state decoded at linked fits typed in
          subst (λ (room : ℕ). 0 < room) (room_read index held) (room.lays (actions.New number) is refl)

  -- and there is the size of an array
  pub array_sized : (making : Making) → IsArrayHere program held decoded making → 0 < length (top_stack held)
  array_sized making here = slice_get_within (top_stack held) 0 (Int (pos making.size)) here.sized
