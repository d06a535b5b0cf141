-- References pass where classes begin, methods are entered and objects are made.
use Rattle.std.proofs.Common.{◌≡◌, refl, ℕ, pos, ◌+◌, ◌-◌, Bool, true, false, List, [], ◌∷◌, length, replicate, Option, Some, None, zero, suc, nat_lt, ◌==◌}
use Rattle.std.specs.Prelude.{slice_get}
use Rattle.std.specs.List.{flat_map, fold}
use Rattle.cb_classfile.specs.declared.body.Body.{Body}
use Rattle.cb_kinds.specs.declared.basic.Basic.{Basic}
use Rattle.cb_link.specs.Calls.{initial_parents, initialiser}
use Rattle.cb_link.specs.Named.{static_initial}
use Rattle.cb_link.specs.Slots.{static_basic}
use Rattle.cb_link.specs.declared.named.Named.{Named}
use Rattle.cb_link.specs.declared.named.Named.TheVariants as meanings
use Rattle.cb_machine.specs.Entering.{entered_from}
use Rattle.cb_machine.specs.Initialising.{begun_upon, initialising, once_ready, own_statics}
use Rattle.cb_machine.specs.Machine.{Machine, body_of}
use Rattle.cb_machine.specs.Plans.{Plan, leaving, with_left}
use Rattle.cb_machine.specs.Sites.{no_class_definition, stack_overflow}
use Rattle.cb_machine.specs.Strings.{Placed, constant_string}
use Rattle.cb_machine.specs.Values.{kept_value}
use Rattle.cb_plain.specs.Depth.{frame_of, has_room, locals_of, slots_of}
use Rattle.cb_plain.specs.declared.class_state.ClassState.{ClassState}
use Rattle.cb_plain.specs.declared.class_state.ClassState.TheVariants as states
use Rattle.cb_plain.specs.declared.value.Value.{Value}
use Rattle.cb_plain.specs.declared.value.Value.TheVariants as values
use Rattle.cb_plain.specs.Reach.{frame_references, reference_in, references_in}
use Rattle.cb_plain.specs.State.{Frame, Initialising, State}
use Rattle.cb_plain.specs.Updates.{with_class, with_frames, with_static}
use Rattle.cb_act.specs.Within.{HasNumbers, IsPlanWithin, IsWithin, Pass, Within}
use Rattle.cb_act.proofs.KeptInit.{set_initial, set_to, set_whole}
use Rattle.cb_act.proofs.KeptObjects.{parts}
use Rattle.cb_act.proofs.WithinBasics.{along, both, constant_within, framed, left_within, throws_within, with_static_passes}
use Rattle.cb_act.proofs.WithinFrames.{slots_pass}

module _ (ok : ℕ → Bool) where
  -- a value that is kept in a field of a type
  pub kept_passes : (basic : Basic) (value : Value) → Pass ok (reference_in value) → Pass ok (reference_in (kept_value basic value))
  kept_passes basic (values.Int number) pass = refl
  kept_passes basic (values.Long number) pass = refl
  kept_passes basic (values.Ref serial) pass = pass

  -- frames that are entered
  all_slots_pass : (arguments : List Value) → Pass ok (references_in arguments) → Pass ok (references_in (flat_map slots_of arguments))
  all_slots_pass [] all = refl
  all_slots_pass (value ∷ arguments) all =
      let own = parts ok (reference_in value) (references_in arguments) all in
      along ok reference_in (slots_of value) (flat_map slots_of arguments) (slots_pass ok value own.0) (all_slots_pass arguments own.1)

  zeros_pass : (count : ℕ) → Pass ok (references_in (replicate count (values.Int (pos 0))))
  zeros_pass zero = refl
  zeros_pass (suc count) = zeros_pass count

  entered_frame : (method locals stack : ℕ) (arguments : List Value) → Pass ok (references_in arguments) → Pass ok (frame_references (frame_of method locals stack arguments))
  entered_frame method locals stack arguments all =
      both ok (references_in (locals_of locals arguments)) []
      (along ok reference_in (flat_map slots_of arguments) (replicate (locals - length (flat_map slots_of arguments)) (values.Int (pos 0)))
      (all_slots_pass arguments all) (zeros_pass (locals - length (flat_map slots_of arguments)))) refl

  -- the state with other roots
  pub framed_within : (state : State) (frames : List Frame) → IsWithin ok state → Pass ok (flat_map frame_references frames) → IsWithin ok (with_frames state frames)
  framed_within state frames is new = record { roots = framed ok state.roots frames is.roots new; objects = is.objects; next = is.next }

  pub classed_within : (state : State) (class : ℕ) (now : ClassState) → IsWithin ok state → IsWithin ok (with_class state class now)
  classed_within state class now is = record {
    roots = record { frames = is.roots.frames; statics = is.roots.statics; tables = is.roots.tables; pending = is.roots.pending; argument = is.roots.argument };
    objects = is.objects;
    next = is.next;
  }

  pub entered_from_within : (machine : Machine) (state left : State) (frames : List Frame) (method : ℕ) (arguments : List Value) (body : Body) → IsWithin ok state → IsWithin ok left
      → Pass ok (flat_map frame_references frames) → Pass ok (references_in arguments) → IsPlanWithin ok (entered_from machine state left frames method arguments body)
  entered_from_within machine state left frames method arguments body is also below all = by (has_room machine.frames frames (body.max_locals + body.max_stack)) refl where
    by : (room : Bool) → has_room machine.frames frames (body.max_locals + body.max_stack) ≡ room → IsPlanWithin ok (entered_from machine state left frames method arguments body)
    by false room = rw room (throws_within ok machine state stack_overflow is)
    by true room =
        rw room
        (left_within ok (with_frames left (frame_of method body.max_locals body.max_stack arguments ∷ frames))
        (framed_within left (frame_of method body.max_locals body.max_stack arguments ∷ frames) also
        (both ok (frame_references (frame_of method body.max_locals body.max_stack arguments)) (flat_map frame_references frames)
        (entered_frame method body.max_locals body.max_stack arguments all) below)))

  module _ (machine : Machine) (numbers : HasNumbers ok machine.program) where
    -- static fields with constants
    set_within : (slot : ℕ) (plan : Plan) (value : Value) → Pass ok (reference_in value) → IsPlanWithin ok plan → IsPlanWithin ok (with_left plan (with_static plan.left slot value))
    set_within slot plan value pass is =
        record { roots = with_static_passes ok plan.left.roots slot value is.roots pass; objects = is.objects; next = is.next; placed = is.placed }

    whole_within : (slot : ℕ) (plan : Plan) (value : Value) → Pass ok (reference_in value) → IsPlanWithin ok plan → (basic : Option Basic) → IsPlanWithin ok (set_whole slot value plan basic)
    whole_within slot plan value pass is None = is
    whole_within slot plan value pass is (Some basic) = set_within slot plan (kept_value basic value) (kept_passes basic value pass) is

    initial_within : (slot : ℕ) (plan : Plan) → IsPlanWithin ok plan → (named : Named) → static_initial machine.program slot ≡ named → IsPlanWithin ok (set_to machine slot plan named)
    initial_within slot plan is meanings.Nothing there = is
    initial_within slot plan is (meanings.Kind kind) there = is
    initial_within slot plan is (meanings.Static class other) there = is
    initial_within slot plan is (meanings.Field class other) there = is
    initial_within slot plan is (meanings.Method method) there = is
    initial_within slot plan is (meanings.Text text) there =
        let placed : Placed = constant_string machine text plan in
        let own = constant_within ok machine text plan is in
        set_within slot placed.plan (values.Ref placed.serial) own.1 own.0
    initial_within slot plan is (meanings.Whole value) there = whole_within slot plan value (numbers.initial slot value there) is (static_basic machine.program slot)

    fields_within : (slots : List ℕ) (plan : Plan) → IsPlanWithin ok plan → IsPlanWithin ok (fold (set_initial machine) plan slots)
    fields_within [] plan is = is
    fields_within (slot ∷ slots) plan is = fields_within slots (set_initial machine plan slot) (initial_within slot plan is (static_initial machine.program slot) refl)

    pub begun_within : (state : State) (frames : List Frame) (class : ℕ) → IsWithin ok state → Pass ok (flat_map frame_references frames) → IsPlanWithin ok (begun_upon machine state frames class)
    begun_within state frames class is below = by (has_room machine.frames frames 0) refl where
      busy : State
      busy = with_class (with_frames state (Initialising class 0 ∷ frames)) class states.Busy

      by : (room : Bool) → has_room machine.frames frames 0 ≡ room → IsPlanWithin ok (begun_upon machine state frames class)
      by false room = rw room (throws_within ok machine state stack_overflow is)
      by true room =
          rw room
          (fields_within (own_statics machine.program class) (leaving busy)
          (left_within ok busy (classed_within (with_frames state (Initialising class 0 ∷ frames)) class states.Busy (framed_within state (Initialising class 0 ∷ frames) is below))))

    pub ready_within : (state : State) (class : ℕ) (one : Option Plan) → IsWithin ok state → Within ok one → Within ok (once_ready machine state class one)
    ready_within state class one is own = by (slice_get state.roots.classes class) refl where
      by : (found : Option ClassState) → slice_get state.roots.classes class ≡ found → Within ok (once_ready machine state class one)
      by None at = rw at tt
      by (Some states.Untouched) at = rw at (begun_within state state.roots.frames class is is.roots.frames)
      by (Some states.Failed) at = rw at (throws_within ok machine state no_class_definition is)
      by (Some states.Busy) at = rw at own
      by (Some states.Done) at = rw at own

    -- steps of an initialisation
    pub initialising_within : (state : State) (below : List Frame) (class place : ℕ) → IsWithin ok state → Pass ok (flat_map frame_references below)
        → Within ok (initialising machine state below class place)
    initialising_within state below class place is under = by (nat_lt place (length (initial_parents machine.program.classes class))) refl where
      further : IsWithin ok (with_frames state (Initialising class (place + 1) ∷ below))
      further = framed_within state (Initialising class (place + 1) ∷ below) is under

      done : State
      done = with_class (with_frames state below) class states.Done

      done_within : IsPlanWithin ok (leaving done)
      done_within = left_within ok done (classed_within (with_frames state below) class states.Done (framed_within state below is under))

      of_parent : (parent : ℕ) → slice_get (initial_parents machine.program.classes class) place ≡ Some parent
          → nat_lt place (length (initial_parents machine.program.classes class)) ≡ true
          → (own : Option ClassState) → slice_get state.roots.classes parent ≡ own → Within ok (initialising machine state below class place)
      of_parent parent there low None at = rw (low, there, at) tt
      of_parent parent there low (Some states.Untouched) at = rw (low, there, at) (begun_within state (Initialising class (place + 1) ∷ below) parent is under)
      of_parent parent there low (Some states.Failed) at =
          rw (low, there, at) (throws_within ok machine (with_frames state (Initialising class (place + 1) ∷ below)) no_class_definition further)
      of_parent parent there low (Some states.Busy) at = rw (low, there, at) (left_within ok (with_frames state (Initialising class (place + 1) ∷ below)) further)
      of_parent parent there low (Some states.Done) at = rw (low, there, at) (left_within ok (with_frames state (Initialising class (place + 1) ∷ below)) further)

      of_place : (found : Option ℕ) → slice_get (initial_parents machine.program.classes class) place ≡ found
          → nat_lt place (length (initial_parents machine.program.classes class)) ≡ true → Within ok (initialising machine state below class place)
      of_place None there low = rw (low, there) tt
      of_place (Some parent) there low = of_parent parent there low (slice_get state.roots.classes parent) refl

      of_body : (method : ℕ) → initialiser machine.program.classes class ≡ Some method
          → nat_lt place (length (initial_parents machine.program.classes class)) ≡ false → (place == length (initial_parents machine.program.classes class)) ≡ true
          → (body : Option Body) → body_of machine.program method ≡ body → Within ok (initialising machine state below class place)
      of_body method there low at None has = rw (low, at, there, has) tt
      of_body method there low at (Some body) has =
          rw (low, at, there, has) (entered_from_within machine state state (Initialising class (place + 1) ∷ below) method [] body is is under refl)

      of_own : (method : Option ℕ) → initialiser machine.program.classes class ≡ method
          → nat_lt place (length (initial_parents machine.program.classes class)) ≡ false → (place == length (initial_parents machine.program.classes class)) ≡ true
          → Within ok (initialising machine state below class place)
      of_own None there low at = rw (low, at, there) done_within
      of_own (Some method) there low at = of_body method there low at (body_of machine.program method) refl

      of_end : (last : Bool) → nat_lt place (length (initial_parents machine.program.classes class)) ≡ false → (place == length (initial_parents machine.program.classes class)) ≡ last
          → Within ok (initialising machine state below class place)
      of_end false low at = rw (low, at) done_within
      of_end true low at = of_own (initialiser machine.program.classes class) refl low at

      by : (low : Bool) → nat_lt place (length (initial_parents machine.program.classes class)) ≡ low → Within ok (initialising machine state below class place)
      by true low = of_place (slice_get (initial_parents machine.program.classes class) place) refl low
      by false low = of_end (place == length (initial_parents machine.program.classes class)) low refl
