-- Steps of states in which objects are changed so that a step doesn't see it: what is done to the changed state is what is done to the state,
-- changed.
use Rattle.std.specs.Prelude.{◌≡◌, ℕ, List, ◌∷◌, Bool, Option, Some, IsTrue, length, option_map, slice_get}
use Rattle.std.specs.List.{list_all}
use Rattle.cb_library.specs.declared.native.Native.{Native}
use Rattle.cb_machine.specs.Machine.{Machine}
use Rattle.cb_machine.specs.Natives.{performed}
use Rattle.cb_machine.specs.Performing.{Performed, Gives, Stops}
use Rattle.cb_machine.specs.Plans.{Plan}
use Rattle.cb_machine.specs.Standing.{Now}
use Rattle.cb_machine.specs.Steps.{plan}
use Rattle.cb_plain.specs.declared.value.Value.{Value}
use Rattle.cb_plain.specs.Reach.{references_in, root_references, unless_null}
use Rattle.cb_plain.specs.State.{Content, Object, OfMethod, Reference, State}
use Rattle.cb_plain.specs.Updates.{object_in, with_contents_in, with_objects}

abbrev pub Change : Type 0
Change = List (Option Object) → List (Option Object)

-- a state, a plan, where a machine stands, and what a native gives, changed
abbrev pub changed_state : Change → State → State
changed_state change state = with_objects state (change state.objects)

abbrev pub changed_plan : Change → Plan → Plan
changed_plan change plan = record { placed = plan.placed; next = plan.next; left = changed_state change plan.left }

abbrev pub changed_now : Change → Now → Now
changed_now change now =
    record { machine = now.machine; frame = now.frame; below = now.below; next = now.next; state = changed_state change now.state }

abbrev pub changed_performed : Change → Performed → Performed
changed_performed change (Gives plan answer) = Gives (changed_plan change plan) answer
changed_performed change (Stops plan) = Stops (changed_plan change plan)

-- a reference passes a test, or is null
abbrev pub Passes : (ℕ → Bool) → ℕ → Type 0
Passes test serial = IsTrue (list_all test (unless_null serial))

-- there are as many objects as before; other contents are other contents of what is changed; and what a step looks at is as it was: it
-- starts from roots that pass a test, and what objects that pass hold passes
pub record IsUnseen (change : Change) (test : ℕ → Bool) (state : State) : Type 0 where
  pub count : length (change state.objects) ≡ length state.objects
  pub contents : (objects : List (Option Object)) → (serial : ℕ) → (contents : List Content) → change (with_contents_in objects serial contents) ≡ with_contents_in (change objects) serial contents
  pub same : (serial : ℕ) → Passes test serial → object_in (change state.objects) serial ≡ object_in state.objects serial
  pub roots : IsTrue (list_all test (root_references state.roots))
  pub inside : (serial word other : ℕ) → (object : Object) → Passes test serial → object_in state.objects serial ≡ Some object →
      slice_get object.contents word ≡ Some (Reference other) → Passes test other

-- and the frame of the method that runs is the topmost one
pub record IsHere (change : Change) (test : ℕ → Bool) (now : Now) : Type 0 where
  pub unseen : IsUnseen change test now.state
  pub frames : now.state.roots.frames ≡ OfMethod now.frame ∷ now.below

-- what an instruction, natives with arguments that pass, and a step do to what is changed is what they do, changed
abbrev pub Changes : Change → Now → (Now → Option Plan) → Type 0
Changes change now done = done (changed_now change now) ≡ option_map (changed_plan change) (done now)

abbrev pub NativesChange : Machine → Change → (ℕ → Bool) → State → Type 0
NativesChange machine change test state =
    (native : Native) → (arguments : List Value) → IsTrue (list_all test (references_in arguments))
    → performed machine (changed_state change state) native arguments ≡ option_map (changed_performed change) (performed machine state native arguments)

abbrev pub ChangesPlan : Machine → Change → State → Type 0
ChangesPlan machine change state = plan machine (changed_state change state) ≡ option_map (changed_plan change) (plan machine state)
