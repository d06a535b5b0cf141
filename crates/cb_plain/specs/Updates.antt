-- States with one thing changed, and objects by their serials.
use Rattle.std.specs.Prelude.{ℤ, ℕ, List, [], ◌∷◌, Option, Some, None, option_map, slice_get, zero, suc}
use Rattle.cb_plain.specs.declared.class_state.ClassState.{ClassState}
use Rattle.cb_plain.specs.declared.table.Table.{Table}
use Rattle.cb_plain.specs.declared.value.Value.{Value}
use Rattle.cb_plain.specs.Roots as roots
use Rattle.cb_plain.specs.State.{Content, Frame, Object, Roots, State}

abbrev pub with_roots : State → Roots → State
with_roots state roots = record { roots = roots; objects = state.objects; input = state.input; printed = state.printed; exit = state.exit }

abbrev pub with_frames : State → List Frame → State
with_frames state frames = with_roots state (roots.with_frames state.roots frames)

abbrev pub with_pending : State → ℕ → State
with_pending state serial = with_roots state (roots.with_pending state.roots serial)

abbrev pub with_static : State → ℕ → Value → State
with_static state slot value = with_roots state (roots.with_static state.roots slot value)

abbrev pub with_class : State → ℕ → ClassState → State
with_class state class now = with_roots state (roots.with_class state.roots class now)

abbrev pub with_entry : State → Table → ℕ → ℕ → State
with_entry state table place serial = with_roots state (roots.with_entry state.roots table place serial)

abbrev pub with_argument : State → ℕ → State
with_argument state serial = with_roots state (roots.with_argument state.roots serial)

abbrev pub with_objects : State → List (Option Object) → State
with_objects state objects = record { roots = state.roots; objects = objects; input = state.input; printed = state.printed; exit = state.exit }

abbrev pub with_input : State → List ℕ → State
with_input state input = record { roots = state.roots; objects = state.objects; input = input; printed = state.printed; exit = state.exit }

abbrev pub with_printed : State → List ℕ → State
with_printed state printed = record { roots = state.roots; objects = state.objects; input = state.input; printed = printed; exit = state.exit }

abbrev pub with_exit : State → ℤ → State
with_exit state status = record { roots = state.roots; objects = state.objects; input = state.input; printed = state.printed; exit = Some status }

-- the object of a serial, if it is kept: the one of serial n + 1 stands at n
abbrev pub kept : Option (Option Object) → Option Object
kept None = None
kept (Some entry) = entry

abbrev pub object_in : List (Option Object) → ℕ → Option Object
object_in objects zero = None
object_in objects (suc place) = kept (slice_get objects place)

abbrev pub object_at : State → ℕ → Option Object
object_at state serial = object_in state.objects serial

-- with other contents
abbrev with_contents : List Content → Object → Object
with_contents contents object = record { site = object.site; kind = object.kind; contents = contents }

abbrev changed_at : List (Option Object) → ℕ → List Content → List (Option Object)
changed_at [] place contents = []
changed_at (entry ∷ entries) zero contents = option_map (with_contents contents) entry ∷ entries
changed_at (entry ∷ entries) (suc place) contents = entry ∷ changed_at entries place contents

abbrev pub with_contents_in : List (Option Object) → ℕ → List Content → List (Option Object)
with_contents_in objects zero contents = objects
with_contents_in objects (suc place) contents = changed_at objects place contents

abbrev pub with_contents_at : State → ℕ → List Content → State
with_contents_at state serial contents = with_objects state (with_contents_in state.objects serial contents)
