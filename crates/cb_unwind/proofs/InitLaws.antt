-- A step of an initialisation leaves what the machine's step leaves, and the same when roots are read.
use Rattle.std.proofs.Common.{◌≡◌, ◌∙◌, ap, ap₂, refl, sym, ℕ, ◌+◌, ◌==◌, Bool, true, false, List, [], ◌∷◌, length, Option, Some, None, nat_lt}
use Rattle.std.specs.Prelude.{option_map, slice_get, if◌then◌else◌}
use Rattle.cb_classfile.specs.declared.body.Body.{Body}
use Rattle.cb_frames.specs.Tops.{entered, placed, topmost}
use Rattle.cb_frames.specs.declared.frame.Frame.{Frame as Shown}
use Rattle.cb_frames.specs.declared.frame.Frame.TheVariants as shown
use Rattle.cb_heap.proofs.Laws.{reads_entered, reads_left, reads_placed, reads_room}
use Rattle.cb_heap.specs.Reading.{read_roots}
use Rattle.cb_link.specs.Calls.{initial_parents, initialiser}
use Rattle.cb_link.specs.Program.{Linked}
use Rattle.cb_machine.specs.Initialising.{initialising}
use Rattle.cb_machine.specs.Machine.{Machine, body_of}
use Rattle.cb_machine.specs.Plans.{leaving}
use Rattle.cb_machine.specs.Sites.{stack_overflow}
use Rattle.cb_machine.specs.Throwing.{throws}
use Rattle.cb_plain.specs.declared.class_state.ClassState.{ClassState}
use Rattle.cb_plain.specs.declared.class_state.ClassState.TheVariants as states
use Rattle.cb_plain.specs.Depth.{frame_of, has_room}
use Rattle.cb_plain.specs.Roots.{with_class, with_frames}
use Rattle.cb_plain.specs.State.{Frame, Initialising, Roots, State}
use Rattle.cb_plain.specs.Updates.{with_frames as set_frames, with_roots}
use Rattle.cb_unwind.specs.declared.answers.InitStep.{InitStep}
use Rattle.cb_unwind.specs.declared.answers.InitStep.TheVariants.{Goes, Deep, FailedParent}
use Rattle.cb_unwind.specs.Begun.{begun}
use Rattle.cb_unwind.specs.Initialised.{IsOnTop, NumbersNext, begins, by_place, ended, enters, initialised, own_turn, parent_turn}
use Rattle.cb_unwind.specs.Steps.{init_plan}
use Rattle.cb_unwind.proofs.BegunLaws.{begun_on, begun_read}
use Rattle.cb_unwind.proofs.Places.{top_read}

-- roots with what has been done
abbrev goes_to : Roots → InitStep × Roots
goes_to roots = (Goes, roots)

abbrev fails_to : Roots → InitStep × Roots
fails_to roots = (FailedParent, roots)

-- what comes of room for a frame
abbrev in_room : Roots → Roots → Bool → InitStep × Roots
in_room before roots room = if room then (Goes, roots) else (Deep, before)

chosen_so : (machine : Machine) (state : State) (held : Roots) (room : Bool)
    → (if room then leaving (with_roots state held) else throws machine state stack_overflow) ≡ init_plan machine state (in_room state.roots held room)
chosen_so machine state held true = refl
chosen_so machine state held false = refl

module _ (machine : Machine) (state : State) (class place : ℕ) (below : List Frame) (frames : state.roots.frames ≡ Initialising class place ∷ below)
    (numbers : NumbersNext machine.program state.roots) where
  abbrev Said : Type 0
  Said = initialising machine state below class place ≡ option_map (init_plan machine state) (initialised machine.program machine.frames state.roots)

  abbrev next : List Frame
  next = Initialising class (place + 1) ∷ below

  -- the same state, by what stands on top
  abbrev here : State
  here = set_frames state (Initialising class place ∷ below)

  on_top : IsOnTop state.roots class place
  on_top = sym (ap topmost frames)

  of_parent : (parent : ℕ) → slice_get (initial_parents machine.program.classes class) place ≡ Some parent
      → nat_lt place (length (initial_parents machine.program.classes class)) ≡ true
      → (own : Option ClassState) → slice_get state.roots.classes parent ≡ own → Said
  of_parent parent there low None at = rw (frames, low, there, at) refl
  of_parent parent there low (Some states.Failed) at = rw (frames, low, there, at) refl
  of_parent parent there low (Some states.Busy) at = rw (frames, low, there, at) refl
  of_parent parent there low (Some states.Done) at = rw (frames, low, there, at) refl
  of_parent parent there low (Some states.Untouched) at =
      rw (frames, low, there, at)
      (ap Some (begun_on machine here next parent (numbers class place parent on_top there)
      ∙ chosen_so machine here (begun machine.program parent (with_frames state.roots next)) (has_room machine.frames next 0)))

  of_place : (found : Option ℕ) → slice_get (initial_parents machine.program.classes class) place ≡ found
      → nat_lt place (length (initial_parents machine.program.classes class)) ≡ true → Said
  of_place None there low = rw (frames, low, there) refl
  of_place (Some parent) there low = of_parent parent there low (slice_get state.roots.classes parent) refl

  of_body : (method : ℕ) → initialiser machine.program.classes class ≡ Some method
      → nat_lt place (length (initial_parents machine.program.classes class)) ≡ false → (place == length (initial_parents machine.program.classes class)) ≡ true
      → (body : Option Body) → body_of machine.program method ≡ body → Said
  of_body method is low at None has = rw (frames, low, at, is, has) refl
  of_body method is low at (Some body) has =
      rw (frames, low, at, is, has)
      (ap Some (chosen_so machine here (with_frames state.roots (frame_of method body.max_locals body.max_stack [] ∷ next))
      (has_room machine.frames next (body.max_locals + body.max_stack))))

  of_own : (method : Option ℕ) → initialiser machine.program.classes class ≡ method
      → nat_lt place (length (initial_parents machine.program.classes class)) ≡ false → (place == length (initial_parents machine.program.classes class)) ≡ true → Said
  of_own None is low at = rw (frames, low, at, is) refl
  of_own (Some method) is low at = of_body method is low at (body_of machine.program method) refl

  of_end : (last : Bool) → nat_lt place (length (initial_parents machine.program.classes class)) ≡ false
      → (place == length (initial_parents machine.program.classes class)) ≡ last → Said
  of_end false low at = rw (frames, low, at) refl
  of_end true low at = of_own (initialiser machine.program.classes class) refl low at

  pub initialising_so : Said
  initialising_so = by (nat_lt place (length (initial_parents machine.program.classes class))) refl where
    by : (low : Bool) → nat_lt place (length (initial_parents machine.program.classes class)) ≡ low → Said
    by true low = of_place (slice_get (initial_parents machine.program.classes class) place) refl low
    by false low = of_end (place == length (initial_parents machine.program.classes class)) low refl

-- when roots are read
pub ended_read : (index : ℕ → ℕ) (held : Roots) (now : ClassState) (class : ℕ) → ended now class (read_roots index held) ≡ read_roots index (ended now class held)
ended_read index held now class = ap (λ (held : Roots). with_class held class now) (sym (reads_left index held))

module _ (program : Linked) (index : ℕ → ℕ) (held : Roots) (limit : ℕ) where
  abbrev gone_read : InitStep × Roots → InitStep × Roots
  gone_read gone = (gone.0, read_roots index gone.1)

  room_so : (roots : Roots) (room : Bool) → in_room (read_roots index held) (read_roots index roots) room ≡ gone_read (in_room held roots room)
  room_so roots true = refl
  room_so roots false = refl

  begins_read : (place parent : ℕ)
      → begins program limit (read_roots index held) (placed (read_roots index held) place) parent ≡ gone_read (begins program limit held (placed held place) parent)
  begins_read place parent =
      ap (λ (roots : Roots). begins program limit (read_roots index held) roots parent) (sym (reads_placed index held place))
      ∙ ap₂ (λ (room : Bool) (roots : Roots). in_room (read_roots index held) roots room) (reads_room index (placed held place) limit 0) (begun_read program index (placed held place) parent)
      ∙ room_so (begun program parent (placed held place)) (has_room limit (placed held place).frames 0)

  enters_read : (place method : ℕ) (body : Body)
      → enters limit (read_roots index held) (placed (read_roots index held) place) method body ≡ gone_read (enters limit held (placed held place) method body)
  enters_read place method body =
      ap (λ (roots : Roots). enters limit (read_roots index held) roots method body) (sym (reads_placed index held place))
      ∙ ap₂ (λ (room : Bool) (roots : Roots). in_room (read_roots index held) roots room) (reads_room index (placed held place) limit (body.max_locals + body.max_stack))
      (sym (reads_entered index (placed held place) method 0 body.max_locals body.max_stack))
      ∙ room_so (entered (placed held place) method 0 body.max_locals body.max_stack) (has_room limit (placed held place).frames (body.max_locals + body.max_stack))

  goes_read : (place : ℕ) → Some (goes_to (placed (read_roots index held) place)) ≡ option_map gone_read (Some (goes_to (placed held place)))
  goes_read place = ap (λ (roots : Roots). Some (goes_to roots)) (sym (reads_placed index held place))

  fails_read : (place : ℕ) → Some (fails_to (placed (read_roots index held) place)) ≡ option_map gone_read (Some (fails_to (placed held place)))
  fails_read place = ap (λ (roots : Roots). Some (fails_to roots)) (sym (reads_placed index held place))

  ends_read : (class : ℕ) → Some (goes_to (ended states.Done class (read_roots index held))) ≡ option_map gone_read (Some (goes_to (ended states.Done class held)))
  ends_read class = ap (λ (roots : Roots). Some (goes_to roots)) (ended_read index held states.Done class)

  parent_read : (place parent : ℕ) → parent_turn program limit (read_roots index held) place parent ≡ option_map gone_read (parent_turn program limit held place parent)
  parent_read place parent = by (slice_get held.classes parent) refl where
    by : (own : Option ClassState) → slice_get held.classes parent ≡ own
        → parent_turn program limit (read_roots index held) place parent ≡ option_map gone_read (parent_turn program limit held place parent)
    by None at = rw at refl
    by (Some states.Untouched) at = rw at (ap Some (begins_read (place + 1) parent))
    by (Some states.Failed) at = rw at (fails_read (place + 1))
    by (Some states.Busy) at = rw at (goes_read (place + 1))
    by (Some states.Done) at = rw at (goes_read (place + 1))

  own_read : (class place : ℕ) (method : Option ℕ)
      → own_turn program limit (read_roots index held) class place method ≡ option_map gone_read (own_turn program limit held class place method)
  own_read class place None = ends_read class
  own_read class place (Some method) = by (body_of program method) refl where
    by : (body : Option Body) → body_of program method ≡ body
        → own_turn program limit (read_roots index held) class place (Some method) ≡ option_map gone_read (own_turn program limit held class place (Some method))
    by None has = rw has refl
    by (Some body) has = rw has (ap Some (enters_read (place + 1) method body))

  place_read : (class place : ℕ) → by_place program limit (read_roots index held) class place ≡ option_map gone_read (by_place program limit held class place)
  place_read class place = by (nat_lt place (length (initial_parents program.classes class))) refl where
    of_found : (found : Option ℕ) → slice_get (initial_parents program.classes class) place ≡ found
        → nat_lt place (length (initial_parents program.classes class)) ≡ true
        → by_place program limit (read_roots index held) class place ≡ option_map gone_read (by_place program limit held class place)
    of_found None there low = rw (low, there) refl
    of_found (Some parent) there low = rw (low, there) (parent_read place parent)

    of_end : (last : Bool) → nat_lt place (length (initial_parents program.classes class)) ≡ false
        → (place == length (initial_parents program.classes class)) ≡ last
        → by_place program limit (read_roots index held) class place ≡ option_map gone_read (by_place program limit held class place)
    of_end false low at = rw (low, at) (ends_read class)
    of_end true low at = rw (low, at) (own_read class place (initialiser program.classes class))

    by : (low : Bool) → nat_lt place (length (initial_parents program.classes class)) ≡ low
        → by_place program limit (read_roots index held) class place ≡ option_map gone_read (by_place program limit held class place)
    by true low = of_found (slice_get (initial_parents program.classes class) place) refl low
    by false low = of_end (place == length (initial_parents program.classes class)) low refl

  top_step_read : (top : Option Shown) → topmost held.frames ≡ top
      → initialised program limit (read_roots index held) ≡ option_map gone_read (initialised program limit held)
  top_step_read None top = rw (top_read index held, top) refl
  top_step_read (Some (shown.Running method pc)) top = rw (top_read index held, top) refl
  top_step_read (Some (shown.Initialising class place)) top = rw (top_read index held, top) (place_read class place)

  pub initialised_read : initialised program limit (read_roots index held) ≡ option_map gone_read (initialised program limit held)
  initialised_read = top_step_read (topmost held.frames) refl
