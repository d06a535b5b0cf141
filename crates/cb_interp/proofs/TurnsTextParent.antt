-- Turns in which an initialisation looks at a class that comes before.
use Rattle.std.proofs.Common.{◌≡◌, ◌∙◌, ◌⊎◌, inl, inr, ap, arith, refl, sym, ℕ, ◌+◌, ◌<◌, List, [], ◌∷◌, length, map, nat_lt, slice_get, false, true, Option, Some}
use Rattle.std.proofs.lemmas.Bool.{false≢true, lt-ltb}
use Rattle.cb_frames.specs.Tops.{placed, topmost}
use Rattle.cb_frames.specs.declared.frame.Frame.TheVariants as shown
use Rattle.cb_heap.proofs.Laws.{reads_placed}
use Rattle.cb_heap.specs.Reading.{read_frame, read_roots, seen, serial_of}
use Rattle.cb_heap.specs.Rules.{Rules}
use Rattle.cb_link.specs.Calls.{initial_parents}
use Rattle.cb_link.specs.Program.{Linked}
use Rattle.cb_machine.specs.Initialising.{begun_upon, initialising}
use Rattle.cb_machine.specs.Machine.{Machine}
use Rattle.cb_machine.specs.Plans.{Plan, leaving}
use Rattle.cb_machine.specs.Steps.{plan}
use Rattle.cb_plain.specs.State.{Frame, Initialising, Object, OfMethod, Roots, State}
use Rattle.cb_plain.specs.Updates.{with_frames}
use Rattle.cb_plain.specs.declared.class_state.ClassState.{ClassState}
use Rattle.cb_plain.specs.declared.class_state.ClassState.TheVariants.{Busy, Done, Failed, Untouched}
use Rattle.cb_unwind.specs.Initialised.{IsOnTop, initialised}
use Rattle.cb_interp.specs.Initials.{fails, is_untouched}
use Rattle.cb_act.specs.Turning.{Outside, TurnMade, machine_of, moment_of, state_of}
use Rattle.cb_interp.proofs.TurnsFrameInit.{initial_plan}
use Rattle.cb_interp.proofs.TurnsMade.{quiet_turn}

-- the frames once the place has grown
grown_so : (state : State) (class place : ℕ) (below : List Frame) → state.roots.frames ≡ Initialising class place ∷ below
    → (placed state.roots (place + 1)).frames ≡ Initialising class (place + 1) ∷ below
grown_so state class place below frames = rw frames refl

module _ (machine : Machine) (state : State) (class place : ℕ) (below : List Frame) (frames : state.roots.frames ≡ Initialising class place ∷ below) (parent : ℕ)
    (low : nat_lt place (length (initial_parents machine.program.classes class)) ≡ true) (there : slice_get (initial_parents machine.program.classes class) place ≡ Some parent) where
  busy_step : slice_get state.roots.classes parent ≡ Some Busy → initialising machine state below class place ≡ Some (leaving (with_frames state (Initialising class (place + 1) ∷ below)))
  busy_step at = rw (low, there, at) refl

  done_step : slice_get state.roots.classes parent ≡ Some Done → initialising machine state below class place ≡ Some (leaving (with_frames state (Initialising class (place + 1) ∷ below)))
  done_step at = rw (low, there, at) refl

  new_step : slice_get state.roots.classes parent ≡ Some Untouched → initialising machine state below class place ≡ Some (begun_upon machine state (Initialising class (place + 1) ∷ below) parent)
  new_step at = rw (low, there, at) refl

module _ (program : Linked) (limit : ℕ) (index : ℕ → ℕ) (objects : List (Option Object)) (held : Roots) (outside : Outside) (class place parent : ℕ)
    (quiet : held.pending ≡ 0) (top : IsOnTop held class place) (before : place < length (initial_parents program.classes class))
    (there : slice_get (initial_parents program.classes class) place ≡ Some parent) where
  abbrev state : State
  state = state_of (seen index objects held) outside

  abbrev machine : Machine
  machine = machine_of program limit

  -- by what the step is upon these frames
  by_step : (own : List Frame → Plan) → ((below : List Frame) → state.roots.frames ≡ Initialising class place ∷ below
      → initialising machine state below class place ≡ Some (own (Initialising class (place + 1) ∷ below)))
      → plan machine state ≡ Some (own (placed state.roots (place + 1)).frames)
  by_step own steps = go held.frames refl where
    go : (frames : List Frame) → held.frames ≡ frames → plan machine state ≡ Some (own (placed state.roots (place + 1)).frames)
    go [] is = absurd (cc (top ∙ ap topmost is))
    go (OfMethod frame ∷ below) is = absurd (cc (top ∙ ap topmost is))
    go (Initialising one at ∷ below) is =
        let same : Some (shown.Initialising class place) ≡ Some (shown.Initialising one at) = top ∙ ap topmost is in
        let own_class : one ≡ class = sym (cc same) in
        let own_place : at ≡ place = sym (cc same) in
        let frames : state.roots.frames ≡ Initialising class place ∷ map (read_frame index) below =
        ap (map (read_frame index)) is ∙ ap (λ (one : ℕ). Initialising one at ∷ map (read_frame index) below) own_class ∙ ap (λ (at : ℕ). Initialising class at ∷ map (read_frame index) below) own_place in
        initial_plan machine state class place (map (read_frame index) below) refl (ap (serial_of index) quiet) frames
        ∙ steps (map (read_frame index) below) frames
        ∙ ap (λ (frames : List Frame). Some (own frames)) (sym (grown_so state class place (map (read_frame index) below) frames))

  low : nat_lt place (length (initial_parents program.classes class)) ≡ true
  low = lt-ltb place (length (initial_parents program.classes class)) before

  pub busy_plan : slice_get held.classes parent ≡ Some Busy → plan machine state ≡ Some (leaving (with_frames state (placed state.roots (place + 1)).frames))
  busy_plan at = by_step (λ frames. leaving (with_frames state frames)) (λ below frames. busy_step machine state class place below frames parent low there at)

  pub done_plan : slice_get held.classes parent ≡ Some Done → plan machine state ≡ Some (leaving (with_frames state (placed state.roots (place + 1)).frames))
  done_plan at = by_step (λ frames. leaving (with_frames state frames)) (λ below frames. done_step machine state class place below frames parent low there at)

  pub new_plan : slice_get held.classes parent ≡ Some Untouched → plan machine state ≡ Some (begun_upon machine state (placed state.roots (place + 1)).frames parent)
  new_plan at = by_step (λ frames. begun_upon machine state frames parent) (λ below frames. new_step machine state class place below frames parent low there at)

  pub past_plan : (now : ClassState) → slice_get held.classes parent ≡ Some now → (now ≡ Busy) ⊎ (now ≡ Done)
      → plan machine state ≡ Some (leaving (with_frames state (placed state.roots (place + 1)).frames))
  past_plan now at (inl is) = busy_plan (at ∙ ap Some is)
  past_plan now at (inr is) = done_plan (at ∙ ap Some is)

  pub some_stand : 0 < length held.frames
  some_stand = go held.frames refl where
    go : (frames : List Frame) → held.frames ≡ frames → 0 < length frames
    go [] is = absurd (cc (top ∙ ap topmost is))
    go (frame ∷ below) is = omega arith

-- what a class's state is by whether it was looked at
pub new_by : (now : ClassState) → is_untouched now ≡ true → now ≡ Untouched
new_by Untouched is = refl
new_by other is = absurd (false≢true is)

pub past_by : (now : ClassState) → is_untouched now ≡ false → (now ≡ Failed → ⊥) → (now ≡ Busy) ⊎ (now ≡ Done)
past_by Busy is fine = inl refl
past_by Done is fine = inr refl
past_by Failed is fine = absurd (fine refl)
past_by Untouched is fine = absurd (false≢true (sym is))

-- none that failed is looked at, where the next step isn't to fail
pub never_failed : (program : Linked) (limit : ℕ) (held : Roots) (class place parent : ℕ) → IsOnTop held class place → place < length (initial_parents program.classes class)
    → slice_get (initial_parents program.classes class) place ≡ Some parent → slice_get held.classes parent ≡ Some Failed → fails (initialised program limit held) ≡ false → ⊥
never_failed program limit held class place parent top before there failed goes =
    let low = lt-ltb place (length (initial_parents program.classes class)) before in
    let is : fails (initialised program limit held) ≡ true = rw (sym top, low, there, failed) refl in
    false≢true (sym goes ∙ is)

-- nothing but the place changes
pub passed_turn : {Facts : Type 0} (rules : Rules Facts) (program : Linked) (limit : ℕ) (index : ℕ → ℕ) (objects : List (Option Object)) (held after : Roots) (outside : Outside) (facts : Facts)
    (place : ℕ) → plan (machine_of program limit) (state_of (seen index objects held) outside)
    ≡ Some (leaving (with_frames (state_of (seen index objects held) outside) (placed (read_roots index held) place).frames))
    → after ≡ placed held place
    → TurnMade rules (machine_of program limit) (moment_of (seen index objects held) outside facts) (moment_of (seen index objects after) outside facts)
passed_turn rules program limit index objects held after outside facts place is left =
    quiet_turn rules (machine_of program limit) (moment_of (seen index objects held) outside facts) (moment_of (seen index objects after) outside facts)
    (leaving (with_frames (state_of (seen index objects held) outside) (placed (read_roots index held) place).frames)) is refl
    (ap (λ (after : Roots). state_of (seen index objects after) outside) left
    ∙ ap (λ (roots : Roots). state_of (record { roots = roots; objects = objects }) outside) (reads_placed index held place)) refl
