-- Turns in which an initialisation takes a step.
use Rattle.std.proofs.Common.{◌≡◌, ◌∙◌, ap, ap₂, refl, sym, ℕ, ◌+◌, Bool, true, false, List, [], ◌∷◌, map, Option, Some, None, length, nat_lt, ◌==◌}
use Rattle.std.proofs.lemmas.Bool.{false≢true}
use Rattle.std.proofs.lemmas.Option.{same_Some}
use Rattle.std.specs.Prelude.{OnErr, OnOk, is_ok, option_and_then, option_map, slice_get, if◌then◌else◌}
use Rattle.std.specs.declared.result.Result.{Result}
use Rattle.std.specs.declared.result.Result.TheVariants.{Err, Ok}
use Rattle.cb_classfile.specs.declared.body.Body.{Body}
use Rattle.cb_frames.specs.Limited.{Limited}
use Rattle.cb_frames.specs.Tops.{placed, topmost}
use Rattle.cb_frames.specs.declared.frame.Frame.{Frame as Shown}
use Rattle.cb_frames.specs.declared.frame.Frame.TheVariants as shown
use Rattle.cb_heap.specs.Reading.{read_frame, read_roots, seen, serial_of}
use Rattle.cb_heap.specs.Rules.{Rules}
use Rattle.cb_link.specs.Calls.{initial_parents, initialiser}
use Rattle.cb_link.specs.Program.{Linked}
use Rattle.cb_machine.specs.Initialising.{initialising}
use Rattle.cb_machine.specs.Machine.{Machine, body_of}
use Rattle.cb_machine.specs.Plans.{leaving}
use Rattle.cb_machine.specs.Sites.{stack_overflow}
use Rattle.cb_machine.specs.Steps.{plan}
use Rattle.cb_machine.specs.Throwing.{throws}
use Rattle.cb_plain.specs.Depth.{has_room}
use Rattle.cb_plain.specs.State.{Frame, Initialising, Object, OfMethod, Roots, State}
use Rattle.cb_plain.specs.Updates.{with_roots}
use Rattle.cb_plain.specs.declared.class_state.ClassState.{ClassState}
use Rattle.cb_plain.specs.declared.class_state.ClassState.TheVariants as states
use Rattle.cb_unwind.specs.declared.answers.InitStep.{InitStep}
use Rattle.cb_unwind.specs.declared.answers.InitStep.TheVariants.{Goes, Deep, FailedParent}
use Rattle.cb_unwind.specs.Initialised.{NumbersNext, behind_parent, by_top, ended, enters, initialised, own_turn, parent_turn}
use Rattle.cb_unwind.specs.Steps.{init_plan}
use Rattle.cb_unwind.proofs.Laws.{initialised_read, initialising_so}
use Rattle.cb_interp.specs.Initials.{fails, had_room}
use Rattle.cb_act.specs.Turning.{Outside, TurnMade, machine_of, moment_of, state_of}
use Rattle.cb_interp.proofs.TurnsMade.{quiet_turn}
use Rattle.cb_interp.proofs.TurnsSwitched.{top_again}

abbrev limited : ℕ → Roots → Limited
limited limit roots = record { limit = limit; roots = roots }

-- where there is no room for a frame nothing has changed
module _ (program : Linked) (limit : ℕ) (held : Roots) where
  abbrev Same : Option (InitStep × Roots) → Type 0
  Same gone = (after : Roots) → gone ≡ Some (Deep, after) → after ≡ held

  abbrev step_of : Option (InitStep × Roots) → InitStep
  step_of None = Goes
  step_of (Some gone) = gone.0

  of_room : (roots : Roots) (room : Bool) → Same (Some (if room then (Goes, roots) else (Deep, held)))
  of_room roots true after is = absurd (cc (ap step_of is))
  of_room roots false after is = sym (ap (λ (gone : InitStep × Roots). gone.1) (same_Some (Deep, held) (Deep, after) is))

  of_parent : (place parent : ℕ) (found : Option ClassState) → Same (option_map (behind_parent program limit held place parent) found)
  of_parent place parent None after is = absurd (cc is)
  of_parent place parent (Some states.Untouched) after is = of_room _ (has_room limit (placed held (place + 1)).frames 0) after is
  of_parent place parent (Some states.Failed) after is = absurd (cc (ap step_of is))
  of_parent place parent (Some states.Busy) after is = absurd (cc (ap step_of is))
  of_parent place parent (Some states.Done) after is = absurd (cc (ap step_of is))

  of_body : (place method : ℕ) (body : Option Body) → Same (option_map (enters limit held (placed held (place + 1)) method) body)
  of_body place method None after is = absurd (cc is)
  of_body place method (Some body) after is = of_room _ (has_room limit (placed held (place + 1)).frames (body.max_locals + body.max_stack)) after is

  of_own : (class place : ℕ) (method : Option ℕ) → Same (own_turn program limit held class place method)
  of_own class place None after is = absurd (cc (ap step_of is))
  of_own class place (Some method) after is = of_body place method (body_of program method) after is

  of_next : (place : ℕ) (parent : Option ℕ) → Same (option_and_then (parent_turn program limit held place) parent)
  of_next place None after is = absurd (cc is)
  of_next place (Some parent) after is = of_parent place parent (slice_get held.classes parent) after is

  of_place : (class place : ℕ) (low last : Bool)
      → Same (if low then option_and_then (parent_turn program limit held place) (slice_get (initial_parents program.classes class) place)
      else if last then own_turn program limit held class place (initialiser program.classes class) else Some (Goes, ended states.Done class held))
  of_place class place true last after is = of_next place (slice_get (initial_parents program.classes class) place) after is
  of_place class place false true after is = of_own class place (initialiser program.classes class) after is
  of_place class place false false after is = absurd (cc (ap step_of is))

  of_top : (top : Option Shown) → Same (option_and_then (by_top program limit held) top)
  of_top None after is = absurd (cc is)
  of_top (Some (shown.Running method pc)) after is = absurd (cc is)
  of_top (Some (shown.Initialising class place)) after is =
      of_place class place (nat_lt place (length (initial_parents program.classes class))) (place == length (initial_parents program.classes class)) after is

  pub deep_same : Same (initialised program limit held)
  deep_same after is = of_top (topmost held.frames) after is

-- the step of a state in which an initialisation stands on top
initial_plan : (machine : Machine) (state : State) (class place : ℕ) (below : List Frame) → state.exit ≡ None → state.roots.pending ≡ 0
    → state.roots.frames ≡ Initialising class place ∷ below → plan machine state ≡ initialising machine state below class place
initial_plan machine state class place below runs quiet frames = rw (runs, quiet, frames) refl

module _ (program : Linked) (index : ℕ → ℕ) (objects : List (Option Object)) (before : Limited) (outside : Outside) (step : InitStep) (after : Limited)
    (quiet : before.roots.pending ≡ 0) (numbers : NumbersNext program before.roots) (did : initialised program before.limit before.roots ≡ Some (step, after.roots)) where
  abbrev state : State
  state = state_of (seen index objects before.roots) outside

  abbrev machine : Machine
  machine = machine_of program before.limit

  numbers_read : NumbersNext program state.roots
  numbers_read class place parent top there = numbers class place parent (top ∙ top_again index before.roots) there

  pub plans : plan machine state ≡ Some (init_plan machine state (step, read_roots index after.roots))
  plans = go before.roots.frames refl where
    go : (frames : List Frame) → before.roots.frames ≡ frames → plan machine state ≡ Some (init_plan machine state (step, read_roots index after.roots))
    go [] is =
        let none : initialised program before.limit before.roots ≡ None = ap (λ frames. option_and_then (by_top program before.limit before.roots) (topmost frames)) is in
        absurd (cc (sym none ∙ did))
    go (OfMethod frame ∷ below) is =
        let none : initialised program before.limit before.roots ≡ None = ap (λ frames. option_and_then (by_top program before.limit before.roots) (topmost frames)) is in
        absurd (cc (sym none ∙ did))
    go (Initialising class place ∷ below) is =
        let frames : state.roots.frames ≡ Initialising class place ∷ map (read_frame index) below = ap (map (read_frame index)) is in
        initial_plan machine state class place (map (read_frame index) below) refl (ap (serial_of index) quiet) frames
        ∙ initialising_so machine state class place (map (read_frame index) below) frames numbers_read
        ∙ ap (option_map (init_plan machine state)) (initialised_read program index before.roots before.limit ∙ ap (option_map (λ gone. (gone.0, read_roots index gone.1))) did)

  pub initial_turn : {Facts : Type 0} {E : Type 0} (rules : Rules Facts) (facts : Facts) (result : Result (Unit {0}) E) → is_ok result ≡ had_room step
      → fails (initialised program before.limit before.roots) ≡ false
      → OnOk result (TurnMade rules machine (moment_of (seen index objects before.roots) outside facts) (moment_of (seen index objects after.roots) outside facts))
  initial_turn {Facts} {E} rules facts result room goes = go step result room (sym (ap fails did) ∙ goes) plans where
    go : (step : InitStep) (result : Result (Unit {0}) E) → is_ok result ≡ had_room step → fails (Some (step, after.roots)) ≡ false
        → plan machine state ≡ Some (init_plan machine state (step, read_roots index after.roots))
        → OnOk result (TurnMade rules machine (moment_of (seen index objects before.roots) outside facts) (moment_of (seen index objects after.roots) outside facts))
    go step (Err deep) room goes is = tt
    go Goes (Ok done) room goes is =
        quiet_turn rules machine (moment_of (seen index objects before.roots) outside facts) (moment_of (seen index objects after.roots) outside facts)
        (leaving (with_roots state (read_roots index after.roots))) is refl refl refl
    go Deep (Ok done) room goes is = absurd (false≢true (sym room))
    go FailedParent (Ok done) room goes is = absurd (false≢true (sym goes))

  abbrev OnDeep : {E : Type 0} → Result (Unit {0}) E → Type 0
  OnDeep result = OnErr result (step ≡ Deep)

  is_deep : {E : Type 0} (result : Result (Unit {0}) E) → is_ok result ≡ had_room step → OnDeep result
  is_deep {E} result room = go step result room where
    go : (step : InitStep) (result : Result (Unit {0}) E) → is_ok result ≡ had_room step → OnErr result (step ≡ Deep)
    go step (Ok done) room = tt
    go Goes (Err deep) room = absurd (false≢true room)
    go FailedParent (Err deep) room = absurd (false≢true room)
    go Deep (Err deep) room = refl

  on_err : {E : Type 0} {P : Type 0} (result : Result (Unit {0}) E) → OnDeep result → (step ≡ Deep → P) → OnErr result P
  on_err (Ok done) deep so = tt
  on_err (Err refused) deep so = so deep

  pub deep_throws : {E : Type 0} (result : Result (Unit {0}) E) → is_ok result ≡ had_room step → OnErr result (plan machine state ≡ Some (throws machine state stack_overflow))
  deep_throws result room = on_err result (is_deep result room) (λ deep. plans ∙ ap (λ (step : InitStep). Some (init_plan machine state (step, read_roots index after.roots))) deep)

  pub deep_keeps : {E : Type 0} (result : Result (Unit {0}) E) → is_ok result ≡ had_room step → after.limit ≡ before.limit → OnErr result (after ≡ before)
  deep_keeps result room limit =
      on_err result (is_deep result room)
      (λ deep. ap₂ (λ (limit : ℕ) (roots : Roots). limited limit roots) limit
      (deep_same program before.limit before.roots after.roots (did ∙ ap (λ (step : InitStep). Some (step, after.roots)) deep)))
