-- Each state of a run is typed, and the run goes on just where there is a next one.
use Rattle.std.proofs.Common.{◌≡◌, ◌∙◌, ap, ap₂, refl, sym, subst, ℤ, ℕ, zero, suc, ◌≤◌, ◌==◌, Bool, false, List, [], ◌∷◌, length, Option, Some, None, option_and_then, option_map, if◌then◌else◌}
use Rattle.std.specs.List.{AllByRecursion}
use Rattle.std.proofs.lemmas.Bool.{ne_eqb}
use Rattle.cb_machine.specs.Machine.{Machine}
use Rattle.cb_machine.specs.Performing.{most_elements}
use Rattle.cb_machine.specs.Plans.{Plan, made}
use Rattle.cb_machine.specs.Runs.{after, at, next, outcome}
use Rattle.cb_machine.specs.Starting.{start}
use Rattle.cb_machine.specs.Steps.{plan, step}
use Rattle.cb_machine.specs.declared.outcome.Outcome.{Outcome}
use Rattle.cb_machine.specs.declared.outcome.Outcome.TheVariants.{Exited, Returned, Running, Uncaught}
use Rattle.cb_plain.specs.State.{Frame, Object, Roots, State}
use Rattle.cb_plain.specs.Updates.{object_at}
use Rattle.cb_verify.specs.Typed.{IsTyped}
use Rattle.cb_safety.specs.Advancing.{Advances}
use Rattle.cb_safety.specs.Linked.{IsLinked}
use Rattle.cb_safety.specs.States.{IsInput, IsTypedState}
use Rattle.cb_safety.specs.Strings.{IsText}
use Rattle.cb_safety.proofs.Assigned.{never}
use Rattle.cb_safety.proofs.EveryNative.{natives_advance}
use Rattle.cb_safety.proofs.Running.{running_advances}
use Rattle.cb_safety.proofs.Starting.{start_is_typed}
use Rattle.cb_safety.proofs.Streams.{has_start}

-- ---- a state that has a next one

abbrev with_all : State → List Frame → ℕ → ℕ → Option ℤ → State
with_all state frames pending argument exit = record {
  roots = record {
    frames = frames;
    pending = pending;
    statics = state.roots.statics;
    classes = state.roots.classes;
    tables = state.roots.tables;
    argument = argument;
  };
  objects = state.objects;
  input = state.input;
  printed = state.printed;
  exit = exit;
}

exited_none : (machine : Machine) (state : State) (frames : List Frame) (pending argument : ℕ) (status : ℤ) → plan machine (with_all state frames pending argument (Some status)) ≡ None
exited_none machine state frames pending argument status = refl

returned_none : (machine : Machine) (state : State) → plan machine (with_all state [] 0 0 None) ≡ None
returned_none machine state = refl

not_zero : (place : ℕ) → (suc place == 0) ≡ false
not_zero place = ne_eqb (suc place) 0 (λ same. absurd (cc same))

uncaught_none : (machine : Machine) (state : State) (place argument : ℕ) → plan machine (with_all state [] (suc place) argument None) ≡ None
uncaught_none machine state place argument = rw (not_zero place) (go (object_at (with_all state [] (suc place) argument None) (suc place))) where
  none : Object → Option Plan
  none object = None

  go : (found : Option Object) → option_and_then none found ≡ None
  go None = refl
  go (Some object) = refl

abbrev without_frames : ℕ → ℕ → Outcome
without_frames pending argument = if pending == 0 then (if argument == 0 then Returned else Running) else Uncaught pending

abbrev by_frames : ℕ → ℕ → List Frame → Outcome
by_frames pending argument [] = without_frames pending argument
by_frames pending argument (frame ∷ below) = Running

abbrev by_exit : Roots → Option ℤ → Outcome
by_exit roots None = by_frames roots.pending roots.argument roots.frames
by_exit roots (Some status) = Exited status

planned_runs : (machine : Machine) (state : State) (own : Plan) → plan machine state ≡ Some own → outcome state ≡ Running
planned_runs machine state own is = go state.exit refl state.roots.frames refl state.roots.pending refl state.roots.argument refl where
  same : (exit : Option ℤ) → state.exit ≡ exit → (frames : List Frame) → state.roots.frames ≡ frames → (pending : ℕ) → state.roots.pending ≡ pending → (argument : ℕ)
      → state.roots.argument ≡ argument → state ≡ with_all state frames pending argument exit
  same exit ends frames stand pending waits argument held =
      ap (λ (exit : Option ℤ). with_all state state.roots.frames state.roots.pending state.roots.argument exit) ends
      ∙ ap (λ (frames : List Frame). with_all state frames state.roots.pending state.roots.argument exit) stand
      ∙ ap₂ (λ (pending argument : ℕ). with_all state frames pending argument exit) waits held

  go : (exit : Option ℤ) → state.exit ≡ exit → (frames : List Frame) → state.roots.frames ≡ frames → (pending : ℕ) → state.roots.pending ≡ pending → (argument : ℕ)
      → state.roots.argument ≡ argument → outcome state ≡ Running
  go (Some status) ends frames stand pending waits argument held =
      never (sym (exited_none machine state frames pending argument status) ∙ sym (ap (plan machine) (same (Some status) ends frames stand pending waits argument held)) ∙ is)
  go None ends (first ∷ below) stand pending waits argument held =
      ap (by_exit state.roots) ends ∙ ap (by_frames state.roots.pending state.roots.argument) stand
  go None ends [] stand zero waits zero held =
      never (sym (returned_none machine state) ∙ sym (ap (plan machine) (same None ends [] stand 0 waits 0 held)) ∙ is)
  go None ends [] stand zero waits (suc place) held =
      ap (by_exit state.roots) ends ∙ ap (by_frames state.roots.pending state.roots.argument) stand ∙ ap₂ without_frames waits held
      ∙ ap (λ (test : Bool). if test then Returned else Running) (not_zero place)
  go None ends [] stand (suc place) waits argument held =
      never (sym (uncaught_none machine state place argument) ∙ sym (ap (plan machine) (same None ends [] stand (suc place) waits argument held)) ∙ is)

-- so one whose run has ended has none
pub ended_stays : (machine : Machine) (state : State) → ¬ (outcome state ≡ Running) → step machine state ≡ None
ended_stays machine state ended = go (plan machine state) refl where
  go : (found : Option Plan) → plan machine state ≡ found → option_map made found ≡ None
  go None is = refl
  go (Some own) is = absurd (ended (planned_runs machine state own is))

-- ---- the states of a run

abbrev or_same : State → Option State → State
or_same state None = state
or_same state (Some next) = next

module _ (machine : Machine) (linked : IsLinked machine.program) (fits : IsTyped machine.program) where
  goes_on : (state : State) → IsTypedState machine.program state → outcome state ≡ Running → Advances machine state
  goes_on state typed goes =
      running_advances machine state linked fits typed goes (λ frame below idle frames calls. natives_advance machine state frame below linked fits typed idle frames calls)

  next_typed : (state : State) → IsTypedState machine.program state → IsTypedState machine.program (next machine state)
  next_typed state typed = go (plan machine state) refl where
    go : (found : Option Plan) → plan machine state ≡ found → IsTypedState machine.program (next machine state)
    go None is = subst (IsTypedState machine.program) (sym (ap (λ (found : Option Plan). or_same state (option_map made found)) is)) typed
    go (Some own) is =
        let on : Advances machine state = goes_on state typed (planned_runs machine state own is) in
        subst (IsTypedState machine.program) (sym (ap (λ (found : Option Plan). or_same state (option_map made found)) on.is)) on.typed

  after_typed : (steps : ℕ) (state : State) → IsTypedState machine.program state → IsTypedState machine.program (after machine steps state)
  after_typed zero state typed = typed
  after_typed (suc steps) state typed = after_typed steps (next machine state) (next_typed state typed)

  pub run_typed : (arguments : List (List ℕ)) (input : List ℕ) → AllByRecursion IsText arguments → length arguments ≤ most_elements → IsInput input → (steps : ℕ)
      → IsTypedState machine.program (at machine arguments input steps)
  run_typed arguments input texts short bytes steps =
      after_typed steps (start machine arguments input) (start_is_typed machine arguments input (has_start machine.program linked) texts short bytes)

  pub run_goes : (arguments : List (List ℕ)) (input : List ℕ) → AllByRecursion IsText arguments → length arguments ≤ most_elements → IsInput input → (steps : ℕ)
      → outcome (at machine arguments input steps) ≡ Running → (own : State) × (step machine (at machine arguments input steps) ≡ Some own)
  run_goes arguments input texts short bytes steps goes =
      let on : Advances machine (at machine arguments input steps) = goes_on (at machine arguments input steps) (run_typed arguments input texts short bytes steps) goes in
      (made on.plan, ap (option_map made) on.is)

pub states_advance : (machine : Machine) (state : State) → IsLinked machine.program → IsTyped machine.program → IsTypedState machine.program state
    → outcome state ≡ Running → Advances machine state
states_advance machine state linked fits typed goes = goes_on machine linked fits state typed goes
