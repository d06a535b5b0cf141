-- Turns in which an initialisation goes on, in a typed state of a linked program.
use Rattle.std.proofs.Common.{◌≡◌, ◌∙◌, ap, ap₂, refl, sym, subst, ℕ, ◌<◌, ◌≤◌, arith, true, List, [], ◌∷◌, length, map, Option, Some, None, slice_get}
use Rattle.std.proofs.lemmas.Option.{same_Some, slice_get_within}
use Rattle.std.specs.Prelude.{is_some, option_map}
use Rattle.cb_frames.specs.Tops.{topmost}
use Rattle.cb_frames.specs.declared.frame.Frame.TheVariants as shown
use Rattle.cb_heap.specs.Reading.{read_frame, read_roots, seen, serial_of}
use Rattle.cb_link.specs.Calls.{initial_parents}
use Rattle.cb_link.specs.Program.{Linked}
use Rattle.cb_machine.specs.Initialising.{initialising}
use Rattle.cb_machine.specs.Machine.{Machine}
use Rattle.cb_machine.specs.Steps.{plan}
use Rattle.cb_plain.specs.State.{Frame, Initialising, Object, OfMethod, Roots, State}
use Rattle.cb_safety.proofs.Laws.{states_advance}
use Rattle.cb_safety.specs.Advancing.{Advances}
use Rattle.cb_safety.specs.Linked.{IsLinked}
use Rattle.cb_safety.specs.States.{IsTypedState}
use Rattle.cb_unwind.proofs.Laws.{initialised_read, initialising_so}
use Rattle.cb_unwind.specs.declared.answers.InitStep.{InitStep}
use Rattle.cb_unwind.specs.Begun.{NumbersOnly}
use Rattle.cb_unwind.specs.Initialised.{IsOnTop, NumbersNext, initialised}
use Rattle.cb_unwind.specs.Steps.{init_plan}
use Rattle.cb_verify.specs.Typed.{IsTyped}
use Rattle.cb_act.specs.Turning.{Outside, machine_of, state_of}
use Rattle.cb_interp.proofs.TurnsFrame.{first_of, runs_on}
use Rattle.cb_interp.proofs.TurnsSwitched.{top_again}

-- constants of the one class that is looked at next
pub numbers_found : (program : Linked) (parents : List ℕ) (place one : ℕ) → slice_get parents place ≡ Some one → NumbersOnly program one
    → (parent : ℕ) → slice_get parents place ≡ Some parent → NumbersOnly program parent
numbers_found program parents place one at numbers parent is = subst (NumbersOnly program) (same_Some one parent (sym at ∙ is)) numbers

pub numbers_past : (program : Linked) (parents : List ℕ) (place : ℕ) → length parents ≤ place → (parent : ℕ) → slice_get parents place ≡ Some parent → NumbersOnly program parent
numbers_past program parents place past parent is =
    let low : place < length parents = slice_get_within parents place parent is in absurd (omega (arith, past, low))

pub numbers_next : (program : Linked) (held : Roots) (class place : ℕ) → IsOnTop held class place
    → ((parent : ℕ) → slice_get (initial_parents program.classes class) place ≡ Some parent → NumbersOnly program parent) → NumbersNext program held
numbers_next program held class place top each own at parent other there =
    let same : Some (shown.Initialising class place) ≡ Some (shown.Initialising own at) = top ∙ sym other in
    let one : class ≡ own = cc same in
    let two : place ≡ at = cc same in
    each parent (ap₂ (λ (class place : ℕ). slice_get (initial_parents program.classes class) place) one two ∙ there)

pub initial_plan : (machine : Machine) (state : State) (class place : ℕ) (below : List Frame) → state.exit ≡ None → state.roots.pending ≡ 0
    → state.roots.frames ≡ Initialising class place ∷ below → plan machine state ≡ initialising machine state below class place
initial_plan machine state class place below runs quiet frames = rw (runs, quiet, frames) refl

-- there is a step
module _ (program : Linked) (index : ℕ → ℕ) (objects : List (Option Object)) (held : Roots) (outside : Outside) (limit : ℕ) where
  abbrev state : State
  state = state_of (seen index objects held) outside

  abbrev machine : Machine
  machine = machine_of program limit

  pub initial_there : IsTypedState program state → IsLinked program → IsTyped program → held.pending ≡ 0 → (class place : ℕ) → IsOnTop held class place → NumbersNext program held
      → is_some (initialised program limit held) ≡ true
  initial_there typed linked fits quiet class place top numbers = go held.frames refl where
    advances : Advances machine state
    advances = states_advance machine state linked fits typed (runs_on program index objects held outside (first_of (shown.Initialising class place) held.frames top))

    read : NumbersNext program state.roots
    read class place parent top there = numbers class place parent (top ∙ top_again index held) there

    there : (found : Option (InitStep × Roots)) → initialised program limit held ≡ found
        → plan machine state ≡ option_map (init_plan machine state) (option_map (λ gone. (gone.0, read_roots index gone.1)) (initialised program limit held)) → is_some found ≡ true
    there (Some gone) is plans = refl
    there None is plans =
        let none : plan machine state ≡ None = plans ∙ ap (λ (found : Option (InitStep × Roots)). option_map (init_plan machine state) (option_map (λ gone. (gone.0, read_roots index gone.1)) found)) is in
        absurd (cc (sym none ∙ advances.is))

    go : (frames : List Frame) → held.frames ≡ frames → is_some (initialised program limit held) ≡ true
    go [] is = absurd (cc (top ∙ ap topmost is))
    go (OfMethod frame ∷ below) is = absurd (cc (top ∙ ap topmost is))
    go (Initialising own at ∷ below) is =
        let frames : state.roots.frames ≡ Initialising own at ∷ map (read_frame index) below = ap (map (read_frame index)) is in
        there (initialised program limit held) refl
        (initial_plan machine state own at (map (read_frame index) below) refl (ap (serial_of index) quiet) frames
        ∙ initialising_so machine state own at (map (read_frame index) below) frames read
        ∙ ap (option_map (init_plan machine state)) (initialised_read program index held limit))
