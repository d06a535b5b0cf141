-- A class is being initialised: what comes before its own initialiser, that one, and its end.
use Rattle.std.proofs.Common.{◌≡◌, ◌∙◌, ap, arith, refl, sym, subst, ℤ, ℕ, ◌+◌, ◌<◌, ◌==◌, Bool, true, false, List, [], ◌∷◌, length, get_or, nat_lt, Option, Some, None, option_and_then, option_map, slice_get, if◌then◌else◌}
use Rattle.std.proofs.lemmas.Bool.{ltb-true}
use Rattle.std.proofs.lemmas.List.{length-set}
use Rattle.std.proofs.lemmas.Option.{slice_get-get_or}
use Rattle.cb_link.specs.Calls.{initial_parents, initialiser}
use Rattle.cb_link.specs.Numbers.{ranked_methods}
use Rattle.cb_link.specs.Program.{Linked}
use Rattle.cb_link.proofs.Laws.{initial_within}
use Rattle.cb_machine.specs.Entering.{entered_upon}
use Rattle.cb_machine.specs.Initialising.{begun_upon, initialising}
use Rattle.cb_machine.specs.Machine.{Machine, body_of}
use Rattle.cb_machine.specs.Plans.{Plan, leaving, made}
use Rattle.cb_machine.specs.Sites.{no_class_definition, stack_overflow}
use Rattle.cb_machine.specs.Steps.{plan}
use Rattle.cb_machine.specs.Throwing.{throws}
use Rattle.cb_plain.specs.Depth.{frame_of, has_room}
use Rattle.cb_plain.specs.State.{Frame, Initialising, OfMethod, State}
use Rattle.cb_plain.specs.Updates.{with_class, with_frames}
use Rattle.cb_plain.specs.declared.class_state.ClassState.{ClassState}
use Rattle.cb_plain.specs.declared.class_state.ClassState.TheVariants.{Done, Failed, Untouched}
use Rattle.cb_safety.specs.Advancing.{Advances}
use Rattle.cb_safety.specs.Frames.{AreBelow, AreStanding}
use Rattle.cb_safety.specs.Initialisers.{HasInitialisers, IsInitialiser, entry_frame}
use Rattle.cb_safety.specs.Kinds.{Kinds, kinds_of}
use Rattle.cb_safety.specs.States.{AreFrames, IsTypedState}
use Rattle.cb_safety.specs.Strings.{HasConstants}
use Rattle.cb_safety.specs.Throwing.{AreThrown}
use Rattle.cb_safety.proofs.Begun.{begun_typed}
use Rattle.cb_safety.proofs.Going.{Planned, advances_by, standing_frames, with_topmost}
use Rattle.cb_safety.proofs.Throwing.{throws_typed}

-- ---- the frames below

record IsInitialising (program : Linked) (kinds : Kinds) (class : ℕ) (below : List Frame) : Type 0 where
  pub low : class < length program.classes
  pub standing : AreStanding program kinds below

initialising_in : (program : Linked) (kinds : Kinds) (class place : ℕ) (below : List Frame) → AreStanding program kinds (Initialising class place ∷ below) → IsInitialising program kinds class below
initialising_in program kinds class place below (AreStanding.AnInitialisation own at others low standing) = record { low = low; standing = standing }

-- ---- what is planned

abbrev finished : State → List Frame → ℕ → Plan
finished state below class = leaving (with_class (with_frames state below) class Done)

abbrev behind_parent : Machine → State → List Frame → ℕ → ClassState → Plan
behind_parent machine state frames parent Untouched = begun_upon machine state frames parent
behind_parent machine state frames parent Failed = throws machine (with_frames state frames) no_class_definition
behind_parent machine state frames parent other = leaving (with_frames state frames)

module _ (machine : Machine) (state : State) (class place : ℕ) (below : List Frame) (constants : HasConstants machine.program) (thrown : AreThrown machine.program)
    (initialisers : HasInitialisers machine.program) (typed : IsTypedState machine.program state) (runs : state.roots.pending ≡ 0)
    (is : IsInitialising machine.program (kinds_of state.objects) class below) where
  abbrev kinds : Kinds
  kinds = kinds_of state.objects

  -- the frame of the class at its next place
  abbrev onwards : List Frame
  onwards = Initialising class (place + 1) ∷ below

  stands_on : AreStanding machine.program kinds onwards
  stands_on = AreStanding.AnInitialisation class (place + 1) below is.low is.standing

  -- it is done
  finished_planned : Planned machine.program (Some (finished state below class))
  finished_planned = record {
    plan = finished state below class;
    is = refl;
    typed = record {
      heap = typed.heap;
      roots = record {
        frames = subst (λ (pending : ℕ). AreFrames machine.program kinds pending below) (sym runs) (AreFrames.Running below is.standing);
        statics = typed.roots.statics;
        classes = length-set state.roots.classes class Done ∙ typed.roots.classes;
        tables = typed.roots.tables;
        argument = typed.roots.argument;
      };
      input = typed.input;
    };
  }

  -- a class before it
  behind_typed : (parent : ℕ) → parent < length machine.program.classes → (now : ClassState) → IsTypedState machine.program (made (behind_parent machine state onwards parent now))
  behind_typed parent low Untouched = begun_typed machine constants state typed runs thrown onwards parent low stands_on
  behind_typed parent low Failed =
      throws_typed machine (with_frames state onwards) no_class_definition (with_topmost machine.program state onwards typed runs stands_on) (thrown no_class_definition (8, omega arith, refl))
  behind_typed parent low other = with_topmost machine.program state onwards typed runs stands_on

  abbrev parent_plan : ℕ → Option Plan
  parent_plan parent = option_map (behind_parent machine state onwards parent) (slice_get state.roots.classes parent)

  parent_planned : place < length (initial_parents machine.program.classes class)
      → Planned machine.program (option_and_then parent_plan (slice_get (initial_parents machine.program.classes class) place))
  parent_planned short =
      let parents : List ℕ = initial_parents machine.program.classes class in
      let parent : ℕ = get_or parents place 0 in
      let there : slice_get parents place ≡ Some parent = slice_get-get_or parents place 0 short in
      let low : parent < length machine.program.classes = initial_within machine.program.classes (ranked_methods machine.program.classes) class place parent there in
      let many : length state.roots.classes ≡ length machine.program.classes = typed.roots.classes in
      let now : ClassState = get_or state.roots.classes parent Untouched in
      record {
        plan = behind_parent machine state onwards parent now;
        is = ap (option_and_then parent_plan) there
            ∙ ap (option_map (behind_parent machine state onwards parent)) (slice_get-get_or state.roots.classes parent Untouched (omega (arith, low, many)));
        typed = behind_typed parent low now;
      }

  -- its own initialiser
  entered_typed : (method : ℕ) → (own : IsInitialiser machine.program method) → (room : Bool)
      → IsTypedState machine.program
      (made (if room then leaving (with_frames state (frame_of method own.body.max_locals own.body.max_stack [] ∷ onwards)) else throws machine state stack_overflow))
  entered_typed method own true =
      with_topmost machine.program state (OfMethod (entry_frame method own.body) ∷ onwards) typed runs
      (AreStanding.AMethod (entry_frame method own.body) onwards (own.stands kinds)
      (subst (λ result. AreBelow machine.program kinds result onwards) (sym own.gives) (AreBelow.AnInitialiser class (place + 1) below is.low is.standing)))
  entered_typed method own false = throws_typed machine state stack_overflow typed (thrown stack_overflow (6, omega arith, refl))

  abbrev own_plan : Option ℕ → Option Plan
  own_plan None = Some (finished state below class)
  own_plan (Some method) = option_map (entered_upon machine state onwards method []) (body_of machine.program method)

  own_planned : (found : Option ℕ) → initialiser machine.program.classes class ≡ found → Planned machine.program (own_plan found)
  own_planned None told = finished_planned
  own_planned (Some method) told =
      let own = initialisers class method told in
      record {
        plan = entered_upon machine state onwards method [] own.body;
        is = ap (option_map (entered_upon machine state onwards method [])) own.is;
        typed = entered_typed method own (has_room machine.frames onwards (own.body.max_locals + own.body.max_stack));
      }

  -- by its place
  abbrev tail_plan : Bool → Option Plan
  tail_plan last = if last then own_plan (initialiser machine.program.classes class) else Some (finished state below class)

  tail_planned : (last : Bool) → Planned machine.program (tail_plan last)
  tail_planned true = own_planned (initialiser machine.program.classes class) refl
  tail_planned false = finished_planned

  initialising_planned : Planned machine.program (initialising machine state below class place)
  initialising_planned = by (nat_lt place (length parents)) refl
    where
      parents : List ℕ
      parents = initial_parents machine.program.classes class

      by : (short : Bool) → nat_lt place (length parents) ≡ short
          → Planned machine.program (if short then option_and_then parent_plan (slice_get parents place) else tail_plan (place == length parents))
      by true short = parent_planned (ltb-true place (length parents) short)
      by false short = tail_planned (place == length parents)

-- ---- the law

abbrev with_all : State → List Frame → ℕ → Option ℤ → State
with_all state frames pending exit = record {
  roots = record {
    frames = frames;
    pending = pending;
    statics = state.roots.statics;
    classes = state.roots.classes;
    tables = state.roots.tables;
    argument = state.roots.argument;
  };
  objects = state.objects;
  input = state.input;
  printed = state.printed;
  exit = exit;
}

abbrev Runs : Machine → ℕ → ℕ → List Frame → State → Type 0
Runs machine class place below state = plan machine state ≡ initialising machine state below class place

runs_with : (machine : Machine) (state : State) (class place : ℕ) (below : List Frame) → Runs machine class place below (with_all state (Initialising class place ∷ below) 0 None)
runs_with machine state class place below = refl

pub initialising_advances : (machine : Machine) (state : State) (class place : ℕ) (below : List Frame) → HasConstants machine.program → AreThrown machine.program
    → HasInitialisers machine.program → IsTypedState machine.program state → state.exit ≡ None → state.roots.pending ≡ 0 → state.roots.frames ≡ Initialising class place ∷ below
    → Advances machine state
initialising_advances machine state class place below constants thrown initialisers typed none idle frames =
    advances_by machine state (initialising machine state below class place)
    (subst (Runs machine class place below) (sym same) (runs_with machine state class place below))
    (initialising_planned machine state class place below constants thrown initialisers typed idle
    (initialising_in machine.program (kinds_of state.objects) class place below
    (subst (AreStanding machine.program (kinds_of state.objects)) frames
    (standing_frames machine.program (kinds_of state.objects) state.roots.pending state.roots.frames typed.roots.frames idle))))
  where
    same : state ≡ with_all state (Initialising class place ∷ below) 0 None
    same =
        ap (λ (exit : Option ℤ). with_all state state.roots.frames state.roots.pending exit) none
        ∙ ap (λ (pending : ℕ). with_all state state.roots.frames pending None) idle
        ∙ ap (λ (frames : List Frame). with_all state frames 0 None) frames
