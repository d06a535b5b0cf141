-- Calls, beside another input and other printed bytes, by whether they read.
use Rattle.std.proofs.Common.{inr, inl, ◌⊎◌, ◌≡◌, ◌∙◌, ap, refl, sym, ℕ, List, [], ◌∷◌, ◌++◌, reverse, Bool, true, false, Option, Some, None, zero, suc, ◌&&◌, if◌then◌else◌}
use Rattle.std.specs.Prelude.{option_and_then, option_map, slice_get}
use Rattle.std.specs.List.{flat_map, fold}
use Rattle.cb_classfile.specs.declared.body.Body.{Body}
use Rattle.cb_classfile.specs.declared.method.Method.{Method}
use Rattle.cb_hierarchy.specs.declared.selected.Selected.{Selected}
use Rattle.cb_hierarchy.specs.declared.selected.Selected.TheVariants as chosen
use Rattle.cb_kinds.specs.Texts.{number_of}
use Rattle.cb_library.specs.declared.native.Native.{Native}
use Rattle.cb_link.specs.Calls.{select}
use Rattle.cb_link.specs.Named.{behind_in, code_at}
use Rattle.cb_link.specs.Numbers.{Numbered, class_number}
use Rattle.cb_link.specs.Special.{holder_named, special}
use Rattle.cb_link.specs.declared.named.Named.{Named}
use Rattle.cb_link.specs.declared.named.Named.TheVariants as meanings
use Rattle.cb_machine.specs.Arrays.{with_object}
use Rattle.cb_machine.specs.Calling.{answered, asked_sorts, by_method, calls, implementing, invokes_interface, invokes_special, invokes_static, invokes_virtual, is_private_method}
use Rattle.cb_machine.specs.Entering.{entered_upon}
use Rattle.cb_machine.specs.Initialising.{begun_upon}
use Rattle.cb_machine.specs.Machine.{class_declaring, method_numbered}
use Rattle.cb_machine.specs.Natives.{native_of, performed}
use Rattle.cb_machine.specs.Performing.{Performed, Gives, Stops}
use Rattle.cb_machine.specs.Plans.{Placing, Plan, wants_of, with_left}
use Rattle.cb_machine.specs.Sites.{abstract_method, incompatible_class_change, no_class_definition}
use Rattle.cb_machine.specs.Standing.{Now, at_place, named_here, taken, with_stack}
use Rattle.cb_machine.specs.Steps.{asked_of}
use Rattle.cb_machine.specs.Throwing.{throws}
use Rattle.cb_plain.specs.declared.class_state.ClassState.{ClassState}
use Rattle.cb_plain.specs.declared.class_state.ClassState.TheVariants as states
use Rattle.cb_plain.specs.declared.value.Value.{Value}
use Rattle.cb_plain.specs.declared.value.Value.TheVariants as values
use Rattle.cb_plain.specs.Requests.{add_want}
use Rattle.cb_plain.specs.State.{MethodFrame, Object, OfMethod}
use Rattle.cb_plain.specs.Updates.{object_at, with_frames}
use Rattle.cb_shapes.specs.declared.sort.Sort.TheVariants as sorts
use Rattle.cb_beside.specs.Asking.{is_reader, is_ready, reads_by_body, reads_by_class, reads_by_method, reads_called, reads_interface, reads_on, reads_received, reads_selected, reads_special, reads_static, reads_taken, reads_virtual}
use Rattle.cb_beside.specs.Beside.{beside, now_in, performed_beside, plan_beside}
use Rattle.cb_beside.proofs.Going.{Same, map_same}
use Rattle.cb_beside.proofs.Goes.{GivesBare, GivesOne, Goes, Quiet, TakesOne, and_goes, plain}
use Rattle.cb_beside.proofs.Initial.{begun_same, entered_same}
use Rattle.cb_beside.proofs.NativesGo.{native_goes}

-- the place behind the instruction
abbrev after : Now → Option ℕ
after now = behind_in (code_at now.machine.program now.frame.method) now.frame.pc

-- what a call comes to
abbrev by_native : Now → List Value → Performed → Option Plan
by_native now rest (Stops plan) = Some plan
by_native now rest (Gives plan answer) =
    option_map (λ frame. with_left plan (with_frames plan.left (OfMethod frame ∷ now.below))) (answered now.machine.program (with_stack now.frame rest) answer)

abbrev throws_abstract : Now → Option Plan
throws_abstract now = Some (throws now.machine now.state abstract_method)

abbrev without_body : Now → List Value → List Value → Option Native → Option Plan
without_body now arguments rest None = throws_abstract now
without_body now arguments rest (Some native) = option_and_then (by_native now rest) (performed now.machine now.state native arguments)

abbrev by_body : Now → ℕ → List Value → List Value → Option Body → Option Plan
by_body now method arguments rest None = without_body now arguments rest (native_of now.machine.program method)
by_body now method arguments rest (Some body) =
    Some (entered_upon now.machine now.state (OfMethod (with_stack now.frame rest) ∷ now.below) method arguments body)

abbrev receives : Now → (ℕ → Selected) → List Value → List Value → Option Plan
receives now choose (values.Ref serial ∷ arguments) rest =
    with_object now serial (λ object. by_method now (values.Ref serial ∷ arguments) rest (choose object.kind))
receives now choose other rest = None

abbrev calls_taken : Now → (ℕ → Selected) → List Value × List Value → Option Plan
calls_taken now choose taken = receives now choose (reverse taken.0) taken.1

abbrev invokes_ready : Now → ℕ → Option Plan
invokes_ready now method =
    option_and_then (λ held. by_method now (reverse held.0) held.1 (chosen.Method method)) (taken (asked_sorts now.machine.program method) now.frame.stack)

abbrev by_state : Now → ℕ → Option Plan → ClassState → Option Plan
by_state now class ready states.Untouched = Some (begun_upon now.machine now.state now.state.roots.frames class)
by_state now class ready states.Failed = Some (throws now.machine now.state no_class_definition)
by_state now class ready states.Busy = ready
by_state now class ready states.Done = ready

abbrev invokes_class : Now → ℕ → Option ℕ → Option Plan
invokes_class now method None = None
invokes_class now method (Some class) = option_and_then (by_state now class (invokes_ready now method)) (slice_get now.state.roots.classes class)

abbrev static_named : Now → Named → Option Plan
static_named now (meanings.Method method) = invokes_class now method (class_declaring now.machine.program method)
static_named now other = None

abbrev virtual_named : Now → Named → Option Plan
virtual_named now (meanings.Method method) = calls now (λ kind. select now.machine.program kind method) method
virtual_named now other = None

abbrev special_named : Now → ℕ → Named → Option Plan
special_named now index (meanings.Method method) =
    calls now (λ kind. special now.machine.program method (class_declaring now.machine.program now.frame.method)
    (option_and_then (class_number now.machine.program.classes) (holder_named now.machine.program now.frame.method index))) method
special_named now index other = None

abbrev of_interface : Now → ℕ → ℕ → Option Plan
of_interface now index method =
    calls now (implementing now.machine.program method (option_and_then (number_of now.machine.program.kinds) (holder_named now.machine.program now.frame.method index))) method

abbrev unless_private : Now → ℕ → ℕ → Bool → Option Plan
unless_private now index method is = if is then Some (throws now.machine now.state incompatible_class_change) else of_interface now index method

abbrev interface_named : Now → ℕ → Named → Option Plan
interface_named now index (meanings.Method method) = unless_private now index method (is_private_method now.machine.program method)
interface_named now index other = None

module _ (now : Now) where
  abbrev at : List ℕ → List ℕ → Now
  at input printed = now_in now (beside now.state input printed)

  -- a piece goes so, by whether it reads
  abbrev pub Steps : Bool → (Now → Option Plan) → Type 0
  Steps reads piece = Goes reads plan_beside TakesOne now.state.input (λ input printed. piece (at input printed)) (piece now)

  pub silent : (reads : Bool) (piece : Now → Option Plan) → ((input printed : List ℕ) → Same input printed (piece (at input printed)) (piece now)) → Steps reads piece
  silent reads piece same = plain plan_beside TakesOne now.state.input reads (λ input printed. piece (at input printed)) (piece now) same

  -- natives
  native_after : (rest : List Value) (input printed : List ℕ) (found : Option Performed)
      → Same input printed (option_and_then (by_native now rest) (option_map (performed_beside input printed) found)) (option_and_then (by_native now rest) found)
  native_after rest input printed None = refl
  native_after rest input printed (Some (Stops plan)) = refl
  native_after rest input printed (Some (Gives plan answer)) =
      map_same input printed _ _ (answered now.machine.program (with_stack now.frame rest) answer) (λ frame. refl)

  performed_quiet : (rest : List Value) (piece : List ℕ → List ℕ → Option Performed) (own : Option Performed) → Quiet performed_beside piece own
      → Quiet plan_beside (λ input printed. option_and_then (by_native now rest) (piece input printed)) (option_and_then (by_native now rest) own)
  performed_quiet rest piece own goes =
      record { said = goes.said; same = λ input printed. ap (option_and_then (by_native now rest)) (goes.same input printed) ∙ native_after rest input (printed ++ goes.said) own }

  -- a byte that a native takes is taken, unless there is no instruction behind the call: then there is no step, whatever the input
  never : (rest : List Value) → after now ≡ None → (found : Option Performed) → GivesBare found → option_and_then (by_native now rest) found ≡ None
  never rest is None given = absurd given
  never rest is (Some (Stops plan)) given = absurd given
  never rest is (Some (Gives plan answer)) given = rw is refl

  -- and what takes one places nothing
  frame_asks : (plan : Plan) → plan.placed ≡ [] → (found : Option MethodFrame)
      → asked_of (option_map (λ frame. with_left plan (with_frames plan.left (OfMethod frame ∷ now.below))) found) ≡ []
  frame_asks plan bare None = refl
  frame_asks plan bare (Some frame) = ap (λ (placed : List Placing). fold add_want [] (flat_map wants_of placed)) bare

  bare_asks : (rest : List Value) (found : Option Performed) → GivesBare found → asked_of (option_and_then (by_native now rest) found) ≡ []
  bare_asks rest None given = absurd given
  bare_asks rest (Some (Stops plan)) given = absurd given
  bare_asks rest (Some (Gives plan answer)) given = frame_asks plan given (answered now.machine.program (with_stack now.frame rest) answer)

  performed_takes : (rest : List Value) (piece : List ℕ → List ℕ → Option Performed) (own : Option Performed) → GivesOne piece own → (next : Option ℕ) → after now ≡ next
      → Quiet plan_beside (λ input printed. option_and_then (by_native now rest) (piece input printed)) (option_and_then (by_native now rest) own)
      ⊎ TakesOne (λ input printed. option_and_then (by_native now rest) (piece input printed)) (option_and_then (by_native now rest) own)
  performed_takes rest piece own takes None is =
      inl (record {
        said = [];
        same = λ input printed.
            never rest is (piece input printed) (takes.each input printed) ∙ sym (ap (option_map (plan_beside input (printed ++ []))) (never rest is own takes.given));
      })
  performed_takes rest piece own takes (Some pc) is =
      inr (record {
        left = with_left takes.left
            (with_frames takes.left.left (OfMethod (at_place (with_stack now.frame rest) pc now.frame.locals (takes.answer ++ rest)) ∷ now.below));
        takes = λ printed. ap (option_and_then (by_native now rest)) (takes.takes printed) ∙ rw is refl;
        each = λ input printed. bare_asks rest (piece input printed) (takes.each input printed);
        asks = bare_asks rest own takes.given;
      })

  performed_goes : (reads : Bool) (rest : List Value) (piece : List ℕ → List ℕ → Option Performed) (own : Option Performed)
      → Goes reads performed_beside GivesOne now.state.input piece own
      → Goes reads plan_beside TakesOne now.state.input (λ input printed. option_and_then (by_native now rest) (piece input printed)) (option_and_then (by_native now rest) own)
  performed_goes false rest piece own goes = performed_quiet rest piece own goes
  performed_goes true rest piece own goes =
      record {
        read = goes.read;
        rest = goes.rest;
        front = goes.front;
        same = λ other printed only. ap (option_and_then (by_native now rest)) (goes.same other printed only) ∙ native_after rest other printed own;
        turns = elim goes.turns [ inl quiet ↦ inl (performed_quiet rest piece own quiet) | inr takes ↦ performed_takes rest piece own takes (after now) refl ];
      }

  -- methods
  without_goes : (arguments rest : List Value) (native : Option Native) → Steps (is_reader native) (λ now. without_body now arguments rest native)
  without_goes arguments rest None = silent false throws_abstract (λ input printed. refl)
  without_goes arguments rest (Some native) =
      performed_goes (is_reader (Some native)) rest
      (λ input printed. performed now.machine (beside now.state input printed) native arguments) (performed now.machine now.state native arguments)
      (native_goes (record { machine = now.machine; state = now.state }) native arguments)

  body_goes : (method : ℕ) (arguments rest : List Value) (body : Option Body) → Steps (reads_by_body now.machine.program method body) (λ now. by_body now method arguments rest body)
  body_goes method arguments rest None = without_goes arguments rest (native_of now.machine.program method)
  body_goes method arguments rest (Some body) =
      silent false (λ now. by_body now method arguments rest (Some body))
      (λ input printed. ap Some (entered_same input printed now.machine now.state now.state (OfMethod (with_stack now.frame rest) ∷ now.below) method arguments body))

  numbered_goes : (method : ℕ) (arguments rest : List Value) (found : Option (Numbered Method))
      → Steps (reads_by_method now.machine.program method found) (λ now. option_and_then (λ numbered. by_body now method arguments rest numbered.member.body) found)
  numbered_goes method arguments rest None = silent false (λ now. None) (λ input printed. refl)
  numbered_goes method arguments rest (Some numbered) = body_goes method arguments rest numbered.member.body

  method_goes : (arguments rest : List Value) (selected : Selected) → Steps (reads_selected now.machine.program selected) (λ now. by_method now arguments rest selected)
  method_goes arguments rest (chosen.Method method) = numbered_goes method arguments rest (method_numbered now.machine.program method)
  method_goes arguments rest chosen.Abstract = silent false throws_abstract (λ input printed. refl)
  method_goes arguments rest chosen.Several = silent false (λ now. Some (throws now.machine now.state incompatible_class_change)) (λ input printed. refl)

  -- invokestatic
  ready_goes : (method : ℕ) → Steps (reads_selected now.machine.program (chosen.Method method)) (λ now. invokes_ready now method)
  ready_goes method =
      and_goes plan_beside TakesOne now.state.input (reads_selected now.machine.program (chosen.Method method))
      (λ held input printed. by_method (at input printed) (reverse held.0) held.1 (chosen.Method method))
      (λ held. by_method now (reverse held.0) held.1 (chosen.Method method))
      (λ held. method_goes (reverse held.0) held.1 (chosen.Method method))
      (taken (asked_sorts now.machine.program method) now.frame.stack)

  state_goes : (method class : ℕ) (state : Option ClassState)
      → Steps (is_ready state && reads_selected now.machine.program (chosen.Method method))
      (λ now. option_and_then (by_state now class (invokes_ready now method)) state)
  state_goes method class None = silent false (λ now. None) (λ input printed. refl)
  state_goes method class (Some states.Untouched) =
      silent false (λ now. Some (begun_upon now.machine now.state now.state.roots.frames class))
      (λ input printed. ap Some (begun_same input printed now.machine now.state now.state.roots.frames class))
  state_goes method class (Some states.Failed) = silent false (λ now. Some (throws now.machine now.state no_class_definition)) (λ input printed. refl)
  state_goes method class (Some states.Busy) = ready_goes method
  state_goes method class (Some states.Done) = ready_goes method

  class_goes : (method : ℕ) (class : Option ℕ) → Steps (reads_by_class now.machine.program now.state method class) (λ now. invokes_class now method class)
  class_goes method None = silent false (λ now. None) (λ input printed. refl)
  class_goes method (Some class) = state_goes method class (slice_get now.state.roots.classes class)

  static_goes : (named : Named) → Steps (reads_static now.machine.program now.state named) (λ now. static_named now named)
  static_goes (meanings.Method method) = class_goes method (class_declaring now.machine.program method)
  static_goes other = silent false (λ now. None) (λ input printed. refl)

  -- calls with a receiver
  module _ (choose : ℕ → Selected) where
    object_goes : (arguments rest : List Value) (found : Option Object)
        → Steps (reads_on now.machine.program choose found) (λ now. option_and_then (λ object. by_method now arguments rest (choose object.kind)) found)
    object_goes arguments rest None = silent false (λ now. None) (λ input printed. refl)
    object_goes arguments rest (Some object) = method_goes arguments rest (choose object.kind)

    receives_goes : (arguments rest : List Value)
        → Steps (reads_received now.machine.program now.state choose arguments) (λ now. receives now choose arguments rest)
    receives_goes (values.Ref zero ∷ arguments) rest = silent false (λ now. receives now choose (values.Ref 0 ∷ arguments) rest) (λ input printed. refl)
    receives_goes (values.Ref (suc place) ∷ arguments) rest = object_goes (values.Ref (suc place) ∷ arguments) rest (object_at now.state (suc place))
    receives_goes other rest = silent false (λ now. None) (λ input printed. refl)

    taken_goes : (found : Option (List Value × List Value))
        → Steps (reads_taken now.machine.program now.state choose found) (λ now. option_and_then (calls_taken now choose) found)
    taken_goes None = silent false (λ now. None) (λ input printed. refl)
    taken_goes (Some held) = receives_goes (reverse held.0) held.1

    calls_goes : (method : ℕ) → Steps (reads_called now.machine.program now.state now.frame choose method) (λ now. calls now choose method)
    calls_goes method = taken_goes (taken (asked_sorts now.machine.program method ++ sorts.Reference ∷ []) now.frame.stack)

  virtual_goes : (named : Named) → Steps (reads_virtual now.machine.program now.state now.frame named) (λ now. virtual_named now named)
  virtual_goes (meanings.Method method) = calls_goes (λ kind. select now.machine.program kind method) method
  virtual_goes other = silent false (λ now. None) (λ input printed. refl)

  special_goes : (index : ℕ) (named : Named) → Steps (reads_special now.machine.program now.state now.frame index named) (λ now. special_named now index named)
  special_goes index (meanings.Method method) =
      calls_goes (λ kind. special now.machine.program method (class_declaring now.machine.program now.frame.method)
      (option_and_then (class_number now.machine.program.classes) (holder_named now.machine.program now.frame.method index))) method
  special_goes index other = silent false (λ now. None) (λ input printed. refl)

  abbrev reads_of_interface : ℕ → ℕ → Bool
  reads_of_interface index method =
      reads_called now.machine.program now.state now.frame
      (implementing now.machine.program method (option_and_then (number_of now.machine.program.kinds) (holder_named now.machine.program now.frame.method index))) method

  private_goes : (index method : ℕ) (is : Bool) → Steps (if is then false else reads_of_interface index method) (λ now. unless_private now index method is)
  private_goes index method true = silent false (λ now. Some (throws now.machine now.state incompatible_class_change)) (λ input printed. refl)
  private_goes index method false =
      calls_goes (implementing now.machine.program method (option_and_then (number_of now.machine.program.kinds) (holder_named now.machine.program now.frame.method index))) method

  interface_goes : (index : ℕ) (named : Named) → Steps (reads_interface now.machine.program now.state now.frame index named) (λ now. interface_named now index named)
  interface_goes index (meanings.Method method) = private_goes index method (is_private_method now.machine.program method)
  interface_goes index other = silent false (λ now. None) (λ input printed. refl)

  -- what the instruction names
  pub invokes_static_goes : Steps (reads_static now.machine.program now.state (named_here now)) invokes_static
  invokes_static_goes = static_goes (named_here now)

  pub invokes_virtual_goes : Steps (reads_virtual now.machine.program now.state now.frame (named_here now)) invokes_virtual
  invokes_virtual_goes = virtual_goes (named_here now)

  pub invokes_special_goes : (index : ℕ) → Steps (reads_special now.machine.program now.state now.frame index (named_here now)) (λ now. invokes_special now index)
  invokes_special_goes index = special_goes index (named_here now)

  pub invokes_interface_goes : (index : ℕ) → Steps (reads_interface now.machine.program now.state now.frame index (named_here now)) (λ now. invokes_interface now index)
  invokes_interface_goes index = interface_goes index (named_here now)
