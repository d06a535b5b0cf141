-- A turn in which main is entered, once its class is ready.
use Rattle.std.proofs.Common.{◌≡◌, ◌∙◌, ap, refl, sym, subst, arith, ℕ, ◌+◌, ◌-◌, ◌*◌, ◌<◌, ◌==◌, pos, Bool, true, false, List, [], ◌∷◌, length, map, nat_le, nat_lt, replicate, zero, suc, Option, Some, None, slice_get}
use Rattle.std.proofs.lemmas.Bool.{and_from, false≢true, le-leb, lt-ltb, ne_eqb}
use Rattle.std.proofs.lemmas.List.{length-replicate}
use Rattle.std.proofs.lemmas.Option.{none-some, same_Some}
use Rattle.std.specs.Prelude.{option_and_then, option_map, slice_set, if◌then◌else◌}
use Rattle.cb_classfile.specs.declared.body.Body.{Body}
use Rattle.cb_classfile.specs.declared.method.Method.{Method}
use Rattle.cb_frames.specs.Limited.{Limited}
use Rattle.cb_frames.specs.Tops.{entered, top_locals, topmost, with_local}
use Rattle.cb_heap.proofs.Laws.{reads_locals_of}
use Rattle.cb_heap.specs.Reading.{read_frame, read_roots, seen, serial_of}
use Rattle.cb_heap.specs.Rules.{Rules}
use Rattle.cb_link.specs.Numbers.{Numbered, methods_of}
use Rattle.cb_link.specs.Program.{Linked}
use Rattle.cb_link.specs.declared.linked.LinkedMethod.{LinkedMethod}
use Rattle.cb_machine.specs.Entering.{entered_from}
use Rattle.cb_machine.specs.Initialising.{begun_upon, once_ready}
use Rattle.cb_machine.specs.Machine.{Machine, body_of}
use Rattle.cb_machine.specs.Plans.{Plan, leaving, made}
use Rattle.cb_machine.specs.Runs.{outcome}
use Rattle.cb_machine.specs.Sites.{no_class_definition, stack_overflow}
use Rattle.cb_machine.specs.Steps.{plan}
use Rattle.cb_machine.specs.Throwing.{throws}
use Rattle.cb_machine.specs.declared.outcome.Outcome.TheVariants as outcomes
use Rattle.cb_plain.specs.Depth.{frame_of, has_room, locals_of, slots_each}
use Rattle.cb_plain.specs.Roots as roots
use Rattle.cb_plain.specs.State.{Frame, MethodFrame, Object, OfMethod, Roots, State}
use Rattle.cb_plain.specs.Updates.{with_argument, with_frames}
use Rattle.cb_plain.specs.declared.class_state.ClassState.{ClassState}
use Rattle.cb_plain.specs.declared.class_state.ClassState.TheVariants.{Busy, Done, Failed, Untouched}
use Rattle.cb_plain.specs.declared.value.Value.{Value}
use Rattle.cb_plain.specs.declared.value.Value.TheVariants.{Int, Ref}
use Rattle.cb_safety.proofs.Laws.{frames_fit, states_advance}
use Rattle.cb_safety.specs.Advancing.{Advances}
use Rattle.cb_safety.specs.Linked.{IsLinked}
use Rattle.cb_safety.specs.Room.{HasRoom}
use Rattle.cb_safety.specs.States.{IsTypedState}
use Rattle.cb_verify.specs.Typed.{IsTyped}
use Rattle.cb_verify.specs.Within.{Within, of_class, with_body, within}
use Rattle.cb_act.specs.Going.{is_ready}
use Rattle.cb_act.specs.Turning.{Outside, TurnMade, machine_of, moment_of, state_of}
use Rattle.cb_interp.proofs.TurnsMade.{quiet_turn}

-- ---- a method's code

pub body_so : (program : Linked) (number : ℕ) (member : Method) (body : Body)
    → option_map (λ (own : Numbered Method). own.member) (slice_get (methods_of program.classes) number) ≡ Some member → member.body ≡ Some body → body_of program number ≡ Some body
body_so program number member body there is = go (slice_get (methods_of program.classes) number) refl there where
  go : (found : Option (Numbered Method)) → slice_get (methods_of program.classes) number ≡ found → option_map (λ (own : Numbered Method). own.member) found ≡ Some member
      → body_of program number ≡ Some body
  go None at none = absurd (cc none)
  go (Some own) at some =
      ap (option_and_then (λ (own : Numbered Method). own.member.body)) at ∙ ap (λ (member : Method). member.body) (same_Some own.member member some) ∙ is

no_body : (program : Linked) (number : ℕ) (member : Method)
    → option_map (λ (own : Numbered Method). own.member) (slice_get (methods_of program.classes) number) ≡ Some member → member.body ≡ None → body_of program number ≡ None
no_body program number member there is = go (slice_get (methods_of program.classes) number) refl there where
  go : (found : Option (Numbered Method)) → slice_get (methods_of program.classes) number ≡ found → option_map (λ (own : Numbered Method). own.member) found ≡ Some member
      → body_of program number ≡ None
  go None at none = absurd (cc none)
  go (Some own) at some =
      ap (option_and_then (λ (own : Numbered Method). own.member.body)) at ∙ ap (λ (member : Method). member.body) (same_Some own.member member some) ∙ is

body_in : (program : Linked) (number : ℕ) (method : Within) (body : Body) (linked : Option LinkedMethod) (found : Option (Numbered Method))
    → option_and_then (λ (linked : LinkedMethod). option_and_then (of_class program number linked.class) (option_map (λ (own : Numbered Method). own.member) found)) linked ≡ Some method
    → option_and_then (λ (own : Numbered Method). own.member.body) found ≡ Some body → method.body ≡ body
body_in program number method body None found is own = absurd (cc is)
body_in program number method body (Some linked) None is own = absurd (cc is)
body_in program number method body (Some linked) (Some numbered) is own = go numbered.member.body is own where
  go : (code : Option Body) → with_body program number linked.class numbered.member code ≡ Some method → code ≡ Some body → method.body ≡ body
  go None is own = absurd (cc is)
  go (Some code) is own = sym (ap (λ (method : Within). method.body) (same_Some _ method is)) ∙ same_Some code body own

within_body : (program : Linked) (number : ℕ) (method : Within) (body : Body) → within program number ≡ Some method → body_of program number ≡ Some body → method.body ≡ body
within_body program number method body is own =
    body_in program number method body (slice_get program.methods number) (slice_get (methods_of program.classes) number) is own

-- ---- the step

module _ (machine : Machine) (state : State) where
  abbrev main_plan : Option Plan
  main_plan =
      option_map (entered_from machine state (with_argument state 0) [] machine.program.main_method (Ref state.roots.argument ∷ [])) (body_of machine.program machine.program.main_method)

  entering_so : (place : ℕ) → state.exit ≡ None → state.roots.pending ≡ 0 → state.roots.frames ≡ [] → state.roots.argument ≡ suc place
      → plan machine state ≡ once_ready machine state machine.program.main_class main_plan
  entering_so place runs quiet none waits = rw (runs, quiet, none, waits) refl

  untouched_so : (class : ℕ) (ready : Option Plan) → slice_get state.roots.classes class ≡ Some Untouched
      → once_ready machine state class ready ≡ Some (begun_upon machine state state.roots.frames class)
  untouched_so class ready is = rw is refl

  failed_so : (class : ℕ) (ready : Option Plan) → slice_get state.roots.classes class ≡ Some Failed → once_ready machine state class ready ≡ Some (throws machine state no_class_definition)
  failed_so class ready is = rw is refl

  ready_so : (class : ℕ) (ready : Option Plan) → is_ready (slice_get state.roots.classes class) ≡ true → once_ready machine state class ready ≡ ready
  ready_so class ready may = go (slice_get state.roots.classes class) refl may where
    go : (found : Option ClassState) → slice_get state.roots.classes class ≡ found → is_ready found ≡ true → once_ready machine state class ready ≡ ready
    go None is may = absurd (false≢true may)
    go (Some Untouched) is may = absurd (false≢true may)
    go (Some Failed) is may = absurd (false≢true may)
    go (Some Busy) is may = rw is refl
    go (Some Done) is may = rw is refl

module _ (program : Linked) (index : ℕ → ℕ) (objects : List (Option Object)) (held : Roots) (outside : Outside) where
  abbrev state : State
  state = state_of (seen index objects held) outside

  pub no_frames : topmost held.frames ≡ None → held.frames ≡ []
  no_frames none = go held.frames refl where
    go : (frames : List Frame) → held.frames ≡ frames → held.frames ≡ []
    go [] is = is
    go (frame ∷ below) is = absurd (cc (sym none ∙ ap topmost is))

  -- no array waits, and the run has ended
  pub returned : held.pending ≡ 0 → topmost held.frames ≡ None → held.argument ≡ 0 → outcome state ≡ outcomes.Returned
  returned quiet none idle = let frames = no_frames none in rw (frames, quiet, idle) refl

  module _ (quiet : held.pending ≡ 0) (none : topmost held.frames ≡ None) (some : 0 < held.argument) where
    entering : (limit : ℕ) → plan (machine_of program limit) state ≡ once_ready (machine_of program limit) state program.main_class (main_plan (machine_of program limit) state)
    entering limit = go held.argument refl where
      go : (argument : ℕ) → held.argument ≡ argument
          → plan (machine_of program limit) state ≡ once_ready (machine_of program limit) state program.main_class (main_plan (machine_of program limit) state)
      go zero is = absurd (omega (arith, some, is))
      go (suc place) is =
          entering_so (machine_of program limit) state (index (suc place)) refl (ap (serial_of index) quiet) (ap (map (read_frame index)) (no_frames none)) (ap (serial_of index) is)

    pub begins : (limit class : ℕ) → class ≡ program.main_class → slice_get held.classes class ≡ Some Untouched
        → plan (machine_of program limit) state ≡ Some (begun_upon (machine_of program limit) state state.roots.frames class)
    begins limit class same is =
        entering limit
        ∙ ap (λ (class : ℕ). once_ready (machine_of program limit) state class (main_plan (machine_of program limit) state)) (sym same)
        ∙ untouched_so (machine_of program limit) state class (main_plan (machine_of program limit) state) is

    pub fails : (limit class : ℕ) → class ≡ program.main_class → slice_get held.classes class ≡ Some Failed
        → plan (machine_of program limit) state ≡ Some (throws (machine_of program limit) state no_class_definition)
    fails limit class same is =
        entering limit
        ∙ ap (λ (class : ℕ). once_ready (machine_of program limit) state class (main_plan (machine_of program limit) state)) (sym same)
        ∙ failed_so (machine_of program limit) state class (main_plan (machine_of program limit) state) is

    waits_on : outcome state ≡ outcomes.Running
    waits_on = by held.argument refl where
      by : (argument : ℕ) → held.argument ≡ argument → outcome state ≡ outcomes.Running
      by zero is = absurd (omega (arith, some, is))
      by (suc place) is =
          let frames = no_frames none in
          let waiting : (serial_of index (suc place) == 0) ≡ false = ne_eqb (suc (index (suc place))) 0 (λ same. absurd (omega (arith, same))) in
          rw (frames, quiet, is, waiting) refl

    -- main has code, since there is a next step
    pub main_coded : is_ready (slice_get held.classes program.main_class) ≡ true → (limit method : ℕ) → method ≡ program.main_method → (member : Method)
        → option_map (λ (own : Numbered Method). own.member) (slice_get (methods_of program.classes) method) ≡ Some member → member.body ≡ None
        → IsLinked program → IsTyped program → IsTypedState program state → ⊥
    main_coded ready limit method main member there is linked fits typed =
        let advances : Advances (machine_of program limit) state = states_advance (machine_of program limit) state linked fits typed waits_on in
        none-some advances.plan
        (sym
        (entering limit
        ∙ ready_so (machine_of program limit) state program.main_class (main_plan (machine_of program limit) state) ready
        ∙ ap (λ (method : ℕ). option_map (entered_from (machine_of program limit) state (with_argument state 0) [] method (Ref (serial_of index held.argument) ∷ [])) (body_of program method)) (sym main)
        ∙ ap (option_map (entered_from (machine_of program limit) state (with_argument state 0) [] method (Ref (serial_of index held.argument) ∷ []))) (no_body program method member there is))
        ∙ advances.is)

    module _ (ready : is_ready (slice_get held.classes program.main_class) ≡ true) (method : ℕ) (main : method ≡ program.main_method) (body : Body)
        (own : body_of program method ≡ Some body) where
      pub enters : (limit : ℕ)
          → plan (machine_of program limit) state
          ≡ Some (entered_from (machine_of program limit) state (with_argument state 0) [] method (Ref (serial_of index held.argument) ∷ []) body)
      enters limit =
          entering limit
          ∙ ready_so (machine_of program limit) state program.main_class (main_plan (machine_of program limit) state) ready
          ∙ ap (λ (method : ℕ). option_map (entered_from (machine_of program limit) state (with_argument state 0) [] method (Ref (serial_of index held.argument) ∷ [])) (body_of program method)) (sym main)
          ∙ ap (option_map (entered_from (machine_of program limit) state (with_argument state 0) [] method (Ref (serial_of index held.argument) ∷ []))) own

      -- the array fits into its local variables
      abbrev slots : ℕ
      slots = body.max_locals + body.max_stack

      abbrev entry : MethodFrame
      entry = record { method = method; pc = 0; slots = slots; locals = locals_of body.max_locals (Ref (serial_of index held.argument) ∷ []); stack = [] }

      abbrev next : State
      next = with_frames (with_argument state 0) (OfMethod entry ∷ [])

      abbrev plan_by : Bool → Plan
      plan_by room = if room then leaving next else throws (machine_of program (suc slots)) state stack_overflow

      room_there : has_room (suc slots) [] slots ≡ true
      room_there =
          and_from (nat_lt 0 (suc slots)) (nat_le (0 + slots) (slots_each * suc slots)) (lt-ltb 0 (suc slots) (omega arith)) (le-leb (0 + slots) (slots_each * suc slots) (omega arith))

      pub main_fits : IsLinked program → IsTyped program → IsTypedState program state → 0 < body.max_locals
      main_fits linked fits typed =
          let waits : outcome state ≡ outcomes.Running = waits_on in
          let advances : Advances (machine_of program (suc slots)) state = states_advance (machine_of program (suc slots)) state linked fits typed waits in
          let same : advances.plan ≡ leaving next =
          same_Some advances.plan (leaving next) (sym advances.is ∙ enters (suc slots) ∙ ap (λ (room : Bool). Some (plan_by room)) room_there) in
          let left : IsTypedState program next = subst (λ (plan : Plan). IsTypedState program (made plan)) same advances.typed in
          let fit : HasRoom program entry 0 = frames_fit program next entry [] left (ap (serial_of index) quiet) refl in
          let code : fit.method.body ≡ body = within_body program method fit.method body fit.within own in
          let count : length entry.locals ≡ body.max_locals = fit.locals ∙ ap (λ (body : Body). body.max_locals) code in
          omega (arith, count)

-- ---- the frame of main

locals_so : (count : ℕ) (value : Value) → 0 < count → slice_set (locals_of count []) 0 value ≡ value ∷ replicate (count - 1) (Int (pos 0))
locals_so zero value some = absurd (omega (arith, some))
locals_so (suc count) value some =
    let all : suc count - 0 ≡ suc count = omega arith in
    let rest : count ≡ suc count - 1 = omega arith in
    ap (λ (count : ℕ). slice_set (replicate count (Int (pos 0))) 0 value) all ∙ ap (λ (count : ℕ). value ∷ replicate count (Int (pos 0))) rest

entry_so : (held : Roots) (method locals stack place : ℕ) → held.frames ≡ [] → 0 < locals
    → roots.with_argument (with_local (entered held method 0 locals stack) 0 (Ref place)) 0
    ≡ roots.with_argument (roots.with_frames held (frame_of method locals stack (Ref place ∷ []) ∷ [])) 0
entry_so held method locals stack place none some = rw (none, locals_so locals (Ref place) some) refl

entry_read : (index : ℕ → ℕ) (held : Roots) (method locals stack place : ℕ)
    → read_roots index (roots.with_argument (roots.with_frames held (frame_of method locals stack (Ref place ∷ []) ∷ [])) 0)
    ≡ roots.with_argument (roots.with_frames (read_roots index held) (frame_of method locals stack (Ref (serial_of index place) ∷ []) ∷ [])) 0
entry_read index held method locals stack place =
    ap (λ (own : List Value). roots.with_argument (roots.with_frames (read_roots index held) (OfMethod (record { method = method; pc = 0; slots = locals + stack; locals = own; stack = [] }) ∷ [])) 0)
    (reads_locals_of index locals (Ref place ∷ []))

module _ (program : Linked) (index : ℕ → ℕ) (objects : List (Option Object)) (before : Limited) (outside : Outside) (method : ℕ) (body : Body) where
  abbrev at : State
  at = state_of (seen index objects before.roots) outside

  abbrev Enters : Type 0
  Enters = plan (machine_of program before.limit) at
      ≡ Some (entered_from (machine_of program before.limit) at (with_argument at 0) [] method (Ref (serial_of index before.roots.argument) ∷ []) body)

  abbrev chosen : Bool → Plan
  chosen room =
      if room then leaving (with_frames (with_argument at 0) (frame_of method body.max_locals body.max_stack (Ref (serial_of index before.roots.argument) ∷ []) ∷ []))
      else throws (machine_of program before.limit) at stack_overflow

  entered_by : (room : Bool) → room ≡ has_room before.limit before.roots.frames (body.max_locals + body.max_stack) → topmost before.roots.frames ≡ None → Enters
      → plan (machine_of program before.limit) at ≡ Some (chosen room)
  entered_by room is none enters =
      enters ∙ ap (λ (room : Bool). Some (chosen room))
      (sym (is ∙ ap (λ (frames : List Frame). has_room before.limit frames (body.max_locals + body.max_stack)) (no_frames program index objects before.roots outside none)))

  pub entered_turn : {Facts : Type 0} (rules : Rules Facts) (facts : Facts) (after : Roots) → true ≡ has_room before.limit before.roots.frames (body.max_locals + body.max_stack)
      → topmost before.roots.frames ≡ None → 0 < body.max_locals → Enters
      → after ≡ roots.with_argument (with_local (entered before.roots method 0 body.max_locals body.max_stack) 0 (Ref before.roots.argument)) 0
      → TurnMade rules (machine_of program before.limit) (moment_of (seen index objects before.roots) outside facts) (moment_of (seen index objects after) outside facts)
  entered_turn rules facts after room none some enters left =
      quiet_turn rules (machine_of program before.limit) (moment_of (seen index objects before.roots) outside facts) (moment_of (seen index objects after) outside facts)
      (chosen true) (entered_by true room none enters) refl
      (ap (λ (after : Roots). state_of (seen index objects after) outside)
      (left ∙ entry_so before.roots method body.max_locals body.max_stack before.roots.argument (no_frames program index objects before.roots outside none) some)
      ∙ ap (λ (own : Roots). state_of (record { roots = own; objects = objects }) outside) (entry_read index before.roots method body.max_locals body.max_stack before.roots.argument)) refl

  pub too_deep : false ≡ has_room before.limit before.roots.frames (body.max_locals + body.max_stack) → topmost before.roots.frames ≡ None → Enters
      → plan (machine_of program before.limit) at ≡ Some (throws (machine_of program before.limit) at stack_overflow)
  too_deep room none enters = entered_by false room none enters

pub entered_locals : (held : Roots) (method locals stack : ℕ) → 0 < locals → 0 < length (top_locals (entered held method 0 locals stack))
entered_locals held method locals stack some = omega (arith, some, length-replicate (locals - 0) (Int (pos 0)))
