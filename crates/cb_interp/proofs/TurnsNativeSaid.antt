-- Turns in which a native prints: it takes so many values from the stack, and gives nothing.
use Rattle.std.proofs.Common.{◌≡◌, ◌∙◌, ap, refl, sym, subst, ℕ, ◌<◌, ◌≤◌, Bool, true, false, List, [], ◌∷◌, ◌++◌, drop, length, reverse, Option, Some, None, Result, OnErr, OnOk, Ok, Err}
use Rattle.std.proofs.lemmas.Bool.{false≢true}
use Rattle.std.proofs.lemmas.List.{drop-map, reverse-reverse}
use Rattle.std.proofs.lemmas.Option.{none-some, same_Some, slice_get_within}
use Rattle.std.specs.Io.KnownBytes.{Appends}
use Rattle.std.specs.Prelude.{is_err, option_and_then, option_map, slice_get}
use Rattle.cb_frames.specs.Tops.{at_place as placed_at, changed_in, on_top, placed, stack_in, top_stack, with_stack as stack_changed}
use Rattle.cb_heap.proofs.Laws.{reads_placed, reads_stack}
use Rattle.cb_heap.specs.Storage.{Settings}
use Rattle.cb_heap.specs.Reading.{read_roots, read_value, seen}
use Rattle.cb_heap.specs.Rules.{Rules}
use Rattle.cb_io.specs.Sink.{AppendsProperPrefix}
use Rattle.cb_io.specs.Utf8.{utf8}
use Rattle.cb_library.specs.declared.native.Native.{Native}
use Rattle.cb_link.specs.Named.{behind_in, code_at}
use Rattle.cb_link.specs.Program.{Linked}
use Rattle.cb_link.specs.declared.decoded.Decoded.{Decoded}
use Rattle.cb_link.specs.declared.linked.LinkedMethod.{LinkedMethod}
use Rattle.cb_machine.specs.Machine.{Machine}
use Rattle.cb_machine.specs.Natives.{native_of, performed}
use Rattle.cb_machine.specs.Performing.{Performed, Gives}
use Rattle.cb_machine.specs.Plans.{Plan, leaving, made}
use Rattle.cb_machine.specs.Runs.{outcome}
use Rattle.cb_machine.specs.Standing.{Now, at_place}
use Rattle.cb_machine.specs.Steps.{plan}
use Rattle.cb_machine.specs.declared.outcome.Outcome.TheVariants.{Running}
use Rattle.cb_plain.specs.Roots.{with_frames as frames_changed}
use Rattle.cb_plain.specs.State.{Object, OfMethod, Roots, State}
use Rattle.cb_plain.specs.Updates.{with_frames, with_printed}
use Rattle.cb_plain.specs.declared.value.Value.{Value}
use Rattle.cb_safety.proofs.Laws.{states_advance}
use Rattle.cb_safety.specs.Advancing.{Advances}
use Rattle.cb_act.specs.Acting.{Asks, acted}
use Rattle.cb_act.specs.Effects.{stacked}
use Rattle.cb_act.specs.Here.{Here, standing_here}
use Rattle.cb_interp.specs.Printing.{behind_taken, printed_as}
use Rattle.cb_interp.specs.Running.{MayRun, SaysBy, Turned}
use Rattle.cb_act.specs.Turning.{Outside, machine_of, moment_of, state_of}
use Rattle.cb_act.specs.declared.need.Need.TheVariants as needs
use Rattle.cb_interp.specs.declared.stop.Stop.TheVariants as stops
use Rattle.cb_act.proofs.Laws.{by_native, stacked_read}
use Rattle.cb_interp.proofs.TurnsMade.{quiet_turn}
use Rattle.cb_interp.proofs.TurnsNative.{Performing, native_asked}

-- what a call did
pub of_err : {E : Type 0} (P : Type 0) (result : Result (Unit {0}) E) → is_err result ≡ true → OnErr result P → P
of_err P (Ok done) is so = absurd (false≢true is)
of_err P (Err error) is so = so

pub of_ok : {E : Type 0} (P : Type 0) (result : Result (Unit {0}) E) → is_err result ≡ false → OnOk result P → P
of_ok P (Ok done) is so = so
of_ok P (Err error) is so = absurd (false≢true (sym is))

-- a native that prints the text of the values on top of the stack, where they fit, and takes so many
pub record Printer (state : State) : Type 0 where
  pub native : Native
  pub count : ℕ
  pub fits : List Value → Bool
  pub text : List Value → List ℕ

abbrev pub prints_so : State → List ℕ → Performed
prints_so state text = Gives (leaving (with_printed state (state.printed ++ utf8 text))) []

pub record Said (state : State) (printer : Printer state) (arguments rest : List Value) (found : Performed) : Type 0 where
  pub fits : printer.fits (reverse arguments ++ rest) ≡ true
  pub left : drop printer.count (reverse arguments ++ rest) ≡ rest
  pub enough : printer.count ≤ length (reverse arguments ++ rest)
  pub gives : found ≡ prints_so state (printer.text (reverse arguments ++ rest))

abbrev pub Says : (machine : Machine) (state : State) → Printer state → Type 0
Says machine state printer =
    (arguments rest : List Value) (found : Performed) → performed machine state printer.native arguments ≡ Some found → Said state printer arguments rest found

-- then what it prints stands on the stack, and the step prints it and goes on at the next place
pub record Printing (machine : Machine) (state : State) (printer : Printer state) (next : Option ℕ) : Type 0 where
  pub fits : printer.fits (top_stack state.roots) ≡ true
  pub enough : printer.count ≤ length (top_stack state.roots)
  pub goes : next ≡ None → ⊥
  pub plans : (pc : ℕ) → next ≡ Some pc → plan machine state ≡ Some (leaving (printed_as printer.count (printer.text (top_stack state.roots)) pc state))

module _ (now : Now) (frames : now.state.roots.frames ≡ OfMethod now.frame ∷ now.below)
    (stands : now.next ≡ behind_in (code_at now.machine.program now.frame.method) now.frame.pc) where
  -- what is left where nothing is given
  given : (rest : List Value) (text : List ℕ) (pc : ℕ) → now.next ≡ Some pc
      → by_native now rest (prints_so now.state text)
      ≡ Some (leaving (with_printed (with_frames now.state (OfMethod (at_place now.frame pc now.frame.locals rest) ∷ now.below)) (now.state.printed ++ utf8 text)))
  given rest text pc next =
      let there : behind_in (code_at now.machine.program now.frame.method) now.frame.pc ≡ Some pc = sym stands ∙ next in
      rw there refl

  none_given : (rest : List Value) (text : List ℕ) → now.next ≡ None → by_native now rest (prints_so now.state text) ≡ None
  none_given rest text next =
      let there : behind_in (code_at now.machine.program now.frame.method) now.frame.pc ≡ None = sym stands ∙ next in
      rw there refl

  stack_is : top_stack now.state.roots ≡ now.frame.stack
  stack_is = ap (on_top [] stack_in) frames

  left_so : (count pc : ℕ) (rest : List Value) → drop count (top_stack now.state.roots) ≡ rest
      → frames_changed now.state.roots (OfMethod (at_place now.frame pc now.frame.locals rest) ∷ now.below) ≡ behind_taken count pc now.state.roots
  left_so count pc rest is =
      sym (ap (λ frames. frames_changed now.state.roots (changed_in (placed_at pc) (changed_in (stack_changed (λ stack. rest)) frames))) frames)
      ∙ ap (λ stack. placed (stacked now.state.roots stack) pc) (sym is)

  module _ (method : ℕ) (performing : Performing now method) (printer : Printer now.state) (is : native_of now.machine.program method ≡ Some printer.native)
      (own : Plan) (planned : plan now.machine now.state ≡ Some own) (each : Says now.machine now.state printer) where
    plans_by : plan now.machine now.state ≡ option_and_then (by_native now performing.rest) (performed now.machine now.state printer.native (reverse performing.held))
    plans_by =
        performing.plans
        ∙ ap (λ (native : Native). option_and_then (by_native now performing.rest) (performed now.machine now.state native (reverse performing.held)))
        (same_Some performing.native printer.native (sym performing.is ∙ is))

    whole : reverse (reverse performing.held) ++ performing.rest ≡ top_stack now.state.roots
    whole = ap (λ (held : List Value). held ++ performing.rest) (reverse-reverse performing.held) ∙ sym performing.stack ∙ sym stack_is

    found : (found : Performed) × (performed now.machine now.state printer.native (reverse performing.held) ≡ Some found)
    found = go (performed now.machine now.state printer.native (reverse performing.held)) refl where
      go : (given : Option Performed) → performed now.machine now.state printer.native (reverse performing.held) ≡ given
          → (found : Performed) × (performed now.machine now.state printer.native (reverse performing.held) ≡ Some found)
      go None none = absurd (cc (sym (plans_by ∙ ap (option_and_then (by_native now performing.rest)) none) ∙ planned))
      go (Some found) some = (found, some)

    says : Said now.state printer (reverse performing.held) performing.rest found.0
    says = each (reverse performing.held) performing.rest found.0 found.1

    gives : found.0 ≡ prints_so now.state (printer.text (top_stack now.state.roots))
    gives = says.gives ∙ ap (λ (stack : List Value). prints_so now.state (printer.text stack)) whole

    left : drop printer.count (top_stack now.state.roots) ≡ performing.rest
    left = ap (λ (stack : List Value). drop printer.count stack) (sym whole) ∙ says.left

    pub prints_here : Printing now.machine now.state printer now.next
    prints_here = record {
      fits = ap (λ (stack : List Value). printer.fits stack) (sym whole) ∙ says.fits;
      enough = subst (λ (stack : List Value). printer.count ≤ length stack) whole says.enough;
      goes = λ next.
          none-some own
          (sym
          (plans_by ∙ ap (option_and_then (by_native now performing.rest)) found.1 ∙ ap (by_native now performing.rest) gives
          ∙ none_given performing.rest (printer.text (top_stack now.state.roots)) next)
          ∙ planned);
      plans = λ pc next.
          plans_by ∙ ap (option_and_then (by_native now performing.rest)) found.1 ∙ ap (by_native now performing.rest) gives
          ∙ given performing.rest (printer.text (top_stack now.state.roots)) pc next
          ∙ ap (λ (roots : Roots). Some (leaving (with_printed (record { roots = roots; objects = now.state.objects; input = now.state.input; printed = now.state.printed; exit = now.state.exit })
          (now.state.printed ++ utf8 (printer.text (top_stack now.state.roots)))))) (left_so printer.count pc performing.rest left);
    }

-- roots that are read
behind_read : (index : ℕ → ℕ) (count pc : ℕ) (held : Roots) → read_roots index (behind_taken count pc held) ≡ behind_taken count pc (read_roots index held)
behind_read index count pc held =
    reads_placed index (stacked held (drop count (top_stack held))) pc
    ∙ ap (λ (roots : Roots). placed roots pc)
    (stacked_read index held (drop count (top_stack held))
    ∙ ap (stacked (read_roots index held)) (sym (drop-map (read_value index) count (top_stack held)) ∙ ap (drop count) (sym (reads_stack index held))))

-- a native is a method of the program
low_of : (program : Linked) (method : ℕ) (native : Native) → native_of program method ≡ Some native → method < length program.methods
low_of program method native is = go (slice_get program.methods method) refl where
  go : (found : Option LinkedMethod) → slice_get program.methods method ≡ found → method < length program.methods
  go None there = let none : native_of program method ≡ None = rw there refl in absurd (cc (sym none ∙ is))
  go (Some linked) there = slice_get_within program.methods method linked there

goes : (machine : Machine) (state : State) (decoded : Decoded) → Here machine state decoded → outcome state ≡ Running
goes machine state decoded at = let none = at.runs in let frames = at.frames in rw (none, frames) refl

module _ (program : Linked) (index : ℕ → ℕ) (objects : List (Option Object)) (limit : ℕ) (held : Roots) (outside : Outside) (decoded : Decoded) (method : ℕ) where
  abbrev machine : Machine
  machine = machine_of program limit

  abbrev pub state : State
  state = state_of (seen index objects held) outside

  module _ (at : Here machine state decoded) (asks : acted program limit decoded (seen index objects held) ≡ Some (Asks (needs.Performs method))) where
    performing : Performing (standing_here machine state decoded at) method
    performing = native_asked machine state decoded at method asks

    pub native_low : method < length program.methods
    native_low = low_of program method performing.native performing.is

    module _ (fixed : Bool) (settings : Settings) (runs : MayRun fixed machine settings state) (printer : Printer state)
        (is : native_of program method ≡ Some printer.native) (each : Says machine state printer) where
      advances : Advances machine state
      advances = states_advance machine state runs.linked runs.fits runs.typed (goes machine state decoded at)

      pub printing : Printing machine state printer decoded.next
      printing =
          subst (Printing machine state printer) (sym (ap (λ (decoded : Decoded). decoded.next) at.is))
          (prints_here (standing_here machine state decoded at) at.frames refl method performing printer is advances.plan advances.is each)

      abbrev text : List ℕ
      text = utf8 (printer.text (top_stack state.roots))

      abbrev beyond : Outside
      beyond = record { input = outside.input; printed = outside.printed ++ text }

      -- the turn is made, or a write of what is printed failed within it
      pub printed_turn : {Facts : Type 0} (rules : Rules Facts) (facts : Facts) (after : Roots) (pc : ℕ) (taken takes : Option (List ℕ)) (units : List ℕ)
          → printer.text (top_stack state.roots) ≡ units → decoded.next ≡ Some pc → after ≡ behind_taken printer.count pc held → Appends taken takes (utf8 units)
          → Turned rules machine outside (seen index objects held) (seen index objects after) facts facts taken takes
      printed_turn rules facts after pc taken takes units same next left appends = record {
        next = beyond;
        said = text;
        made = quiet_turn rules machine (moment_of (seen index objects held) outside facts) (moment_of (seen index objects after) beyond facts)
            (leaving (printed_as printer.count (printer.text (top_stack state.roots)) pc state)) (printing.plans pc next) refl
            (ap (λ (roots : Roots). state_of (record { roots = roots; objects = objects }) beyond) (ap (read_roots index) left ∙ behind_read index printer.count pc held)) refl;
        unread = refl;
        grows = refl;
        appends = subst (λ (units : List ℕ). Appends taken takes (utf8 units)) (sym same) appends;
      }

      pub printed_part : (pc : ℕ) (taken takes : Option (List ℕ)) (units : List ℕ) → printer.text (top_stack state.roots) ≡ units → decoded.next ≡ Some pc
          → AppendsProperPrefix taken takes (utf8 units) → SaysBy machine state stops.OutputFault taken takes
      printed_part pc taken takes units same next part = (
        text,
        record {
          next = made (leaving (printed_as printer.count (printer.text (top_stack state.roots)) pc state));
          steps = ap (option_map made) (printing.plans pc next);
          grows = refl;
        },
        subst (λ (units : List ℕ). AppendsProperPrefix taken takes (utf8 units)) (sym same) part,
      )
