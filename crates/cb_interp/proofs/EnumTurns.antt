-- The turn in which `Enum.valueOf` is performed is the machine's.
use Rattle.std.proofs.Common.{◌≡◌, ◌∙◌, ap, refl, sym, ℕ, true, List, [], ◌∷◌, ◌++◌, drop, map, Option, Some, None, option_and_then, is_some}
use Rattle.std.proofs.Math.Seq.{drop-append_seam}
use Rattle.std.proofs.lemmas.Bool.{false≢true}
use Rattle.std.proofs.lemmas.List.{drop-map}
use Rattle.cb_act.proofs.Laws.{by_native, stacked_read}
use Rattle.cb_act.specs.Acting.{Asks, acted}
use Rattle.cb_act.specs.Effects.{stacked}
use Rattle.cb_act.specs.Here.{Here}
use Rattle.cb_act.specs.Turning.{Outside, TurnMade, machine_of, moment_of, state_of}
use Rattle.cb_act.specs.declared.need.Need.TheVariants as needs
use Rattle.cb_frames.specs.Tops.{at_place as placed_at, changed_in, placed, top_stack, with_stack as stack_changed}
use Rattle.cb_heap.proofs.Laws.{reads_placed, reads_stack}
use Rattle.cb_heap.specs.Reading.{View, read_roots, read_value, seen}
use Rattle.cb_heap.specs.Rules.{Rules}
use Rattle.cb_library.specs.declared.native.Native.TheVariants as natives
use Rattle.cb_link.specs.Named.{behind_in, code_at}
use Rattle.cb_link.specs.Program.{Linked}
use Rattle.cb_link.specs.declared.decoded.Decoded.{Decoded}
use Rattle.cb_machine.specs.Initialising.{begun_upon}
use Rattle.cb_machine.specs.Machine.{Machine}
use Rattle.cb_machine.specs.Natives.{native_of}
use Rattle.cb_machine.specs.Performing.{Gives}
use Rattle.cb_machine.specs.Plans.{leaving}
use Rattle.cb_machine.specs.Standing.{at_place}
use Rattle.cb_machine.specs.Steps.{plan}
use Rattle.cb_machine.specs.Throwing.{throws}
use Rattle.cb_natives.specs.Enums.{FindsConstant}
use Rattle.cb_natives.specs.Exceptions.{site_of}
use Rattle.cb_natives.specs.declared.answers.Exception.{Exception}
use Rattle.cb_natives.specs.declared.enums.EnumAnswer.TheVariants as enums
use Rattle.cb_plain.specs.Roots.{with_frames as frames_changed}
use Rattle.cb_plain.specs.State.{Frame, Object, OfMethod, Roots, State}
use Rattle.cb_plain.specs.Updates.{with_frames}
use Rattle.cb_plain.specs.declared.value.Value.{Value}
use Rattle.cb_interp.proofs.NativesAnswered.{count_is, now, performed_so, rest, given, stack_is, stops_so}
use Rattle.cb_interp.proofs.TurnsMade.{quiet_turn}
use Rattle.cb_interp.specs.Answering.{argument_count, behind_answer}
use Rattle.cb_interp.specs.Performing.{arguments_at}

-- ---- what is left on the stack, read

map_append : {Item Other : Type 0} (change : Item → Other) (one other : List Item) → map change (one ++ other) ≡ map change one ++ map change other
map_append change [] other = refl
map_append {Other = Other} change (item ∷ one) other = ap (λ (rest : List Other). change item ∷ rest) (map_append change one other)

behind_values : (index : ℕ → ℕ) (count pc : ℕ) (answer : List Value) (held : Roots)
    → read_roots index (behind_answer count answer pc held) ≡ behind_answer count (map (read_value index) answer) pc (read_roots index held)
behind_values index count pc answer held =
    reads_placed index (stacked held (answer ++ drop count (top_stack held))) pc
    ∙ ap (λ (roots : Roots). placed roots pc)
    (stacked_read index held (answer ++ drop count (top_stack held))
    ∙ ap (stacked (read_roots index held))
    (map_append (read_value index) answer (drop count (top_stack held))
    ∙ ap (λ (back : List Value). map (read_value index) answer ++ back)
    (sym (drop-map (read_value index) count (top_stack held)) ∙ ap (drop count) (sym (reads_stack index held)))))

-- ---- where the native is called

module _ (program : Linked) (index : ℕ → ℕ) (objects : List (Option Object)) (limit : ℕ) (held : Roots) (outside : Outside) (decoded : Decoded) (method : ℕ)
    (at : Here (machine_of program limit) (state_of (seen index objects held) outside) decoded)
    (asks : acted program limit decoded (seen index objects held) ≡ Some (Asks (needs.Performs method)))
    (is : native_of program method ≡ Some natives.EnumValueOf) where
  abbrev machine : Machine
  machine = machine_of program limit

  abbrev view : View
  view = seen index objects held

  abbrev state : State
  state = state_of view outside

  abbrev values_given : List Value
  values_given = given program index objects limit held outside decoded method at asks

  abbrev values_left : List Value
  values_left = rest program index objects limit held outside decoded method at asks

  abbrev arguments : List Value
  arguments = map (read_value index) (arguments_at program decoded held)

  -- it throws
  pub throws_so : (exception : Exception) → FindsConstant program index view arguments (enums.Throws exception) → plan machine state ≡ Some (throws machine state (site_of exception))
  throws_so exception found =
      stops_so program index objects limit held outside decoded method at asks natives.EnumValueOf is (throws machine state (site_of exception)) (found limit outside.input outside.printed)

  -- a class begins to be initialised
  pub begins_so : (class : ℕ) → FindsConstant program index view arguments (enums.Begins class) → plan machine state ≡ Some (begun_upon machine state view.roots.frames class)
  begins_so class found =
      stops_so program index objects limit held outside decoded method at asks natives.EnumValueOf is (begun_upon machine state view.roots.frames class) (found limit outside.input outside.printed)

  -- it gives a constant
  module _ (value : Value) (found : FindsConstant program index view arguments (enums.Gives value)) where
    abbrev answer : List Value
    answer = read_value index value ∷ []

    given_so : plan machine state ≡ by_native (now program index objects limit held outside decoded method at asks) values_left (Gives (leaving state) answer)
    given_so =
        performed_so program index objects limit held outside decoded method at asks natives.EnumValueOf is
        ∙ ap (option_and_then (by_native (now program index objects limit held outside decoded method at asks) values_left)) (found limit outside.input outside.printed)

    next_is : decoded.next ≡ behind_in (code_at program at.frame.method) at.frame.pc
    next_is = ap (λ (decoded : Decoded). decoded.next) at.is

    pub goes_on : is_some (plan machine state) ≡ true → decoded.next ≡ None → ⊥
    goes_on some none =
        let there : behind_in (code_at program at.frame.method) at.frame.pc ≡ None = sym next_is ∙ none in
        let nothing : by_native (now program index objects limit held outside decoded method at asks) values_left (Gives (leaving state) answer) ≡ None = rw there refl in
        false≢true (ap is_some (sym (given_so ∙ nothing)) ∙ some)

    abbrev frames_behind : ℕ → List Frame
    frames_behind pc = OfMethod (at_place at.frame pc at.frame.locals (answer ++ values_left)) ∷ at.below

    plans_so : (pc : ℕ) → decoded.next ≡ Some pc → plan machine state ≡ Some (leaving (with_frames state (frames_behind pc)))
    plans_so pc next =
        let there : behind_in (code_at program at.frame.method) at.frame.pc ≡ Some pc = sym next_is ∙ next in
        let whole : by_native (now program index objects limit held outside decoded method at asks) values_left (Gives (leaving state) answer) ≡ Some (leaving (with_frames state (frames_behind pc))) =
        rw there refl in
        given_so ∙ whole

    left_so : (pc : ℕ) → frames_changed state.roots (frames_behind pc) ≡ behind_answer (argument_count program decoded) answer pc state.roots
    left_so pc =
        sym (ap (λ frames. frames_changed state.roots (changed_in (placed_at pc) (changed_in (stack_changed (λ stack. answer ++ values_left)) frames))) at.frames)
        ∙ ap (λ (stack : List Value). placed (stacked state.roots (answer ++ stack)) pc)
        (sym (ap (λ (stack : List Value). drop (argument_count program decoded) stack) (stack_is program index objects limit held outside decoded method at asks)
        ∙ ap (λ (count : ℕ). drop count (values_given ++ values_left)) (count_is program index objects limit held outside decoded method at asks)
        ∙ drop-append_seam values_given values_left))

    pub constant_turn : {Facts : Type 0} (rules : Rules Facts) (facts : Facts) (after : Roots) (pc : ℕ) → decoded.next ≡ Some pc
        → after ≡ behind_answer (argument_count program decoded) (value ∷ []) pc held
        → TurnMade rules machine (moment_of view outside facts) (moment_of (seen index objects after) outside facts)
    constant_turn rules facts after pc next same =
        quiet_turn rules machine (moment_of view outside facts) (moment_of (seen index objects after) outside facts) (leaving (with_frames state (frames_behind pc))) (plans_so pc next) refl
        (ap (λ (roots : Roots). state_of (record { roots = roots; objects = objects }) outside)
        (ap (read_roots index) same ∙ behind_values index (argument_count program decoded) pc (value ∷ []) held ∙ sym (left_so pc)))
        refl
