-- Natives that give a number or nothing: what stands on the stack is what they ask for, and the turn in which one is performed is the machine's.
use Rattle.std.proofs.Common.{◌≡◌, ◌∙◌, ap, arith, refl, sym, subst, ℕ, zero, suc, ◌+◌, ◌<◌, ◌≤◌, true, List, [], ◌∷◌, ◌++◌, drop, length, map, reverse, take, Option, Some, None, option_and_then, is_some, nat_le, nat_lt}
use Rattle.std.proofs.Math.Seq.{drop-append_seam, take-append_seam}
use Rattle.std.proofs.lemmas.List.{drop-map, length-append, length-map, length-reverse, reverse-reverse}
use Rattle.std.proofs.lemmas.Option.{same_Some}
use Rattle.std.specs.List.{take-map}
use Rattle.std.proofs.lemmas.Bool.{and_parts, false≢true, leb-true, ltb-true}
use Rattle.std.specs.declared.result.Result.{Result}
use Rattle.std.specs.declared.result.Result.TheVariants.{Err, Ok}
use Rattle.cb_library.specs.declared.native.Native.TheVariants as natives
use Rattle.cb_machine.specs.Answering.{answer_native}
use Rattle.cb_machine.specs.Machine.{kind_of_site}
use Rattle.cb_machine.specs.Sites.{array_index, array_store, clone_not_supported, illegal_argument, index_out_of_bounds, negative_size, no_class_definition, null_pointer, number_format, string_index}
use Rattle.cb_natives.specs.Answers.{Beside, Tells, answered, gives_answer}
use Rattle.cb_natives.specs.Exceptions.{site_of}
use Rattle.cb_natives.specs.Given.{has_sort}
use Rattle.cb_natives.specs.declared.answers.Exception.{Exception}
use Rattle.cb_natives.specs.declared.answers.Exception.TheVariants as exceptions
use Rattle.cb_natives.specs.declared.answers.Thrown.{Thrown}
use Rattle.cb_natives.specs.declared.answers.Thrown.TheVariants as thrown
use Rattle.cb_safety.specs.Throwing.{IsThrown}
use Rattle.cb_shapes.specs.declared.sort.Sort.{Sort}
use Rattle.cb_act.proofs.Laws.{by_native, stacked_read}
use Rattle.cb_act.specs.Acting.{Asks, acted}
use Rattle.cb_act.specs.Effects.{stacked}
use Rattle.cb_act.specs.Here.{Here, standing_here}
use Rattle.cb_act.specs.Turning.{Outside, TurnMade, machine_of, moment_of, state_of}
use Rattle.cb_act.specs.declared.need.Need.TheVariants as needs
use Rattle.cb_frames.specs.Tops.{at_place as placed_at, changed_in, on_top, placed, stack_in, top_stack, with_stack as stack_changed}
use Rattle.cb_heap.proofs.Laws.{reads_placed, reads_stack}
use Rattle.cb_heap.specs.Reading.{read_roots, read_value, seen}
use Rattle.cb_heap.specs.Rules.{Rules}
use Rattle.cb_library.specs.declared.native.Native.{Native}
use Rattle.cb_link.specs.Having.{parameters_at}
use Rattle.cb_link.specs.Named.{behind_in, code_at, named as named_at}
use Rattle.cb_link.specs.Program.{Linked}
use Rattle.cb_link.specs.declared.decoded.Decoded.{Decoded}
use Rattle.cb_link.specs.declared.named.Named.{Named}
use Rattle.cb_machine.specs.Computing.{throws_by_zero}
use Rattle.cb_machine.specs.Machine.{Machine}
use Rattle.cb_machine.specs.Natives.{native_of, performed}
use Rattle.cb_machine.specs.Performing.{Gives, Stops}
use Rattle.cb_machine.specs.Plans.{Plan, leaving}
use Rattle.cb_machine.specs.Standing.{Now, at_place}
use Rattle.cb_machine.specs.Steps.{plan}
use Rattle.cb_machine.specs.Throwing.{throws}
use Rattle.cb_natives.specs.Given.{AreGiven, HasCore, have_sorts, roles, sorts_of}
use Rattle.cb_natives.specs.declared.answers.Answer.{Answer}
use Rattle.cb_natives.specs.declared.answers.Answer.TheVariants as answers
use Rattle.cb_plain.specs.Roots.{with_frames as frames_changed}
use Rattle.cb_plain.specs.State.{Object, OfMethod, Roots, State}
use Rattle.cb_plain.specs.Updates.{with_frames}
use Rattle.cb_plain.specs.declared.value.Value.{Value}
use Rattle.cb_safety.proofs.Laws.{arguments_are_given, map_reverse}
use Rattle.cb_safety.specs.Given.{AreTaken, RunsOn}
use Rattle.cb_safety.specs.Kinds.{kinds_of}
use Rattle.cb_safety.specs.Linked.{IsLinked}
use Rattle.cb_safety.specs.Performing.{HasNatives}
use Rattle.cb_safety.specs.States.{IsTypedState}
use Rattle.cb_shapes.specs.declared.action.Action.{Action}
use Rattle.cb_verify.specs.Typed.{IsTyped}
use Rattle.cb_interp.proofs.NativesGiven.{core_given, natives_given, sorts_given}
use Rattle.cb_interp.proofs.TurnsMade.{quiet_turn}
use Rattle.cb_interp.proofs.TurnsNative.{PerformingOn, native_runs}
use Rattle.cb_interp.specs.Answering.{answer_values, argument_count, behind_answer, count_by, receiver_count}

-- ---- how many arguments there are

counted : (program : Linked) (objects : List (Option Object)) (caller named method : ℕ) (action : Action) (arguments : List Value)
    → RunsOn program objects caller named method arguments action → length (parameters_at program named) + receiver_count (Some action) ≡ length arguments
counted program objects caller named method action arguments (RunsOn.Statically index same count) = omega (arith, count)
counted program objects caller named method action arguments (RunsOn.Specially index place object others are count kept is) =
    let size = ap length are in omega (arith, count, size)
counted program objects caller named method action arguments (RunsOn.Virtually index place object others are count kept is) =
    let size = ap length are in omega (arith, count, size)
counted program objects caller named method action arguments (RunsOn.ByInterface index all place object others are count kept is) =
    let size = ap length are in omega (arith, count, size)

-- an answer names no object
answer_read : (index : ℕ → ℕ) (answer : Answer) → map (read_value index) (answer_values answer) ≡ answer_values answer
answer_read index answers.Nothing = refl
answer_read index (answers.Int number) = refl
answer_read index (answers.Long number) = refl

map_append : {Item Other : Type 0} (change : Item → Other) (one other : List Item) → map change (one ++ other) ≡ map change one ++ map change other
map_append change [] other = refl
map_append {Other = Other} change (item ∷ one) other = ap (λ (rest : List Other). change item ∷ rest) (map_append change one other)

pub behind_read : (index : ℕ → ℕ) (count pc : ℕ) (answer : Answer) (held : Roots)
    → read_roots index (behind_answer count (answer_values answer) pc held) ≡ behind_answer count (answer_values answer) pc (read_roots index held)
behind_read index count pc answer held =
    reads_placed index (stacked held (answer_values answer ++ drop count (top_stack held))) pc
    ∙ ap (λ (roots : Roots). placed roots pc)
    (stacked_read index held (answer_values answer ++ drop count (top_stack held))
    ∙ ap (stacked (read_roots index held))
    (map_append (read_value index) (answer_values answer) (drop count (top_stack held))
    ∙ ap (λ (front : List Value). front ++ map (read_value index) (drop count (top_stack held))) (answer_read index answer)
    ∙ ap (λ (back : List Value). answer_values answer ++ back)
    (sym (drop-map (read_value index) count (top_stack held)) ∙ ap (drop count) (sym (reads_stack index held)))))

-- ---- such a native takes some arguments, and no native more than five

few_sorts : (native : Native) → nat_le (length (sorts_of native)) 5 ≡ true
few_sorts natives.SystemGc = refl
few_sorts other = refl

some_sorts : (native : Native) → gives_answer native ≡ true → nat_lt 0 (length (sorts_of native)) ≡ true
some_sorts natives.SystemGc gives = absurd (false≢true gives)
some_sorts other gives = refl

counted_sorts : (asked : List Sort) (held : List Value) → have_sorts asked held ≡ true → length held ≡ length asked
counted_sorts [] [] is = refl
counted_sorts [] (value ∷ held) is = absurd (false≢true is)
counted_sorts (sort ∷ asked) [] is = absurd (false≢true is)
counted_sorts (sort ∷ asked) (value ∷ held) is =
    let both = and_parts (has_sort sort value) (have_sorts asked held) is in
    let same = counted_sorts asked held both.1 in omega (arith, same)

-- ---- what it performs is its answer

performed_answers : (machine : Machine) (state : State) (native : Native) (arguments : List Value) → gives_answer native ≡ true
    → performed machine state native arguments ≡ answer_native (record { machine = machine; state = state }) native arguments
performed_answers machine state natives.MathAbsInt arguments gives = refl
performed_answers machine state natives.MathAbsLong arguments gives = refl
performed_answers machine state natives.MathMaxInt arguments gives = refl
performed_answers machine state natives.MathMaxLong arguments gives = refl
performed_answers machine state natives.MathMinInt arguments gives = refl
performed_answers machine state natives.MathMinLong arguments gives = refl
performed_answers machine state natives.MathFloorDivInt arguments gives = refl
performed_answers machine state natives.MathFloorDivLong arguments gives = refl
performed_answers machine state natives.MathFloorModInt arguments gives = refl
performed_answers machine state natives.MathFloorModLong arguments gives = refl
performed_answers machine state natives.IntegerParseInt arguments gives = refl
performed_answers machine state natives.IntegerCompare arguments gives = refl
performed_answers machine state natives.IntegerIntValue arguments gives = refl
performed_answers machine state natives.IntegerLongValue arguments gives = refl
performed_answers machine state natives.IntegerEquals arguments gives = refl
performed_answers machine state natives.IntegerHashCode arguments gives = refl
performed_answers machine state natives.IntegerCompareTo arguments gives = refl
performed_answers machine state natives.LongParseLong arguments gives = refl
performed_answers machine state natives.LongCompare arguments gives = refl
performed_answers machine state natives.LongIntValue arguments gives = refl
performed_answers machine state natives.LongLongValue arguments gives = refl
performed_answers machine state natives.LongEquals arguments gives = refl
performed_answers machine state natives.LongHashCode arguments gives = refl
performed_answers machine state natives.LongCompareTo arguments gives = refl
performed_answers machine state natives.CharacterCharValue arguments gives = refl
performed_answers machine state natives.CharacterEquals arguments gives = refl
performed_answers machine state natives.CharacterHashCode arguments gives = refl
performed_answers machine state natives.CharacterCompareTo arguments gives = refl
performed_answers machine state natives.BooleanBooleanValue arguments gives = refl
performed_answers machine state natives.BooleanEquals arguments gives = refl
performed_answers machine state natives.BooleanHashCode arguments gives = refl
performed_answers machine state natives.BooleanCompareTo arguments gives = refl
performed_answers machine state natives.StringLength arguments gives = refl
performed_answers machine state natives.StringIsEmpty arguments gives = refl
performed_answers machine state natives.StringCharAt arguments gives = refl
performed_answers machine state natives.StringEquals arguments gives = refl
performed_answers machine state natives.StringHashCode arguments gives = refl
performed_answers machine state natives.StringCompareTo arguments gives = refl
performed_answers machine state natives.StringIndexOfUnit arguments gives = refl
performed_answers machine state natives.StringIndexOfString arguments gives = refl
performed_answers machine state natives.StringStartsWith arguments gives = refl
performed_answers machine state natives.StringEndsWith arguments gives = refl
performed_answers machine state natives.StringBuilderLength arguments gives = refl
performed_answers machine state natives.StringBuilderCharAt arguments gives = refl
performed_answers machine state natives.ObjectHashCode arguments gives = refl
performed_answers machine state natives.ObjectEquals arguments gives = refl
performed_answers machine state natives.SystemIdentityHashCode arguments gives = refl
performed_answers machine state natives.ClassDesiredAssertionStatus arguments gives = refl
performed_answers machine state natives.Flush arguments gives = refl
performed_answers machine state natives.EnumEquals arguments gives = refl
performed_answers machine state natives.EnumHashCode arguments gives = refl
performed_answers machine state natives.EnumCompareTo arguments gives = refl
performed_answers machine state other arguments gives = absurd (false≢true gives)

answered_so : (machine : Machine) (state : State) (answer : Answer)
    → answered (record { machine = machine; state = state }) (Ok answer) ≡ Some (Gives (leaving state) (answer_values answer))
answered_so machine state answers.Nothing = refl
answered_so machine state (answers.Int number) = refl
answered_so machine state (answers.Long number) = refl

-- its exceptions are among those of natives
pub low_site : (exception : Exception) → site_of exception < 32
low_site exceptions.NullPointer = omega arith
low_site exceptions.NegativeArraySize = omega arith
low_site exceptions.StringIndexOutOfBounds = omega arith
low_site exceptions.NumberFormat = omega arith
low_site exceptions.IllegalArgument = omega arith
low_site exceptions.NoClassDefinition = omega arith
low_site exceptions.CloneNotSupported = omega arith
low_site exceptions.ArrayIndexOutOfBounds = omega arith
low_site exceptions.ArrayStore = omega arith
low_site exceptions.IndexOutOfBounds = omega arith

pub thrown_site : (program : Linked) → HasNatives program → (exception : Exception) → IsThrown program (kind_of_site program (site_of exception))
thrown_site program has exceptions.NullPointer = has.thrown null_pointer (0, omega arith, refl)
thrown_site program has exceptions.NegativeArraySize = has.thrown negative_size (3, omega arith, refl)
thrown_site program has exceptions.StringIndexOutOfBounds = has.thrown string_index (5, omega arith, refl)
thrown_site program has exceptions.NumberFormat = has.thrown number_format (6, omega arith, refl)
thrown_site program has exceptions.IllegalArgument = has.thrown illegal_argument (7, omega arith, refl)
thrown_site program has exceptions.NoClassDefinition = has.thrown no_class_definition (10, omega arith, refl)
thrown_site program has exceptions.CloneNotSupported = has.thrown clone_not_supported (8, omega arith, refl)
thrown_site program has exceptions.ArrayIndexOutOfBounds = has.thrown array_index (2, omega arith, refl)
thrown_site program has exceptions.ArrayStore = has.thrown array_store (4, omega arith, refl)
thrown_site program has exceptions.IndexOutOfBounds = has.thrown index_out_of_bounds (9, omega arith, refl)

-- so many were taken where the list has so many
pub taken_there : (count : ℕ) (items : List Value) → length (take count items) ≡ count → count ≤ length items
taken_there zero items is = omega arith
taken_there (suc count) [] is = absurd (omega (arith, is))
taken_there (suc count) (item ∷ items) is = let rest = taken_there count items (omega (arith, is)) in omega (arith, rest)

-- ---- a turn

module _ (program : Linked) (index : ℕ → ℕ) (objects : List (Option Object)) (limit : ℕ) (held : Roots) (outside : Outside) (decoded : Decoded) (method : ℕ)
    (at : Here (machine_of program limit) (state_of (seen index objects held) outside) decoded)
    (asks : acted program limit decoded (seen index objects held) ≡ Some (Asks (needs.Performs method))) where
  abbrev machine : Machine
  machine = machine_of program limit

  abbrev state : State
  state = state_of (seen index objects held) outside

  abbrev pub now : Now
  now = standing_here machine state decoded at

  pub doing : PerformingOn now at.insn method
  doing = native_runs machine state decoded at method asks

  abbrev pub given : List Value
  given = doing.performing.held

  abbrev pub rest : List Value
  rest = doing.performing.rest

  pub count_is : argument_count program decoded ≡ length given
  count_is =
      ap (λ (decoded : Decoded). count_by program decoded.action decoded.named) at.is
      ∙ ap (λ (action : Option Action). count_by program action (named_at program at.frame.method at.frame.pc)) doing.acts
      ∙ ap (λ (named : Named). count_by program (Some doing.action) named) doing.names
      ∙ counted program objects at.frame.method doing.named method doing.action (reverse given) doing.runs ∙ length-reverse given

  pub stack_is : top_stack state.roots ≡ given ++ rest
  stack_is = ap (on_top [] stack_in) at.frames ∙ doing.performing.stack

  pub read_is : map (read_value index) (top_stack held) ≡ given ++ rest
  read_is = sym (reads_stack index held) ∙ stack_is

  pub enough : argument_count program decoded ≤ length (top_stack held)
  enough =
      let size = ap (λ (stack : List Value). length stack) read_is in
      omega (arith, size, length-map (top_stack held) (read_value index), length-append given rest, count_is)

  -- the arguments as they stand
  abbrev pub standing : List Value
  standing = reverse (take (argument_count program decoded) (top_stack held))

  pub standing_read : map (read_value index) standing ≡ reverse given
  standing_read =
      map_reverse (read_value index) (take (argument_count program decoded) (top_stack held))
      ∙ ap reverse
      (sym (take-map (read_value index) (argument_count program decoded) (top_stack held))
      ∙ ap (λ (stack : List Value). take (argument_count program decoded) stack) read_is
      ∙ ap (λ (count : ℕ). take count (given ++ rest)) count_is ∙ take-append_seam given rest)

  pub standing_size : length standing ≡ argument_count program decoded
  standing_size =
      let size = ap (λ (held : List Value). length held) standing_read in
      omega (arith, size, length-map standing (read_value index), length-reverse given, count_is)

  module _ (native : Native) (is : native_of program method ≡ Some native) where
    pub native_is : doing.performing.native ≡ native
    native_is = same_Some doing.performing.native native (sym doing.performing.is ∙ is)

    pub performed_so : plan machine state ≡ option_and_then (by_native now rest) (performed machine state native (map (read_value index) standing))
    performed_so =
        doing.performing.plans ∙ ap (λ (native : Native). option_and_then (by_native now rest) (performed machine state native (reverse given))) native_is
        ∙ ap (λ (arguments : List Value). option_and_then (by_native now rest) (performed machine state native arguments)) (sym standing_read)

    abbrev beside : Beside
    beside = record { roots = state.roots; input = outside.input; printed = outside.printed; exit = None }

    -- what it tells is what is performed
    pub told_so : gives_answer native ≡ true → (result : Result Answer Thrown) → Tells objects native (map (read_value index) standing) result
        → performed machine state native (map (read_value index) standing) ≡ answered (record { machine = machine; state = state }) result
    told_so gives result tells = performed_answers machine state native (map (read_value index) standing) gives ∙ tells machine beside

    pub gives_so : gives_answer native ≡ true → (answer : Answer) → Tells objects native (map (read_value index) standing) (Ok answer)
        → performed machine state native (map (read_value index) standing) ≡ Some (Gives (leaving state) (answer_values answer))
    gives_so gives answer tells = told_so gives (Ok answer) tells ∙ answered_so machine state answer

    -- it throws
    pub stops_so : (own : Plan) → performed machine state native (map (read_value index) standing) ≡ Some (Stops own) → plan machine state ≡ Some own
    stops_so own stops = performed_so ∙ ap (option_and_then (by_native now rest)) stops

    pub throws_so : gives_answer native ≡ true → (exception : Exception) → Tells objects native (map (read_value index) standing) (Err (thrown.Of exception))
        → plan machine state ≡ Some (throws machine state (site_of exception))
    throws_so gives exception tells = stops_so (throws machine state (site_of exception)) (told_so gives (Err (thrown.Of exception)) tells)

    pub divides_so : gives_answer native ≡ true → Tells objects native (map (read_value index) standing) (Err thrown.ByZero)
        → plan machine state ≡ Some (throws_by_zero machine state)
    divides_so gives tells = stops_so (throws_by_zero machine state) (told_so gives (Err thrown.ByZero) tells)

    -- it answers
    module _ (answer : Answer) (gives : performed machine state native (map (read_value index) standing) ≡ Some (Gives (leaving state) (answer_values answer))) where
      given_so : by_native now rest (Gives (leaving state) (answer_values answer)) ≡ plan machine state
      given_so = sym (performed_so ∙ ap (option_and_then (by_native now rest)) gives)

      pub next_is : decoded.next ≡ behind_in (code_at program at.frame.method) at.frame.pc
      next_is = ap (λ (decoded : Decoded). decoded.next) at.is

      pub goes_on : is_some (plan machine state) ≡ true → decoded.next ≡ None → ⊥
      goes_on some none =
          let there : behind_in (code_at program at.frame.method) at.frame.pc ≡ None = sym next_is ∙ none in
          let nothing : by_native now rest (Gives (leaving state) (answer_values answer)) ≡ None = rw there refl in
          false≢true (ap is_some (sym nothing ∙ given_so) ∙ some)

      abbrev left : ℕ → State
      left pc = with_frames state (OfMethod (at_place at.frame pc at.frame.locals (answer_values answer ++ rest)) ∷ at.below)

      plans_so : (pc : ℕ) → decoded.next ≡ Some pc → plan machine state ≡ Some (leaving (left pc))
      plans_so pc next =
          let there : behind_in (code_at program at.frame.method) at.frame.pc ≡ Some pc = sym next_is ∙ next in
          let whole : by_native now rest (Gives (leaving state) (answer_values answer)) ≡ Some (leaving (left pc)) = rw there refl in
          sym given_so ∙ whole

      left_so : (pc : ℕ) → frames_changed state.roots (OfMethod (at_place at.frame pc at.frame.locals (answer_values answer ++ rest)) ∷ at.below)
          ≡ behind_answer (argument_count program decoded) (answer_values answer) pc state.roots
      left_so pc =
          sym (ap (λ frames. frames_changed state.roots (changed_in (placed_at pc) (changed_in (stack_changed (λ stack. answer_values answer ++ rest)) frames))) at.frames)
          ∙ ap (λ (stack : List Value). placed (stacked state.roots (answer_values answer ++ stack)) pc)
          (sym (ap (λ (stack : List Value). drop (argument_count program decoded) stack) stack_is
          ∙ ap (λ (count : ℕ). drop count (given ++ rest)) count_is ∙ drop-append_seam given rest))

      pub answered_turn : {Facts : Type 0} (rules : Rules Facts) (facts : Facts) (after : Roots) (pc : ℕ) → decoded.next ≡ Some pc
          → after ≡ behind_answer (argument_count program decoded) (answer_values answer) pc held
          → TurnMade rules machine (moment_of (seen index objects held) outside facts) (moment_of (seen index objects after) outside facts)
      answered_turn rules facts after pc next is =
          quiet_turn rules machine (moment_of (seen index objects held) outside facts) (moment_of (seen index objects after) outside facts) (leaving (left pc)) (plans_so pc next) refl
          (ap (λ (roots : Roots). state_of (record { roots = roots; objects = objects }) outside)
          (ap (read_roots index) is ∙ behind_read index (argument_count program decoded) pc answer held ∙ sym (left_so pc)))
          refl

    -- what it is given
    module _ (linked : IsLinked program) (fits : IsTyped program) (typed : IsTypedState program state) (has : HasNatives program) where
      taken : AreTaken program (kinds_of objects) native (reverse given)
      taken =
          arguments_are_given machine state at.frame at.below at.insn doing.action doing.named method native (reverse given) rest linked fits typed at.quiet at.frames at.there doing.acts
          doing.names (doing.performing.stack ∙ ap (λ (front : List Value). front ++ rest) (sym (reverse-reverse given))) doing.runs is

      pub given_there : AreGiven objects (roles native) (map (read_value index) standing)
      given_there =
          subst (AreGiven objects (roles native)) (sym standing_read)
          (natives_given machine state has typed at.quiet taken.method taken.own native (reverse given) taken.have)

      pub sorts_there : have_sorts (sorts_of native) standing ≡ true
      sorts_there = sorts_given objects index native standing given_there

      pub core_there : HasCore objects
      core_there = core_given machine state has typed at.quiet

      pub count_there : argument_count program decoded ≡ length (sorts_of native)
      count_there = sym standing_size ∙ counted_sorts (sorts_of native) standing sorts_there

      pub few_there : argument_count program decoded ≤ 5
      few_there = subst (λ (count : ℕ). count ≤ 5) (sym count_there) (leb-true (length (sorts_of native)) 5 (few_sorts native))

      pub some_there : gives_answer native ≡ true → 0 < argument_count program decoded
      some_there gives = subst (λ (count : ℕ). 0 < count) (sym count_there) (ltb-true 0 (length (sorts_of native)) (some_sorts native gives))
