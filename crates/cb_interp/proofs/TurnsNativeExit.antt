-- Where the program ends the run, its argument is taken, and `exit` was called with it.
use Rattle.std.proofs.Common.{◌≡◌, ◌∙◌, ap, arith, refl, sym, subst, ℤ, ℕ, ◌<◌, true, List, [], ◌∷◌, drop, length, map, reverse, take, Option, Some, None}
use Rattle.std.specs.Prelude.{slice_get}
use Rattle.std.proofs.lemmas.Bool.{false≢true}
use Rattle.std.proofs.lemmas.Option.{same_Some}
use Rattle.cb_act.specs.Acting.{Asks, acted}
use Rattle.cb_act.specs.Effects.{has_sort as is_of, stacked}
use Rattle.cb_act.specs.Here.{Here}
use Rattle.cb_act.specs.Turning.{Outside, TurnMade, machine_of, moment_of, state_of}
use Rattle.cb_act.specs.declared.need.Need.TheVariants as needs
use Rattle.cb_frames.specs.Tops.{placed, top_stack}
use Rattle.cb_heap.specs.Reading.{read_roots, read_value, seen}
use Rattle.cb_heap.specs.Rules.{Rules}
use Rattle.cb_library.specs.declared.native.Native.{Native}
use Rattle.cb_library.specs.declared.native.Native.TheVariants as natives
use Rattle.cb_link.specs.Program.{Linked}
use Rattle.cb_link.specs.declared.decoded.Decoded.{Decoded}
use Rattle.cb_machine.specs.Machine.{Machine}
use Rattle.cb_machine.specs.Natives.{native_of, performed}
use Rattle.cb_machine.specs.Performing.{Gives}
use Rattle.cb_machine.specs.Plans.{leaving}
use Rattle.cb_natives.specs.Given.{have_sorts}
use Rattle.cb_natives.specs.declared.answers.Answer.TheVariants as answers
use Rattle.cb_plain.specs.State.{Object, Roots, State}
use Rattle.cb_plain.specs.Updates.{with_exit, with_roots}
use Rattle.cb_plain.specs.declared.value.Value.{Value}
use Rattle.cb_plain.specs.declared.value.Value.TheVariants as values
use Rattle.cb_safety.specs.Linked.{IsLinked}
use Rattle.cb_safety.specs.Performing.{HasNatives}
use Rattle.cb_safety.specs.States.{IsTypedState}
use Rattle.cb_shapes.specs.declared.sort.Sort.TheVariants as sorts
use Rattle.cb_verify.specs.Typed.{IsTyped}
use Rattle.cb_interp.specs.Answering.{argument_count, behind_answer}
use Rattle.cb_interp.specs.Running.{exited}
use Rattle.cb_interp.proofs.NativesAnswered.{behind_read, count_there, enough, sorts_there, standing}
use Rattle.cb_interp.proofs.NativesLeft.{left_goes, left_plan}
use Rattle.cb_interp.proofs.TurnsMade.{quiet_turn}
use Rattle.cb_interp.proofs.TurnsNeed.{steps_on}

-- an int stands on the stack for it
int_on : (stack : List Value) → have_sorts (sorts.Int ∷ []) (reverse (take 1 stack)) ≡ true → is_of sorts.Int (slice_get stack 0) ≡ true
int_on [] is = absurd (false≢true is)
int_on (values.Int number ∷ stack) is = refl
int_on (values.Long number ∷ stack) is = absurd (false≢true is)
int_on (values.Ref serial ∷ stack) is = absurd (false≢true is)

one_taken : (stack : List Value) (status : ℤ) → slice_get stack 0 ≡ Some (values.Int status) → reverse (take 1 stack) ≡ values.Int status ∷ []
one_taken [] status is = absurd (cc is)
one_taken (value ∷ stack) status is = ap (λ (value : Value). value ∷ []) (same_Some value (values.Int status) is)

module _ (program : Linked) (index : ℕ → ℕ) (objects : List (Option Object)) (limit : ℕ) (held : Roots) (outside : Outside) (decoded : Decoded) (method : ℕ)
    (at : Here (machine_of program limit) (state_of (seen index objects held) outside) decoded)
    (asks : acted program limit decoded (seen index objects held) ≡ Some (Asks (needs.Performs method)))
    (is : native_of program method ≡ Some natives.SystemExit) (linked : IsLinked program) (fits : IsTyped program)
    (typed : IsTypedState program (state_of (seen index objects held) outside)) (has : HasNatives program) where
  abbrev machine : Machine
  machine = machine_of program limit

  abbrev state : State
  state = state_of (seen index objects held) outside

  abbrev taken : List Value
  taken = standing program index objects limit held outside decoded method at asks

  one_counted : argument_count program decoded ≡ 1
  one_counted = count_there program index objects limit held outside decoded method at asks natives.SystemExit is linked fits typed has

  taken_is : taken ≡ reverse (take 1 (top_stack held))
  taken_is = ap (λ (count : ℕ). reverse (take count (top_stack held))) one_counted

  pub exit_int : is_of sorts.Int (slice_get (top_stack held) 0) ≡ true
  exit_int =
      int_on (top_stack held)
      (subst (λ (held : List Value). have_sorts (sorts.Int ∷ []) held ≡ true) taken_is
      (sorts_there program index objects limit held outside decoded method at asks natives.SystemExit is linked fits typed has))

  pub exit_taken : 0 < length (top_stack held)
  exit_taken = let size = enough program index objects limit held outside decoded method at asks in omega (arith, size, one_counted)

  module _ (status : ℤ) (stands : slice_get (top_stack held) 0 ≡ Some (values.Int status)) where
    gives : performed machine state natives.SystemExit (map (read_value index) taken) ≡ Some (Gives (leaving (with_exit state status)) [])
    gives =
        ap (λ (held : List Value). performed machine state natives.SystemExit (map (read_value index) held)) (taken_is ∙ one_taken (top_stack held) status stands)

    pub exit_made : {Facts : Type 0} (rules : Rules Facts) (facts : Facts) (after : Roots) (pc : ℕ) → decoded.next ≡ Some pc
        → after ≡ placed (stacked held (drop 1 (top_stack held))) pc
        → TurnMade rules machine (moment_of (seen index objects held) outside facts) (exited status (moment_of (seen index objects after) outside facts))
    exit_made rules facts after pc next left =
        let behind : after ≡ behind_answer (argument_count program decoded) [] pc held = left ∙ ap (λ (count : ℕ). behind_answer count [] pc held) (sym one_counted) in
        let read : read_roots index after ≡ behind_answer (argument_count program decoded) [] pc state.roots =
        ap (read_roots index) behind ∙ behind_read index (argument_count program decoded) pc answers.Nothing held in
        quiet_turn rules machine (moment_of (seen index objects held) outside facts) (exited status (moment_of (seen index objects after) outside facts))
        (leaving (with_roots (with_exit state status) (behind_answer (argument_count program decoded) [] pc state.roots)))
        (left_plan program index objects limit held outside decoded method at asks natives.SystemExit is (with_exit state status) answers.Nothing refl gives pc next) refl
        (ap (λ (roots : Roots). with_roots (with_exit state status) roots) read) refl

  pub exit_goes : decoded.next ≡ None → ⊥
  exit_goes none = found (slice_get (top_stack held) 0) refl where
    found : (value : Option Value) → slice_get (top_stack held) 0 ≡ value → ⊥
    found None there = absurd (false≢true (sym (ap (is_of sorts.Int) there) ∙ exit_int))
    found (Some (values.Int status)) there =
        left_goes program index objects limit held outside decoded method at asks natives.SystemExit is (with_exit state status) answers.Nothing refl (gives status there)
        (steps_on machine state decoded at linked fits typed) none
    found (Some (values.Long number)) there = absurd (false≢true (sym (ap (is_of sorts.Int) there) ∙ exit_int))
    found (Some (values.Ref serial)) there = absurd (false≢true (sym (ap (is_of sorts.Int) there) ∙ exit_int))
