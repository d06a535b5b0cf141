-- Natives that give a number or nothing, and leave roots as they were: the turn of one is the machine's, whatever else it leaves.
use Rattle.std.proofs.Common.{◌≡◌, ◌∙◌, ap, refl, sym, ℕ, true, List, ◌∷◌, ◌++◌, drop, map, Option, Some, None, option_and_then, is_some}
use Rattle.std.proofs.Math.Seq.{drop-append_seam}
use Rattle.std.proofs.lemmas.Bool.{false≢true}
use Rattle.cb_act.proofs.Laws.{by_native}
use Rattle.cb_act.specs.Acting.{Asks, acted}
use Rattle.cb_act.specs.Effects.{stacked}
use Rattle.cb_act.specs.Here.{Here}
use Rattle.cb_act.specs.Turning.{Outside, machine_of, state_of}
use Rattle.cb_act.specs.declared.need.Need.TheVariants as needs
use Rattle.cb_frames.specs.Tops.{at_place as placed_at, changed_in, placed, with_stack as stack_changed}
use Rattle.cb_heap.specs.Reading.{read_value, seen}
use Rattle.cb_library.specs.declared.native.Native.{Native}
use Rattle.cb_link.specs.Named.{behind_in, code_at}
use Rattle.cb_link.specs.Program.{Linked}
use Rattle.cb_link.specs.declared.decoded.Decoded.{Decoded}
use Rattle.cb_machine.specs.Machine.{Machine}
use Rattle.cb_machine.specs.Natives.{native_of, performed}
use Rattle.cb_machine.specs.Performing.{Gives}
use Rattle.cb_machine.specs.Plans.{leaving}
use Rattle.cb_machine.specs.Standing.{Now, at_place}
use Rattle.cb_machine.specs.Steps.{plan}
use Rattle.cb_natives.specs.declared.answers.Answer.{Answer}
use Rattle.cb_plain.specs.Roots.{with_frames as frames_changed}
use Rattle.cb_plain.specs.State.{Object, OfMethod, Roots, State}
use Rattle.cb_plain.specs.Updates.{with_frames, with_roots}
use Rattle.cb_plain.specs.declared.value.Value.{Value}
use Rattle.cb_interp.specs.Answering.{answer_values, argument_count, behind_answer}
use Rattle.cb_interp.proofs.NativesAnswered.{count_is, given, now, performed_so, rest, stack_is, standing}

module _ (program : Linked) (index : ℕ → ℕ) (objects : List (Option Object)) (limit : ℕ) (held : Roots) (outside : Outside) (decoded : Decoded) (method : ℕ)
    (at : Here (machine_of program limit) (state_of (seen index objects held) outside) decoded)
    (asks : acted program limit decoded (seen index objects held) ≡ Some (Asks (needs.Performs method)))
    (native : Native) (is : native_of program method ≡ Some native) where
  abbrev machine : Machine
  machine = machine_of program limit

  abbrev state : State
  state = state_of (seen index objects held) outside

  abbrev here : Now
  here = now program index objects limit held outside decoded method at asks

  abbrev behind : List Value
  behind = rest program index objects limit held outside decoded method at asks

  abbrev before : List Value
  before = given program index objects limit held outside decoded method at asks

  abbrev arguments : List Value
  arguments = map (read_value index) (standing program index objects limit held outside decoded method at asks)

  module _ (beyond : State) (answer : Answer) (same : beyond.roots ≡ state.roots)
      (gives : performed machine state native arguments ≡ Some (Gives (leaving beyond) (answer_values answer))) where
    given_so : by_native here behind (Gives (leaving beyond) (answer_values answer)) ≡ plan machine state
    given_so = sym (performed_so program index objects limit held outside decoded method at asks native is ∙ ap (option_and_then (by_native here behind)) gives)

    next_is : decoded.next ≡ behind_in (code_at program at.frame.method) at.frame.pc
    next_is = ap (λ (decoded : Decoded). decoded.next) at.is

    pub left_goes : is_some (plan machine state) ≡ true → decoded.next ≡ None → ⊥
    left_goes some none =
        let there : behind_in (code_at program at.frame.method) at.frame.pc ≡ None = sym next_is ∙ none in
        let nothing : by_native here behind (Gives (leaving beyond) (answer_values answer)) ≡ None = rw there refl in
        false≢true (ap is_some (sym nothing ∙ given_so) ∙ some)

    left_roots : (pc : ℕ) → frames_changed state.roots (OfMethod (at_place at.frame pc at.frame.locals (answer_values answer ++ behind)) ∷ at.below)
        ≡ behind_answer (argument_count program decoded) (answer_values answer) pc state.roots
    left_roots pc =
        sym (ap (λ frames. frames_changed state.roots (changed_in (placed_at pc) (changed_in (stack_changed (λ stack. answer_values answer ++ behind)) frames))) at.frames)
        ∙ ap (λ (stack : List Value). placed (stacked state.roots (answer_values answer ++ stack)) pc)
        (sym (ap (λ (stack : List Value). drop (argument_count program decoded) stack) (stack_is program index objects limit held outside decoded method at asks)
        ∙ ap (λ (count : ℕ). drop count (before ++ behind)) (count_is program index objects limit held outside decoded method at asks) ∙ drop-append_seam before behind))

    pub left_plan : (pc : ℕ) → decoded.next ≡ Some pc
        → plan machine state ≡ Some (leaving (with_roots beyond (behind_answer (argument_count program decoded) (answer_values answer) pc state.roots)))
    left_plan pc next =
        let there : behind_in (code_at program at.frame.method) at.frame.pc ≡ Some pc = sym next_is ∙ next in
        let whole : by_native here behind (Gives (leaving beyond) (answer_values answer))
        ≡ Some (leaving (with_frames beyond (OfMethod (at_place at.frame pc at.frame.locals (answer_values answer ++ behind)) ∷ at.below))) = rw there refl in
        sym given_so ∙ whole
        ∙ ap (λ (roots : Roots). Some (leaving (with_roots beyond roots)))
        (ap (λ (roots : Roots). frames_changed roots (OfMethod (at_place at.frame pc at.frame.locals (answer_values answer ++ behind)) ∷ at.below)) same ∙ left_roots pc)
