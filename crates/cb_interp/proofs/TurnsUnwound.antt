-- A turn in which a pending exception takes a step.
use Rattle.std.proofs.Common.{◌≡◌, ◌∙◌, ap, refl, sym, Bool, true, false, List, Some, None, ◌==◌, IsTrue}
use Rattle.std.proofs.lemmas.Bool.{eqb-true, false≢true}
use Rattle.std.specs.Prelude.{is_some, option_and_then}
use Rattle.cb_heap.specs.Kept.{is_kept}
use Rattle.cb_heap.specs.Reading.{View}
use Rattle.cb_heap.specs.Rules.{Rules}
use Rattle.cb_machine.specs.Machine.{Machine}
use Rattle.cb_machine.specs.Plans.{leaving}
use Rattle.cb_machine.specs.Steps.{plan}
use Rattle.cb_machine.specs.Unwinding.{unwinding}
use Rattle.cb_plain.specs.State.{State}
use Rattle.cb_plain.specs.declared.shape.Shape.{Shape}
use Rattle.cb_unwind.specs.declared.answers.Unwound.{Unwound}
use Rattle.cb_unwind.specs.declared.answers.Unwound.TheVariants.{NoFrame, Caught, Popped, Wrapped}
use Rattle.cb_unwind.specs.Steps.{unwound_plan}
use Rattle.cb_unwind.specs.Unwound.{unwound, wraps}
use Rattle.cb_unwind.proofs.Laws.{left_so}
use Rattle.cb_act.specs.Placing.{with_view}
use Rattle.cb_act.specs.Turning.{Outside, TurnMade, moment_of, state_of}
use Rattle.cb_interp.proofs.TurnsMade.{quiet_turn}

-- the step of a state in which an exception is pending that is kept
pending_plan : (machine : Machine) (state : State) → state.exit ≡ None → IsTrue (is_kept state.objects state.roots.pending) → plan machine state ≡ unwinding machine state
pending_plan machine state runs kept = go (state.roots.pending == 0) refl where
  go : (none : Bool) → (state.roots.pending == 0) ≡ none → plan machine state ≡ unwinding machine state
  go true is = absurd (false≢true (sym (ap (is_kept state.objects) (eqb-true state.roots.pending 0 is)) ∙ kept))
  go false is = rw (runs, is) refl

module _ (machine : Machine) (view after : View) (outside : Outside) (shapes : List Shape) (past : Unwound) (kept : IsTrue (is_kept view.objects view.roots.pending))
    (left : wraps machine.program view ≡ false) (did : unwound machine.program shapes view ≡ Some (past, after)) where
  plans : plan machine (state_of view outside) ≡ unwound_plan (state_of view outside) (past, after)
  plans =
      pending_plan machine (state_of view outside) refl kept ∙ left_so machine (state_of view outside) shapes left
      ∙ ap (option_and_then (unwound_plan (state_of view outside))) did

  pub unwound_turn : {Facts : Type 0} (rules : Rules Facts) (facts now : Facts) → is_some (plan machine (state_of view outside)) ≡ true
      → ((past ≡ Wrapped → ⊥) → now ≡ facts) → TurnMade rules machine (moment_of view outside facts) (moment_of after outside now)
  unwound_turn {Facts} rules facts now steps same = go past plans same where
    quiet : plan machine (state_of view outside) ≡ Some (leaving (with_view (state_of view outside) after)) → now ≡ facts
        → TurnMade rules machine (moment_of view outside facts) (moment_of after outside now)
    quiet is same =
        quiet_turn rules machine (moment_of view outside facts) (moment_of after outside now) (leaving (with_view (state_of view outside) after)) is refl refl same

    go : (past : Unwound) → plan machine (state_of view outside) ≡ unwound_plan (state_of view outside) (past, after) → ((past ≡ Wrapped → ⊥) → now ≡ facts)
        → TurnMade rules machine (moment_of view outside facts) (moment_of after outside now)
    go NoFrame is same = absurd (false≢true (sym (ap is_some is) ∙ steps))
    go Wrapped is same = absurd (false≢true (sym (ap is_some is) ∙ steps))
    go Caught is same = quiet is (same (λ other. cc other))
    go Popped is same = quiet is (same (λ other. cc other))
