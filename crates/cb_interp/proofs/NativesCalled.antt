-- Which method a call runs, where it asks for a native, and that one that prints a string is given one.
use Rattle.std.proofs.Common.{◌≡◌, ◌∙◌, ap, refl, sym, subst, ℕ, Bool, true, false, [], ◌∷◌, Option, Some}
use Rattle.std.proofs.lemmas.Option.{same_Some}
use Rattle.std.specs.Prelude.{option_and_then}
use Rattle.cb_hierarchy.specs.declared.selected.Selected.TheVariants as chosen
use Rattle.cb_insn.specs.declared.insn.Insn.{Insn}
use Rattle.cb_link.specs.Decoding.{decoded_as}
use Rattle.cb_link.specs.Named.{named as named_at}
use Rattle.cb_link.specs.Numbers.{class_number}
use Rattle.cb_link.specs.Special.{class_declaring, holder_named, special, special_by, special_named}
use Rattle.cb_link.specs.declared.decoded.Decoded.{Decoded}
use Rattle.cb_link.specs.declared.named.Named.{Named}
use Rattle.cb_link.specs.declared.named.Named.TheVariants as meanings
use Rattle.cb_machine.specs.Calling.{implementing}
use Rattle.cb_machine.specs.Machine.{Machine}
use Rattle.cb_machine.specs.Natives.{native_of}
use Rattle.cb_plain.specs.State.{MethodFrame, State}
use Rattle.cb_shapes.specs.Shapes.{action_of}
use Rattle.cb_shapes.specs.declared.action.Action.{Action}
use Rattle.cb_shapes.specs.declared.action.Action.TheVariants as actions
use Rattle.cb_verify.specs.Typed.{IsTyped}
use Rattle.cb_verify.specs.Within.{kind_of_string}
use Rattle.cb_verify.specs.declared.verification_type.VerificationType.TheVariants.{Object}
use Rattle.cb_safety.proofs.Laws.{strings_are_given}
use Rattle.cb_safety.specs.Given.{Runs, StringOn}
use Rattle.cb_safety.specs.Linked.{IsLinked}
use Rattle.cb_safety.specs.Signatures.{print_stream, takes_of}
use Rattle.cb_safety.specs.States.{IsTypedState}
use Rattle.cb_act.specs.Acting.{Asks, acted, holder_kind, running}
use Rattle.cb_act.specs.Here.{Here}
use Rattle.cb_act.specs.Steps.{view_of}
use Rattle.cb_act.specs.declared.need.Need.TheVariants as needs
use Rattle.cb_interp.specs.Printing.{native_text}
use Rattle.cb_interp.proofs.NativesAsked.{Asking, Calls, asking}

-- the method that runs, where the instruction names another
record RunsHere (machine : Machine) (state : State) (frame : MethodFrame) (insn : Insn) (method : ℕ) : Type 0 where
  pub action : Action
  pub acts : action_of insn ≡ Some action
  pub named : ℕ
  pub names : named_at machine.program frame.method frame.pc ≡ meanings.Method named
  pub runs : Runs machine.program state.objects frame.method named method action

module _ (machine : Machine) (state : State) (decoded : Decoded) (at : Here machine state decoded) (method : ℕ)
    (asks : acted machine.program machine.frames decoded (view_of state) ≡ Some (Asks (needs.Performs method))) where
  abbrev here : Decoded
  here = decoded_as machine.program at.frame.method at.frame.pc at.insn

  running_here : running state.roots ≡ Some at.frame.method
  running_here = let frames = at.frames in rw frames refl

  selected_here : (index named : ℕ) → action_of at.insn ≡ Some (actions.InvokeSpecial index) → here.named ≡ meanings.Method named
      → here.selected
      ≡ special machine.program named (class_declaring machine.program at.frame.method)
      (option_and_then (class_number machine.program.classes) (holder_named machine.program at.frame.method index))
  selected_here index named acts names =
      ap (λ (found : Option Action). special_by machine.program at.frame.method here.named found) (ap (option_and_then action_of) at.there ∙ acts)
      ∙ ap (λ (named : Named). special_named machine.program (class_declaring machine.program at.frame.method)
      (option_and_then (class_number machine.program.classes) (holder_named machine.program at.frame.method index)) named) names

  run_by : (action : Action) → action_of at.insn ≡ Some action → Calls machine.program (view_of state) here method action → RunsHere machine state at.frame at.insn method
  run_by action acts (Calls.Statically index names) =
      record { action = actions.InvokeStatic index; acts = acts; named = method; names = names; runs = Runs.Statically index refl }
  run_by action acts (Calls.Specially index named names is) =
      record { action = actions.InvokeSpecial index; acts = acts; named = named; names = names; runs = Runs.Specially index (sym (selected_here index named acts names) ∙ is) }
  run_by action acts (Calls.Virtually index named serial object names there is) =
      record { action = actions.InvokeVirtual index; acts = acts; named = named; names = names; runs = Runs.Virtually index serial object there is }
  run_by action acts (Calls.ByInterface index count caller named serial object runs names there is) =
      record {
        action = actions.InvokeInterface index count;
        acts = acts;
        named = named;
        names = names;
        runs = Runs.ByInterface index count serial object there
            (subst (λ (caller : ℕ). implementing machine.program named (holder_kind machine.program caller index) object.kind ≡ chosen.Method method)
            (same_Some caller at.frame.method (sym runs ∙ running_here)) is);
      }

  runs_here : RunsHere machine state at.frame at.insn method
  runs_here =
      let own : Asking machine.program machine.frames here (view_of state) (needs.Performs method) =
      asking machine.program machine.frames here (view_of state) (needs.Performs method)
      (sym (ap (λ (decoded : Decoded). acted machine.program machine.frames decoded (view_of state)) at.is) ∙ asks) in
      run_by own.action own.does own.told

  takes_text : (line : Bool) → takes_of machine.program (native_text line) ≡ Object print_stream ∷ Object kind_of_string ∷ []
  takes_text true = refl
  takes_text false = refl

  pub string_given : IsLinked machine.program → IsTyped machine.program → IsTypedState machine.program state → (line : Bool)
      → native_of machine.program method ≡ Some (native_text line) → StringOn machine.program state at.frame
  string_given linked fits typed line is =
      strings_are_given machine state at.frame at.below at.insn runs_here.action runs_here.named method print_stream (native_text line) linked fits typed at.quiet at.frames at.there
      runs_here.acts runs_here.names runs_here.runs is (takes_text line)
