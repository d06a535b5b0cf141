-- The reference on the stack of a typed state that is asked for.
use Rattle.std.proofs.Common.{◌≡◌, ◌∙◌, ap, refl, subst, ℕ, true, List, [], ◌∷◌, ◌++◌, Option, Some, option_and_then, slice_get}
use Rattle.std.specs.Cmp.Lexicographic.{pointwise}
use Rattle.std.proofs.lemmas.Bool.{and_parts, false≢true}
use Rattle.std.proofs.lemmas.Option.{option_and_then_some}
use Rattle.cb_hierarchy.specs.Classes.{listed}
use Rattle.cb_insn.specs.declared.insn.Insn.{Insn}
use Rattle.cb_link.specs.Named.{code_at, insn_in}
use Rattle.cb_machine.specs.Machine.{Machine}
use Rattle.cb_machine.specs.Standing.{same_sort}
use Rattle.cb_machine.specs.Values.{sort_of}
use Rattle.cb_plain.specs.State.{Frame, MethodFrame, OfMethod, State}
use Rattle.cb_plain.specs.declared.value.Value.{Value}
use Rattle.cb_plain.specs.declared.value.Value.TheVariants as values
use Rattle.cb_shapes.specs.Shapes.{action_of}
use Rattle.cb_shapes.specs.declared.action.Action.{Action}
use Rattle.cb_shapes.specs.declared.action.Action.TheVariants as actions
use Rattle.cb_shapes.specs.declared.sort.Sort.TheVariants as sorts
use Rattle.cb_verify.specs.declared.verification_type.VerificationType.{VerificationType}
use Rattle.cb_verify.specs.Calls.{put_on}
use Rattle.cb_verify.specs.Frames as verified
use Rattle.cb_verify.specs.Rules.{given, taken}
use Rattle.cb_verify.specs.Typed.{IsTyped}
use Rattle.cb_verify.specs.Types.{is_of}
use Rattle.cb_safety.specs.Advancing.{HoldsOn, IsSpelled}
use Rattle.cb_safety.specs.Held.{HasType, HaveTypes}
use Rattle.cb_safety.specs.Kinds.{Kinds, kinds_of}
use Rattle.cb_safety.specs.States.{IsTypedState}
use Rattle.cb_safety.specs.Words.{AsksObject, asks_object}
use Rattle.cb_safety.proofs.Assigned.{typed_is_known}
use Rattle.cb_safety.proofs.Going.{Stage, stage_of}
use Rattle.cb_safety.proofs.OnStack.{taken_whole}
use Rattle.cb_safety.proofs.Taken.{Taken, sorted, taken_sorted, taken_typed}

-- a value of that sort is a reference
reference_there : (value : Value) → same_sort (sort_of value) sorts.Reference ≡ true → (serial : ℕ) × (value ≡ values.Ref serial)
reference_there (values.Ref serial) is = (serial, refl)
reference_there other is = absurd (false≢true is)

module _ (machine : Machine) (state : State) (frame : MethodFrame) (below : List Frame) (insn : Insn) (action : Action) (stage : Stage machine state frame below insn action) where
  abbrev kinds : Kinds
  kinds = kinds_of state.objects

  abbrev leaving_with : List VerificationType × List VerificationType → Option verified.Frame
  leaving_with off = option_and_then (λ (type : Option VerificationType). put_on stage.method stage.types (listed type) off.1) (given stage.method frame.pc action off.0)

  one_asked : (type : VerificationType) (held left : List Value) → is_of sorts.Reference type ≡ true → HaveTypes stage.method kinds (type ∷ []) held → frame.stack ≡ held ++ left
      → AsksObject machine.program state frame
  one_asked type held left reference (HaveTypes.And own value more others has HaveTypes.NoMore) stands =
      let named = reference_there value (sorted stage.method kinds sorts.Reference type value has reference) in
      record {
        serial = named.0;
        on = ap (λ (stack : List Value). slice_get stack 0) stands ∙ ap Some named.1;
        known = typed_is_known stage.method kinds type (values.Ref named.0) (subst (λ (value : Value). HasType stage.method kinds type value) named.1 has);
        kind = λ object there. (stage.typed.heap.each named.0 object there).kind;
      }

  asked : (held rest : List VerificationType) → taken (sorts.Reference ∷ []) stage.types.stack ≡ Some (held, rest) → Taken stage.method kinds (sorts.Reference ∷ []) frame.stack held rest
      → AsksObject machine.program state frame
  asked [] rest so own = absurd (false≢true (taken_sorted (sorts.Reference ∷ []) stage.types.stack [] rest so))
  asked (type ∷ []) rest so own =
      one_asked type own.values own.left (and_parts (is_of sorts.Reference type) (pointwise is_of [] []) (taken_sorted (sorts.Reference ∷ []) stage.types.stack (type ∷ []) rest so)).0
      own.held (taken_whole (sorts.Reference ∷ []) frame.stack own.values own.left own.taken)
  asked (one ∷ two ∷ more) rest so own = absurd (false≢true (and_parts (is_of sorts.Reference one) (pointwise is_of [] (two ∷ more)) (taken_sorted (sorts.Reference ∷ []) stage.types.stack (one ∷ two ∷ more) rest so)).1)

  pub by_rule : option_and_then leaving_with (taken (sorts.Reference ∷ []) stage.types.stack) ≡ Some stage.after → AsksObject machine.program state frame
  by_rule leaves =
      option_and_then_some leaving_with (taken (sorts.Reference ∷ []) stage.types.stack) stage.after leaves
      (λ off so fits. asked off.0 off.1 so (taken_typed stage.method kinds (sorts.Reference ∷ []) stage.types.stack frame.stack off.0 off.1 stage.stack so))

asked_as : (machine : Machine) (state : State) (frame : MethodFrame) (below : List Frame) (insn : Insn) (action : Action) → Stage machine state frame below insn action
    → asks_object action ≡ true → AsksObject machine.program state frame
asked_as machine state frame below insn (actions.Cast index) stage is = by_rule machine state frame below insn (actions.Cast index) stage stage.leaves
asked_as machine state frame below insn (actions.IsInstance index) stage is = by_rule machine state frame below insn (actions.IsInstance index) stage stage.leaves
asked_as machine state frame below insn actions.Throw stage is = by_rule machine state frame below insn actions.Throw stage stage.leaves
asked_as machine state frame below insn other stage is = absurd (false≢true is)

pub references_are_asked : (machine : Machine) (state : State) (frame : MethodFrame) (below : List Frame) (insn : Insn) (action : Action)
    → IsTyped machine.program → IsSpelled machine.program → HoldsOn machine.program → IsTypedState machine.program state
    → state.roots.pending ≡ 0 → state.roots.frames ≡ OfMethod frame ∷ below → insn_in (code_at machine.program frame.method) frame.pc ≡ Some insn
    → action_of insn ≡ Some action → asks_object action ≡ true → AsksObject machine.program state frame
references_are_asked machine state frame below insn action fits spelled holds typed runs frames there so is =
    asked_as machine state frame below insn action (stage_of machine state frame below insn action fits spelled holds typed runs frames there so) is
