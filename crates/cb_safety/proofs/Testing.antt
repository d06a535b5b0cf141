-- Instructions that ask for the class of an object.
use Rattle.std.proofs.Common.{◌≡◌, ◌∙◌, ap, arith, refl, sym, subst, ℕ, pos, zero, suc, Bool, true, false, List, [], ◌∷◌, Option, Some, None, option_and_then, option_map, if◌then◌else◌}
use Rattle.std.proofs.lemmas.Option.{option_and_then_some, same_Some}
use Rattle.cb_hierarchy.specs.Classes.{listed}
use Rattle.cb_insn.specs.declared.insn.Insn.{Insn}
use Rattle.cb_link.specs.Program.{Linked}
use Rattle.cb_link.specs.Subtypes.{instance}
use Rattle.cb_link.specs.declared.named.Named.{Named}
use Rattle.cb_link.specs.declared.named.Named.TheVariants as meanings
use Rattle.cb_machine.specs.Machine.{Machine}
use Rattle.cb_machine.specs.Plans.{Plan}
use Rattle.cb_machine.specs.Sites.{class_cast}
use Rattle.cb_machine.specs.Standing.{Now, leaves, taken as taken_values}
use Rattle.cb_machine.specs.Testing.{asks_kind, casts, int_of, is_instance}
use Rattle.cb_machine.specs.Throwing.{throws}
use Rattle.cb_plain.specs.State.{Frame, MethodFrame, Object, State}
use Rattle.cb_plain.specs.Updates.{object_at}
use Rattle.cb_plain.specs.declared.value.Value.{Value}
use Rattle.cb_plain.specs.declared.value.Value.TheVariants as values
use Rattle.cb_shapes.specs.declared.action.Action.{Action}
use Rattle.cb_shapes.specs.declared.action.Action.TheVariants as actions
use Rattle.cb_shapes.specs.declared.sort.Sort.TheVariants as sorts
use Rattle.cb_verify.specs.declared.verification_type.VerificationType.{VerificationType}
use Rattle.cb_verify.specs.declared.verification_type.VerificationType.TheVariants as types
use Rattle.cb_verify.specs.Calls.{put_on}
use Rattle.cb_verify.specs.Frames as verified
use Rattle.cb_verify.specs.Rules.{given, only_if, taken}
use Rattle.cb_verify.specs.Types.{is_initialised}
use Rattle.cb_verify.specs.Within.{Within, kind_named}
use Rattle.cb_safety.specs.Held.{HasType, HaveTypes, IsStack}
use Rattle.cb_safety.specs.Kinds.{IsKnown, Kinds, Refers, kind_in, kinds_of}
use Rattle.cb_safety.specs.Naming.{NamesKind}
use Rattle.cb_safety.specs.Throwing.{AreThrown}
use Rattle.cb_safety.proofs.Arrays.{Initialised, initialised, only}
use Rattle.cb_safety.proofs.Asking.{is_at, throws_next}
use Rattle.cb_safety.proofs.Assigned.{never, when}
use Rattle.cb_safety.proofs.Going.{Planned, Stage, lays_next, now_at, planned_by}
use Rattle.cb_safety.proofs.Holding.{instance_goes}
use Rattle.cb_safety.proofs.Taken.{Taken, taken_typed}

module _ (machine : Machine) (state : State) (frame : MethodFrame) (below : List Frame) (insn : Insn) (thrown : AreThrown machine.program) where
  abbrev here : Now
  here = now_at machine state frame below

  abbrev kinds : Kinds
  kinds = kinds_of state.objects

  abbrev leaving_with : Within → verified.Frame → Action → List VerificationType × List VerificationType → Option verified.Frame
  leaving_with method frame_types action off = option_and_then (λ (type : Option VerificationType). put_on method frame_types (listed type) off.1) (given method frame.pc action off.0)

  -- ---- checkcast

  abbrev cast_to : ℕ → List Value → Bool → Option Plan
  cast_to serial rest true = leaves here (values.Ref serial ∷ rest)
  cast_to serial rest false = Some (throws machine state class_cast)

  abbrev cast_taken : ℕ → List Value × List Value → Option Plan
  cast_taken kind (values.Ref zero ∷ [], rest) = cast_to 0 rest true
  cast_taken kind (values.Ref (suc place) ∷ [], rest) = option_and_then (cast_to (suc place) rest) (is_instance here kind (suc place))
  cast_taken kind other = None

  abbrev cast_named : Named → Option Plan
  cast_named (meanings.Kind kind) = option_and_then (cast_taken kind) (taken_values (sorts.Reference ∷ []) frame.stack)
  cast_named other = None

  module _ (index : ℕ) (stage : Stage machine state frame below insn (actions.Cast index)) (names : NamesKind machine.program stage.method frame.method frame.pc index)
      (rest : List VerificationType) (left : List Value) (so : verified.with_stack stage.method.body.max_stack stage.types (types.Object names.kind ∷ rest) ≡ Some stage.after)
      (is : IsStack stage.method kinds rest left) where
    cast_passes : (serial : ℕ) → Refers machine.program kinds names.kind serial → Planned machine.program (cast_to serial left true)
    cast_passes serial refers =
        lays_next machine state frame below insn (actions.Cast index) stage refl (types.Object names.kind ∷ rest) (values.Ref serial ∷ left) so
        (IsStack.Upon (types.Object names.kind) (values.Ref serial) rest left
        (HasType.AReference names.kind serial (subst (λ (program : Linked). Refers program kinds names.kind serial) (sym stage.own) refers)) refl is)

    cast_object : (place own : ℕ) → kind_in kinds (suc place) ≡ Some own → (object : Object) → object_at state (suc place) ≡ Some object → object.kind ≡ own
        → (test : Bool) → instance machine.program object.kind names.kind ≡ test → Planned machine.program (cast_to (suc place) left test)
    cast_object place own kind object there same true fits =
        cast_passes (suc place) (Refers.To (suc place) (record {
          own = object.kind;
          there = kind ∙ ap Some (sym same);
          goes = instance_goes machine.program object.kind names.kind (stage.typed.heap.each (suc place) object there).kind names.low fits;
        }))
    cast_object place own kind object there same false fits = throws_next machine state frame below insn (actions.Cast index) stage thrown class_cast (5, omega arith, refl)

    cast_known : (serial own : ℕ) → kind_in kinds serial ≡ Some own → Planned machine.program (cast_taken names.kind (values.Ref serial ∷ [], left))
    cast_known zero own kind = never kind
    cast_known (suc place) own kind =
        let at = is_at state.objects (suc place) own kind in
        planned_by machine.program (cast_taken names.kind (values.Ref (suc place) ∷ [], left)) (cast_to (suc place) left (instance machine.program at.object.kind names.kind))
        (ap (λ (found : Option Object). option_and_then (cast_to (suc place) left) (option_map (λ (object : Object). instance machine.program object.kind names.kind) found)) at.there)
        (cast_object place own kind at.object at.there at.is (instance machine.program at.object.kind names.kind) refl)

    cast_value : (serial : ℕ) → IsKnown kinds (values.Ref serial) → Planned machine.program (cast_taken names.kind (values.Ref serial ∷ [], left))
    cast_value serial IsKnown.Null = cast_passes 0 Refers.ToNull
    cast_value serial (IsKnown.AnObject own kind known) = cast_known own kind known

    cast_with : (type : VerificationType) (held : List Value) → HaveTypes stage.method kinds (type ∷ []) held → is_initialised type ≡ true → Planned machine.program (cast_taken names.kind (held, left))
    cast_with type held (HaveTypes.And own value more others has HaveTypes.NoMore) ready =
        let object : Initialised kinds value = initialised stage.method kinds type value has ready in
        planned_by machine.program (cast_taken names.kind (value ∷ [], left)) (cast_taken names.kind (values.Ref object.serial ∷ [], left))
        (ap (λ (value : Value). cast_taken names.kind (value ∷ [], left)) object.is) (cast_value object.serial object.known)

  pub cast_advances : (index : ℕ) (stage : Stage machine state frame below insn (actions.Cast index)) → NamesKind machine.program stage.method frame.method frame.pc index
      → Planned machine.program (casts here)
  cast_advances index stage names =
      option_and_then_some (leaving_with stage.method stage.types (actions.Cast index)) (taken (sorts.Reference ∷ []) stage.types.stack) stage.after stage.leaves
      (λ off so fits. by off.0 off.1 so fits)
    where
      go : (type : VerificationType) (rest : List VerificationType) → taken (sorts.Reference ∷ []) stage.types.stack ≡ Some (type ∷ [], rest) → is_initialised type ≡ true
          → verified.with_stack stage.method.body.max_stack stage.types (types.Object names.kind ∷ rest) ≡ Some stage.after → Planned machine.program (casts here)
      go type rest so ready fits =
          let own : Taken stage.method kinds (sorts.Reference ∷ []) frame.stack (type ∷ []) rest =
          taken_typed stage.method kinds (sorts.Reference ∷ []) stage.types.stack frame.stack (type ∷ []) rest stage.stack so in
          planned_by machine.program (casts here) (cast_taken names.kind (own.values, own.left))
          (ap cast_named names.names ∙ ap (option_and_then (cast_taken names.kind)) own.taken)
          (cast_with index stage names rest own.left fits own.below type own.values own.held ready)

      by : (held rest : List VerificationType) → taken (sorts.Reference ∷ []) stage.types.stack ≡ Some (held, rest)
          → leaving_with stage.method stage.types (actions.Cast index) (held, rest) ≡ Some stage.after → Planned machine.program (casts here)
      by [] rest so fits = never fits
      by (type ∷ []) rest so fits =
          option_and_then_some (λ (type : Option VerificationType). put_on stage.method stage.types (listed type) rest)
          (if is_initialised type then option_map (λ (kind : ℕ). Some (types.Object kind)) (kind_named stage.method index) else None) stage.after fits
          (λ own gives leaves.
          let both = when (is_initialised type) (option_map (λ (kind : ℕ). Some (types.Object kind)) (kind_named stage.method index)) own gives in
          let same : Some (types.Object names.kind) ≡ own =
          same_Some (Some (types.Object names.kind)) own (sym (ap (option_map (λ (kind : ℕ). Some (types.Object kind))) names.typed) ∙ both.1) in
          go type rest so both.0 (subst (λ (type : Option VerificationType). put_on stage.method stage.types (listed type) rest ≡ Some stage.after) (sym same) leaves))
      by (one ∷ two ∷ more) rest so fits = never fits

  -- ---- instanceof

  abbrev ask_taken : ℕ → List Value × List Value → Option Plan
  ask_taken kind (values.Ref serial ∷ [], rest) = option_and_then (λ (is : Bool). leaves here (int_of is ∷ rest)) (is_instance here kind serial)
  ask_taken kind other = None

  abbrev ask_named : Named → Option Plan
  ask_named (meanings.Kind kind) = option_and_then (ask_taken kind) (taken_values (sorts.Reference ∷ []) frame.stack)
  ask_named other = None

  module _ (index : ℕ) (stage : Stage machine state frame below insn (actions.IsInstance index)) (kind : ℕ)
      (rest : List VerificationType) (left : List Value) (so : verified.with_stack stage.method.body.max_stack stage.types (types.Int ∷ rest) ≡ Some stage.after)
      (is : IsStack stage.method kinds rest left) where
    int_typed : (test : Bool) → IsStack stage.method kinds (types.Int ∷ rest) (int_of test ∷ left)
    int_typed true = IsStack.Upon types.Int (values.Int (pos 1)) rest left (HasType.AnInt (pos 1) (record { sfits = omega arith })) refl is
    int_typed false = IsStack.Upon types.Int (values.Int (pos 0)) rest left (HasType.AnInt (pos 0) (record { sfits = omega arith })) refl is

    asked : (test : Bool) → Planned machine.program (leaves here (int_of test ∷ left))
    asked test = lays_next machine state frame below insn (actions.IsInstance index) stage refl (types.Int ∷ rest) (int_of test ∷ left) so (int_typed test)

    ask_known : (serial own : ℕ) → kind_in kinds serial ≡ Some own → Planned machine.program (ask_taken kind (values.Ref serial ∷ [], left))
    ask_known zero own has = never has
    ask_known (suc place) own has =
        let at = is_at state.objects (suc place) own has in
        planned_by machine.program (ask_taken kind (values.Ref (suc place) ∷ [], left)) (leaves here (int_of (instance machine.program at.object.kind kind) ∷ left))
        (ap (λ (found : Option Object). option_and_then (λ (is : Bool). leaves here (int_of is ∷ left)) (option_map (λ (object : Object). instance machine.program object.kind kind) found)) at.there)
        (asked (instance machine.program at.object.kind kind))

    ask_value : (serial : ℕ) → IsKnown kinds (values.Ref serial) → Planned machine.program (ask_taken kind (values.Ref serial ∷ [], left))
    ask_value serial IsKnown.Null = asked false
    ask_value serial (IsKnown.AnObject own one known) = ask_known own one known

    ask_with : (type : VerificationType) (held : List Value) → HaveTypes stage.method kinds (type ∷ []) held → is_initialised type ≡ true → Planned machine.program (ask_taken kind (held, left))
    ask_with type held (HaveTypes.And own value more others has HaveTypes.NoMore) ready =
        let object : Initialised kinds value = initialised stage.method kinds type value has ready in
        planned_by machine.program (ask_taken kind (value ∷ [], left)) (ask_taken kind (values.Ref object.serial ∷ [], left))
        (ap (λ (value : Value). ask_taken kind (value ∷ [], left)) object.is) (ask_value object.serial object.known)

  pub ask_advances : (index : ℕ) (stage : Stage machine state frame below insn (actions.IsInstance index)) → NamesKind machine.program stage.method frame.method frame.pc index
      → Planned machine.program (asks_kind here)
  ask_advances index stage names =
      option_and_then_some (leaving_with stage.method stage.types (actions.IsInstance index)) (taken (sorts.Reference ∷ []) stage.types.stack) stage.after stage.leaves
      (λ off so fits. by off.0 off.1 so fits)
    where
      go : (type : VerificationType) (rest : List VerificationType) → taken (sorts.Reference ∷ []) stage.types.stack ≡ Some (type ∷ [], rest) → is_initialised type ≡ true
          → verified.with_stack stage.method.body.max_stack stage.types (types.Int ∷ rest) ≡ Some stage.after → Planned machine.program (asks_kind here)
      go type rest so ready fits =
          let own : Taken stage.method kinds (sorts.Reference ∷ []) frame.stack (type ∷ []) rest =
          taken_typed stage.method kinds (sorts.Reference ∷ []) stage.types.stack frame.stack (type ∷ []) rest stage.stack so in
          planned_by machine.program (asks_kind here) (ask_taken names.kind (own.values, own.left))
          (ap ask_named names.names ∙ ap (option_and_then (ask_taken names.kind)) own.taken)
          (ask_with index stage names.kind rest own.left fits own.below type own.values own.held ready)

      by : (held rest : List VerificationType) → taken (sorts.Reference ∷ []) stage.types.stack ≡ Some (held, rest)
          → leaving_with stage.method stage.types (actions.IsInstance index) (held, rest) ≡ Some stage.after → Planned machine.program (asks_kind here)
      by [] rest so fits = never fits
      by (type ∷ []) rest so fits =
          option_and_then_some (λ (type : Option VerificationType). put_on stage.method stage.types (listed type) rest)
          (only_if (is_initialised type) (Some types.Int)) stage.after fits
          (λ own gives leaves.
          let both = only (is_initialised type) (Some types.Int) own gives in
          go type rest so both.0 (subst (λ (type : Option VerificationType). put_on stage.method stage.types (listed type) rest ≡ Some stage.after) (sym both.1) leaves))
      by (one ∷ two ∷ more) rest so fits = never fits
