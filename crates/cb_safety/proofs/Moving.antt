-- Instructions that only move values between local variables and the stack, and aconst_null and iinc.
use Rattle.std.proofs.Common.{◌≡◌, ◌∙◌, ap, refl, subst, ℕ, ℤ, ◌+◌, ◌+ℤ◌, Bool, true, false, List, [], ◌∷◌, length, Option, Some, None, option_and_then, slice_get, slice_set, nat_le, if◌then◌else◌}
use Rattle.std.specs.Int.{w32, int_wrap}
use Rattle.std.specs.Cmp.Lexicographic.{pointwise}
use Rattle.std.proofs.lemmas.Bool.{and_parts, false≢true}
use Rattle.std.proofs.lemmas.Int.{SFits-int_wrap}
use Rattle.std.proofs.lemmas.Option.{option_and_then_some}
use Rattle.cb_insn.specs.declared.insn.Insn.{Insn}
use Rattle.cb_machine.specs.Computing.{loads_null, shuffles}
use Rattle.cb_machine.specs.Locals.{increases, loads, stores, with_slots}
use Rattle.cb_machine.specs.Machine.{Machine}
use Rattle.cb_machine.specs.Plans.{Plan, leaving}
use Rattle.cb_machine.specs.Standing.{Now, goes_on, leaves, same_sort}
use Rattle.cb_machine.specs.Values.{null, sort_of}
use Rattle.cb_plain.specs.Depth.{slots_of}
use Rattle.cb_plain.specs.State.{Frame, MethodFrame, State}
use Rattle.cb_plain.specs.declared.value.Value.{Value}
use Rattle.cb_plain.specs.declared.value.Value.TheVariants as values
use Rattle.cb_shapes.specs.Shuffles.{shuffled}
use Rattle.cb_shapes.specs.declared.action.Action.TheVariants as actions
use Rattle.cb_shapes.specs.declared.shuffle.Shuffle.{Shuffle}
use Rattle.cb_shapes.specs.declared.sort.Sort.{Sort}
use Rattle.cb_shapes.specs.declared.sort.Sort.TheVariants as sorts
use Rattle.cb_verify.specs.declared.verification_type.VerificationType.{VerificationType}
use Rattle.cb_verify.specs.declared.verification_type.VerificationType.TheVariants.{Null}
use Rattle.cb_verify.specs.Calls.{put_on}
use Rattle.cb_verify.specs.Frames as verified
use Rattle.cb_verify.specs.Leaving.{store_taken}
use Rattle.cb_verify.specs.Rules.{taken}
use Rattle.cb_verify.specs.Types.{category, is_of}
use Rattle.cb_safety.specs.Held.{HasType, HaveTypes, IsStack}
use Rattle.cb_safety.specs.Kinds.{kinds_of}
use Rattle.cb_safety.proofs.Assigned.{mapped, never}
use Rattle.cb_safety.proofs.Going.{Planned, Stage, goes_next, lays_next, now_at, planned_by, with_stack_is}
use Rattle.cb_safety.proofs.Shuffled.{shuffled_typed}
use Rattle.cb_safety.proofs.Taken.{sized, taken_sorted, taken_typed}
use Rattle.cb_safety.proofs.Variables.{increased_typed, loaded_typed, stored_typed}

module _ (machine : Machine) (state : State) (frame : MethodFrame) (below : List Frame) (insn : Insn) where
  abbrev here : Now
  here = now_at machine state frame below

  -- aconst_null
  pub null_advances : Stage machine state frame below insn actions.Null → Planned machine.program (loads_null here)
  null_advances stage =
      lays_next machine state frame below insn actions.Null stage refl (Null ∷ stage.types.stack) (null ∷ frame.stack) stage.leaves
      (IsStack.Upon Null null stage.types.stack frame.stack HasType.ItsNull refl stage.stack)

  -- pop to swap
  pub shuffle_advances : (shuffle : Shuffle) → Stage machine state frame below insn (actions.Shuffle shuffle) → Planned machine.program (shuffles here shuffle)
  shuffle_advances shuffle stage =
      option_and_then_some (verified.with_stack stage.method.body.max_stack stage.types) (shuffled category shuffle stage.types.stack) stage.after stage.leaves by
    where
      by : (types : List VerificationType) → shuffled category shuffle stage.types.stack ≡ Some types → verified.with_stack stage.method.body.max_stack stage.types types ≡ Some stage.after
          → Planned machine.program (shuffles here shuffle)
      by types so fits =
          let moved = shuffled_typed stage.method (kinds_of state.objects) shuffle stage.types.stack frame.stack types stage.stack so in
          planned_by machine.program (shuffles here shuffle) (leaves here moved.left) (ap (option_and_then (leaves here)) moved.there)
          (lays_next machine state frame below insn (actions.Shuffle shuffle) stage refl types moved.left fits moved.typed)

  -- loads
  abbrev load_when : Value → Bool → Option Plan
  load_when value true = leaves here (value ∷ frame.stack)
  load_when value false = None

  load_there : (sort : Sort) (local : ℕ) (value : Value) → slice_get frame.locals local ≡ Some value → same_sort (sort_of value) sort ≡ true
      → loads here sort local ≡ leaves here (value ∷ frame.stack)
  load_there sort local value there same =
      ap (option_and_then (λ (value : Value). load_when value (same_sort (sort_of value) sort))) there ∙ ap (load_when value) same

  pub load_advances : (sort : Sort) (local : ℕ) → Stage machine state frame below insn (actions.Load sort local) → Planned machine.program (loads here sort local)
  load_advances sort local stage =
      option_and_then_some (λ (type : VerificationType). put_on stage.method stage.types (type ∷ []) stage.types.stack) (verified.loaded sort local stage.types) stage.after stage.leaves by
    where
      by : (type : VerificationType) → verified.loaded sort local stage.types ≡ Some type → put_on stage.method stage.types (type ∷ []) stage.types.stack ≡ Some stage.after
          → Planned machine.program (loads here sort local)
      by type so fits =
          let own = loaded_typed stage.method (kinds_of state.objects) sort local stage.types frame.locals type stage.locals so in
          planned_by machine.program (loads here sort local) (leaves here (own.value ∷ frame.stack)) (load_there sort local own.value own.there own.sorted)
          (lays_next machine state frame below insn (actions.Load sort local) stage refl (type ∷ stage.types.stack) (own.value ∷ frame.stack) fits
          (IsStack.Upon type own.value stage.types.stack frame.stack own.fits (sized stage.method (kinds_of state.objects) sort type own.value own.fits own.is) stage.stack))

  -- iinc
  abbrev increase_by : ℕ → ℤ → Value → Option Plan
  increase_by local by (values.Int number) = goes_on here (slice_set frame.locals local (values.Int (int_wrap w32 (number +ℤ by)))) frame.stack (leaving state)
  increase_by local by other = None

  increase_there : (local : ℕ) (by : ℤ) (value : Value) (stage : Stage machine state frame below insn (actions.Increase local by)) (type : VerificationType)
      → verified.loaded sorts.Int local stage.types ≡ Some type → stage.types ≡ stage.after → same_sort (sort_of value) sorts.Int ≡ true → Planned machine.program (increase_by local by value)
  increase_there local by (values.Int number) stage type so same is =
      let own : ℤ = int_wrap w32 (number +ℤ by) in
      goes_next machine state frame below insn (actions.Increase local by) stage refl (slice_set frame.locals local (values.Int own)) frame.stack
      (subst (λ (after : verified.Frame). HaveTypes stage.method (kinds_of state.objects) after.locals (slice_set frame.locals local (values.Int own))) same
      (increased_typed stage.method (kinds_of state.objects) local stage.types frame.locals type own stage.locals so (SFits-int_wrap w32 (number +ℤ by))))
      (subst (λ (after : verified.Frame). IsStack stage.method (kinds_of state.objects) after.stack frame.stack) same stage.stack)
  increase_there local by other stage type so same is = absurd (false≢true is)

  pub increase_advances : (local : ℕ) (by : ℤ) → Stage machine state frame below insn (actions.Increase local by) → Planned machine.program (increases here local by)
  increase_advances local by stage =
      mapped (λ (type : VerificationType). stage.types) (verified.loaded sorts.Int local stage.types) stage.after stage.leaves with_type
    where
      with_type : (type : VerificationType) → verified.loaded sorts.Int local stage.types ≡ Some type → stage.types ≡ stage.after → Planned machine.program (increases here local by)
      with_type type so same =
          let own = loaded_typed stage.method (kinds_of state.objects) sorts.Int local stage.types frame.locals type stage.locals so in
          planned_by machine.program (increases here local by) (increase_by local by own.value) (ap (option_and_then (increase_by local by)) own.there)
          (increase_there local by own.value stage type so same own.sorted)

  -- stores
  abbrev store_in : ℕ → List Value → List Value → Option Plan
  store_in local rest held =
      if nat_le (local + length held) (length frame.locals) then goes_on here (with_slots frame.locals local held) rest (leaving state) else None

  abbrev store_values : ℕ → List Value × List Value → Option Plan
  store_values local (value ∷ [], rest) = store_in local rest (slots_of value)
  store_values local other = None

  store_there : (sort : Sort) (local : ℕ) (stage : Stage machine state frame below insn (actions.Store sort local)) (type : VerificationType) (rest after : List VerificationType)
      (held left : List Value) → HaveTypes stage.method (kinds_of state.objects) (type ∷ []) held → is_of sort type ≡ true
      → IsStack stage.method (kinds_of state.objects) rest left → verified.stored local type stage.types.locals ≡ Some after
      → verified.with_stack stage.method.body.max_stack (verified.with_locals stage.types after) rest ≡ Some stage.after
      → Planned machine.program (store_values local (held, left))
  store_there sort local stage type rest after held left (HaveTypes.And own value others more has HaveTypes.NoMore) is under so fits =
      let kinds = kinds_of state.objects in
      let put = stored_typed stage.method kinds local type value stage.types.locals after frame.locals has (sized stage.method kinds sort type value has is) stage.locals so in
      let same = with_stack_is stage.method.body.max_stack (verified.with_locals stage.types after) rest stage.after fits in
      planned_by machine.program (store_values local (value ∷ [], left)) (goes_on here (with_slots frame.locals local (slots_of value)) left (leaving state))
      (ap (λ (test : Bool). if test then goes_on here (with_slots frame.locals local (slots_of value)) left (leaving state) else None) put.room)
      (goes_next machine state frame below insn (actions.Store sort local) stage refl (with_slots frame.locals local (slots_of value)) left
      (subst (λ (own : verified.Frame). HaveTypes stage.method kinds own.locals (with_slots frame.locals local (slots_of value))) same put.typed)
      (subst (λ (own : verified.Frame). IsStack stage.method kinds own.stack left) same under))

  pub store_advances : (sort : Sort) (local : ℕ) → Stage machine state frame below insn (actions.Store sort local) → Planned machine.program (stores here sort local)
  store_advances sort local stage =
      option_and_then_some (store_taken stage.method local stage.types) (taken (sort ∷ []) stage.types.stack) stage.after stage.leaves (λ off so fits. by off.0 off.1 so fits)
    where
      by : (held rest : List VerificationType) → taken (sort ∷ []) stage.types.stack ≡ Some (held, rest) → store_taken stage.method local stage.types (held, rest) ≡ Some stage.after
          → Planned machine.program (stores here sort local)
      by [] rest so fits = never fits
      by (type ∷ []) rest so fits =
          let own = taken_typed stage.method (kinds_of state.objects) (sort ∷ []) stage.types.stack frame.stack (type ∷ []) rest stage.stack so in
          let is = (and_parts (is_of sort type) (pointwise is_of [] []) (taken_sorted (sort ∷ []) stage.types.stack (type ∷ []) rest so)).0 in
          planned_by machine.program (stores here sort local) (store_values local (own.values, own.left)) (ap (option_and_then (store_values local)) own.taken)
          (option_and_then_some (λ (locals : List VerificationType). verified.with_stack stage.method.body.max_stack (verified.with_locals stage.types locals) rest)
          (verified.stored local type stage.types.locals) stage.after fits
          (λ after put whole. store_there sort local stage type rest after own.values own.left own.held is own.below put whole))
      by (type ∷ other ∷ more) rest so fits = never fits
