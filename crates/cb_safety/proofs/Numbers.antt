-- Instructions that compute from numbers.
use Rattle.std.proofs.Common.{◌≡◌, ◌∙◌, ap, arith, refl, ℤ, pos, FitsSigned, IfSome, List, [], ◌∷◌, ◌++◌, map, option_and_then, option_map, Option, Some, None}
use Rattle.std.specs.Int.{w32, w64, int_wrap}
use Rattle.std.proofs.lemmas.Int.{SFits-int_wrap}
use Rattle.std.proofs.lemmas.Option.{option_and_then_some}
use Rattle.cb_arith.proofs.Laws.{compare_fits, int_op_fits, long_op_fits, long_shift_fits, narrow_fits}
use Rattle.cb_arith.specs.Ints.{int_op}
use Rattle.cb_arith.specs.Longs.{long_op}
use Rattle.cb_arith.specs.Narrowing.{narrow}
use Rattle.cb_arith.specs.Order.{compare}
use Rattle.cb_arith.specs.Shifts.{long_shift}
use Rattle.cb_arith.specs.declared.int.IntOp.TheVariants as ints
use Rattle.cb_arith.specs.declared.long.LongOp.TheVariants as longs
use Rattle.cb_hierarchy.specs.Classes.{listed}
use Rattle.cb_insn.specs.declared.insn.Insn.{Insn}
use Rattle.cb_machine.specs.Computing.{computes, throws_by_zero}
use Rattle.cb_machine.specs.Machine.{Machine}
use Rattle.cb_machine.specs.Plans.{Plan, made}
use Rattle.cb_machine.specs.Standing.{Now, leaves}
use Rattle.cb_machine.specs.Values.{numbers_of, of_sort}
use Rattle.cb_plain.specs.State.{Frame, MethodFrame, State}
use Rattle.cb_plain.specs.declared.value.Value.{Value}
use Rattle.cb_plain.specs.declared.value.Value.TheVariants as values
use Rattle.cb_shapes.specs.Computations.{Computed, computed, gives, takes}
use Rattle.cb_shapes.specs.declared.action.Action.TheVariants as actions
use Rattle.cb_shapes.specs.declared.computation.Computation.{Computation}
use Rattle.cb_shapes.specs.declared.computation.Computation.TheVariants.{Nothing, IntConstant, LongConstant, OfInts, OfLongs, ShiftLong, NegateInt, NegateLong, IntToLong, LongToInt, MakeNarrow, CompareLongs}
use Rattle.cb_shapes.specs.declared.sort.Sort.{Sort}
use Rattle.cb_shapes.specs.declared.sort.Sort.TheVariants as sorts
use Rattle.cb_verify.specs.declared.verification_type.VerificationType.{VerificationType}
use Rattle.cb_verify.specs.declared.verification_type.VerificationType.TheVariants.{Int, Long}
use Rattle.cb_verify.specs.Calls.{put_on}
use Rattle.cb_verify.specs.Frames as verified
use Rattle.cb_verify.specs.Rules.{given, taken}
use Rattle.cb_verify.specs.Types.{number_type}
use Rattle.cb_safety.specs.Held.{HasType, IsStack}
use Rattle.cb_safety.specs.Kinds.{kinds_of}
use Rattle.cb_safety.specs.States.{IsTypedState}
use Rattle.cb_safety.proofs.Going.{Planned, Stage, lays_next, now_at, planned_by}
use Rattle.cb_safety.proofs.Sorted.{AreOf, are_of}
use Rattle.cb_safety.proofs.Spelled.{ConstantFits, fits_in}
use Rattle.cb_safety.proofs.Taken.{taken_sorted, taken_typed}

-- ---- what comes of numbers fits

pub data Lays : Option Sort → Computed → Type 0 where
  Throws : (sort : Option Sort) → Lays sort Computed.ByZero
  NoNumber : Lays None (Computed.Gives [])
  AnInt : (number : ℤ) → FitsSigned w32 number → Lays (Some sorts.Int) (Computed.Gives (number ∷ []))
  ALong : (number : ℤ) → FitsSigned w64 number → Lays (Some sorts.Long) (Computed.Gives (number ∷ []))

pub record Result (computation : Computation) (held : List Value) : Type 0 where
  pub result : Computed
  pub is : option_and_then (computed computation) (numbers_of held) ≡ Some result
  pub lays : Lays (gives computation) result

abbrev by_zero : Option ℤ → Computed
by_zero None = Computed.ByZero
by_zero (Some number) = Computed.Gives (number ∷ [])

an_int : (found : Option ℤ) → IfSome found (FitsSigned w32) → Lays (Some sorts.Int) (by_zero found)
an_int None fits = Lays.Throws (Some sorts.Int)
an_int (Some number) fits = Lays.AnInt number fits

a_long : (found : Option ℤ) → IfSome found (FitsSigned w64) → Lays (Some sorts.Long) (by_zero found)
a_long None fits = Lays.Throws (Some sorts.Long)
a_long (Some number) fits = Lays.ALong number fits

int_as_long : (number : ℤ) → FitsSigned w32 number → FitsSigned w64 number
int_as_long number fits = fits_in w32 w64 number (omega arith) fits

result_of : (computation : Computation) (held : List Value) → ConstantFits computation → AreOf (takes computation) held → Result computation held
result_of Nothing held fits AreOf.NoneAre = record { result = Computed.Gives []; is = refl; lays = Lays.NoNumber }
result_of (IntConstant number) held fits AreOf.NoneAre = record { result = Computed.Gives (number ∷ []); is = refl; lays = Lays.AnInt number fits }
result_of (LongConstant number) held fits AreOf.NoneAre = record { result = Computed.Gives (number ∷ []); is = refl; lays = Lays.ALong number fits }
result_of (OfInts op) held fits (AreOf.AnInt b b_fits others more (AreOf.AnInt a a_fits rest last AreOf.NoneAre)) =
    record { result = by_zero (int_op op a b); is = refl; lays = an_int (int_op op a b) (int_op_fits op a b) }
result_of (OfLongs op) held fits (AreOf.ALong b b_fits others more (AreOf.ALong a a_fits rest last AreOf.NoneAre)) =
    record { result = by_zero (long_op op a b); is = refl; lays = a_long (long_op op a b) (long_op_fits op a b) }
result_of (ShiftLong op) held fits (AreOf.AnInt by by_fits others more (AreOf.ALong a a_fits rest last AreOf.NoneAre)) =
    record { result = Computed.Gives (long_shift op a by ∷ []); is = refl; lays = Lays.ALong (long_shift op a by) (long_shift_fits op a by) }
result_of NegateInt held fits (AreOf.AnInt a a_fits others more AreOf.NoneAre) =
    record { result = by_zero (int_op ints.Sub (pos 0) a); is = refl; lays = an_int (int_op ints.Sub (pos 0) a) (int_op_fits ints.Sub (pos 0) a) }
result_of NegateLong held fits (AreOf.ALong a a_fits others more AreOf.NoneAre) =
    record { result = by_zero (long_op longs.Sub (pos 0) a); is = refl; lays = a_long (long_op longs.Sub (pos 0) a) (long_op_fits longs.Sub (pos 0) a) }
result_of IntToLong held fits (AreOf.AnInt a a_fits others more AreOf.NoneAre) =
    record { result = Computed.Gives (a ∷ []); is = refl; lays = Lays.ALong a (int_as_long a a_fits) }
result_of LongToInt held fits (AreOf.ALong a a_fits others more AreOf.NoneAre) =
    record { result = Computed.Gives (int_wrap w32 a ∷ []); is = refl; lays = Lays.AnInt (int_wrap w32 a) (SFits-int_wrap w32 a) }
result_of (MakeNarrow to) held fits (AreOf.AnInt a a_fits others more AreOf.NoneAre) =
    record { result = Computed.Gives (narrow to a ∷ []); is = refl; lays = Lays.AnInt (narrow to a) (narrow_fits to a) }
result_of CompareLongs held fits (AreOf.ALong b b_fits others more (AreOf.ALong a a_fits rest last AreOf.NoneAre)) =
    record { result = Computed.Gives (compare a b ∷ []); is = refl; lays = Lays.AnInt (compare a b) (compare_fits a b) }

-- ---- and is laid on the rest of the stack

module _ (machine : Machine) (state : State) (frame : MethodFrame) (below : List Frame) (insn : Insn) (computation : Computation)
    (stage : Stage machine state frame below insn (actions.Compute computation)) (throws : IsTypedState machine.program (made (throws_by_zero machine state))) where
  abbrev here : Now
  here = now_at machine state frame below

  abbrev given_numbers : Option Sort → List ℤ → List Value
  given_numbers None numbers = []
  given_numbers (Some sort) numbers = map (of_sort sort) numbers

  abbrev lay : Option Sort → List Value → Computed → Option Plan
  lay sort rest Computed.ByZero = Some (throws_by_zero machine state)
  lay sort rest (Computed.Gives numbers) = leaves here (given_numbers sort numbers ++ rest)

  laid_typed : (sort : Option Sort) (types : List VerificationType) (left : List Value) (result : Computed) → Lays sort result
      → verified.with_stack stage.method.body.max_stack stage.types (listed (option_map number_type sort) ++ types) ≡ Some stage.after
      → IsStack stage.method (kinds_of state.objects) types left → Planned machine.program (lay sort left result)
  laid_typed sort types left result (Lays.Throws own) fits is = record { plan = throws_by_zero machine state; is = refl; typed = throws }
  laid_typed sort types left result Lays.NoNumber fits is = lays_next machine state frame below insn (actions.Compute computation) stage refl types left fits is
  laid_typed sort types left result (Lays.AnInt number own) fits is =
      lays_next machine state frame below insn (actions.Compute computation) stage refl (Int ∷ types) (values.Int number ∷ left) fits
      (IsStack.Upon Int (values.Int number) types left (HasType.AnInt number own) refl is)
  laid_typed sort types left result (Lays.ALong number own) fits is =
      lays_next machine state frame below insn (actions.Compute computation) stage refl (Long ∷ types) (values.Long number ∷ left) fits
      (IsStack.Upon Long (values.Long number) types left (HasType.ALong number own) refl is)

  abbrev compute_from : List Value × List Value → Option Plan
  compute_from taken = option_and_then (lay (gives computation) taken.1) (option_and_then (computed computation) (numbers_of taken.0))

  pub compute_advances : ConstantFits computation → Planned machine.program (computes here computation)
  compute_advances constant =
      option_and_then_some (λ (off : List VerificationType × List VerificationType).
      option_and_then (λ (type : Option VerificationType). put_on stage.method stage.types (listed type) off.1) (given stage.method frame.pc (actions.Compute computation) off.0))
      (taken (takes computation) stage.types.stack) stage.after stage.leaves (λ off so fits. by off.0 off.1 so fits)
    where
      by : (held rest : List VerificationType) → taken (takes computation) stage.types.stack ≡ Some (held, rest)
          → verified.with_stack stage.method.body.max_stack stage.types (listed (option_map number_type (gives computation)) ++ rest) ≡ Some stage.after
          → Planned machine.program (computes here computation)
      by held rest so fits =
          let own = taken_typed stage.method (kinds_of state.objects) (takes computation) stage.types.stack frame.stack held rest stage.stack so in
          let are = are_of stage.method (kinds_of state.objects) (takes computation) held own.values own.held (taken_sorted (takes computation) stage.types.stack held rest so) in
          let result = result_of computation own.values constant are in
          planned_by machine.program (computes here computation) (lay (gives computation) own.left result.result)
          (ap (option_and_then compute_from) own.taken ∙ ap (option_and_then (lay (gives computation) own.left)) result.is)
          (laid_typed (gives computation) rest own.left result.result result.lays fits own.below)
