-- Instructions that go elsewhere in the method.
use Rattle.std.proofs.Common.{◌≡◌, ◌∙◌, ap, arith, refl, subst, sym, ℕ, zero, suc, ℤ, pos, ◌-ℤ◌, ◌==◌, Bool, true, false, List, [], ◌∷◌, map, option_and_then, option_map, Option, Some, None, slice_get, inl, inr}
use Rattle.std.specs.List.{Contains, find}
use Rattle.std.specs.Ordering.{int_eq}
use Rattle.std.proofs.lemmas.Bool.{false≢true}
use Rattle.std.proofs.lemmas.Option.{option_and_then_some, same_Some}
use Rattle.cb_hierarchy.specs.Classes.{listed}
use Rattle.cb_insn.specs.declared.insn.Insn.{Insn}
use Rattle.cb_insn.specs.declared.insn.Operand.{Operand}
use Rattle.cb_insn.specs.declared.insn.Operand.TheVariants as operands
use Rattle.cb_insn.specs.declared.insn.Pair.{Pair}
use Rattle.cb_machine.specs.Branching.{branches, holds, switches, target_for}
use Rattle.cb_machine.specs.Machine.{Machine}
use Rattle.cb_machine.specs.Plans.{Plan, leaving}
use Rattle.cb_machine.specs.Standing.{Now, goes_to, leaves}
use Rattle.cb_plain.specs.State.{Frame, MethodFrame, State}
use Rattle.cb_plain.specs.declared.value.Value.{Value}
use Rattle.cb_plain.specs.declared.value.Value.TheVariants as values
use Rattle.cb_shapes.specs.Conditions.{passes, takes}
use Rattle.cb_shapes.specs.Targets.{goes_on as falls_on, targets_of}
use Rattle.cb_shapes.specs.declared.action.Action.{Action}
use Rattle.cb_shapes.specs.declared.action.Action.TheVariants as actions
use Rattle.cb_shapes.specs.declared.sort.Sort.TheVariants as sorts
use Rattle.cb_shapes.specs.declared.test.Condition.{Condition}
use Rattle.cb_shapes.specs.declared.test.Condition.TheVariants as conditions
use Rattle.cb_verify.specs.declared.verification_type.VerificationType.{VerificationType}
use Rattle.cb_verify.specs.Calls.{put_on}
use Rattle.cb_verify.specs.Frames as verified
use Rattle.cb_verify.specs.Rules.{given, taken}
use Rattle.cb_safety.specs.Held.{HaveTypes, IsStack}
use Rattle.cb_safety.specs.Kinds.{kinds_of}
use Rattle.cb_safety.proofs.Assigned.{mapped, never}
use Rattle.cb_safety.proofs.Going.{Planned, Stage, goes_there, lays_next, now_at, planned_by, with_stack_is}
use Rattle.cb_safety.proofs.Searching.{found_either}
use Rattle.cb_safety.proofs.Sorted.{AreOf, are_of}
use Rattle.cb_safety.proofs.Spelled.{IsBranch, IsSwitch}
use Rattle.cb_safety.proofs.Taken.{taken_sorted, taken_typed}

-- ---- conditions on what is taken

-- a condition holds or not, and where it doesn't the next instruction may be reached
record Decided (condition : Condition) (held : List Value) : Type 0 where
  pub test : Bool
  pub is : holds condition held ≡ Some test
  pub falls : test ≡ false → falls_on (actions.Branch condition) ≡ true

abbrev alike : Bool → Bool → Bool
alike true is = is
alike false true = false
alike false false = true

decided : (condition : Condition) (held : List Value) → AreOf (takes condition) held → Decided condition held
decided conditions.Always held AreOf.NoneAre = record { test = true; is = refl; falls = λ not. absurd (false≢true (sym not)) }
decided (conditions.WithZero test) held (AreOf.AnInt a fits asked more AreOf.NoneAre) = record { test = passes test a (pos 0); is = refl; falls = λ not. refl }
decided (conditions.OfInts test) held (AreOf.AnInt b b_fits asked more (AreOf.AnInt a a_fits others rest AreOf.NoneAre)) =
    record { test = passes test a b; is = refl; falls = λ not. refl }
decided (conditions.AreSame are) held (AreOf.AReference b asked more (AreOf.AReference a others rest AreOf.NoneAre)) =
    record { test = alike are (a == b); is = refl; falls = λ not. refl }
decided (conditions.IsNull is) held (AreOf.AReference a asked more AreOf.NoneAre) = record { test = alike is (a == 0); is = refl; falls = λ not. refl }

-- ---- where a switch goes

later : {Item : Type 0} (first item : Item) (items : List Item) → Contains items item → Contains (first ∷ items) item
later first item items (place, low, is) = (suc place, omega (arith, low), is)

got_contained : (items : List ℕ) (place item : ℕ) → slice_get items place ≡ Some item → Contains items item
got_contained [] place item is = never is
got_contained (first ∷ items) zero item is = (0, omega arith, same_Some first item is)
got_contained (first ∷ items) (suc place) item is = later first item items (got_contained items place item is)

abbrev target_of : Pair → ℕ
target_of pair = pair.target

found_contained : (test : Pair → Bool) (pairs : List Pair) (pair : Pair) → find test pairs ≡ Some pair → Contains (map target_of pairs) pair.target
found_contained test [] pair so = never so
found_contained test (first ∷ pairs) pair so = elim (found_either test first pairs pair so) [
  | inl here ↦ (0, omega arith, ap target_of here.1)
  | inr behind ↦ later first.target pair.target (map target_of pairs) (found_contained test pairs pair behind.1)
]

abbrev table_at : List ℕ → ℤ → Option ℕ
table_at targets (pos turn) = slice_get targets turn
table_at targets other = None

abbrev pairs_at : List Pair → ℤ → Option ℕ
pairs_at pairs key = option_map target_of (find (λ (pair : Pair). int_eq pair.key key) pairs)

table_contained : (targets : List ℕ) (turn : ℤ) (place : ℕ) → table_at targets turn ≡ Some place → Contains targets place
table_contained targets (pos turn) place is = got_contained targets turn place is
table_contained targets other place is = never is

pairs_contained : (pairs : List Pair) (key : ℤ) (place : ℕ) → pairs_at pairs key ≡ Some place → Contains (map target_of pairs) place
pairs_contained pairs key place is =
    mapped target_of (find (λ (pair : Pair). int_eq pair.key key) pairs) place is
    (λ pair found same. subst (λ (own : ℕ). Contains (map target_of pairs) own) same (found_contained (λ (pair : Pair). int_eq pair.key key) pairs pair found))

abbrev or_else : ℕ → Option ℕ → ℕ
or_else default None = default
or_else default (Some target) = target

or_contained : (default : ℕ) (targets : List ℕ) (found : Option ℕ) → ((place : ℕ) → found ≡ Some place → Contains targets place) → Contains (default ∷ targets) (or_else default found)
or_contained default targets None all = (0, omega arith, refl)
or_contained default targets (Some place) all = later default place targets (all place refl)

record SwitchTo (operand : Operand) (key : ℤ) : Type 0 where
  pub place : ℕ
  pub is : target_for operand key ≡ Some place
  pub among : Contains (targets_of operand) place

switch_to : (operand : Operand) (key : ℤ) → IsSwitch operand → SwitchTo operand key
switch_to operand key (IsSwitch.ATable default low targets) = record {
  place = or_else default (table_at targets (key -ℤ low));
  is = refl;
  among = or_contained default targets (table_at targets (key -ℤ low)) (table_contained targets (key -ℤ low));
}
switch_to operand key (IsSwitch.ALookup default pairs) = record {
  place = or_else default (pairs_at pairs key);
  is = refl;
  among = or_contained default (map target_of pairs) (pairs_at pairs key) (pairs_contained pairs key);
}

-- ---- and what is planned there

module _ (machine : Machine) (state : State) (frame : MethodFrame) (below : List Frame) (insn : Insn) where
  abbrev here : Now
  here = now_at machine state frame below

  abbrev goes_at : List Value → ℕ → Plan
  goes_at rest target = goes_to here target frame.locals rest (leaving state)

  lays_there : (action : Action) (stage : Stage machine state frame below insn action) (place : ℕ) (types : List VerificationType) (stack : List Value)
      → Contains (targets_of insn.operand) place → verified.with_stack stage.method.body.max_stack stage.types types ≡ Some stage.after
      → IsStack stage.method (kinds_of state.objects) types stack → Planned machine.program (Some (goes_at stack place))
  lays_there action stage place types stack among so is =
      let same = with_stack_is stage.method.body.max_stack stage.types types stage.after so in
      goes_there machine state frame below insn action stage place frame.locals stack among
      (subst (λ (own : verified.Frame). HaveTypes stage.method (kinds_of state.objects) own.locals frame.locals) same stage.locals)
      (subst (λ (own : verified.Frame). IsStack stage.method (kinds_of state.objects) own.stack stack) same is)

  abbrev go_if : ℕ → List Value → Bool → Option Plan
  go_if target rest true = Some (goes_at rest target)
  go_if target rest false = leaves here rest

  gone : (condition : Condition) (stage : Stage machine state frame below insn (actions.Branch condition)) (target : ℕ) (types : List VerificationType) (left : List Value) (test : Bool)
      → Contains (targets_of insn.operand) target → (test ≡ false → falls_on (actions.Branch condition) ≡ true)
      → verified.with_stack stage.method.body.max_stack stage.types types ≡ Some stage.after
      → IsStack stage.method (kinds_of state.objects) types left → Planned machine.program (go_if target left test)
  gone condition stage target types left true among falls fits is = lays_there (actions.Branch condition) stage target types left among fits is
  gone condition stage target types left false among falls fits is =
      lays_next machine state frame below insn (actions.Branch condition) stage (falls refl) types left fits is

  abbrev branch_on : Condition → ℕ → List Value × List Value → Option Plan
  branch_on condition target taken = option_and_then (go_if target taken.1) (holds condition taken.0)

  branch_to : (condition : Condition) (stage : Stage machine state frame below insn (actions.Branch condition)) (operand : Operand) → IsBranch operand
      → ((place : ℕ) → Contains (targets_of operand) place → Contains (targets_of insn.operand) place)
      → (held rest : List VerificationType) → taken (takes condition) stage.types.stack ≡ Some (held, rest)
      → verified.with_stack stage.method.body.max_stack stage.types rest ≡ Some stage.after
      → Planned machine.program (branches here condition operand)
  branch_to condition stage operand (IsBranch.ABranch target) among held rest so fits =
      let own = taken_typed stage.method (kinds_of state.objects) (takes condition) stage.types.stack frame.stack held rest stage.stack so in
      let test = decided condition own.values
      (are_of stage.method (kinds_of state.objects) (takes condition) held own.values own.held (taken_sorted (takes condition) stage.types.stack held rest so)) in
      planned_by machine.program (branches here condition (operands.Branch target)) (go_if target own.left test.test)
      (ap (option_and_then (branch_on condition target)) own.taken ∙ ap (option_and_then (go_if target own.left)) test.is)
      (gone condition stage target rest own.left test.test (among target (0, omega arith, refl)) test.falls fits own.below)

  pub branch_advances : (condition : Condition) → IsBranch insn.operand → Stage machine state frame below insn (actions.Branch condition)
      → Planned machine.program (branches here condition insn.operand)
  branch_advances condition is stage =
      option_and_then_some (λ (off : List VerificationType × List VerificationType).
      option_and_then (λ (type : Option VerificationType). put_on stage.method stage.types (listed type) off.1) (given stage.method frame.pc (actions.Branch condition) off.0))
      (taken (takes condition) stage.types.stack) stage.after stage.leaves
      (λ off so fits. branch_to condition stage insn.operand is (λ place among. among) off.0 off.1 so fits)

  abbrev switch_on : Operand → List Value × List Value → Option Plan
  switch_on operand (values.Int key ∷ [], rest) = option_map (goes_at rest) (target_for operand key)
  switch_on operand other = None

  switched : (stage : Stage machine state frame below insn actions.Switch) → IsSwitch insn.operand → (types : List VerificationType) (held left : List Value)
      → AreOf (sorts.Int ∷ []) held → verified.with_stack stage.method.body.max_stack stage.types types ≡ Some stage.after
      → IsStack stage.method (kinds_of state.objects) types left → Planned machine.program (switch_on insn.operand (held, left))
  switched stage is types held left (AreOf.AnInt key key_fits asked more AreOf.NoneAre) fits under =
      let to = switch_to insn.operand key is in
      planned_by machine.program (option_map (goes_at left) (target_for insn.operand key)) (Some (goes_at left to.place)) (ap (option_map (goes_at left)) to.is)
      (lays_there actions.Switch stage to.place types left to.among fits under)

  pub switch_advances : IsSwitch insn.operand → Stage machine state frame below insn actions.Switch → Planned machine.program (switches here insn.operand)
  switch_advances is stage =
      option_and_then_some (λ (off : List VerificationType × List VerificationType).
      option_and_then (λ (type : Option VerificationType). put_on stage.method stage.types (listed type) off.1) (given stage.method frame.pc actions.Switch off.0))
      (taken (sorts.Int ∷ []) stage.types.stack) stage.after stage.leaves (λ off so fits. by off.0 off.1 so fits)
    where
      by : (held rest : List VerificationType) → taken (sorts.Int ∷ []) stage.types.stack ≡ Some (held, rest)
          → verified.with_stack stage.method.body.max_stack stage.types rest ≡ Some stage.after
          → Planned machine.program (switches here insn.operand)
      by held rest so fits =
          let own = taken_typed stage.method (kinds_of state.objects) (sorts.Int ∷ []) stage.types.stack frame.stack held rest stage.stack so in
          planned_by machine.program (switches here insn.operand) (switch_on insn.operand (own.values, own.left)) (ap (option_and_then (switch_on insn.operand)) own.taken)
          (switched stage is rest own.values own.left
          (are_of stage.method (kinds_of state.objects) (sorts.Int ∷ []) held own.values own.held (taken_sorted (sorts.Int ∷ []) stage.types.stack held rest so)) fits own.below)
