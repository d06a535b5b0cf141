-- Instructions that go elsewhere in the method (JVMS §6.5, ifeq to goto_w, tableswitch and lookupswitch).
use Rattle.std.specs.Prelude.{ℤ, pos, ◌-ℤ◌, ℕ, Bool, true, false, List, [], ◌∷◌, Option, Some, None, option_and_then, option_map, slice_get, ◌==◌}
use Rattle.std.specs.List.{find}
use Rattle.std.specs.Ordering.{int_eq}
use Rattle.cb_insn.specs.declared.insn.Operand.{Operand}
use Rattle.cb_insn.specs.declared.insn.Operand.TheVariants as operands
use Rattle.cb_insn.specs.declared.insn.Pair.{Pair}
use Rattle.cb_plain.specs.declared.value.Value.{Value}
use Rattle.cb_plain.specs.declared.value.Value.TheVariants.{Int, Ref}
use Rattle.cb_shapes.specs.Conditions.{passes, takes}
use Rattle.cb_shapes.specs.declared.sort.Sort.TheVariants as sorts
use Rattle.cb_shapes.specs.declared.test.Condition.{Condition}
use Rattle.cb_shapes.specs.declared.test.Condition.TheVariants.{Always, WithZero, OfInts, AreSame, IsNull}
use Rattle.cb_machine.specs.Plans.{Plan, leaving}
use Rattle.cb_machine.specs.Standing.{Now, goes_to, leaves, taken}

-- whether a condition holds of what it takes, the topmost first
abbrev same : Bool → Bool → Bool
same true is = is
same false true = false
same false false = true

abbrev pub holds : Condition → List Value → Option Bool
holds Always [] = Some true
holds (WithZero test) (Int a ∷ []) = Some (passes test a (pos 0))
holds (OfInts test) (Int b ∷ Int a ∷ []) = Some (passes test a b)
holds (AreSame are) (Ref b ∷ Ref a ∷ []) = Some (same are (a == b))
holds (IsNull is) (Ref a ∷ []) = Some (same is (a == 0))
holds other held = None

-- it goes to a place with the rest of the stack, or on
abbrev goes_at : Now → List Value → ℕ → Plan
goes_at now rest target = goes_to now target now.frame.locals rest (leaving now.state)

abbrev goes_if : Now → ℕ → List Value → Bool → Option Plan
goes_if now target rest true = Some (goes_at now rest target)
goes_if now target rest false = leaves now rest

abbrev branches_on : Now → Condition → ℕ → List Value × List Value → Option Plan
branches_on now condition target taken = option_and_then (goes_if now target taken.1) (holds condition taken.0)

abbrev pub branches : Now → Condition → Operand → Option Plan
branches now condition (operands.Branch target) = option_and_then (branches_on now condition target) (taken (takes condition) now.frame.stack)
branches now condition other = None

-- the target of a switch for a key: that of the table, counted from the lowest key, or that of the key's pair; else the default one
abbrev in_table : List ℕ → ℤ → Option ℕ
in_table targets (pos turn) = slice_get targets turn
in_table targets other = None

abbrev in_pairs : List Pair → ℤ → Option ℕ
in_pairs pairs key = option_map (λ pair. pair.target) (find (λ pair. int_eq pair.key key) pairs)

abbrev or_default : ℕ → Option ℕ → ℕ
or_default default None = default
or_default default (Some target) = target

abbrev pub target_for : Operand → ℤ → Option ℕ
target_for (operands.Table default low targets) key = Some (or_default default (in_table targets (key -ℤ low)))
target_for (operands.Lookup default pairs) key = Some (or_default default (in_pairs pairs key))
target_for other key = None

abbrev switches_on : Now → Operand → List Value × List Value → Option Plan
switches_on now operand (Int key ∷ [], rest) = option_map (goes_at now rest) (target_for operand key)
switches_on now operand other = None

abbrev pub switches : Now → Operand → Option Plan
switches now operand = option_and_then (switches_on now operand) (taken (sorts.Int ∷ []) now.frame.stack)
