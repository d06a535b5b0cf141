-- The index of an invokespecial stands in its operand.
use Rattle.std.proofs.Common.{◌≡◌, ◌∙◌, inl, inr, ap, arith, refl, sym, subst, ℕ, zero, suc, ◌+◌, ◌<◌, ◌≤◌, ◌==◌, Bool, true, false, cond, not, nat_le, nat_lt, Option, Some, None, option_map, if◌then◌else◌}
use Rattle.std.specs.List.{list_all, range_with_len}
use Rattle.std.proofs.lemmas.Bool.{and_parts, cases_lt, le-ltb, leb-true}
use Rattle.cb_insn.specs.declared.insn.Operand.{Operand}
use Rattle.cb_insn.specs.declared.insn.Operand.TheVariants as operands
use Rattle.cb_insn.specs.declared.opcode.TheConstants as opcodes
use Rattle.cb_classfile.specs.Needed.{index_in}
use Rattle.cb_shapes.specs.declared.action.Action.{Action}
use Rattle.cb_shapes.specs.declared.action.Action.TheVariants as actions
use Rattle.cb_shapes.specs.declared.test.Condition.{Condition}
use Rattle.cb_shapes.specs.Control.{condition_of}
use Rattle.cb_shapes.specs.References.{by_constant, reference}
use Rattle.cb_shapes.specs.Shapes.{done_by}

-- ---- instructions in front of getstatic are none

abbrev is_special : Option Action → Bool
is_special (Some (actions.InvokeSpecial index)) = true
is_special other = false

abbrev is_other : Operand → ℕ → Bool
is_other operand opcode = not (is_special (done_by opcode operand))

abbrev first_reference : ℕ
first_reference = opcodes.GETSTATIC

all_other : (operand : Operand) → list_all (is_other operand) (range_with_len 0 first_reference) ≡ true
all_other operands.Nothing = refl
all_other other = refl

in_range : (test : ℕ → Bool) (from count number : ℕ) → list_all test (range_with_len from count) ≡ true → number < count → test (from + number) ≡ true
in_range test from zero number all low = absurd (omega (arith, low))
in_range test from (suc count) zero all low =
    subst (λ (number : ℕ). test number ≡ true) (let same : from ≡ from + 0 = omega arith in same) (and_parts (test from) (list_all test (range_with_len (from + 1) count)) all).0
in_range test from (suc count) (suc number) all low =
    subst (λ (number : ℕ). test number ≡ true) (let same : from + 1 + number ≡ from + suc number = omega arith in same)
    (in_range test (from + 1) count number (and_parts (test from) (list_all test (range_with_len (from + 1) count)) all).1 (omega (arith, low)))

is_none : (opcode : ℕ) (operand : Operand) → opcode < first_reference → is_special (done_by opcode operand) ≡ false
is_none opcode operand low =
    go (is_special (done_by opcode operand))
    (subst (λ (number : ℕ). is_other operand number ≡ true) (let same : 0 + opcode ≡ opcode = omega arith in same) (in_range (is_other operand) 0 first_reference opcode (all_other operand) low))
  where
    go : (test : Bool) → not test ≡ true → test ≡ false
    go true is = cc
    go false is = refl

-- ---- behind it those of references stand first

skip : (opcode bound : ℕ) (one other last : Option Action) → first_reference ≤ opcode → nat_le bound first_reference ≡ true → other ≡ last → (if nat_lt opcode bound then one else other) ≡ last
skip opcode bound one other last high low is =
    ap (λ (test : Bool). if test then one else other) (le-ltb opcode bound (omega (arith, high, leb-true bound first_reference low))) ∙ is

behind : (opcode : ℕ) (operand : Operand) → first_reference ≤ opcode
    → done_by opcode operand ≡ (if nat_lt opcode opcodes.IFNULL then reference opcode operand else option_map actions.Branch (condition_of opcode))
behind opcode operand high =
    skip opcode opcodes.ILOAD _ _ _ high refl
    (skip opcode opcodes.IALOAD _ _ _ high refl
    (skip opcode opcodes.ISTORE _ _ _ high refl
    (skip opcode opcodes.IASTORE _ _ _ high refl
    (skip opcode opcodes.POP _ _ _ high refl
    (skip opcode opcodes.IADD _ _ _ high refl
    (skip opcode opcodes.I2L _ _ _ high refl
    (skip opcode opcodes.IFEQ _ _ _ high refl
    (skip opcode opcodes.TABLESWITCH _ _ _ high refl
    (skip opcode opcodes.GETSTATIC _ _ _ high refl refl)))))))))

-- what names a constant has it as its operand
same_index : (opcode own index : ℕ) → by_constant opcode own ≡ Some (actions.InvokeSpecial index) → own ≡ index
same_index opcode own index is =
    go (opcode == opcodes.GETSTATIC) (opcode == opcodes.PUTSTATIC) (opcode == opcodes.GETFIELD) (opcode == opcodes.PUTFIELD) (opcode == opcodes.INVOKEVIRTUAL)
    (opcode == opcodes.INVOKESPECIAL) (opcode == opcodes.INVOKESTATIC) (opcode == opcodes.NEW) (opcode == opcodes.ANEWARRAY) (opcode == opcodes.CHECKCAST) (opcode == opcodes.INSTANCEOF) is
  where
    go : (a b c d e f g h i j k : Bool)
        → cond a (Some (actions.GetStatic own)) (cond b (Some (actions.PutStatic own)) (cond c (Some (actions.GetField own)) (cond d (Some (actions.PutField own))
        (cond e (Some (actions.InvokeVirtual own)) (cond f (Some (actions.InvokeSpecial own)) (cond g (Some (actions.InvokeStatic own)) (cond h (Some (actions.New own))
        (cond i (Some (actions.NewReferences own)) (cond j (Some (actions.Cast own)) (cond k (Some (actions.IsInstance own)) None)))))))))) ≡ Some (actions.InvokeSpecial index)
        → own ≡ index
    go true b c d e f g h i j k is = cc
    go false true c d e f g h i j k is = cc
    go false false true d e f g h i j k is = cc
    go false false false true e f g h i j k is = cc
    go false false false false true f g h i j k is = cc
    go false false false false false true g h i j k is = cc
    go false false false false false false true h i j k is = cc
    go false false false false false false false true i j k is = cc
    go false false false false false false false false true j k is = cc
    go false false false false false false false false false true k is = cc
    go false false false false false false false false false false true is = cc
    go false false false false false false false false false false false is = cc

no_operand : (array throw : Bool) (index : ℕ) → cond array (Some actions.Length) (cond throw (Some actions.Throw) None) ≡ Some (actions.InvokeSpecial index) → ⊥
no_operand true throw index is = cc
no_operand false true index is = cc
no_operand false false index is = cc

of_reference : (opcode : ℕ) (operand : Operand) (index : ℕ) → reference opcode operand ≡ Some (actions.InvokeSpecial index) → index_in operand ≡ Some index
of_reference opcode (operands.Pool own) index is = ap {B = Option ℕ} Some (same_index opcode own index is)
of_reference opcode operands.Nothing index is = absurd (no_operand (opcode == opcodes.ARRAYLENGTH) (opcode == opcodes.ATHROW) index is)
of_reference opcode other index is = absurd (cc is)

no_branch : (found : Option Condition) (index : ℕ) → option_map actions.Branch found ≡ Some (actions.InvokeSpecial index) → ⊥
no_branch None index is = cc
no_branch (Some condition) index is = cc

by_half : (opcode : ℕ) (operand : Operand) (index : ℕ) (low : Bool)
    → (if low then reference opcode operand else option_map actions.Branch (condition_of opcode)) ≡ Some (actions.InvokeSpecial index) → index_in operand ≡ Some index
by_half opcode operand index true is = of_reference opcode operand index is
by_half opcode operand index false is = absurd (no_branch (condition_of opcode) index is)

pub special_index : (opcode : ℕ) (operand : Operand) (index : ℕ) → done_by opcode operand ≡ Some (actions.InvokeSpecial index) → index_in operand ≡ Some index
special_index opcode operand index is = elim (cases_lt opcode first_reference) [
  | inl low ↦ absurd (let never : true ≡ false = sym (ap is_special is) ∙ is_none opcode operand low in cc)
  | inr high ↦ by_half opcode operand index (nat_lt opcode opcodes.IFNULL) (sym (behind opcode operand high) ∙ is)
]
