-- By which opcodes instructions ask for a class or for a field of an object.
use Rattle.std.proofs.Common.{◌≡◌, ◌∙◌, ◌⊎◌, inl, inr, ap, arith, refl, sym, ℕ, ◌≤◌, ◌==◌, Bool, true, false, cond, Option, Some, None, is_none, nat_le, nat_lt, option_and_then, option_map, if◌then◌else◌}
use Rattle.std.specs.List.{list_all, range_with_len}
use Rattle.std.proofs.lemmas.Bool.{cases_lt, eqb-true, false≢true, le-ltb, leb-true}
use Rattle.cb_insn.specs.declared.insn.Insn.{Insn}
use Rattle.cb_insn.specs.declared.insn.Operand.{Operand}
use Rattle.cb_insn.specs.declared.insn.Operand.TheVariants as operands
use Rattle.cb_insn.specs.declared.opcode.TheConstants as opcodes
use Rattle.cb_classfile.specs.Needed.{index_in, kind_needed}
use Rattle.cb_classfile.specs.declared.needed.ConstantKind.TheVariants as needs
use Rattle.cb_shapes.specs.Control.{condition_of}
use Rattle.cb_shapes.specs.References.{by_constant, reference}
use Rattle.cb_shapes.specs.Shapes.{action_of, done_by}
use Rattle.cb_shapes.specs.declared.action.Action.{Action}
use Rattle.cb_shapes.specs.declared.action.Action.TheVariants as actions
use Rattle.cb_shapes.specs.declared.test.Condition.{Condition}
use Rattle.cb_safety.specs.Naming.{field_index, kind_index}
use Rattle.cb_safety.proofs.Assigned.{never}
use Rattle.cb_safety.proofs.Searching.{all_pass}
use Rattle.cb_safety.proofs.Spelled.{from_zero}

-- ---- instructions in front of getstatic ask for neither

abbrev asks_none : Operand → ℕ → Bool
asks_none operand opcode = is_none (option_and_then kind_index (done_by opcode operand))

abbrev pub first_reference : ℕ
first_reference = 178

none_asked : (operand : Operand) → list_all (asks_none operand) (range_with_len 0 first_reference) ≡ true
none_asked operands.Nothing = refl
none_asked other = refl

-- and behind it those of references
skip : (opcode bound : ℕ) (one other last : Option Action) → first_reference ≤ opcode → nat_le bound first_reference ≡ true → other ≡ last → (if nat_lt opcode bound then one else other) ≡ last
skip opcode bound one other last high low is =
    ap (λ (test : Bool). if test then one else other) (le-ltb opcode bound (omega (arith, high, leb-true bound first_reference low))) ∙ is

pub behind : (opcode : ℕ) (operand : Operand) → first_reference ≤ opcode
    → done_by opcode operand ≡ (if nat_lt opcode opcodes.IFNULL then reference opcode operand else option_map actions.Branch (condition_of opcode))
behind opcode operand high =
    skip opcode opcodes.ILOAD _ _ _ high refl
    (skip opcode opcodes.IALOAD _ _ _ high refl
    (skip opcode opcodes.ISTORE _ _ _ high refl
    (skip opcode opcodes.IASTORE _ _ _ high refl
    (skip opcode opcodes.POP _ _ _ high refl
    (skip opcode opcodes.IADD _ _ _ high refl
    (skip opcode opcodes.I2L _ _ _ high refl
    (skip opcode opcodes.IFEQ _ _ _ high refl
    (skip opcode opcodes.TABLESWITCH _ _ _ high refl
    (skip opcode opcodes.GETSTATIC _ _ _ high refl refl)))))))))

pub none_some : {Item P : Type 0} (found : Option Item) (item : Item) → is_none found ≡ true → found ≡ Some item → P
none_some None item none some = never some
none_some (Some own) item none some = absurd (false≢true none)

-- ---- a class

pub record AsksClass (opcode index : ℕ) (operand : Operand) : Type 0 where
  pub names : index_in operand ≡ Some index
  pub one : (opcode ≡ opcodes.CHECKCAST) ⊎ (opcode ≡ opcodes.INSTANCEOF)

class_by_constant : (opcode own index : ℕ) → option_and_then kind_index (by_constant opcode own) ≡ Some index → AsksClass opcode index (operands.Pool own)
class_by_constant opcode own index so =
    go (opcode == opcodes.GETSTATIC) (opcode == opcodes.PUTSTATIC) (opcode == opcodes.GETFIELD) (opcode == opcodes.PUTFIELD) (opcode == opcodes.INVOKEVIRTUAL)
    (opcode == opcodes.INVOKESPECIAL) (opcode == opcodes.INVOKESTATIC) (opcode == opcodes.NEW) (opcode == opcodes.ANEWARRAY) (opcode == opcodes.CHECKCAST) (opcode == opcodes.INSTANCEOF)
    refl refl so
  where
    go : (a b c d e f g h i j k : Bool) → (opcode == opcodes.CHECKCAST) ≡ j → (opcode == opcodes.INSTANCEOF) ≡ k
        → option_and_then kind_index (cond a (Some (actions.GetStatic own)) (cond b (Some (actions.PutStatic own)) (cond c (Some (actions.GetField own)) (cond d (Some (actions.PutField own))
        (cond e (Some (actions.InvokeVirtual own)) (cond f (Some (actions.InvokeSpecial own)) (cond g (Some (actions.InvokeStatic own)) (cond h (Some (actions.New own))
        (cond i (Some (actions.NewReferences own)) (cond j (Some (actions.Cast own)) (cond k (Some (actions.IsInstance own)) None))))))))))) ≡ Some index
        → AsksClass opcode index (operands.Pool own)
    go true b c d e f g h i j k cast test so = never so
    go false true c d e f g h i j k cast test so = never so
    go false false true d e f g h i j k cast test so = never so
    go false false false true e f g h i j k cast test so = never so
    go false false false false true f g h i j k cast test so = never so
    go false false false false false true g h i j k cast test so = never so
    go false false false false false false true h i j k cast test so = never so
    go false false false false false false false true i j k cast test so = never so
    go false false false false false false false false true j k cast test so = never so
    go false false false false false false false false false true k cast test so = record { names = so; one = inl (eqb-true opcode opcodes.CHECKCAST cast) }
    go false false false false false false false false false false true cast test so = record { names = so; one = inr (eqb-true opcode opcodes.INSTANCEOF test) }
    go false false false false false false false false false false false cast test so = never so

class_without : (opcode index : ℕ) (array throw : Bool) → option_and_then kind_index (cond array (Some actions.Length) (cond throw (Some actions.Throw) None)) ≡ Some index → ⊥
class_without opcode index true throw so = never so
class_without opcode index false true so = never so
class_without opcode index false false so = never so

class_by_reference : (opcode index : ℕ) (operand : Operand) → option_and_then kind_index (reference opcode operand) ≡ Some index → AsksClass opcode index operand
class_by_reference opcode index (operands.Pool own) so = class_by_constant opcode own index so
class_by_reference opcode index operands.Nothing so = absurd (class_without opcode index (opcode == opcodes.ARRAYLENGTH) (opcode == opcodes.ATHROW) so)
class_by_reference opcode index other so = never so

class_branch : (index : ℕ) (found : Option Condition) → option_and_then kind_index (option_map actions.Branch found) ≡ Some index → ⊥
class_branch index None so = never so
class_branch index (Some condition) so = never so

class_behind : (opcode index : ℕ) (operand : Operand) (low : Bool)
    → option_and_then kind_index (if low then reference opcode operand else option_map actions.Branch (condition_of opcode)) ≡ Some index → AsksClass opcode index operand
class_behind opcode index operand true so = class_by_reference opcode index operand so
class_behind opcode index operand false so = absurd (class_branch index (condition_of opcode) so)

pub asks_class : (insn : Insn) (action : Action) (index : ℕ) → action_of insn ≡ Some action → kind_index action ≡ Some index → AsksClass insn.opcode index insn.operand
asks_class insn action index is asks = elim (cases_lt insn.opcode first_reference) [
  | inl low ↦ none_some (option_and_then kind_index (action_of insn)) index
      (from_zero (λ (opcode : ℕ). asks_none insn.operand opcode ≡ true) first_reference insn.opcode (all_pass (asks_none insn.operand) (range_with_len 0 first_reference) (none_asked insn.operand)) low) so
  | inr high ↦ class_behind insn.opcode index insn.operand (nat_lt insn.opcode opcodes.IFNULL) (sym (ap (option_and_then kind_index) (behind insn.opcode insn.operand high)) ∙ so)
]
  where
    so : option_and_then kind_index (action_of insn) ≡ Some index
    so = ap (option_and_then kind_index) is ∙ asks

pub class_kind_needed : (opcode index : ℕ) (operand : Operand) → AsksClass opcode index operand → kind_needed opcode ≡ Some needs.Class
class_kind_needed opcode index operand asks = elim asks.one [
  | inl cast ↦ ap kind_needed cast
  | inr test ↦ ap kind_needed test
]

-- ---- a field of an object

abbrev asks_no_field : Operand → ℕ → Bool
asks_no_field operand opcode = is_none (option_and_then field_index (done_by opcode operand))

no_field_asked : (operand : Operand) → list_all (asks_no_field operand) (range_with_len 0 first_reference) ≡ true
no_field_asked operands.Nothing = refl
no_field_asked other = refl

pub record AsksField (opcode index : ℕ) (operand : Operand) : Type 0 where
  pub names : index_in operand ≡ Some index
  pub one : (opcode ≡ opcodes.GETFIELD) ⊎ (opcode ≡ opcodes.PUTFIELD)

field_by_constant : (opcode own index : ℕ) → option_and_then field_index (by_constant opcode own) ≡ Some index → AsksField opcode index (operands.Pool own)
field_by_constant opcode own index so =
    go (opcode == opcodes.GETSTATIC) (opcode == opcodes.PUTSTATIC) (opcode == opcodes.GETFIELD) (opcode == opcodes.PUTFIELD) (opcode == opcodes.INVOKEVIRTUAL)
    (opcode == opcodes.INVOKESPECIAL) (opcode == opcodes.INVOKESTATIC) (opcode == opcodes.NEW) (opcode == opcodes.ANEWARRAY) (opcode == opcodes.CHECKCAST) (opcode == opcodes.INSTANCEOF)
    refl refl so
  where
    go : (a b c d e f g h i j k : Bool) → (opcode == opcodes.GETFIELD) ≡ c → (opcode == opcodes.PUTFIELD) ≡ d
        → option_and_then field_index (cond a (Some (actions.GetStatic own)) (cond b (Some (actions.PutStatic own)) (cond c (Some (actions.GetField own)) (cond d (Some (actions.PutField own))
        (cond e (Some (actions.InvokeVirtual own)) (cond f (Some (actions.InvokeSpecial own)) (cond g (Some (actions.InvokeStatic own)) (cond h (Some (actions.New own))
        (cond i (Some (actions.NewReferences own)) (cond j (Some (actions.Cast own)) (cond k (Some (actions.IsInstance own)) None))))))))))) ≡ Some index
        → AsksField opcode index (operands.Pool own)
    go true b c d e f g h i j k get put so = never so
    go false true c d e f g h i j k get put so = never so
    go false false true d e f g h i j k get put so = record { names = so; one = inl (eqb-true opcode opcodes.GETFIELD get) }
    go false false false true e f g h i j k get put so = record { names = so; one = inr (eqb-true opcode opcodes.PUTFIELD put) }
    go false false false false true f g h i j k get put so = never so
    go false false false false false true g h i j k get put so = never so
    go false false false false false false true h i j k get put so = never so
    go false false false false false false false true i j k get put so = never so
    go false false false false false false false false true j k get put so = never so
    go false false false false false false false false false true k get put so = never so
    go false false false false false false false false false false true get put so = never so
    go false false false false false false false false false false false get put so = never so

field_without : (opcode index : ℕ) (array throw : Bool) → option_and_then field_index (cond array (Some actions.Length) (cond throw (Some actions.Throw) None)) ≡ Some index → ⊥
field_without opcode index true throw so = never so
field_without opcode index false true so = never so
field_without opcode index false false so = never so

field_by_reference : (opcode index : ℕ) (operand : Operand) → option_and_then field_index (reference opcode operand) ≡ Some index → AsksField opcode index operand
field_by_reference opcode index (operands.Pool own) so = field_by_constant opcode own index so
field_by_reference opcode index operands.Nothing so = absurd (field_without opcode index (opcode == opcodes.ARRAYLENGTH) (opcode == opcodes.ATHROW) so)
field_by_reference opcode index other so = never so

field_branch : (index : ℕ) (found : Option Condition) → option_and_then field_index (option_map actions.Branch found) ≡ Some index → ⊥
field_branch index None so = never so
field_branch index (Some condition) so = never so

field_behind : (opcode index : ℕ) (operand : Operand) (low : Bool)
    → option_and_then field_index (if low then reference opcode operand else option_map actions.Branch (condition_of opcode)) ≡ Some index → AsksField opcode index operand
field_behind opcode index operand true so = field_by_reference opcode index operand so
field_behind opcode index operand false so = absurd (field_branch index (condition_of opcode) so)

pub asks_field : (insn : Insn) (action : Action) (index : ℕ) → action_of insn ≡ Some action → field_index action ≡ Some index → AsksField insn.opcode index insn.operand
asks_field insn action index is asks = elim (cases_lt insn.opcode first_reference) [
  | inl low ↦ none_some (option_and_then field_index (action_of insn)) index
      (from_zero (λ (opcode : ℕ). asks_no_field insn.operand opcode ≡ true) first_reference insn.opcode (all_pass (asks_no_field insn.operand) (range_with_len 0 first_reference) (no_field_asked insn.operand)) low) so
  | inr high ↦ field_behind insn.opcode index insn.operand (nat_lt insn.opcode opcodes.IFNULL) (sym (ap (option_and_then field_index) (behind insn.opcode insn.operand high)) ∙ so)
]
  where
    so : option_and_then field_index (action_of insn) ≡ Some index
    so = ap (option_and_then field_index) is ∙ asks

pub field_kind_needed : (opcode index : ℕ) (operand : Operand) → AsksField opcode index operand → kind_needed opcode ≡ Some needs.Field
field_kind_needed opcode index operand asks = elim asks.one [
  | inl get ↦ ap kind_needed get
  | inr put ↦ ap kind_needed put
]
