-- A program with other labels, and what its constants' indices name.
use Rattle.std.proofs.Common.{◌≡◌, ◌∙◌, ap, refl, ℕ, Bool, true, false, List, [], map, Option, Some, None, ◌==◌, if◌then◌else◌, option_and_then, option_map}
use Rattle.std.specs.Int.{w32, w64}
use Rattle.std.specs.List.{AllByRecursion}
use Rattle.std.specs.Option.{unwrap_or}
use Rattle.std.proofs.lemmas.Int.{to_z-of_z}
use Rattle.cb_text.specs.declared.constant.Constant.{Constant}
use Rattle.cb_text.specs.Naming.{MemberNames, text_at, class_at, string_at, member_at}
use Rattle.cb_text.specs.Pool.{constant_at}
use Rattle.cb_insn.specs.declared.form.Form.{Form}
use Rattle.cb_insn.specs.declared.form.Form.TheVariants as forms
use Rattle.cb_insn.specs.declared.insn.Operand.TheVariants as operands
use Rattle.cb_insn.specs.declared.opcode.TheConstants as opcodes
use Rattle.cb_classfile.specs.declared.class.ClassFile.{ClassFile}
use Rattle.cb_classfile.specs.declared.needed.ConstantKind.{ConstantKind}
use Rattle.cb_classfile.specs.declared.needed.ConstantKind.TheVariants as needed
use Rattle.cb_classfile.specs.Needed.{kind_needed}
use Rattle.cb_asm_line.specs.declared.operand.Value.{Value}
use Rattle.cb_asm_line.specs.declared.operand.Value.TheVariants as values
use Rattle.cb_asm_line.specs.declared.operand.MemberText.{MemberText}
use Rattle.cb_asm_line.specs.declared.operand.Operand.{Operand}
use Rattle.cb_asm_line.specs.declared.operand.Operand.TheVariants.{Nothing, Number, Local, Increase, Load, Member, Class, Array, Dimensions, Branch, Table, Lookup}
use Rattle.cb_asm_line.specs.declared.operand.Instruction.{Instruction}
use Rattle.cb_asm_line.specs.declared.program.CatchLine.{CatchLine}
use Rattle.cb_asm_line.specs.declared.frame.FrameType.{FrameType}
use Rattle.cb_asm_line.specs.declared.frame.FrameType.TheVariants.{New}
use Rattle.cb_asm_line.specs.declared.frame.Frame.{Frame}
use Rattle.cb_asm_line.specs.declared.frame.FrameLine.{FrameLine}
use Rattle.cb_asm_line.specs.declared.frame.FrameLine.TheVariants.{Full, Bad}
use Rattle.cb_asm_line.specs.Label.{Label}
use Rattle.cb_asm_line.specs.Operands.{HasOptionalForm, NamesKind}
use Rattle.cb_asm_line.specs.Parameters.{argument_words}
use Rattle.cb_asm_line.specs.Statements.{IsOperand, IsValue}
use Rattle.cb_asm_record.specs.Constants.{constant_of, index_of}
use Rattle.cb_asm_record.specs.Entries.{Entry, member_entry, value_entry}
use Rattle.cb_asm_record.specs.Labels.{operand_of, member_operand}
use Rattle.cb_asm_record.specs.Uses.{operand_uses}
use Rattle.cb_asm_list.specs.Listing.{kind_named, member_text, named, operand_in, value_at, value_of}
use Rattle.cb_asm_back.proofs.Lists.{map_twice}

-- what names labels, with others in their place
abbrev pub operand_by : (Label → Label) → Operand → Operand
operand_by new (Branch label) = Branch (new label)
operand_by new (Table low default labels) = Table low (new default) (map new labels)
operand_by new (Lookup default pairs) = Lookup (new default) (map (λ pair. (pair.0, new pair.1)) pairs)
operand_by new other = other

abbrev pub instruction_by : (Label → Label) → Instruction → Instruction
instruction_by new instruction =
    record { opcode = instruction.opcode; wide = instruction.wide; operand = operand_by new instruction.operand }

abbrev pub catch_by : (Label → Label) → CatchLine → CatchLine
catch_by new entry = record { start = new entry.start; end = new entry.end; handler = new entry.handler; class = entry.class }

abbrev pub type_by : (Label → Label) → FrameType Label → FrameType Label
type_by new (New label) = New (new label)
type_by new other = other

abbrev pub frame_by : (Label → Label) → Frame Label → Frame Label
frame_by new frame = record { place = new frame.place; locals = map (type_by new) frame.locals; stack = map (type_by new) frame.stack }

abbrev pub frame_line_by : (Label → Label) → FrameLine → FrameLine
frame_line_by new (Full frame) = Full (frame_by new frame)
frame_line_by new Bad = Bad

-- an entry of a pool is read back at its index
abbrev pub Says : List Constant → List Entry → Entry → Type 0
Says pool all (Entry.Text text) = text_at pool (index_of all (Entry.Text text)) ≡ Some text
Says pool all (Entry.Class name) = class_at pool (index_of all (Entry.Class name)) ≡ Some name
Says pool all (Entry.String text) = string_at pool (index_of all (Entry.String text)) ≡ Some text
Says pool all (Entry.Member member) = member_at pool (index_of all (Entry.Member member)) ≡ Some member
Says pool all other = Unit {0}

abbrev pub IsRead : List Constant → List Entry → Entry → Type 0
IsRead pool all entry = (constant_at pool (index_of all entry) ≡ Some (constant_of all entry)) × Says pool all entry

abbrev pub AreRead : List Constant → List Entry → List Entry → Type 0
AreRead pool all uses = AllByRecursion (IsRead pool all) uses

-- a value is
pub value_read : (pool : List Constant) (all : List Entry) (value : Value) → IsValue value → IsRead pool all (value_entry value)
    → value_at pool (index_of all (value_entry value)) ≡ Some value
value_read pool all (values.Int number) is read =
    ap (option_and_then (value_of pool (index_of all (value_entry (values.Int number))))) read.0 ∙ ap (λ number. Some (values.Int number)) (to_z-of_z w32 number is)
value_read pool all (values.Long number) is read =
    ap (option_and_then (value_of pool (index_of all (value_entry (values.Long number))))) read.0 ∙ ap (λ number. Some (values.Long number)) (to_z-of_z w64 number is)
value_read pool all (values.Text text) is read =
    ap (option_and_then (value_of pool (index_of all (value_entry (values.Text text))))) read.0 ∙ ap (option_map values.Text) read.1
value_read pool all (values.Class name) is read =
    ap (option_and_then (value_of pool (index_of all (value_entry (values.Class name))))) read.0 ∙ ap (option_map values.Class) read.1

-- an operand of a form names a constant of the kind, where it names one
NamesConstant : Operand → Type 0
NamesConstant (Load value) = Unit {0}
NamesConstant (Member member) = Unit {0}
NamesConstant (Class name) = Unit {0}
NamesConstant other = ⊥

of_kind : (kind : Option ConstantKind) (form : Option Form) (operand : Operand) → NamesConstant operand → HasOptionalForm kind form operand → NamesKind kind operand
unfolding NamesConstant
of_kind kind None operand names has = absurd has
of_kind kind (Some forms.PoolByte) operand names has = has
of_kind kind (Some forms.Pool) operand names has = has
of_kind kind (Some forms.Interface) operand names has = has
of_kind kind (Some form) (Load value) names has = absurd has
of_kind kind (Some form) (Member member) names has = absurd has
of_kind kind (Some form) (Class name) names has = absurd has
of_kind kind (Some form) operand names has = absurd names

abbrev named_by : List Constant → ℕ → Option ConstantKind → Operand
named_by pool index kind = unwrap_or (option_and_then (kind_named pool index) kind) Nothing

load_named : (pool : List Constant) (index : ℕ) (kind : Option ConstantKind) (value : Value) → NamesKind kind (Load value) → value_at pool index ≡ Some value → named_by pool index kind ≡ Load value
load_named pool index (Some needed.Loadable) value names is = ap (λ found. unwrap_or (option_map Load found) Nothing) is
load_named pool index (Some needed.Wide) value names is = ap (λ found. unwrap_or (option_map Load found) Nothing) is
load_named pool index kind value names is = absurd names

class_named : (pool : List Constant) (index : ℕ) (kind : Option ConstantKind) (name : List ℕ) → NamesKind kind (Class name) → class_at pool index ≡ Some name → named_by pool index kind ≡ Class name
class_named pool index (Some needed.Class) name names is = ap (λ found. unwrap_or (option_map Class found) Nothing) is
class_named pool index kind name names is = absurd names

abbrev member_found : Option MemberNames → Operand
member_found found = unwrap_or (option_map (λ member. Member (member_text member)) found) Nothing

member_named : (pool : List Constant) (index : ℕ) (kind : Option ConstantKind) (member : MemberNames) → NamesKind kind (Member (member_text member)) → member_at pool index ≡ Some member
    → named_by pool index kind ≡ Member (member_text member)
member_named pool index (Some needed.Field) member names is = ap member_found is
member_named pool index (Some needed.ClassMethod) member names is = ap member_found is
member_named pool index (Some needed.AnyMethod) member names is = ap member_found is
member_named pool index (Some needed.InterfaceMethod) member names is = ap member_found is
member_named pool index kind member names is = absurd names

member_read : (class : ClassFile) (label : ℕ → Label) (opcode index : ℕ) (member : MemberText) → named class.pool opcode index ≡ Member member
    → operand_in class label opcode (member_operand opcode index member) ≡ Member member
member_read class label opcode index member is = by_test (opcode == opcodes.INVOKEINTERFACE)
  where
    by_test : (test : Bool) → operand_in class label opcode (if test then operands.Interface index (argument_words member.descriptor) else operands.Pool index) ≡ Member member
    by_test true = is
    by_test false = is

-- an operand is read back with the labels of its places
pub operand_read : (class : ClassFile) (all : List Entry) (place : Label → ℕ) (label : ℕ → Label) (opcode : ℕ) (form : Option Form) (operand : Operand)
    → HasOptionalForm (kind_needed opcode) form operand → IsOperand operand → AreRead class.pool all (operand_uses operand)
    → operand_in class label opcode (operand_of all place opcode operand) ≡ operand_by (λ one. label (place one)) operand
unfolding NamesConstant
operand_read class all place label opcode form Nothing has is read = refl
operand_read class all place label opcode form (Number number) has is read = refl
operand_read class all place label opcode form (Local local) has is read = refl
operand_read class all place label opcode form (Increase local by) has is read = refl
operand_read class all place label opcode form (Load value) has is read =
    load_named class.pool (index_of all (value_entry value)) (kind_needed opcode) value (of_kind (kind_needed opcode) form (Load value) tt has) (value_read class.pool all value is read.0)
operand_read class all place label opcode form (Member member) has is read =
    member_read class label opcode (index_of all (member_entry member)) member (member_named class.pool (index_of all (member_entry member)) (kind_needed opcode) (record { kind = member.kind; class = member.class; name = member.name; descriptor = member.descriptor }) (of_kind (kind_needed opcode) form (Member member) tt has) read.0.1)
operand_read class all place label opcode form (Class name) has is read =
    class_named class.pool (index_of all (Entry.Class name)) (kind_needed opcode) name (of_kind (kind_needed opcode) form (Class name) tt has) read.0.1
operand_read class all place label opcode form (Array code) has is read = refl
operand_read class all place label opcode form (Dimensions name dimensions) has is read = ap (λ found. Dimensions (unwrap_or found []) dimensions) read.0.1
operand_read class all place label opcode form (Branch target) has is read = refl
operand_read class all place label opcode form (Table low default labels) has is read = ap (Table low (label (place default))) (map_twice label place labels)
operand_read class all place label opcode form (Lookup default pairs) has is read = ap (Lookup (label (place default))) (map_twice (λ pair. (pair.key, label pair.target)) (λ pair. record { key = pair.0; target = place pair.1 }) pairs)
