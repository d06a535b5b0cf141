-- A line of the format is of words that stand apart, in ASCII.
use Rattle.std.proofs.Common.{◌≡◌, ◌≢◌, refl, arith, codes, ℕ, ◌<◌, ◌^◌, ℤ, w32, w64, FitsSigned, Bool, true, false, List, [], ◌∷◌, ◌++◌, map, Option, Some, None, IfSome}
use Rattle.std.specs.List.{AllByRecursion, flat_map, list_all}
use Rattle.cb_text.specs.Text.{AreUnits}
use Rattle.cb_text.specs.declared.naming.MemberKind.{MemberKind}
use Rattle.cb_text.specs.declared.naming.MemberKind.TheVariants as kinds
use Rattle.cb_asm_line.specs.Flags.{class_flags, field_flags, flags_word, method_flags}
use Rattle.cb_asm_line.specs.Inner.{AreClear, AreInk, IsShown, is_clear, is_ink, is_shown}
use Rattle.cb_asm_line.specs.Label.{Label}
use Rattle.cb_asm_line.specs.Lines.{Line, Word, newline}
use Rattle.cb_asm_line.specs.Mnemonics.{array_types, mnemonic, mnemonics}
use Rattle.cb_asm_line.specs.Numbers.{IsDecimal, decimal, signed_decimal}
use Rattle.cb_asm_line.specs.Operands.{array_type, instruction_words, kind_words, label_word, member_words, operand_words, value_words}
use Rattle.cb_asm_line.specs.Quoting.{any_name, colon, comma, name_word, no_name, quoted}
use Rattle.cb_asm_line.specs.Spelling.{name_or, type_word, types_word, value_of}
use Rattle.cb_asm_line.specs.Statements.{IsOperand, IsStatement, IsType, IsValue, statement_text, statement_words}
use Rattle.cb_asm_line.specs.declared.frame.FrameType.{FrameType}
use Rattle.cb_asm_line.specs.declared.frame.FrameType.TheVariants as types
use Rattle.cb_asm_line.specs.declared.operand.MemberText.{MemberText}
use Rattle.cb_asm_line.specs.declared.operand.Operand.{Operand}
use Rattle.cb_asm_line.specs.declared.operand.Operand.TheVariants as operands
use Rattle.cb_asm_line.specs.declared.operand.Value.{Value}
use Rattle.cb_asm_line.specs.declared.operand.Value.TheVariants as values
use Rattle.cb_asm_line.specs.declared.program.CodeLine.TheVariants as lines
use Rattle.cb_asm_line.specs.declared.statement.Statement.{Statement}
use Rattle.cb_asm_line.specs.declared.statement.Statement.TheVariants as statements
use Rattle.cb_asm_line.proofs.Inked.{all_words, at_clear, both, decimal_clear, each_one, flags_clear, ink_of, joined_are, label_clear, last_text, last_word, more, name_clear, one_more, signed_clear}
use Rattle.cb_asm_line.proofs.Signed.{short_fits, wider}

-- words of each kind
decimal_ink : (number : ℕ) → number < 2 ^ 16 → AreInk (decimal number)
decimal_ink number fits = ink_of (decimal number) (decimal_clear number (omega arith))

signed_ink : (number : ℤ) → FitsSigned w64 number → AreInk (signed_decimal number)
signed_ink number fits = ink_of (signed_decimal number) (signed_clear number fits)

name_ink : (name : List ℕ) → AreUnits name → AreInk (name_word name)
name_ink name fits = ink_of (name_word name) (name_clear name fits)

label_ink : (label : Label) → IsDecimal label → AreInk (label_word label)
label_ink label is = ink_of (label_word label) (label_clear label is)

none_ink : (name : Option (List ℕ)) → IfSome name AreUnits → AreInk (name_or no_name name)
none_ink None fits = refl
none_ink (Some name) fits = name_ink name fits

any_ink : (name : Option (List ℕ)) → IfSome name AreUnits → AreInk (name_or any_name name)
any_ink None fits = refl
any_ink (Some name) fits = name_ink name fits

class_flags_ink : (flags : ℕ) → AreInk (flags_word class_flags flags)
class_flags_ink flags = ink_of (flags_word class_flags flags) (flags_clear class_flags flags refl)

field_flags_ink : (flags : ℕ) → AreInk (flags_word field_flags flags)
field_flags_ink flags = ink_of (flags_word field_flags flags) (flags_clear field_flags flags refl)

method_flags_ink : (flags : ℕ) → AreInk (flags_word method_flags flags)
method_flags_ink flags = ink_of (flags_word method_flags flags) (flags_clear method_flags flags refl)

mnemonic_ink : (opcode : ℕ) → AreInk (mnemonic opcode)
mnemonic_ink opcode = ink_of (mnemonic opcode) (at_clear mnemonics opcode refl)

array_ink : (code : ℕ) → AreInk (array_type code)
array_ink code = ink_of (array_type code) (at_clear array_types _ refl)

-- the types of a frame
pub type_clear : (type : FrameType Label) → IsType type → AreClear (type_word type)
type_clear types.Top is = refl
type_clear types.Int is = refl
type_clear types.Long is = refl
type_clear types.Null is = refl
type_clear types.This is = refl
type_clear (types.Object name) is = name_clear name is
type_clear (types.New label) is = label_clear label is

each_type_clear : (given : List (FrameType Label)) → AllByRecursion IsType given → list_all (list_all is_clear) (map type_word given) ≡ true
each_type_clear [] are = refl
each_type_clear (type ∷ given) are = one_more (list_all is_clear) (type_word type) (map type_word given) (type_clear type are.0) (each_type_clear given are.1)

each_ink : (words : List Word) → list_all (list_all is_clear) words ≡ true → list_all (list_all is_ink) words ≡ true
each_ink [] are = refl
each_ink (word ∷ words) are = let told = each_one (list_all is_clear) word words are in one_more (list_all is_ink) word words (ink_of word told.0) (each_ink words told.1)

types_ink : (given : List (FrameType Label)) → AllByRecursion IsType given → AreInk (types_word given)
types_ink [] are = refl
types_ink (type ∷ given) are = joined_are is_ink comma (map type_word (type ∷ given)) refl (each_ink (map type_word (type ∷ given)) (each_type_clear (type ∷ given) are))

-- constants, and the operands of instructions
value_shown : (value : Value) → IsValue value → IsShown (value_words value)
value_shown (values.Int number) is = more (codes "int") (signed_decimal number ∷ []) refl (last_word (signed_decimal number) (signed_ink number (wider number is)))
value_shown (values.Long number) is = more (codes "long") (signed_decimal number ∷ []) refl (last_word (signed_decimal number) (signed_ink number is))
value_shown (values.Text text) is = more (codes "text") (quoted text ∷ []) refl (last_text text is)
value_shown (values.Class name) is = more (codes "class") (name_word name ∷ []) refl (last_word (name_word name) (name_ink name is))

with_value : (word : Word) (value : Option Value) → AreInk word → IfSome value IsValue → IsShown (word ∷ value_of value)
with_value word None ink is = last_word word ink
with_value word (Some value) ink is = more word (value_words value) ink (value_shown value is)

names_shown : (member : MemberText) → AreUnits member.class × AreUnits member.name × AreUnits member.descriptor → IsShown (name_word member.class ∷ name_word member.name ∷ name_word member.descriptor ∷ [])
names_shown member is =
    more (name_word member.class) (name_word member.name ∷ name_word member.descriptor ∷ []) (name_ink member.class is.0)
    (more (name_word member.name) (name_word member.descriptor ∷ []) (name_ink member.name is.1) (last_word (name_word member.descriptor) (name_ink member.descriptor is.2)))

behind_kind : (kind : MemberKind) (words : Line) → IsShown words → IsShown (kind_words kind ++ words)
behind_kind kinds.Field words shown = shown
behind_kind kinds.Method words shown = shown
behind_kind kinds.InterfaceMethod words shown = more (codes "interface") words refl shown

labels_ink : (labels : List Label) → AllByRecursion IsDecimal labels → list_all (list_all is_ink) (map label_word labels) ≡ true
labels_ink [] are = refl
labels_ink (label ∷ labels) are = one_more (list_all is_ink) (label_word label) (map label_word labels) (label_ink label are.0) (labels_ink labels are.1)

pairs_ink : (pairs : List (ℤ × Label)) → AllByRecursion (λ pair. FitsSigned w32 pair.0 × IsDecimal pair.1) pairs → list_all (list_all is_ink) (flat_map (λ pair. signed_decimal pair.0 ∷ label_word pair.1 ∷ []) pairs) ≡ true
pairs_ink [] are = refl
pairs_ink (pair ∷ pairs) are =
    let rest = flat_map (λ (pair : ℤ × Label). signed_decimal pair.0 ∷ label_word pair.1 ∷ []) pairs in
    one_more (list_all is_ink) (signed_decimal pair.0) (label_word pair.1 ∷ rest) (signed_ink pair.0 (wider pair.0 are.0.0)) (one_more (list_all is_ink) (label_word pair.1) rest (label_ink pair.1 are.0.1) (pairs_ink pairs are.1))

with_operand : (word : Word) (operand : Operand) → AreInk word → IsOperand operand → IsShown (word ∷ operand_words operand)
with_operand word operands.Nothing ink is = last_word word ink
with_operand word (operands.Number number) ink is = more word (signed_decimal number ∷ []) ink (last_word (signed_decimal number) (signed_ink number (short_fits number is)))
with_operand word (operands.Local local) ink is = more word (decimal local ∷ []) ink (last_word (decimal local) (decimal_ink local is))
with_operand word (operands.Increase local by) ink is =
    more word (decimal local ∷ signed_decimal by ∷ []) ink (more (decimal local) (signed_decimal by ∷ []) (decimal_ink local is.0) (last_word (signed_decimal by) (signed_ink by (short_fits by is.1))))
with_operand word (operands.Load value) ink is = more word (value_words value) ink (value_shown value is)
with_operand word (operands.Member member) ink is = more word (member_words member) ink (behind_kind member.kind _ (names_shown member is))
with_operand word (operands.Class name) ink is = more word (name_word name ∷ []) ink (last_word (name_word name) (name_ink name is))
with_operand word (operands.Array code) ink is = more word (array_type code ∷ []) ink (last_word (array_type code) (array_ink code))
with_operand word (operands.Dimensions name dimensions) ink is =
    more word (name_word name ∷ decimal dimensions ∷ []) ink (more (name_word name) (decimal dimensions ∷ []) (name_ink name is.0) (last_word (decimal dimensions) (decimal_ink dimensions (omega (arith, is.1)))))
with_operand word (operands.Branch label) ink is = more word (label_word label ∷ []) ink (last_word (label_word label) (label_ink label is))
with_operand word (operands.Table low default labels) ink is =
    more word (signed_decimal low ∷ label_word default ∷ map label_word labels) ink
    (more (signed_decimal low) (label_word default ∷ map label_word labels) (signed_ink low (wider low is.0)) (all_words (label_word default) (map label_word labels) (label_ink default is.1) (labels_ink labels is.2)))
with_operand word (operands.Lookup default pairs) ink is = more word (label_word default ∷ _) ink (all_words (label_word default) _ (label_ink default is.0) (pairs_ink pairs is.1))

instruction_shown : (wide : Bool) (opcode : ℕ) (operand : Operand) → IsOperand operand → IsShown (instruction_words (record { opcode = opcode; wide = wide; operand = operand }))
instruction_shown true opcode operand is = more (codes "wide") (mnemonic opcode ∷ operand_words operand) refl (with_operand (mnemonic opcode) operand (mnemonic_ink opcode) is)
instruction_shown false opcode operand is = with_operand (mnemonic opcode) operand (mnemonic_ink opcode) is

-- lines
pub statement_shown : (statement : Statement) → IsStatement statement → IsShown (statement_words statement)
statement_shown (statements.Class line) is =
    more (codes "class") _ refl (more (decimal line.major) _ (decimal_ink line.major is.0) (more (flags_word class_flags line.flags) _ (class_flags_ink line.flags) (more (name_word line.name) _ (name_ink line.name is.2) (last_word (name_or no_name line.superclass) (none_ink line.superclass is.3)))))
statement_shown (statements.Implements name) is = more (codes "implements") _ refl (last_word (name_word name) (name_ink name is))
statement_shown (statements.Field field) is =
    more (codes "field") _ refl (more (flags_word field_flags field.flags) _ (field_flags_ink field.flags) (more (name_word field.name) _ (name_ink field.name is.1) (with_value (name_word field.descriptor) field.value (name_ink field.descriptor is.2) is.3)))
statement_shown (statements.Method line) is =
    more (codes "method") _ refl (more (flags_word method_flags line.flags) _ (method_flags_ink line.flags) (more (name_word line.name) _ (name_ink line.name is.1) (last_word (name_word line.descriptor) (name_ink line.descriptor is.2))))
statement_shown (statements.Limits limits) is =
    more (codes "limits") _ refl (more (decimal limits.stack) _ (decimal_ink limits.stack is.0) (last_word (decimal limits.locals) (decimal_ink limits.locals is.1)))
statement_shown (statements.Code (lines.Here label)) is = last_word (label_word label ++ colon ∷ []) (both is_ink (label_word label) (colon ∷ []) (label_ink label is) refl)
statement_shown (statements.Code (lines.Do instruction)) is = instruction_shown instruction.wide instruction.opcode instruction.operand is.2
statement_shown (statements.Catch entry) is =
    more (codes "catch") _ refl (more (label_word entry.start) _ (label_ink entry.start is.0) (more (label_word entry.end) _ (label_ink entry.end is.1) (more (label_word entry.handler) _ (label_ink entry.handler is.2) (last_word (name_or any_name entry.class) (any_ink entry.class is.3)))))
statement_shown (statements.Frame frame) is =
    more (codes "frame") _ refl (more (label_word frame.place) _ (label_ink frame.place is.0) (more (codes "locals") _ refl (more (types_word frame.locals) _ (types_ink frame.locals is.1) (more (codes "stack") _ refl (last_word (types_word frame.stack) (types_ink frame.stack is.2))))))
statement_shown statements.End is = last_word (codes "end") refl

-- no newline stands in one
shown_apart : (text : List ℕ) → list_all is_shown text ≡ true → AllByRecursion (λ unit. unit ≢ newline) text
shown_apart [] are = tt
shown_apart (unit ∷ text) are = let told = each_one is_shown unit text are in ((λ is. let shown = told.0 in grind (arith, shown, is)), shown_apart text told.1)

pub whole_line : (statement : Statement) → IsStatement statement → AllByRecursion (λ unit. unit ≢ newline) (statement_text statement)
whole_line statement is = shown_apart (statement_text statement) (statement_shown statement is).units
