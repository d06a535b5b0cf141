-- What is well formed over a pool that grew is so over the pool of what is used.
use Rattle.std.proofs.Common.{◌≡◌, ◌≢◌, inl, inr, ◌∙◌, sym, refl, subst, arith, ℕ, ◌+◌, Bool, true, false, nat_eq, if◌then◌else◌, List, [], ◌∷◌, ◌++◌, map, Option, Some, None, IfSome, IsSome, IsSomeAnd, option_map}
use Rattle.std.specs.List.{AllByRecursion, flat_map}
use Rattle.cb_text.specs.declared.constant.Constant.{Constant}
use Rattle.cb_text.specs.Pool.{IsPool, constant_at}
use Rattle.cb_insn.specs.declared.insn.Insn.{Insn}
use Rattle.cb_insn.specs.declared.insn.Operand.TheVariants as operands
use Rattle.cb_insn.specs.declared.opcode.TheConstants as opcodes
use Rattle.cb_classfile.specs.declared.needed.ConstantKind.TheVariants as needed
use Rattle.cb_classfile.specs.Attributes.{least_index}
use Rattle.cb_classfile.specs.FrameMap.{IsType, SpellsFrame, SpellsType}
use Rattle.cb_classfile.specs.Members.{IsValueOf}
use Rattle.cb_classfile.specs.Needed.{CallsClass, HasConstant, StandsAt, index_in, is_of_kind, kind_needed}
use Rattle.cb_classfile.specs.Pool.{HasText}
use Rattle.cb_classfile.specs.Tables.{SpellsTable}
use Rattle.cb_classfile.proofs.Laws.{HasName, HasSpelling, IsBody, IsBodyOf, IsConstant, IsField, IsHandler, IsMethodOf, code_name, constant_value, least_stands, least_within_exactly, of_table, stack_map_table, table_has}
use Rattle.cb_asm_line.specs.Label.{Label}
use Rattle.cb_asm_line.specs.Parameters.{argument_words}
use Rattle.cb_asm_line.specs.declared.frame.Frame.{Frame}
use Rattle.cb_asm_line.specs.declared.frame.FrameLine.{FrameLine}
use Rattle.cb_asm_line.specs.declared.frame.FrameLine.TheVariants.{Full, Bad}
use Rattle.cb_asm_line.specs.declared.frame.FrameType.{FrameType}
use Rattle.cb_asm_line.specs.declared.frame.FrameType.TheVariants.{Top, Int, Long, Null, This, Object, New}
use Rattle.cb_asm_line.specs.declared.operand.MemberText.{MemberText}
use Rattle.cb_asm_line.specs.declared.operand.Operand.{Operand}
use Rattle.cb_asm_line.specs.declared.operand.Operand.TheVariants.{Load, Member, Class, Dimensions}
use Rattle.cb_asm_line.specs.declared.operand.Value.{Value}
use Rattle.cb_asm_line.specs.declared.program.CatchLine.{CatchLine}
use Rattle.cb_asm_line.specs.declared.program.CodeLine.{CodeLine}
use Rattle.cb_asm_line.specs.declared.program.CodeLine.TheVariants.{Here, Do}
use Rattle.cb_asm_line.specs.declared.program.CodeText.{CodeText}
use Rattle.cb_asm_line.specs.declared.program.FieldText.{FieldText}
use Rattle.cb_asm_line.specs.declared.program.MethodText.{MethodText}
use Rattle.cb_asm_record.specs.Constants.{entries_of}
use Rattle.cb_asm_record.specs.Entries.{Entry, Text, member_entry, value_entry}
use Rattle.cb_asm_record.specs.Labels.{code_from, insn_of, member_operand, operand_of, place_at, size_at}
use Rattle.cb_asm_record.specs.Record.{body_of, class_index, field_of, frame_behind, frames_behind, handler_of, map_type_of, method_of}
use Rattle.cb_asm_record.specs.Uses.{class_use, code_uses, field_uses, frame_uses, frames_uses, line_uses, method_uses, operand_uses, type_uses, value_uses}
use Rattle.cb_asm_record.proofs.Laws.{text_read}
use Rattle.cb_asm_prefix.proofs.Lists.{all_back, all_front, all_of_flat}
use Rattle.cb_asm_prefix.proofs.Pools.{Has}
use Rattle.cb_asm_prefix.proofs.Standing.{Pool, SameClass, SameConstant, SameText, at, field_names_go, method_names_go, same_class, same_constant, same_text, text_goes}
use Rattle.cb_asm_prefix.proofs.Staying.{Had, code_had, each_frame_had}

pub some_each : {X : Type 0} (P Q : X → Type 0) → ((item : X) → P item → Q item) → (found : Option X) → IsSomeAnd found P → IsSomeAnd found Q
some_each P Q each None has = has
some_each P Q each (Some item) has = each item has

-- a text that is used has an index of two bytes
pub name_had : (used : List Entry) (text : List ℕ) → IsPool (Pool used) → Has used (Text text) → HasName (Pool used) text
name_had used text pool there =
    let least = least_stands (Pool used) text (at used (Text text)) (text_read used text there) in
    let within = (least_within_exactly (Pool used) text).1 least.0 in
    record { index = least_index (Pool used) text; fits = omega (arith, within, pool.counted); named = least.0 }

-- the constant that an instruction names
pub constant_goes : (large small : List Constant) (insn : Insn) → IfSome (index_in insn.operand) (SameConstant large small) → HasConstant large insn → HasConstant small insn
constant_goes large small insn same has = of (index_in insn.operand) same has where
  of : (index : Option ℕ) → IfSome index (SameConstant large small) → IfSome index (λ index. IsSomeAnd (kind_needed insn.opcode) (StandsAt large index)) → IfSome index (λ index. IsSomeAnd (kind_needed insn.opcode) (StandsAt small index))
  of None same has = tt
  of (Some index) same has =
      some_each (StandsAt large index) (StandsAt small index) (λ kind stands. subst (λ found. IsSomeAnd found (λ constant. is_of_kind kind constant ≡ true)) same.is stands) (kind_needed insn.opcode) has

pub calls_go : (large small : List Constant) (insn : Insn) → IfSome (index_in insn.operand) (SameConstant large small) → CallsClass large insn → CallsClass small insn
calls_go large small insn same calls = λ direct names. calls direct (of (index_in insn.operand) same names) where
  of : (index : Option ℕ) → IfSome index (SameConstant large small) → IsSomeAnd index (λ index. StandsAt small index needed.InterfaceMethod) → IsSomeAnd index (λ index. StandsAt large index needed.InterfaceMethod)
  of None same names = names
  of (Some index) same names = subst (λ found. IsSomeAnd found (λ constant. is_of_kind needed.InterfaceMethod constant ≡ true)) (sym same.is) names

member_same : (used more : List Entry) (opcode : ℕ) (member : MemberText) → Has used (member_entry member) → IfSome (index_in (member_operand opcode (at used (member_entry member)) member)) (SameConstant (Pool (used ++ more)) (Pool used))
member_same used more opcode member there = of (nat_eq opcode opcodes.INVOKEINTERFACE) where
  of : (test : Bool) → IfSome (index_in (if test then operands.Interface (at used (member_entry member)) (argument_words member.descriptor) else operands.Pool (at used (member_entry member)))) (SameConstant (Pool (used ++ more)) (Pool used))
  of true = same_constant used more (member_entry member) there
  of false = same_constant used more (member_entry member) there

operand_same : (used more : List Entry) (place : Label → ℕ) (opcode : ℕ) (operand : Operand) → Had used (operand_uses operand) → IfSome (index_in (operand_of (entries_of used) place opcode operand)) (SameConstant (Pool (used ++ more)) (Pool used))
operand_same used more place opcode (Load value) all = same_constant used more (value_entry value) all.0
operand_same used more place opcode (Member member) all = member_same used more opcode member all.0
operand_same used more place opcode (Class name) all = same_constant used more (Entry.Class name) all.0
operand_same used more place opcode (Dimensions name dimensions) all = same_constant used more (Entry.Class name) all.0
operand_same used more place opcode operand all = tt

constants_go : (used more : List Entry) (place : Label → ℕ) (pc : ℕ) (lines : List CodeLine) → Had used (flat_map line_uses lines)
    → AllByRecursion (λ placed. HasConstant (Pool (used ++ more)) placed.1) (code_from (entries_of used) place pc lines) → AllByRecursion (λ placed. HasConstant (Pool used) placed.1) (code_from (entries_of used) place pc lines)
constants_go used more place pc [] had all = tt
constants_go used more place pc (Here label ∷ lines) had all = constants_go used more place pc lines had all
constants_go used more place pc (Do instruction ∷ lines) had all =
    let here = all_front (Has used) (operand_uses instruction.operand) (flat_map line_uses lines) had in (
      constant_goes (Pool (used ++ more)) (Pool used) (insn_of (entries_of used) place instruction) (operand_same used more place instruction.opcode instruction.operand here) all.0,
      constants_go used more place (pc + size_at pc instruction) lines (all_back (Has used) (operand_uses instruction.operand) (flat_map line_uses lines) had) all.1,
    )

pub all_calls_go : (used more : List Entry) (place : Label → ℕ) (pc : ℕ) (lines : List CodeLine) → Had used (flat_map line_uses lines)
    → AllByRecursion (λ placed. CallsClass (Pool (used ++ more)) placed.1) (code_from (entries_of used) place pc lines) → AllByRecursion (λ placed. CallsClass (Pool used) placed.1) (code_from (entries_of used) place pc lines)
all_calls_go used more place pc [] had all = tt
all_calls_go used more place pc (Here label ∷ lines) had all = all_calls_go used more place pc lines had all
all_calls_go used more place pc (Do instruction ∷ lines) had all =
    let here = all_front (Has used) (operand_uses instruction.operand) (flat_map line_uses lines) had in (
      calls_go (Pool (used ++ more)) (Pool used) (insn_of (entries_of used) place instruction) (operand_same used more place instruction.opcode instruction.operand here) all.0,
      all_calls_go used more place (pc + size_at pc instruction) lines (all_back (Has used) (operand_uses instruction.operand) (flat_map line_uses lines) had) all.1,
    )

-- a class, or none
pub class_same : (used more : List Entry) (class : Option (List ℕ)) → Had used (class_use class) → SameClass (Pool (used ++ more)) (Pool used) (class_index (entries_of used) class)
class_same used more None all = record { is = refl }
class_same used more (Some name) all = same_class used more name all.0

handlers_go : (used more : List Entry) (place : Label → ℕ) (catches : List CatchLine) → AllByRecursion (λ entry. Had used (class_use entry.class)) catches
    → AllByRecursion (IsHandler (Pool (used ++ more))) (map (handler_of (entries_of used) place) catches) → AllByRecursion (IsHandler (Pool used)) (map (handler_of (entries_of used) place) catches)
handlers_go used more place [] had all = tt
handlers_go used more place (entry ∷ catches) had all =
    let is = all.0 in (
      record {
        start = is.start;
        end = is.end;
        handler = is.handler;
        catch_type = is.catch_type;
        catches = elim is.catches [ inl none ↦ inl none | inr some ↦ inr (subst (λ found. IsSome found) (class_same used more entry.class had.0).is some) ];
      },
      handlers_go used more place catches had.1 all.1,
    )

-- frames
type_goes : (used more : List Entry) (place : Label → ℕ) (type : FrameType Label) → Had used (type_uses type) → IsType (Pool (used ++ more)) (map_type_of (entries_of used) place type) → IsType (Pool used) (map_type_of (entries_of used) place type)
type_goes used more place (Object name) all is = (subst (λ found. IsSome found) (same_class used more name all.0).is is.0, is.1)
type_goes used more place (New label) all is = is
type_goes used more place Top all is = tt
type_goes used more place Int all is = tt
type_goes used more place Long all is = tt
type_goes used more place Null all is = tt
type_goes used more place This all is = tt

types_go : (used more : List Entry) (place : Label → ℕ) (types : List (FrameType Label)) → AllByRecursion (λ type. Had used (type_uses type)) types
    → AllByRecursion (HasSpelling (SpellsType (Pool (used ++ more)))) (map (map_type_of (entries_of used) place) types) → AllByRecursion (HasSpelling (SpellsType (Pool used))) (map (map_type_of (entries_of used) place) types)
types_go used more place [] had all = tt
types_go used more place (type ∷ types) had all =
    (record { bytes = all.0.bytes; spelled = record { spelled = all.0.spelled.spelled; allowed = type_goes used more place type had.0 all.0.spelled.allowed } }, types_go used more place types had.1 all.1)

type_table_goes : (used more : List Entry) (place : Label → ℕ) (types : List (FrameType Label)) (bytes : List ℕ) → AllByRecursion (λ type. Had used (type_uses type)) types
    → SpellsTable (SpellsType (Pool (used ++ more))) bytes (map (map_type_of (entries_of used) place) types) → HasSpelling (SpellsTable (SpellsType (Pool used))) (map (map_type_of (entries_of used) place) types)
type_table_goes used more place types bytes had spelled =
    let table = of_table (SpellsType (Pool (used ++ more))) (map (map_type_of (entries_of used) place) types) bytes spelled in
    table_has (SpellsType (Pool used)) (map (map_type_of (entries_of used) place) types) (record { few = table.few; each = types_go used more place types had table.each })

frame_goes : (used more : List Entry) (place : Label → ℕ) (previous : Option ℕ) (frame : Frame Label) → Had used (flat_map type_uses (frame.locals ++ frame.stack))
    → HasSpelling (SpellsFrame (Pool (used ++ more))) (frame_behind (entries_of used) place previous frame) → HasSpelling (SpellsFrame (Pool used)) (frame_behind (entries_of used) place previous frame)
frame_goes used more place previous frame had has =
    let each = all_of_flat (Has used) type_uses (frame.locals ++ frame.stack) had in
    let spelled = has.spelled in
    let formed = spelled.behind in
    let locals = type_table_goes used more place frame.locals formed.behind.first (all_front (λ type. Had used (type_uses type)) frame.locals frame.stack each) formed.behind.here in
    let stack = type_table_goes used more place frame.stack formed.behind.second (all_back (λ type. Had used (type_uses type)) frame.locals frame.stack each) formed.behind.behind in
    record {
      bytes = spelled.first ++ (formed.first ++ (locals.bytes ++ stack.bytes));
      spelled = record {
        first = spelled.first;
        second = formed.first ++ (locals.bytes ++ stack.bytes);
        spelled = refl;
        here = spelled.here;
        behind = record {
          first = formed.first;
          second = locals.bytes ++ stack.bytes;
          spelled = refl;
          here = formed.here;
          behind = record { first = locals.bytes; second = stack.bytes; spelled = refl; here = locals.spelled; behind = stack.spelled };
        };
      };
    }

frames_go : (used more : List Entry) (place : Label → ℕ) (previous : Option ℕ) (frames : List FrameLine) → Had used (flat_map frame_uses frames)
    → AllByRecursion (HasSpelling (SpellsFrame (Pool (used ++ more)))) (frames_behind (entries_of used) place previous frames) → AllByRecursion (HasSpelling (SpellsFrame (Pool used))) (frames_behind (entries_of used) place previous frames)
frames_go used more place previous [] had all = tt
frames_go used more place previous (Bad ∷ frames) had all = frames_go used more place previous frames had all
frames_go used more place previous (Full frame ∷ frames) had all =
    let here = flat_map type_uses (frame.locals ++ frame.stack) in (
      frame_goes used more place previous frame (all_front (Has used) here (flat_map frame_uses frames) had) all.0,
      frames_go used more place (Some (place frame.place)) frames (all_back (Has used) here (flat_map frame_uses frames) had) all.1,
    )

frames_named : (used : List Entry) (place : Label → ℕ) (previous : Option ℕ) (frames : List FrameLine) → IsPool (Pool used) → Had used (frames_uses frames) → frames_behind (entries_of used) place previous frames ≢ [] → HasName (Pool used) stack_map_table
frames_named used place previous [] pool had some = absurd (some refl)
frames_named used place previous (frame ∷ frames) pool had some = name_had used stack_map_table pool had.0

-- a body
body_goes : (used more : List Entry) (code : CodeText) → IsPool (Pool used) → Had used (code_uses (Some code)) → IsBody (Pool (used ++ more)) (body_of (entries_of used) code) → IsBody (Pool used) (body_of (entries_of used) code)
body_goes used more code pool all is =
    let had = code_had used code all in
    let place = place_at code.lines in
    record {
      stack = is.stack;
      locals = is.locals;
      code = is.code;
      some = is.some;
      few = is.few;
      constants = constants_go used more place 0 code.lines had.lines is.constants;
      handlers_few = is.handlers_few;
      handlers = handlers_go used more place code.catches (all_of_flat (Has used) (λ entry. class_use entry.class) code.catches had.catches) is.handlers;
      placed = is.placed;
      frames = record { few = is.frames.few; each = frames_go used more place None code.frames (each_frame_had used code.frames had.frames) is.frames.each };
      name = frames_named used place None code.frames pool had.frames;
    }

-- a field
constant_value_goes : {large small : List Constant} {descriptor index : ℕ} → SameText large small descriptor → SameConstant large small index → HasName small constant_value → IsConstant large descriptor index → IsConstant small descriptor index
constant_value_goes {large} {small} {descriptor} {index} text constant name is = record {
  fits = is.fits;
  value =
      some_each (λ constant. HasText large descriptor (λ text. IsValueOf text constant)) (λ constant. HasText small descriptor (λ text. IsValueOf text constant))
      (λ constant has. text_goes (λ text. IsValueOf text constant) text has)
      (constant_at small index) (subst (λ found. IsSomeAnd found (λ constant. HasText large descriptor (λ text. IsValueOf text constant))) constant.is is.value);
  has_name = name;
}

value_goes : (used more : List Entry) (descriptor : ℕ) (value : Option Value) → IsPool (Pool used) → SameText (Pool (used ++ more)) (Pool used) descriptor → Had used (value_uses value)
    → IfSome (option_map (λ value. at used (value_entry value)) value) (IsConstant (Pool (used ++ more)) descriptor) → IfSome (option_map (λ value. at used (value_entry value)) value) (IsConstant (Pool used) descriptor)
value_goes used more descriptor None pool text had is = tt
value_goes used more descriptor (Some value) pool text had is =
    constant_value_goes text (same_constant used more (value_entry value) had.1.0) (name_had used constant_value pool had.0) is

pub field_goes : (used more : List Entry) (field : FieldText) → IsPool (Pool used) → Had used (field_uses field) → IsField (Pool (used ++ more)) (field_of (entries_of used) field) → IsField (Pool used) (field_of (entries_of used) field)
field_goes used more field pool had is =
    let name = same_text used more field.name had.0 in
    let descriptor = same_text used more field.descriptor had.1.0 in
    record {
      flags = is.flags;
      name = is.name;
      descriptor = is.descriptor;
      named = field_names_go name descriptor is.named;
      constant = value_goes used more (at used (Text field.descriptor)) field.value pool descriptor had.1.1 is.constant;
    }

-- a method
code_goes : (used more : List Entry) (code : Option CodeText) → IsPool (Pool used) → Had used (code_uses code)
    → IfSome (option_map (body_of (entries_of used)) code) (IsBodyOf (Pool (used ++ more))) → IfSome (option_map (body_of (entries_of used)) code) (IsBodyOf (Pool used))
code_goes used more None pool had is = tt
code_goes used more (Some code) pool had is = record { is = body_goes used more code pool had is.is; short = is.short; has_name = name_had used code_name pool had.0 }

pub method_goes : (used more : List Entry) (method : MethodText) → IsPool (Pool used) → Had used (method_uses method) → IsMethodOf (Pool (used ++ more)) (method_of (entries_of used) method) → IsMethodOf (Pool used) (method_of (entries_of used) method)
method_goes used more method pool had is =
    let name = same_text used more method.name had.0 in
    let descriptor = same_text used more method.descriptor had.1.0 in
    record {
      flags = is.flags;
      name = is.name;
      descriptor = is.descriptor;
      named = method_names_go name descriptor is.named;
      rules = record {
        words = text_goes _ descriptor is.rules.words;
        code = is.rules.code;
        abstract_method = λ flag. ((is.rules.abstract_method flag).0, λ init. (is.rules.abstract_method flag).1 (name.is ∙ init));
        initialiser = λ init. let rule = is.rules.initialiser (name.is ∙ init) in (rule.0, sym descriptor.is ∙ rule.1, rule.2);
      };
      body = code_goes used more method.code pool had.1.1 is.body;
    }
