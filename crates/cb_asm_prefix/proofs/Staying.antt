-- The record of what is used is the same where more is used, but for the pool.
use Rattle.std.proofs.Common.{◌≡◌, ◌∙◌, ap, refl, ℕ, ◌+◌, List, [], ◌∷◌, ◌++◌, map, Option, Some, None, option_map}
use Rattle.std.specs.List.{AllByRecursion, flat_map}
use Rattle.cb_insn.specs.declared.insn.Insn.{Insn}
use Rattle.cb_insn.specs.declared.insn.Operand.{Operand as InsnOperand}
use Rattle.cb_insn.specs.declared.insn.Operand.TheVariants as operands
use Rattle.cb_classfile.specs.declared.body.Body.{Body}
use Rattle.cb_classfile.specs.declared.field.Field.{Field}
use Rattle.cb_classfile.specs.declared.frame_map.MapFrame.{MapFrame}
use Rattle.cb_classfile.specs.declared.handler.Handler.{Handler}
use Rattle.cb_classfile.specs.declared.map_type.MapType.{MapType}
use Rattle.cb_classfile.specs.declared.map_type.MapType.TheVariants as types
use Rattle.cb_classfile.specs.declared.method.Method.{Method}
use Rattle.cb_classfile.proofs.Laws.{all_each, code_name}
use Rattle.cb_asm_line.specs.Label.{Label}
use Rattle.cb_asm_line.specs.declared.frame.Frame.{Frame}
use Rattle.cb_asm_line.specs.declared.frame.FrameLine.{FrameLine}
use Rattle.cb_asm_line.specs.declared.frame.FrameLine.TheVariants.{Full, Bad}
use Rattle.cb_asm_line.specs.declared.frame.FrameType.{FrameType}
use Rattle.cb_asm_line.specs.declared.frame.FrameType.TheVariants.{Object}
use Rattle.cb_asm_line.specs.declared.operand.Instruction.{Instruction}
use Rattle.cb_asm_line.specs.declared.operand.Operand.{Operand}
use Rattle.cb_asm_line.specs.declared.operand.Operand.TheVariants.{Load, Member, Class, Dimensions}
use Rattle.cb_asm_line.specs.declared.operand.Value.{Value}
use Rattle.cb_asm_line.specs.declared.program.CatchLine.{CatchLine}
use Rattle.cb_asm_line.specs.declared.program.CodeLine.{CodeLine}
use Rattle.cb_asm_line.specs.declared.program.CodeLine.TheVariants.{Here, Do}
use Rattle.cb_asm_line.specs.declared.program.CodeText.{CodeText}
use Rattle.cb_asm_line.specs.declared.program.FieldText.{FieldText}
use Rattle.cb_asm_line.specs.declared.program.MethodText.{MethodText}
use Rattle.cb_asm_record.specs.Constants.{entries_of, index_of}
use Rattle.cb_asm_record.specs.Entries.{Entry, Text, member_entry, value_entry}
use Rattle.cb_asm_record.specs.Labels.{code_from, insn_of, member_operand, operand_of, place_at, size_at}
use Rattle.cb_asm_record.specs.Record.{body_of, class_index, delta_behind, field_of, frame_behind, frames_behind, full_kind, handler_of, map_type_of, method_of}
use Rattle.cb_asm_record.specs.Uses.{class_use, code_uses, field_uses, frame_uses, frames_uses, line_uses, method_uses, operand_uses, type_uses, value_uses}
use Rattle.cb_asm_record.proofs.Laws.{index_stays}
use Rattle.cb_asm_prefix.proofs.Lists.{all_back, all_front, all_of_flat, map_each}
use Rattle.cb_asm_prefix.proofs.Pools.{Has}

-- these entries are had
abbrev pub Had : List Entry → List Entry → Type 0
Had used entries = AllByRecursion (Has used) entries

operand_stays : (used more : List Entry) (place : Label → ℕ) (opcode : ℕ) (operand : Operand) → Had used (operand_uses operand) → operand_of (entries_of (used ++ more)) place opcode operand ≡ operand_of (entries_of used) place opcode operand
operand_stays used more place opcode (Load value) all = ap operands.Pool (index_stays used more (value_entry value) all.0)
operand_stays used more place opcode (Member member) all = ap (λ index. member_operand opcode index member) (index_stays used more (member_entry member) all.0)
operand_stays used more place opcode (Class name) all = ap operands.Pool (index_stays used more (Entry.Class name) all.0)
operand_stays used more place opcode (Dimensions name dimensions) all = ap (λ index. operands.Dimensions index dimensions) (index_stays used more (Entry.Class name) all.0)
operand_stays used more place opcode operand all = refl

abbrev insn : Instruction → InsnOperand → Insn
insn instruction operand = record { opcode = instruction.opcode; wide = instruction.wide; operand = operand }

code_stays : (used more : List Entry) (place : Label → ℕ) (pc : ℕ) (lines : List CodeLine) → Had used (flat_map line_uses lines) → code_from (entries_of (used ++ more)) place pc lines ≡ code_from (entries_of used) place pc lines
code_stays used more place pc [] all = refl
code_stays used more place pc (Here label ∷ lines) all = code_stays used more place pc lines all
code_stays used more place pc (Do instruction ∷ lines) all =
    let rest = code_stays used more place (pc + size_at pc instruction) lines (all_back (Has used) (operand_uses instruction.operand) (flat_map line_uses lines) all) in
    ap (λ operand. (pc, insn instruction operand) ∷ code_from (entries_of (used ++ more)) place (pc + size_at pc instruction) lines) (operand_stays used more place instruction.opcode instruction.operand (all_front (Has used) (operand_uses instruction.operand) (flat_map line_uses lines) all))
    ∙ ap (λ rest. (pc, insn_of (entries_of used) place instruction) ∷ rest) rest

pub class_index_stays : (used more : List Entry) (class : Option (List ℕ)) → Had used (class_use class) → class_index (entries_of (used ++ more)) class ≡ class_index (entries_of used) class
class_index_stays used more None all = refl
class_index_stays used more (Some name) all = index_stays used more (Entry.Class name) all.0

abbrev handler : (Label → ℕ) → CatchLine → ℕ → Handler
handler place entry index = record { start = place entry.start; end = place entry.end; handler = place entry.handler; catch_type = index }

handlers_stay : (used more : List Entry) (place : Label → ℕ) (catches : List CatchLine) → Had used (flat_map (λ entry. class_use entry.class) catches) → map (handler_of (entries_of (used ++ more)) place) catches ≡ map (handler_of (entries_of used) place) catches
handlers_stay used more place catches all =
    map_each (handler_of (entries_of (used ++ more)) place) (handler_of (entries_of used) place) catches (
    all_each (λ entry. Had used (class_use entry.class)) (λ entry. handler_of (entries_of (used ++ more)) place entry ≡ handler_of (entries_of used) place entry)
    (λ entry had. ap (handler place entry) (class_index_stays used more entry.class had))
    catches (all_of_flat (Has used) (λ entry. class_use entry.class) catches all)
    )

type_stays : (used more : List Entry) (place : Label → ℕ) (type : FrameType Label) → Had used (type_uses type) → map_type_of (entries_of (used ++ more)) place type ≡ map_type_of (entries_of used) place type
type_stays used more place (Object name) all = ap types.Object (index_stays used more (Entry.Class name) all.0)
type_stays used more place type all = refl

types_stay : (used more : List Entry) (place : Label → ℕ) (types : List (FrameType Label)) → AllByRecursion (λ type. Had used (type_uses type)) types → map (map_type_of (entries_of (used ++ more)) place) types ≡ map (map_type_of (entries_of used) place) types
types_stay used more place types all =
    map_each (map_type_of (entries_of (used ++ more)) place) (map_type_of (entries_of used) place) types (
    all_each (λ type. Had used (type_uses type)) (λ type. map_type_of (entries_of (used ++ more)) place type ≡ map_type_of (entries_of used) place type) (type_stays used more place) types all
    )

abbrev full : (Label → ℕ) → Option ℕ → Label → List MapType → List MapType → MapFrame
full place previous label locals stack = record { kind = full_kind; delta = delta_behind previous (place label); locals = locals; stack = stack }

frame_stays : (used more : List Entry) (place : Label → ℕ) (previous : Option ℕ) (frame : Frame Label) → Had used (flat_map type_uses (frame.locals ++ frame.stack)) → frame_behind (entries_of (used ++ more)) place previous frame ≡ frame_behind (entries_of used) place previous frame
frame_stays used more place previous frame all =
    let each = all_of_flat (Has used) type_uses (frame.locals ++ frame.stack) all in
    let types = λ (entries : List Entry) (of : List (FrameType Label)). map (map_type_of entries place) of in
    ap (λ locals. full place previous frame.place locals (types (entries_of (used ++ more)) frame.stack)) (types_stay used more place frame.locals (all_front (λ type. Had used (type_uses type)) frame.locals frame.stack each))
    ∙ ap (λ stack. full place previous frame.place (types (entries_of used) frame.locals) stack) (types_stay used more place frame.stack (all_back (λ type. Had used (type_uses type)) frame.locals frame.stack each))

frames_stay : (used more : List Entry) (place : Label → ℕ) (previous : Option ℕ) (frames : List FrameLine) → Had used (flat_map frame_uses frames) → frames_behind (entries_of (used ++ more)) place previous frames ≡ frames_behind (entries_of used) place previous frames
frames_stay used more place previous [] all = refl
frames_stay used more place previous (Bad ∷ frames) all = frames_stay used more place previous frames all
frames_stay used more place previous (Full frame ∷ frames) all =
    let here = flat_map type_uses (frame.locals ++ frame.stack) in
    ap (λ first. first ∷ frames_behind (entries_of (used ++ more)) place (Some (place frame.place)) frames) (frame_stays used more place previous frame (all_front (Has used) here (flat_map frame_uses frames) all))
    ∙ ap (λ rest. frame_behind (entries_of used) place previous frame ∷ rest) (frames_stay used more place (Some (place frame.place)) frames (all_back (Has used) here (flat_map frame_uses frames) all))

-- the uses of code by its parts
pub record CodeHad (used : List Entry) (code : CodeText) : Type 0 where
  pub name : Has used (Text code_name)
  pub lines : Had used (flat_map line_uses code.lines)
  pub catches : Had used (flat_map (λ entry. class_use entry.class) code.catches)
  pub frames : Had used (frames_uses code.frames)

pub code_had : (used : List Entry) (code : CodeText) → Had used (code_uses (Some code)) → CodeHad used code
code_had used code all =
    let lines = flat_map line_uses code.lines in
    let catches = flat_map (λ (entry : CatchLine). class_use entry.class) code.catches in
    let frames = frames_uses code.frames in
    let front = all_front (Has used) (lines ++ catches) frames all.1 in
    record { name = all.0; lines = all_front (Has used) lines catches front; catches = all_back (Has used) lines catches front; frames = all_back (Has used) (lines ++ catches) frames all.1 }

pub each_frame_had : (used : List Entry) (frames : List FrameLine) → Had used (frames_uses frames) → Had used (flat_map frame_uses frames)
each_frame_had used [] all = tt
each_frame_had used (frame ∷ frames) all = all.1

abbrev body : CodeText → List (ℕ × Insn) → List Handler → List MapFrame → Body
body code insns handlers frames = record { max_stack = code.stack; max_locals = code.locals; code = insns; handlers = handlers; frames = frames }

body_stays : (used more : List Entry) (code : CodeText) → Had used (code_uses (Some code)) → body_of (entries_of (used ++ more)) code ≡ body_of (entries_of used) code
body_stays used more code all =
    let had = code_had used code all in
    let place = place_at code.lines in
    let large = entries_of (used ++ more) in
    let small = entries_of used in
    ap (λ insns. body code insns (map (handler_of large place) code.catches) (frames_behind large place None code.frames)) (code_stays used more place 0 code.lines had.lines)
    ∙ ap (λ handlers. body code (code_from small place 0 code.lines) handlers (frames_behind large place None code.frames)) (handlers_stay used more place code.catches had.catches)
    ∙ ap (λ frames. body code (code_from small place 0 code.lines) (map (handler_of small place) code.catches) frames) (frames_stay used more place None code.frames (each_frame_had used code.frames had.frames))

abbrev field : FieldText → ℕ → ℕ → Option ℕ → Field
field text name descriptor constant = record { flags = record { 0 = text.flags }; name = name; descriptor = descriptor; constant = constant }

abbrev value_index : List Entry → Option Value → Option ℕ
value_index entries value = option_map (λ value. index_of entries (value_entry value)) value

value_stays : (used more : List Entry) (value : Option Value) → Had used (value_uses value) → value_index (entries_of (used ++ more)) value ≡ value_index (entries_of used) value
value_stays used more None all = refl
value_stays used more (Some value) all = ap Some (index_stays used more (value_entry value) all.1.0)

pub field_stays : (used more : List Entry) (text : FieldText) → Had used (field_uses text) → field_of (entries_of (used ++ more)) text ≡ field_of (entries_of used) text
field_stays used more text all =
    let large = entries_of (used ++ more) in
    let small = entries_of used in
    ap (λ name. field text name (index_of large (Text text.descriptor)) (value_index large text.value)) (index_stays used more (Text text.name) all.0)
    ∙ ap (λ descriptor. field text (index_of small (Text text.name)) descriptor (value_index large text.value)) (index_stays used more (Text text.descriptor) all.1.0)
    ∙ ap (λ value. field text (index_of small (Text text.name)) (index_of small (Text text.descriptor)) value) (value_stays used more text.value all.1.1)

abbrev method : MethodText → ℕ → ℕ → Option Body → Method
method text name descriptor body = record { flags = record { 0 = text.flags }; name = name; descriptor = descriptor; body = body }

code_body_stays : (used more : List Entry) (code : Option CodeText) → Had used (code_uses code) → option_map (body_of (entries_of (used ++ more))) code ≡ option_map (body_of (entries_of used)) code
code_body_stays used more None all = refl
code_body_stays used more (Some code) all = ap Some (body_stays used more code all)

pub method_stays : (used more : List Entry) (text : MethodText) → Had used (method_uses text) → method_of (entries_of (used ++ more)) text ≡ method_of (entries_of used) text
method_stays used more text all =
    let large = entries_of (used ++ more) in
    let small = entries_of used in
    ap (λ name. method text name (index_of large (Text text.descriptor)) (option_map (body_of large) text.code)) (index_stays used more (Text text.name) all.0)
    ∙ ap (λ descriptor. method text (index_of small (Text text.name)) descriptor (option_map (body_of large) text.code)) (index_stays used more (Text text.descriptor) all.1.0)
    ∙ ap (λ body. method text (index_of small (Text text.name)) (index_of small (Text text.descriptor)) body) (code_body_stays used more text.code all.1.1)
