-- The records of the library's classes, made of the rows of the table: each constant stands where it is first asked for, behind those that it
-- names, whether an equal one stands there already or not.
use Rattle.std.specs.Prelude.{ℕ, ◌+◌, ◌++◌, List, [], ◌∷◌, codes, length, map, Option, None, Some, slice_index, zip}
use Rattle.cb_text.specs.declared.constant.Constant.{Constant}
use Rattle.cb_text.specs.declared.constant.Constant.TheVariants as constants
use Rattle.cb_insn.specs.declared.insn.Insn.{Insn}
use Rattle.cb_insn.specs.declared.insn.Operand.TheVariants as operands
use Rattle.cb_insn.specs.declared.opcode.TheConstants as opcodes
use Rattle.cb_library.specs.CoreClasses.{core_classes}
use Rattle.cb_library.specs.Rows as rows
use Rattle.cb_classfile.specs.declared.body.Body.{Body}
use Rattle.cb_classfile.specs.declared.class.ClassFile.{ClassFile}
use Rattle.cb_classfile.specs.declared.field.Field.{Field}
use Rattle.cb_classfile.specs.declared.frame_map.MapFrame.{MapFrame}
use Rattle.cb_classfile.specs.declared.map_type.MapType.{MapType}
use Rattle.cb_classfile.specs.declared.map_type.MapType.TheVariants as types
use Rattle.cb_classfile.specs.declared.method.Method.{Method}
use Rattle.cb_classfile.specs.Library.{full_frame, library_version, with_operand}
use Rattle.cb_core.specs.Built.{places_from}

-- a pool behind what was made with it, mostly an index
pub record Entry (Thing : Type 0) : Type 0 where
  pub pool : List Constant
  pub thing : Thing

abbrev pub entered : {Thing : Type 0} → List Constant → Thing → Entry Thing
entered pool thing = record { pool = pool; thing = thing }

-- things made one after the other
abbrev pub with_each : {Row Thing : Type 0} → (Row → List Constant → Entry Thing) → List Row → List Constant → Entry (List Thing)
with_each make [] pool = entered pool []
with_each make (row ∷ rows) pool =
    let one = make row pool in
    let more = with_each make rows one.pool in
    entered more.pool (one.thing ∷ more.thing)

-- a constant, and those that stand behind what they name (JVMS §4.4)
abbrev pub with_constant : Constant → List Constant → Entry ℕ
with_constant constant pool = record { pool = pool ++ constant ∷ []; thing = length pool + 1 }

abbrev pub with_text : (text : List ℕ) → List Constant → Entry ℕ
with_text text pool = with_constant (constants.Utf8 text) pool

abbrev pub with_class : (name : List ℕ) → List Constant → Entry ℕ
with_class name pool = let text = with_text name pool in with_constant (constants.Class text.thing) text.pool

abbrev pub with_string : (text : List ℕ) → List Constant → Entry ℕ
with_string text pool = let units = with_text text pool in with_constant (constants.String units.thing) units.pool

abbrev pub with_name_and_type : (name descriptor : List ℕ) → List Constant → Entry ℕ
with_name_and_type name descriptor pool =
    let named = with_text name pool in
    let described = with_text descriptor named.pool in
    with_constant (constants.NameAndType named.thing described.thing) described.pool

abbrev pub with_field : (class name descriptor : List ℕ) → List Constant → Entry ℕ
with_field class name descriptor pool =
    let holder = with_class class pool in
    let member = with_name_and_type name descriptor holder.pool in
    with_constant (constants.Fieldref holder.thing member.thing) member.pool

abbrev pub with_method : (class name descriptor : List ℕ) → List Constant → Entry ℕ
with_method class name descriptor pool =
    let holder = with_class class pool in
    let member = with_name_and_type name descriptor holder.pool in
    with_constant (constants.Methodref holder.thing member.thing) member.pool

-- an instruction of code whose instructions have these places
abbrev naming : ℕ → Entry ℕ → Entry Insn
naming opcode constant = entered constant.pool (with_operand opcode (operands.Pool constant.thing))

abbrev pub with_insn : (places : List ℕ) → rows.Instruction → List Constant → Entry Insn
with_insn places (rows.Plain opcode) pool = entered pool (with_operand opcode operands.Nothing)
with_insn places (rows.Branch opcode target) pool = entered pool (with_operand opcode (operands.Branch (slice_index places target)))
with_insn places (rows.LoadText text) pool = naming opcodes.LDC_W (with_string text pool)
with_insn places (rows.OfClass opcode class) pool = naming opcode (with_class class pool)
with_insn places (rows.OfField opcode class name descriptor) pool = naming opcode (with_field class name descriptor pool)
with_insn places (rows.OfMethod opcode class name descriptor) pool = naming opcode (with_method class name descriptor pool)

-- those of code, each at its place
abbrev pub with_code : (places : List ℕ) → List rows.Instruction → List Constant → Entry (List (ℕ × Insn))
with_code places rows pool = let insns = with_each (with_insn places) rows pool in entered insns.pool (zip places insns.thing)

-- full frames, of which a body has one at most: its place is its delta (JVMS §4.7.4)
abbrev pub with_local : (name : List ℕ) → List Constant → Entry MapType
with_local name pool = let class = with_class name pool in entered class.pool (types.Object class.thing)

abbrev pub with_frame : (places : List ℕ) → rows.Frame → List Constant → Entry MapFrame
with_frame places row pool =
    let locals = with_each with_local row.locals pool in
    record { pool = locals.pool; thing = record { kind = full_frame; delta = slice_index places row.at; locals = locals.thing; stack = [] } }

abbrev pub with_body : rows.Body → List Constant → Entry Body
with_body row pool =
    let places = places_from 0 row.code in
    let code = with_code places row.code pool in
    let frames = with_each (with_frame places) row.frames code.pool in
    record {
      pool = frames.pool;
      thing = record { max_stack = row.max_stack; max_locals = row.max_locals; code = code.thing; handlers = []; frames = frames.thing };
    }

abbrev pub with_kind : rows.Kind → List Constant → Entry (Option Body)
with_kind (rows.Runs row) pool = let body = with_body row pool in entered body.pool (Some body.thing)
with_kind other pool = entered pool None

-- members, a superclass if there is one, and a record
abbrev pub with_member : rows.Method → List Constant → Entry Method
with_member row pool =
    let name = with_text row.name pool in
    let descriptor = with_text row.descriptor name.pool in
    let body = with_kind row.kind descriptor.pool in
    record { pool = body.pool; thing = record { flags = record { 0 = row.flags }; name = name.thing; descriptor = descriptor.thing; body = body.thing } }

abbrev pub with_variable : rows.Field → List Constant → Entry Field
with_variable row pool =
    let name = with_text row.name pool in
    let descriptor = with_text row.descriptor name.pool in
    record { pool = descriptor.pool; thing = record { flags = record { 0 = row.flags }; name = name.thing; descriptor = descriptor.thing; constant = None } }

abbrev pub with_superclass : (name : Option (List ℕ)) → List Constant → Entry ℕ
with_superclass None pool = entered pool 0
with_superclass (Some name) pool = with_class name pool

-- the names of the two attributes come first
abbrev pub new_pool : List Constant
new_pool = (with_text (codes "StackMapTable") (with_text (codes "Code") []).pool).pool

abbrev pub record_of : rows.CoreClass → ClassFile
record_of row =
    let this = with_class row.name new_pool in
    let above = with_superclass row.superclass this.pool in
    let interfaces = with_each with_class row.interfaces above.pool in
    let fields = with_each with_variable row.fields interfaces.pool in
    let methods = with_each with_member row.methods fields.pool in
    record {
      minor = 0;
      major = library_version;
      pool = methods.pool;
      flags = record { 0 = row.flags };
      this_class = this.thing;
      super_class = above.thing;
      interfaces = interfaces.thing;
      fields = fields.thing;
      methods = methods.thing;
    }

-- the library, in the order of the table
unfoldable pub core_records : List ClassFile
core_records = map record_of core_classes
