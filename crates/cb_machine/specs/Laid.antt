-- Class records laid from rows, for small programs: those of the library's table, and others with handlers and operands. Each use of a
-- name enters constants of its own, and no frames are laid, which a machine that runs doesn't ask for.
use Rattle.std.specs.Prelude.{ℕ, ◌+◌, false, List, [], ◌∷◌, ◌++◌, length, map, Option, Some, None}
use Rattle.cb_classfile.specs.declared.body.Body.{Body}
use Rattle.cb_classfile.specs.declared.class.ClassFile.{ClassFile}
use Rattle.cb_classfile.specs.declared.field.Field.{Field}
use Rattle.cb_classfile.specs.declared.handler.Handler.{Handler}
use Rattle.cb_classfile.specs.declared.method.Method.{Method}
use Rattle.cb_insn.specs.declared.insn.Insn.{Insn}
use Rattle.cb_insn.specs.declared.insn.Operand.{Operand}
use Rattle.cb_insn.specs.declared.insn.Operand.TheVariants as operands
use Rattle.cb_insn.specs.declared.opcode.TheConstants as opcodes
use Rattle.cb_library.specs.CoreClasses.{core_classes}
use Rattle.cb_library.specs.Rows as rows
use Rattle.cb_text.specs.declared.constant.Constant.{Constant}
use Rattle.cb_text.specs.declared.constant.Constant.TheVariants as constants
use Rattle.cb_machine.specs.Machine.{listed}

-- an item with the constants so far
pub record With (Item : Type 0) : Type 0 where
  pub item : Item
  pub pool : List Constant

abbrev entered : Constant → List Constant → With ℕ
entered constant pool = record { item = length pool + 1; pool = pool ++ constant ∷ [] }

abbrev text : List ℕ → List Constant → With ℕ
text units pool = entered (constants.Utf8 units) pool

abbrev class : List ℕ → List Constant → With ℕ
class name pool = let units = text name pool in entered (constants.Class units.item) units.pool

abbrev name_and_type : List ℕ → List ℕ → List Constant → With ℕ
name_and_type name descriptor pool =
    let units = text name pool in
    let type = text descriptor units.pool in
    entered (constants.NameAndType units.item type.item) type.pool

abbrev member : (ℕ → ℕ → Constant) → List ℕ → List ℕ → List ℕ → List Constant → With ℕ
member made holder name descriptor pool =
    let holding = class holder pool in
    let both = name_and_type name descriptor holding.pool in
    entered (made holding.item both.item) both.pool

-- one after the other
abbrev each : {Row Item : Type 0} → (Row → List Constant → With Item) → List Row → List Constant → With (List Item)
each lay [] pool = record { item = []; pool = pool }
each lay (row ∷ rest) pool =
    let first = lay row pool in
    let others = each lay rest first.pool in
    record { item = first.item ∷ others.item; pool = others.pool }

-- an instruction of the table's; or one with an operand that names no constant, or a class, which takes so many bytes
pub data Line : Type 0 where
  Row : rows.Instruction → Line
  Plainly : ℕ → Operand → ℕ → Line
  OfKind : ℕ → (name : List ℕ) → (ℕ → Operand) → ℕ → Line

-- a handler of instructions from one to before another, by their numbers, with the class that it takes
pub record HandlerRow : Type 0 where
  pub from : ℕ
  pub to : ℕ
  pub at : ℕ
  pub class : List ℕ

pub record BodyRow : Type 0 where
  pub stack : ℕ
  pub locals : ℕ
  pub code : List Line
  pub handlers : List HandlerRow

pub record MethodRow : Type 0 where
  pub flags : ℕ
  pub name : List ℕ
  pub descriptor : List ℕ
  pub body : Option BodyRow

pub record ClassRow : Type 0 where
  pub flags : ℕ
  pub name : List ℕ
  pub superclass : Option (List ℕ)
  pub interfaces : List (List ℕ)
  pub fields : List rows.Field
  pub methods : List MethodRow

-- the places of instructions: one of the table's without an operand takes a byte, any other three
abbrev size : Line → ℕ
size (Row (rows.Plain opcode)) = 1
size (Row other) = 3
size (Plainly opcode operand bytes) = bytes
size (OfKind opcode name operand bytes) = bytes

abbrev places_from : ℕ → List Line → List ℕ
places_from place [] = place ∷ []
places_from place (line ∷ code) = place ∷ places_from (place + size line) code

abbrev insn_of : ℕ → Operand → List Constant → With Insn
insn_of opcode operand pool = record { item = record { opcode = opcode; wide = false; operand = operand }; pool = pool }

abbrev by_index : ℕ → With ℕ → With Insn
by_index opcode index = insn_of opcode (operands.Pool index.item) index.pool

abbrev string : List ℕ → List Constant → With ℕ
string units pool = let laid = text units pool in entered (constants.String laid.item) laid.pool

-- a branch of the table's names its target by the number of an instruction, and any other by its place
abbrev insn : List ℕ → Line → List Constant → With Insn
insn places (Row (rows.Plain opcode)) pool = insn_of opcode operands.Nothing pool
insn places (Row (rows.Branch opcode target)) pool = insn_of opcode (operands.Branch (listed places target)) pool
insn places (Row (rows.LoadText units)) pool = by_index opcodes.LDC_W (string units pool)
insn places (Row (rows.OfClass opcode name)) pool = by_index opcode (class name pool)
insn places (Row (rows.OfField opcode holder name descriptor)) pool = by_index opcode (member constants.Fieldref holder name descriptor pool)
insn places (Row (rows.OfMethod opcode holder name descriptor)) pool = by_index opcode (member constants.Methodref holder name descriptor pool)
insn places (Plainly opcode operand bytes) pool = insn_of opcode operand pool
insn places (OfKind opcode name operand bytes) pool = let index = class name pool in insn_of opcode (operand index.item) index.pool

abbrev placed : List ℕ → List Insn → List (ℕ × Insn)
placed (place ∷ places) (first ∷ code) = (place, first) ∷ placed places code
placed places code = []

abbrev handler : List ℕ → HandlerRow → List Constant → With Handler
handler places row pool =
    let taken = class row.class pool in
    record { item = record { start = listed places row.from; «end» = listed places row.to; handler = listed places row.at; catch_type = taken.item }; pool = taken.pool }

abbrev body : BodyRow → List Constant → With Body
body row pool =
    let places = places_from 0 row.code in
    let code = each (insn places) row.code pool in
    let handlers = each (handler places) row.handlers code.pool in
    record { item = record { max_stack = row.stack; max_locals = row.locals; code = placed places code.item; handlers = handlers.item; frames = [] }; pool = handlers.pool }

abbrev body_in : Option BodyRow → List Constant → With (Option Body)
body_in None pool = record { item = None; pool = pool }
body_in (Some row) pool = let laid = body row pool in record { item = Some laid.item; pool = laid.pool }

abbrev method : MethodRow → List Constant → With Method
method row pool =
    let name = text row.name pool in
    let descriptor = text row.descriptor name.pool in
    let laid = body_in row.body descriptor.pool in
    record { item = record { flags = record { 0 = row.flags }; name = name.item; descriptor = descriptor.item; body = laid.item }; pool = laid.pool }

abbrev field : rows.Field → List Constant → With Field
field row pool =
    let name = text row.name pool in
    let descriptor = text row.descriptor name.pool in
    record { item = record { flags = record { 0 = row.flags }; name = name.item; descriptor = descriptor.item; constant = None }; pool = descriptor.pool }

abbrev superclass : Option (List ℕ) → List Constant → With ℕ
superclass None pool = record { item = 0; pool = pool }
superclass (Some name) pool = class name pool

-- a class by its row
abbrev pub laid : ClassRow → ClassFile
laid row =
    let this = class row.name [] in
    let above = superclass row.superclass this.pool in
    let interfaces = each class row.interfaces above.pool in
    let fields = each field row.fields interfaces.pool in
    let methods = each method row.methods fields.pool in
    record { minor = 0; major = 52; pool = methods.pool; flags = record { 0 = row.flags }; this_class = this.item; super_class = above.item; interfaces = interfaces.item; fields = fields.item; methods = methods.item }

-- and one of the table's
abbrev body_of_kind : rows.Kind → Option BodyRow
body_of_kind (rows.Runs row) = Some (record { stack = row.max_stack; locals = row.max_locals; code = map Row row.code; handlers = [] })
body_of_kind other = None

abbrev method_row : rows.Method → MethodRow
method_row row = record { flags = row.flags; name = row.name; descriptor = row.descriptor; body = body_of_kind row.kind }

abbrev class_row : rows.CoreClass → ClassRow
class_row row =
    record { flags = row.flags; name = row.name; superclass = row.superclass; interfaces = row.interfaces; fields = row.fields; methods = map method_row row.methods }

abbrev pub library : List ClassFile
library = map (λ row. laid (class_row row)) core_classes
