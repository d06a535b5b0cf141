-- Fields and methods are listed as they were written, but for the labels.
use Rattle.std.proofs.Common.{◌≡◌, ◌∙◌, ap, refl, ℕ, List, [], ◌∷◌, Option, Some, None, IfSome, option_and_then, option_map}
use Rattle.std.specs.List.{AllByRecursion}
use Rattle.std.specs.Option.{unwrap_or}
use Rattle.cb_text.specs.declared.constant.Constant.{Constant}
use Rattle.cb_classfile.specs.declared.class.ClassFile.{ClassFile}
use Rattle.cb_classfile.specs.declared.method.Method.{Method}
use Rattle.cb_classfile.specs.Pool.{text_at}
use Rattle.cb_asm_line.specs.declared.operand.Value.{Value}
use Rattle.cb_asm_line.specs.declared.program.CodeText.{CodeText}
use Rattle.cb_asm_line.specs.declared.program.FieldText.{FieldText}
use Rattle.cb_asm_line.specs.declared.program.MethodText.{MethodText}
use Rattle.cb_asm_line.specs.declared.statement.Statement.TheVariants as statements
use Rattle.cb_asm_line.specs.Statements.{AreWhole, IsStatement, IsValue, code_statements, method_statements}
use Rattle.cb_asm_record.specs.Constants.{index_of}
use Rattle.cb_asm_record.specs.Entries.{Entry, Text, value_entry}
use Rattle.cb_asm_record.specs.Grammar.{IsCode}
use Rattle.cb_asm_record.specs.Record.{body_of, field_of, method_of}
use Rattle.cb_asm_record.specs.Uses.{code_uses, field_uses, method_uses, value_uses}
use Rattle.cb_asm_list.specs.Listing.{code_of, field_text, method_text, value_at}
use Rattle.cb_asm_back.proofs.Codes.{body_by, code_by, is_code_by, statements_by, uses_by, whole_by}
use Rattle.cb_asm_back.proofs.Listed.{IsListed, code_listed, labelled_in, relabel, relabels}
use Rattle.cb_asm_back.proofs.Lists.{both, parts}
use Rattle.cb_asm_back.proofs.Relabelling.{AreRead, value_read}
use Rattle.cb_asm_back.proofs.Shortness.{IsShort}

-- a field is
value_back : (pool : List Constant) (all : List Entry) (value : Option Value) → IfSome value IsValue → AreRead pool all (value_uses value)
    → option_and_then (value_at pool) (option_map (λ value. index_of all (value_entry value)) value) ≡ value
value_back pool all None is read = refl
value_back pool all (Some value) is read = value_read pool all value is read.1.0

abbrev field_with : FieldText → List ℕ → List ℕ → Option Value → FieldText
field_with field name descriptor value = record { flags = field.flags; name = name; descriptor = descriptor; value = value }

pub field_back : (class : ClassFile) (all : List Entry) (field : FieldText) → IsStatement (statements.Field field) × AreRead class.pool all (field_uses field) → field_text class (field_of all field) ≡ field
field_back class all field known =
    let pool = class.pool in
    let descriptor = unwrap_or (text_at pool (index_of all (Text field.descriptor))) [] in
    let value = option_and_then (value_at pool) (option_map (λ value. index_of all (value_entry value)) field.value) in
    ap (λ name. field_with field (unwrap_or name []) descriptor value) known.1.0.1
    ∙ ap (λ other. field_with field field.name (unwrap_or other []) value) known.1.1.0.1
    ∙ ap (λ other. field_with field field.name field.descriptor other) (value_back pool all field.value known.0.3 known.1.1.1)

-- the code of a method with its labels numbered by place
abbrev pub recode : CodeText → CodeText
recode code = code_by (labelled_in code) (relabel code) code

abbrev pub method_by : MethodText → MethodText
method_by method = record { flags = method.flags; name = method.name; descriptor = method.descriptor; code = option_map recode method.code }

-- what is known of the code of one
pub record IsKnown (class : ClassFile) (all : List Entry) (method : MethodText) : Type 0 where
  pub lines : AllByRecursion IsStatement (method_statements method)
  pub whole : IfSome method.code AreWhole
  pub code : IfSome method.code IsCode
  pub read : AreRead class.pool all (method_uses method)
  pub short : IfSome (option_map (body_of all) method.code) IsShort

is_listed : (class : ClassFile) (all : List Entry) (code : Option CodeText) → AllByRecursion IsStatement (code_statements code) → IfSome code AreWhole → IfSome code IsCode → AreRead class.pool all (code_uses code) → IfSome (option_map (body_of all) code) IsShort
    → IfSome code (IsListed class all)
is_listed class all None lines whole is read short = tt
is_listed class all (Some code) lines whole is read short = record { whole = whole; is = is; lines = lines; read = read; short = short }

pub listed : (class : ClassFile) (all : List Entry) (method : MethodText) → IsKnown class all method → IfSome method.code (IsListed class all)
listed class all method known =
    is_listed class all method.code (parts IsStatement (code_statements method.code) (statements.End ∷ []) known.lines.1).0 known.whole known.code known.read.1.1 known.short

-- a method is listed so
code_back : (class : ClassFile) (all : List Entry) (method : Method) (code : Option CodeText) → IfSome code (IsListed class all) → option_map (code_of class method) (option_map (body_of all) code) ≡ option_map recode code
code_back class all method None listed = refl
code_back class all method (Some code) listed = ap (λ found. Some found) (code_listed class all method code listed)

abbrev method_with : MethodText → List ℕ → List ℕ → Option CodeText → MethodText
method_with method name descriptor code = record { flags = method.flags; name = name; descriptor = descriptor; code = code }

pub method_back : (class : ClassFile) (all : List Entry) (method : MethodText) → IsKnown class all method → method_text class (method_of all method) ≡ method_by method
method_back class all method known =
    let pool = class.pool in
    let descriptor = unwrap_or (text_at pool (index_of all (Text method.descriptor))) [] in
    let code = option_map (code_of class (method_of all method)) (option_map (body_of all) method.code) in
    ap (λ name. method_with method (unwrap_or name []) descriptor code) known.read.0.1
    ∙ ap (λ other. method_with method method.name (unwrap_or other []) code) known.read.1.0.1
    ∙ ap (λ other. method_with method method.name method.descriptor other) (code_back class all (method_of all method) method.code (listed class all method known))

-- it uses what the method used, and has its record
code_uses_back : (code : Option CodeText) → code_uses (option_map recode code) ≡ code_uses code
code_uses_back None = refl
code_uses_back (Some code) = uses_by (labelled_in code) (relabel code) code

pub method_uses_by : (method : MethodText) → method_uses (method_by method) ≡ method_uses method
method_uses_by method = ap (λ uses. Text method.name ∷ Text method.descriptor ∷ uses) (code_uses_back method.code)

body_back : (class : ClassFile) (all : List Entry) (code : Option CodeText) → IfSome code (IsListed class all) → option_map (body_of all) (option_map recode code) ≡ option_map (body_of all) code
body_back class all None listed = refl
body_back class all (Some code) listed = ap (λ found. Some found) (body_by (labelled_in code) (relabel code) code all (relabels class all code listed).stand)

pub method_again : (class : ClassFile) (all : List Entry) (method : MethodText) → IsKnown class all method → method_of all (method_by method) ≡ method_of all method
method_again class all method known =
    ap (λ body. record { flags = record { 0 = method.flags }; name = index_of all (Text method.name); descriptor = index_of all (Text method.descriptor); body = body }) (body_back class all method.code (listed class all method known))

-- its lines are of the format, and its labels stand
code_lines_back : (class : ClassFile) (all : List Entry) (code : Option CodeText) → IfSome code (IsListed class all) → AllByRecursion IsStatement (code_statements code) → AllByRecursion IsStatement (code_statements (option_map recode code))
code_lines_back class all None listed lines = tt
code_lines_back class all (Some code) listed lines = statements_by (labelled_in code) (relabel code) code (relabels class all code listed) lines

pub lines_back : (class : ClassFile) (all : List Entry) (method : MethodText) → IsKnown class all method → AllByRecursion IsStatement (method_statements (method_by method))
lines_back class all method known =
    let lines = parts IsStatement (code_statements method.code) (statements.End ∷ []) known.lines.1 in
    (known.lines.0, both IsStatement (code_statements (option_map recode method.code)) (statements.End ∷ []) (code_lines_back class all method.code (listed class all method known) lines.0) lines.1)

pub whole_back : (code : Option CodeText) → IfSome code AreWhole → IfSome (option_map recode code) AreWhole
whole_back None whole = tt
whole_back (Some code) whole = whole_by (relabel code) code.frames whole

pub code_is_back : (class : ClassFile) (all : List Entry) (code : Option CodeText) → IfSome code (IsListed class all) → IfSome (option_map recode code) IsCode
code_is_back class all None listed = tt
code_is_back class all (Some code) listed = is_code_by (labelled_in code) (relabel code) code (relabels class all code listed) listed.whole listed.is
