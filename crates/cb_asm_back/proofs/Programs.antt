-- The listing of a program's record is the text of a program that has this record.
use Rattle.std.proofs.Common.{◌≡◌, ◌∙◌, ap, sym, subst, ℕ, List, [], ◌∷◌, ◌++◌, map, Option, IfSome}
use Rattle.std.specs.List.{AllByRecursion, flat_map}
use Rattle.std.specs.Option.{unwrap_or}
use Rattle.cb_classfile.specs.declared.class.ClassFile.{ClassFile}
use Rattle.cb_classfile.specs.Class.{IsWellFormed}
use Rattle.cb_classfile.specs.Pool.{class_at}
use Rattle.cb_asm_line.specs.declared.program.FieldText.{FieldText}
use Rattle.cb_asm_line.specs.declared.program.MethodText.{MethodText}
use Rattle.cb_asm_line.specs.declared.program.Program.{Program}
use Rattle.cb_asm_line.specs.declared.statement.Statement.TheVariants as statements
use Rattle.cb_asm_line.specs.Spelling.{program_text}
use Rattle.cb_asm_line.specs.Statements.{AreWhole, HasLines, IsStatement, method_statements}
use Rattle.cb_asm_record.specs.Constants.{entries_of, index_of}
use Rattle.cb_asm_record.specs.Entries.{Entry}
use Rattle.cb_asm_record.specs.Grammar.{Assembles, IsCode, IsProgram}
use Rattle.cb_asm_record.specs.Record.{class_in, class_of, field_of, method_of}
use Rattle.cb_asm_record.specs.Uses.{class_use, field_uses, method_uses, program_uses}
use Rattle.cb_asm_list.specs.Expansion.{class_named}
use Rattle.cb_asm_list.specs.Listing.{field_text, listing, method_text, program_of}
use Rattle.cb_asm_back.proofs.Listed.{class_read}
use Rattle.cb_asm_back.proofs.Lists.{always, both, each_flat, each_map, flat_agree, flat_of_map, joined, map_agree, map_back, map_twice, of_flat, of_map, parts, weaker}
use Rattle.cb_asm_back.proofs.Members.{IsKnown, code_is_back, field_back, lines_back, listed, method_again, method_back, method_by, method_uses_by, whole_back}
use Rattle.cb_asm_back.proofs.Reading.{used_read}
use Rattle.cb_asm_back.proofs.Relabelling.{AreRead, IsRead}
use Rattle.cb_asm_back.proofs.Shortness.{IsShort, bodies_short}

-- the program with its labels numbered by place
abbrev pub program_by : Program → Program
program_by program =
    record { major = program.major; flags = program.flags; name = program.name; superclass = program.superclass; interfaces = program.interfaces; fields = program.fields; methods = map method_by program.methods }

-- the constants of its record
abbrev constants : Program → List Entry
constants program = entries_of (program_uses program)

-- what it uses, by its parts
record Reads (program : Program) : Type 0 where
  pub name : IsRead (class_of program).pool (constants program) (Entry.Class program.name)
  pub superclass : AreRead (class_of program).pool (constants program) (class_use program.superclass)
  pub interfaces : AllByRecursion (λ name. IsRead (class_of program).pool (constants program) (Entry.Class name)) program.interfaces
  pub fields : AllByRecursion (λ field. AreRead (class_of program).pool (constants program) (field_uses field)) program.fields
  pub methods : AllByRecursion (λ method. AreRead (class_of program).pool (constants program) (method_uses method)) program.methods

reads : (program : Program) → Reads program
reads program =
    let P = IsRead (class_of program).pool (constants program) in
    let superclass = class_use program.superclass in
    let interfaces = map Entry.Class program.interfaces in
    let fields = flat_map field_uses program.fields in
    let methods = flat_map method_uses program.methods in
    let all = used_read (program_uses program) in
    let one = parts P (superclass ++ interfaces ++ fields) methods all.1 in
    let two = parts P (superclass ++ interfaces) fields one.0 in
    let three = parts P superclass interfaces two.0 in
    record {
      name = all.0;
      superclass = three.0;
      interfaces = of_map P Entry.Class program.interfaces three.1;
      fields = of_flat P field_uses program.fields two.1;
      methods = of_flat P method_uses program.methods one.1;
    }

-- its lines, by its parts
record Lines (program : Program) : Type 0 where
  pub before : AllByRecursion IsStatement (map statements.Implements program.interfaces ++ map statements.Field program.fields)
  pub fields : AllByRecursion (λ field. IsStatement (statements.Field field)) program.fields
  pub methods : AllByRecursion (λ method. AllByRecursion IsStatement (method_statements method)) program.methods

lines_of : (program : Program) → HasLines program → Lines program
lines_of program has =
    let interfaces = map statements.Implements program.interfaces in
    let fields = map statements.Field program.fields in
    let one = parts IsStatement (interfaces ++ fields) (flat_map method_statements program.methods) has.each.1 in
    record {
      before = one.0;
      fields = of_map IsStatement statements.Field program.fields (parts IsStatement interfaces fields one.0).1;
      methods = of_flat IsStatement method_statements program.methods one.1;
    }

-- what is known of each method
known : (program : Program) → IsProgram program → AllByRecursion (IsKnown (class_of program) (constants program)) program.methods
known program is =
    let Spelled : MethodText → Type 0 = λ method. AllByRecursion IsStatement (method_statements method) in
    let Whole : MethodText → Type 0 = λ method. IfSome method.code AreWhole in
    let Code : MethodText → Type 0 = λ method. IfSome method.code IsCode in
    let Read : MethodText → Type 0 = λ method. AreRead (class_of program).pool (constants program) (method_uses method) in
    let Short : MethodText → Type 0 = λ method. IfSome (method_of (constants program) method).body IsShort in
    let methods = program.methods in
    weaker (λ method. Spelled method × ((Whole method × Code method) × (Read method × Short method))) (IsKnown (class_of program) (constants program))
    (λ method all. record { lines = all.0; whole = all.1.0.0; code = all.1.0.1; read = all.1.1.0; short = all.1.1.1 }) methods
    (joined Spelled (λ method. (Whole method × Code method) × (Read method × Short method)) methods (lines_of program is.lines).methods
    (joined (λ method. Whole method × Code method) (λ method. Read method × Short method) methods
    (joined Whole Code methods is.lines.whole is.code)
    (joined Read Short methods (reads program).methods (of_map (λ method. IfSome method.body IsShort) (method_of (constants program)) methods (bodies_short (class_of program) is.formed)))))

-- what is read off its record is this program
abbrev program_with : Program → List ℕ → Option (List ℕ) → List (List ℕ) → List FieldText → List MethodText → Program
program_with program name superclass interfaces fields methods =
    record { major = program.major; flags = program.flags; name = name; superclass = superclass; interfaces = interfaces; fields = fields; methods = methods }

pub program_listed : (program : Program) → IsProgram program → program_of (class_of program) ≡ program_by program
program_listed program is =
    let class = class_of program in
    let all = constants program in
    let read = reads program in
    let superclass = class_at class.pool class.super_class in
    let interfaces = map (class_named class) class.interfaces in
    let fields = map (field_text class) class.fields in
    let methods = map (method_text class) class.methods in
    ap (λ name. program_with program (unwrap_or name []) superclass interfaces fields methods) read.name.1
    ∙ ap (λ name. program_with program program.name name interfaces fields methods) (class_read class.pool all program.superclass read.superclass)
    ∙ ap (λ some. program_with program program.name program.superclass some fields methods)
    (map_back (class_named class) (λ name. index_of all (Entry.Class name)) (λ name. IsRead class.pool all (Entry.Class name)) (λ name one. ap (λ found. unwrap_or found []) one.1) program.interfaces read.interfaces)
    ∙ ap (λ some. program_with program program.name program.superclass program.interfaces some methods)
    (map_back (field_text class) (field_of all) (λ field. IsStatement (statements.Field field) × AreRead class.pool all (field_uses field)) (field_back class all) program.fields
    (joined (λ field. IsStatement (statements.Field field)) (λ field. AreRead class.pool all (field_uses field)) program.fields (lines_of program is.lines).fields read.fields))
    ∙ ap (λ some. program_with program program.name program.superclass program.interfaces program.fields some)
    (map_twice (method_text class) (method_of all) program.methods
    ∙ map_agree (λ method. method_text class (method_of all method)) method_by (IsKnown class all) (method_back class all) program.methods (known program is))

-- which uses what the program used, and has its record
uses_again : (program : Program) → program_uses (program_by program) ≡ program_uses program
uses_again program =
    ap (λ methods. Entry.Class program.name ∷ class_use program.superclass ++ map Entry.Class program.interfaces ++ flat_map field_uses program.fields ++ methods)
    (flat_of_map method_uses method_by program.methods
    ∙ flat_agree (λ method. method_uses (method_by method)) method_uses (λ method. Unit {0}) (λ method is. method_uses_by method) program.methods (always (λ method. Unit {0}) (λ method. tt) program.methods))

pub class_again : (program : Program) → IsProgram program → class_of (program_by program) ≡ class_of program
class_again program is =
    let class = class_of program in
    ap (λ uses. class_in (entries_of uses) (program_by program)) (uses_again program)
    ∙ ap (λ methods. record { minor = 0; major = class.major; pool = class.pool; flags = class.flags; this_class = class.this_class; super_class = class.super_class; interfaces = class.interfaces; fields = class.fields; methods = methods })
    (map_twice (method_of (constants program)) method_by program.methods
    ∙ map_agree (λ method. method_of (constants program) (method_by method)) (method_of (constants program)) (IsKnown class (constants program)) (method_again class (constants program)) program.methods (known program is))

-- it is a program
pub is_program : (program : Program) → IsProgram program → IsProgram (program_by program)
is_program program is =
    let class = class_of program in
    let all = constants program in
    let methods = program.methods in
    let before = map statements.Implements program.interfaces ++ map statements.Field program.fields in
    record {
      lines = record {
        each = (
          is.lines.each.0,
          both IsStatement before (flat_map method_statements (map method_by methods)) (lines_of program is.lines).before
              (each_flat IsStatement method_statements (map method_by methods)
              (each_map (λ method. AllByRecursion IsStatement (method_statements method)) method_by methods
              (weaker (IsKnown class all) (λ method. AllByRecursion IsStatement (method_statements (method_by method))) (lines_back class all) methods (known program is)))),
        );
        whole = each_map (λ method. IfSome method.code AreWhole) method_by methods (weaker (λ method. IfSome method.code AreWhole) (λ method. IfSome (method_by method).code AreWhole) (λ method. whole_back method.code) methods is.lines.whole);
      };
      code = each_map (λ method. IfSome method.code IsCode) method_by methods (weaker (IsKnown class all) (λ method. IfSome (method_by method).code IsCode) (λ method one. code_is_back class all method.code (listed class all method one)) methods (known program is));
      formed = subst IsWellFormed (sym (class_again program is)) is.formed;
    }

pub back : (text : List ℕ) (class : ClassFile) → Assembles text class → Assembles (listing class) class
back text class assembles =
    let program = assembles.program in
    record {
      program = program_by program;
      is = is_program program assembles.is;
      spelled = ap listing assembles.recorded ∙ ap program_text (program_listed program assembles.is);
      recorded = assembles.recorded ∙ sym (class_again program assembles.is);
    }
