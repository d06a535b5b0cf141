-- The class of a program is well formed without the constants that only others use, which stand at the end of the pool.
use Rattle.std.proofs.Common.{◌≡◌, ◌≢◌, inl, inr, ◌∙◌, ap, sym, subst, ℕ, List, ◌++◌, map, Option, IfSome, Some, None, option_map}
use Rattle.std.specs.List.{AllByRecursion, AllPairs, flat_map}
use Rattle.cb_text.specs.declared.constant.Constant.{Constant}
use Rattle.cb_text.specs.Naming.{text_at}
use Rattle.cb_names.specs.Names.{IsClassName}
use Rattle.cb_classfile.specs.declared.class.ClassFile.{ClassFile}
use Rattle.cb_classfile.specs.declared.field.Field.{Field}
use Rattle.cb_classfile.specs.declared.method.Method.{Method}
use Rattle.cb_classfile.specs.Class.{Differ, IsClass, IsWellFormed, signature}
use Rattle.cb_classfile.specs.Needed.{CallsClasses}
use Rattle.cb_classfile.proofs.Laws.{HasParts, IsField, IsInterface, IsMethodOf, all_each, class_has}
use Rattle.cb_asm_line.specs.declared.program.CodeText.{CodeText}
use Rattle.cb_asm_line.specs.declared.program.Program.{Program}
use Rattle.cb_asm_record.specs.Constants.{entries_of, index_of}
use Rattle.cb_asm_record.specs.Entries.{Entry, Text, Class}
use Rattle.cb_asm_record.specs.Labels.{place_at}
use Rattle.cb_asm_record.specs.Record.{body_of, class_in, class_index, class_of, field_of, method_of}
use Rattle.cb_asm_record.specs.Uses.{class_use, code_uses, field_uses, method_uses, program_uses}
use Rattle.cb_asm_record.proofs.Laws.{index_stays}
use Rattle.cb_asm_prefix.proofs.Going.{all_calls_go, class_same, field_goes, method_goes}
use Rattle.cb_asm_prefix.proofs.Lists.{all_back, all_front, all_mapped, all_of_flat, all_of_map, all_two, map_each}
use Rattle.cb_asm_prefix.proofs.Named.{are_named, is_pool}
use Rattle.cb_asm_prefix.proofs.Pools.{Has, had}
use Rattle.cb_asm_prefix.proofs.Standing.{Pool, SameText, at, class_goes, same_class, same_text}
use Rattle.cb_asm_prefix.proofs.Staying.{Had, class_index_stays, code_had, field_stays, method_stays}

-- what a program uses is had, part by part
record ProgramHad (used : List Entry) (program : Program) : Type 0 where
  own : Has used (Class program.name)
  super : Had used (class_use program.superclass)
  interfaces : AllByRecursion (λ name. Has used (Class name)) program.interfaces
  fields : AllByRecursion (λ field. Had used (field_uses field)) program.fields
  methods : AllByRecursion (λ method. Had used (method_uses method)) program.methods

program_had : (program : Program) → ProgramHad (program_uses program) program
program_had program =
    let used = program_uses program in
    let super = class_use program.superclass in
    let interfaces = map Class program.interfaces in
    let fields = flat_map field_uses program.fields in
    let methods = flat_map method_uses program.methods in
    let all = had used in
    let three = all_front (Has used) (super ++ interfaces ++ fields) methods all.1 in
    let two = all_front (Has used) (super ++ interfaces) fields three in
    record {
      own = all.0;
      super = all_front (Has used) super interfaces two;
      interfaces = all_of_map (Has used) Class program.interfaces (all_back (Has used) super interfaces two);
      fields = all_of_flat (Has used) field_uses program.fields (all_back (Has used) (super ++ interfaces) fields three);
      methods = all_of_flat (Has used) method_uses program.methods (all_back (Has used) (super ++ interfaces ++ fields) methods all.1);
    }

-- the record of a program by its parts
abbrev of : Program → List Constant → ℕ → ℕ → List ℕ → List Field → List Method → ClassFile
of program pool this super interfaces fields methods =
    record { minor = 0; major = program.major; pool = pool; flags = record { 0 = program.flags }; this_class = this; super_class = super; interfaces = interfaces; fields = fields; methods = methods }

abbrev class_indices : List Entry → List (List ℕ) → List ℕ
class_indices entries names = map (λ name. index_of entries (Class name)) names

-- it is the same with the pool of what is used, but for its pool
abbrev over : List Constant → List Entry → Program → ClassFile
over pool entries program =
    of program pool (index_of entries (Class program.name)) (class_index entries program.superclass) (class_indices entries program.interfaces) (map (field_of entries) program.fields) (map (method_of entries) program.methods)

class_stays : (used more : List Entry) (program : Program) → ProgramHad used program → class_in (entries_of (used ++ more)) program ≡ over (Pool (used ++ more)) (entries_of used) program
class_stays used more program had =
    let large = entries_of (used ++ more) in
    let small = entries_of used in
    let pool = Pool (used ++ more) in
    let interfaces =
    map_each (λ name. index_of large (Class name)) (λ name. index_of small (Class name)) program.interfaces (
    all_each (λ name. Has used (Class name)) (λ name. index_of large (Class name) ≡ index_of small (Class name)) (λ name there. index_stays used more (Class name) there) program.interfaces had.interfaces
    ) in
    let fields = map_each (field_of large) (field_of small) program.fields (all_each (λ field. Had used (field_uses field)) (λ field. field_of large field ≡ field_of small field) (field_stays used more) program.fields had.fields) in
    let methods = map_each (method_of large) (method_of small) program.methods (all_each (λ method. Had used (method_uses method)) (λ method. method_of large method ≡ method_of small method) (method_stays used more) program.methods had.methods) in
    ap (λ this. of program pool this (class_index large program.superclass) (class_indices large program.interfaces) (map (field_of large) program.fields) (map (method_of large) program.methods)) (index_stays used more (Class program.name) had.own)
    ∙ ap (λ super. of program pool (index_of small (Class program.name)) super (class_indices large program.interfaces) (map (field_of large) program.fields) (map (method_of large) program.methods)) (class_index_stays used more program.superclass had.super)
    ∙ ap (λ interfaces. of program pool (index_of small (Class program.name)) (class_index small program.superclass) interfaces (map (field_of large) program.fields) (map (method_of large) program.methods)) interfaces
    ∙ ap (λ fields. of program pool (index_of small (Class program.name)) (class_index small program.superclass) (class_indices small program.interfaces) fields (map (method_of large) program.methods)) fields
    ∙ ap (λ methods. of program pool (index_of small (Class program.name)) (class_index small program.superclass) (class_indices small program.interfaces) (map (field_of small) program.fields) methods) methods

-- members differ over the one pool as over the other
abbrev SameTexts : List Constant → List Constant → ℕ × ℕ → Type 0
SameTexts large small member = SameText large small member.0 × SameText large small member.1

differ_go : (large small : List Constant) (members : List (ℕ × ℕ)) → AllByRecursion (SameTexts large small) members → Differ large members → Differ small members
differ_go large small members same differ =
    subst (AllPairs (λ one other. one ≢ other)) (
    map_each (λ member. signature large member.0 member.1) (λ member. signature small member.0 member.1) members (
    all_each (SameTexts large small) (λ member. signature large member.0 member.1 ≡ signature small member.0 member.1)
    (λ member texts. ap (λ name. (name, text_at large member.1)) texts.0.is ∙ ap (λ descriptor. (text_at small member.0, descriptor)) texts.1.is)
    members same
    )
    ) differ

-- calls
calls_of : (used more : List Entry) (code : Option CodeText) → Had used (code_uses code)
    → IfSome (option_map (body_of (entries_of used)) code) (CallsClasses (Pool (used ++ more))) → IfSome (option_map (body_of (entries_of used)) code) (CallsClasses (Pool used))
calls_of used more None had calls = tt
calls_of used more (Some code) had calls = all_calls_go used more (place_at code.lines) 0 code.lines (code_had used code had).lines calls

-- the rules
rules_go : (used more : List Entry) (program : Program) → ProgramHad used program → IsClass (over (Pool (used ++ more)) (entries_of used) program) → IsClass (over (Pool used) (entries_of used) program)
rules_go used more program had rules =
    let large = Pool (used ++ more) in
    let small = Pool used in
    let entries = entries_of used in
    let this = same_class used more program.name had.own in
    let super = class_same used more program.superclass had.super in
    let classes = rules.alone.classes in
    record {
      alone = record {
        classes = record {
          named = class_goes IsClassName this classes.named;
          root = (λ none. sym this.is ∙ classes.root.0 none, λ own. classes.root.1 (this.is ∙ own));
          superclass = elim classes.superclass [ inl none ↦ inl none | inr named ↦ inr (class_goes IsClassName super named) ];
        };
        as_interface = λ flag. let is = rules.alone.as_interface flag in record { abstract_class = is.abstract_class; superclass = sym super.is ∙ is.superclass; fields = is.fields };
        calls = λ old.
            all_mapped (λ method. IfSome method.body (CallsClasses small)) (method_of entries) program.methods (
            all_two (λ method. Had used (method_uses method)) (λ method. IfSome (method_of entries method).body (CallsClasses large)) (λ method. IfSome (method_of entries method).body (CallsClasses small))
            (λ method uses calls. calls_of used more method.code uses.1.1 calls)
            program.methods had.methods (all_of_map (λ method. IfSome method.body (CallsClasses large)) (method_of entries) program.methods (rules.alone.calls old))
            );
      };
      fields_differ =
          differ_go large small (map (λ field. (field.name, field.descriptor)) (map (field_of entries) program.fields)) (
          all_mapped (SameTexts large small) (λ field. (field.name, field.descriptor)) (map (field_of entries) program.fields) (
          all_mapped (λ field. SameTexts large small (field.name, field.descriptor)) (field_of entries) program.fields (
          all_each (λ field. Had used (field_uses field)) (λ field. SameTexts large small (at used (Text field.name), at used (Text field.descriptor))) (λ field uses. (same_text used more field.name uses.0, same_text used more field.descriptor uses.1.0)) program.fields had.fields
          )
          )
          ) rules.fields_differ;
      methods_differ =
          differ_go large small (map (λ method. (method.name, method.descriptor)) (map (method_of entries) program.methods)) (
          all_mapped (SameTexts large small) (λ method. (method.name, method.descriptor)) (map (method_of entries) program.methods) (
          all_mapped (λ method. SameTexts large small (method.name, method.descriptor)) (method_of entries) program.methods (
          all_each (λ method. Had used (method_uses method)) (λ method. SameTexts large small (at used (Text method.name), at used (Text method.descriptor))) (λ method uses. (same_text used more method.name uses.0, same_text used more method.descriptor uses.1.0)) program.methods had.methods
          )
          )
          ) rules.methods_differ;
    }

-- the parts
interface_goes : (used more : List Entry) (name : List ℕ) → Has used (Class name) → IsInterface (Pool (used ++ more)) (at used (Class name)) → IsInterface (Pool used) (at used (Class name))
interface_goes used more name there is = record { fits = is.fits; named = class_goes IsClassName (same_class used more name there) is.named }

parts_go : (used more : List Entry) (program : Program) → ProgramHad used program → HasParts (over (Pool (used ++ more)) (entries_of used) program) → HasParts (over (Pool used) (entries_of used) program)
parts_go used more program had has =
    let large = Pool (used ++ more) in
    let small = Pool used in
    let entries = entries_of used in
    let pool = is_pool used more has.pool in
    record {
      minor = has.minor;
      major = has.major;
      pool = pool;
      names = are_named used more has.names;
      rules = rules_go used more program had has.rules;
      flags = has.flags;
      this_class = has.this_class;
      super_class = has.super_class;
      interfaces_few = has.interfaces_few;
      interfaces =
          all_mapped (IsInterface small) (λ name. index_of entries (Class name)) program.interfaces (
          all_two (λ name. Has used (Class name)) (λ name. IsInterface large (at used (Class name))) (λ name. IsInterface small (at used (Class name))) (interface_goes used more) program.interfaces had.interfaces
          (all_of_map (IsInterface large) (λ name. index_of entries (Class name)) program.interfaces has.interfaces)
          );
      fields_few = has.fields_few;
      fields =
          all_mapped (IsField small) (field_of entries) program.fields (
          all_two (λ field. Had used (field_uses field)) (λ field. IsField large (field_of entries field)) (λ field. IsField small (field_of entries field)) (λ field uses is. field_goes used more field pool uses is) program.fields had.fields
          (all_of_map (IsField large) (field_of entries) program.fields has.fields)
          );
      methods_few = has.methods_few;
      methods =
          all_mapped (IsMethodOf small) (method_of entries) program.methods (
          all_two (λ method. Had used (method_uses method)) (λ method. IsMethodOf large (method_of entries method)) (λ method. IsMethodOf small (method_of entries method)) (λ method uses is. method_goes used more method pool uses is) program.methods had.methods
          (all_of_map (IsMethodOf large) (method_of entries) program.methods has.methods)
          );
    }

-- the class of a program is well formed where it is so with the constants of more uses
pub shrinks : (program : Program) (more : List Entry) → HasParts (class_in (entries_of (program_uses program ++ more)) program) → IsWellFormed (class_of program)
shrinks program more has =
    let used = program_uses program in
    let had = program_had program in
    class_has (class_of program) (parts_go used more program had (subst HasParts (class_stays used more program had) has))
