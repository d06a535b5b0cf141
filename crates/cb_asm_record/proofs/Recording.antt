-- The record of a program, of its parts.
use Rattle.std.proofs.Common.{◌≡◌, ◌∙◌, ap, refl, sym, subst, ℕ, List, map}
use Rattle.std.specs.BTreeMap.{BTreeMap}
use Rattle.std.specs.List.{AllByRecursion, flat_map}
use Rattle.cb_classfile.specs.declared.class.ClassFile.{ClassFile}
use Rattle.cb_classfile.specs.declared.field.Field.{Field}
use Rattle.cb_classfile.specs.declared.method.Method.{Method}
use Rattle.cb_text.specs.declared.constant.Constant.{Constant}
use Rattle.cb_text.specs.Pool.{IsPool}
use Rattle.cb_asm_line.specs.declared.program.FieldText.{FieldText}
use Rattle.cb_asm_line.specs.declared.program.MethodText.{MethodText}
use Rattle.cb_asm_line.specs.declared.program.Program.{Program}
use Rattle.cb_asm_record.specs.declared.key.Key.{Key}
use Rattle.cb_asm_record.specs.declared.stop.Stop.{Stop}
use Rattle.cb_asm_record.specs.Constants.{entries_of, firsts, index_of, pool_of}
use Rattle.cb_asm_record.specs.Entries.{Class, Entry, with_parts}
use Rattle.cb_asm_record.specs.Inner.{Gives, HasRecord, Holds, MethodHasBody, Refuses}
use Rattle.cb_asm_record.specs.Record.{class_in, class_index, class_of, field_of, method_of}
use Rattle.cb_asm_record.specs.Uses.{program_uses}

class : Program → List Constant → ℕ → ℕ → List ℕ → List Field → List Method → ClassFile
class program pool this super interfaces fields methods =
    record { minor = 0; major = program.major; pool = pool; flags = record { 0 = program.flags }; this_class = this; super_class = super; interfaces = interfaces; fields = fields; methods = methods }

pub refused_pool : (program : Program) (uses : List Entry) (stop : Stop) → uses ≡ program_uses program → Refuses (IsPool (pool_of (entries_of uses))) stop → Refuses (HasRecord program) stop
refused_pool program uses stop is refused = λ stopped has. refused stopped (subst (λ some. IsPool (pool_of (entries_of some))) (sym is) has.pool)

pub refused_methods : (program : Program) (methods : List MethodText) (stop : Stop) → methods ≡ program.methods → Refuses (AllByRecursion MethodHasBody methods) stop → Refuses (HasRecord program) stop
refused_methods program methods stop is refused = λ stopped has. refused stopped (subst (AllByRecursion MethodHasBody) (sym is) has.methods)

pub recorded : (program : Program) (uses entries : List Entry) (pool : List Constant) (this super : ℕ) (names : List (List ℕ)) (texts : List FieldText) (lines : List MethodText) (interfaces : List ℕ) (fields : List Field) (methods : List Method)
    → uses ≡ program_uses program → Gives (entries_of uses) (IsPool (pool_of (entries_of uses))) entries
    → names ≡ program.interfaces → texts ≡ program.fields → lines ≡ program.methods
    → pool ≡ pool_of entries → this ≡ index_of entries (Class program.name) → super ≡ class_index entries program.superclass
    → interfaces ≡ map (λ name. index_of entries (Class name)) names → fields ≡ map (field_of entries) texts → Gives (map (method_of entries) lines) (AllByRecursion MethodHasBody lines) methods
    → Gives (class_of program) (HasRecord program)
    (record { minor = 0; major = program.major; pool = pool; flags = record { 0 = program.flags }; this_class = this; super_class = super; interfaces = interfaces; fields = fields; methods = methods })
unfolding class
recorded program uses entries pool this super names texts lines interfaces fields methods used gave names_are texts_are lines_are pool_is this_is super_is interfaces_are fields_are methods_are = record {
  is =
      ap (λ one. class program one this super interfaces fields methods) pool_is
      ∙ ap (λ one. class program (pool_of entries) one super interfaces fields methods) this_is
      ∙ ap (λ one. class program (pool_of entries) (index_of entries (Class program.name)) one interfaces fields methods) super_is
      ∙ ap (λ one. class program (pool_of entries) (index_of entries (Class program.name)) (class_index entries program.superclass) one fields methods) (interfaces_are ∙ ap (map (λ name. index_of entries (Class name))) names_are)
      ∙ ap (λ one. class program (pool_of entries) (index_of entries (Class program.name)) (class_index entries program.superclass) (map (λ name. index_of entries (Class name)) program.interfaces) one methods) (fields_are ∙ ap (map (field_of entries)) texts_are)
      ∙ ap (λ one. class program (pool_of entries) (index_of entries (Class program.name)) (class_index entries program.superclass) (map (λ name. index_of entries (Class name)) program.interfaces) (map (field_of entries) program.fields) one) (methods_are.is ∙ ap (map (method_of entries)) lines_are)
      ∙ ap (λ all. class_in all program) (gave.is ∙ ap entries_of used);
  asked = record {
    pool = subst (λ some. IsPool (pool_of (entries_of some))) used gave.asked;
    methods = subst (AllByRecursion MethodHasBody) lines_are methods_are.asked;
  };
}

-- the constants that were numbered
pub gathered : (uses some : List Entry) (pool : List Constant) (indices : BTreeMap Key ℕ) → some ≡ uses → Holds (flat_map with_parts some) pool indices
    → Gives (entries_of uses) (IsPool (pool_of (entries_of uses))) (firsts (flat_map with_parts uses))
gathered uses some pool indices same holds = record {
  is = refl;
  asked = subst (λ all. IsPool (pool_of (entries_of all))) same (subst IsPool holds.pooled holds.made);
}
