-- Classes, by what was read of them.
use Rattle.std.proofs.Common.{◌≡◌, ℕ, List, refl, sym}
use Rattle.cb_text.specs.declared.constant.Constant.{Constant}
use Rattle.cb_text.specs.Pool.{SpellsPool}
use Rattle.cb_classfile.specs.declared.class.ClassFile.{ClassFile}
use Rattle.cb_classfile.specs.declared.field.Field.{Field}
use Rattle.cb_classfile.specs.declared.method.Method.{Method}
use Rattle.cb_classfile.specs.Attributes.{Attribute}
use Rattle.cb_classfile.specs.Class.{IsClass, SpellsEachTable, SpellsTables, SpellsContents, SpellsClassOf, SpellsClassOn}
use Rattle.cb_classfile.specs.Pool.{AreNamed}
use Rattle.cb_classfile.specs.Reading.{IsFront, IsWhole}
use Rattle.cb_classfile.proofs.OneClass.{one_of, one_on}
use Rattle.cb_classfile.proofs.Sequence.{found_whole}

-- the tables of a class of this pool
pub tables_on : {pool : List Constant} {bytes : List ℕ} {class : ClassFile} → class.pool ≡ pool → (spelled : SpellsTables bytes class) → SpellsEachTable pool bytes ((class.flags.0, class.this_class, class.super_class), (class.interfaces, (class.fields, (class.methods, spelled.attributes))))
tables_on {pool} {bytes} {class} is spelled = rw is at spelled.spelled

-- and those of a class of the pool that the constants are
pub tables_found : {minor major : ℕ} {constants pool : List Constant} {bytes : List ℕ} {flags this_class super_class : ℕ} {interfaces : List ℕ} {fields : List Field} {methods : List Method} {attributes : List Attribute} → constants ≡ pool → SpellsEachTable constants bytes ((flags, this_class, super_class), (interfaces, (fields, (methods, attributes))))
    → IsWhole (SpellsClassOn minor major pool) bytes (record { minor = minor; major = major; pool = pool; flags = record { 0 = flags }; this_class = this_class; super_class = super_class; interfaces = interfaces; fields = fields; methods = methods })
tables_found {minor} {major} {constants} {pool} {bytes} {flags} {this_class} {super_class} {interfaces} {fields} {methods} {attributes} is spelled =
    record { found = found; only = λ other too. one_on minor major pool bytes _ other found too }
  where
    found : SpellsClassOn minor major pool bytes (record { minor = minor; major = major; pool = pool; flags = record { 0 = flags }; this_class = this_class; super_class = super_class; interfaces = interfaces; fields = fields; methods = methods })
    found = (refl, refl, refl, record { attributes = attributes; spelled = rw is at spelled })

-- the pool was read, so it is that of a class which the bytes spell
pub on_pool : {bytes rest : List ℕ} {pool : List Constant} {class : ClassFile} → IsFront SpellsPool bytes pool rest → SpellsContents bytes class → (class.pool ≡ pool) × SpellsTables rest class
on_pool {bytes} {rest} {pool} {class} here contents =
    let spelled = contents.spelled in
    let same = here.only class.pool spelled.second (spelled.first, spelled.here, spelled.spelled) in
    (sym same.0, rw same.1 spelled.behind)

-- and where the tables behind it are those of a class that keeps the rules, so are the contents
pub contents_found : {minor major : ℕ} {bytes rest : List ℕ} {pool : List Constant} {class : ClassFile} → IsFront SpellsPool bytes pool rest → (class.minor ≡ minor) × (class.major ≡ major) × (class.pool ≡ pool) × SpellsTables rest class → AreNamed class.pool × IsClass class → IsWhole (SpellsClassOf minor major) bytes class
contents_found {minor} {major} {bytes} {rest} {pool} {class} here (minor_is, major_is, pool_is, tables) (named, rules) =
    record { found = found; only = λ other too. one_of minor major bytes class other found too }
  where
    found : SpellsClassOf minor major bytes class
    found = (
      minor_is,
      major_is,
      record {
        spelled = found_whole (rw (sym pool_is) at here.found) tables;
        pool_named = named;
        rules = rules;
      },
    )
