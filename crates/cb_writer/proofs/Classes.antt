-- Classes have a spelling where their parts do.
use Rattle.std.proofs.Common.{◌≡◌, ℕ, ◌^◌, ◌<◌, List, [], ◌++◌, refl, sym, ◌∙◌, ap, subst}
use Rattle.cb_text.specs.Pool.{IsPool, pool_bytes}
use Rattle.cb_classfile.specs.declared.class.ClassFile.{ClassFile}
use Rattle.cb_classfile.specs.Attributes.{attributes_bytes}
use Rattle.cb_classfile.specs.Class.{IsClass, IsWellFormed, SpellsClass, SpellsInterface, SpellsTables, class_bytes, magic}
use Rattle.cb_classfile.specs.Members.{SpellsField, SpellsMethod}
use Rattle.cb_classfile.specs.Pool.{AreNamed}
use Rattle.cb_classfile.specs.Tables.{SpellsTable, u2, u4}
use Rattle.cb_classfile.proofs.Laws.{class_respelled, none_stands}
use Rattle.cb_writer.specs.Formed.{HasSpelling}

-- the tables of a class
pub record HasTables (class : ClassFile) : Type 0 where
  pub interfaces : HasSpelling (SpellsTable (SpellsInterface class.pool)) class.interfaces
  pub fields : HasSpelling (SpellsTable (SpellsField class.pool)) class.fields
  pub methods : HasSpelling (SpellsTable (SpellsMethod class.pool)) class.methods

pub tables_have : {class : ClassFile} → class.flags.0 < 2 ^ 16 → class.this_class < 2 ^ 16 → class.super_class < 2 ^ 16 → HasTables class → HasSpelling SpellsTables class
tables_have {class} flags this super tables =
    let head = u2 class.flags.0 ++ u2 class.this_class ++ u2 class.super_class in
    let last = tables.methods.bytes ++ attributes_bytes [] in
    let members = tables.fields.bytes ++ last in
    record {
      bytes = head ++ (tables.interfaces.bytes ++ members);
      spelled = record {
        attributes = [];
        spelled = record {
          first = head;
          second = tables.interfaces.bytes ++ members;
          spelled = refl;
          here = (flags, this, super, refl);
          behind = record {
            first = tables.interfaces.bytes;
            second = members;
            spelled = refl;
            here = tables.interfaces.spelled;
            behind = record {
              first = tables.fields.bytes;
              second = last;
              spelled = refl;
              here = tables.fields.spelled;
              behind = record { first = tables.methods.bytes; second = attributes_bytes []; spelled = refl; here = tables.methods.spelled; behind = none_stands class.pool };
            };
          };
        };
      };
    }

pub of_tables : {class : ClassFile} → HasSpelling SpellsTables class → HasTables class
of_tables has =
    let behind = has.spelled.spelled.behind in
    record {
      interfaces = record { bytes = behind.first; spelled = behind.here };
      fields = record { bytes = behind.behind.first; spelled = behind.behind.here };
      methods = record { bytes = behind.behind.behind.first; spelled = behind.behind.behind.here };
    }

-- a class
pub class_has : {class : ClassFile} → class.minor < 2 ^ 16 → class.major < 2 ^ 16 → IsPool class.pool → AreNamed class.pool → IsClass class → HasSpelling SpellsTables class → IsWellFormed class
class_has {class} minor major pool named rules tables =
    let version = u4 magic ++ u2 class.minor ++ u2 class.major in (
      version ++ (pool_bytes class.pool ++ tables.bytes),
      record {
        first = version;
        second = pool_bytes class.pool ++ tables.bytes;
        spelled = refl;
        here = (minor, major, refl);
        behind = record {
          spelled = record { first = pool_bytes class.pool; second = tables.bytes; spelled = refl; here = pool; behind = tables.spelled };
          pool_named = named;
          rules = rules;
        };
      },
    )

pub tables_of_class : {class : ClassFile} → IsWellFormed class → HasSpelling SpellsTables class
tables_of_class formed = record { bytes = formed.1.behind.spelled.second; spelled = formed.1.behind.spelled.behind }

-- what was written behind nothing spells the class
pub class_written : {before bytes : List ℕ} (class : ClassFile) → IsWellFormed class → before ≡ [] → bytes ≡ before ++ class_bytes class → SpellsClass bytes class
class_written {before} {bytes} class formed none are =
    subst (λ bytes. SpellsClass bytes class) (sym (are ∙ ap (λ before. before ++ class_bytes class) none)) (class_respelled formed.0 class formed.1)
