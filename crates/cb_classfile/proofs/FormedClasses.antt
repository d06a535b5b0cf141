-- Classes by their parts.
use Rattle.std.proofs.Common.{ℕ, ◌^◌, ◌<◌, List, [], ◌++◌, length, refl, subst}
use Rattle.std.specs.List.{AllByRecursion}
use Rattle.cb_text.specs.declared.constant.Constant.{Constant}
use Rattle.cb_text.specs.Pool.{IsPool, SpellsPool, pool_bytes}
use Rattle.cb_names.specs.Names.{IsClassName}
use Rattle.cb_classfile.specs.declared.class.ClassFile.{ClassFile}
use Rattle.cb_classfile.specs.Attributes.{attributes_bytes}
use Rattle.cb_classfile.specs.Class.{IsClass, IsWellFormed, SpellsInterface, magic}
use Rattle.cb_classfile.specs.Members.{SpellsField, SpellsMethod}
use Rattle.cb_classfile.specs.Pool.{AreNamed, HasClass}
use Rattle.cb_classfile.specs.Tables.{u2, u4}
use Rattle.cb_classfile.proofs.OneAttribute.{none_stands}
use Rattle.cb_classfile.proofs.FormedTables.{HasSpelling, of_table, table_has}
use Rattle.cb_classfile.proofs.FormedTables.{all_each}
use Rattle.cb_classfile.proofs.FormedMembers.{IsField, IsMethodOf, field_has, method_has, of_field, of_method}

-- the index of an interface
pub record IsInterface (pool : List Constant) (index : ℕ) : Type 0 where
  pub fits : index < 2 ^ 16
  pub named : HasClass pool index IsClassName

interface_has : {pool : List Constant} (index : ℕ) → IsInterface pool index → HasSpelling (SpellsInterface pool) index
interface_has index is = record { bytes = u2 index; spelled = record { spelled = refl; fits = is.fits; named = is.named } }

of_interface : {pool : List Constant} (index : ℕ) → HasSpelling (SpellsInterface pool) index → IsInterface pool index
of_interface index has = record { fits = has.spelled.fits; named = has.spelled.named }

-- the parts of a class
pub record HasParts (class : ClassFile) : Type 0 where
  pub minor : class.minor < 2 ^ 16
  pub major : class.major < 2 ^ 16
  pub pool : IsPool class.pool
  pub names : AreNamed class.pool
  pub rules : IsClass class
  pub flags : class.flags.0 < 2 ^ 16
  pub this_class : class.this_class < 2 ^ 16
  pub super_class : class.super_class < 2 ^ 16
  pub interfaces_few : length class.interfaces < 2 ^ 16
  pub interfaces : AllByRecursion (IsInterface class.pool) class.interfaces
  pub fields_few : length class.fields < 2 ^ 16
  pub fields : AllByRecursion (IsField class.pool) class.fields
  pub methods_few : length class.methods < 2 ^ 16
  pub methods : AllByRecursion (IsMethodOf class.pool) class.methods

pub parts_of : (class : ClassFile) → IsWellFormed class → HasParts class
parts_of class (bytes, spelled) =
    let pool = class.pool in
    let contents = spelled.behind in
    let tables = contents.spelled.behind.spelled in
    let behind = tables.behind in
    let interfaces = of_table (SpellsInterface pool) class.interfaces behind.first behind.here in
    let fields = of_table (SpellsField pool) class.fields behind.behind.first behind.behind.here in
    let methods = of_table (SpellsMethod pool) class.methods behind.behind.behind.first behind.behind.behind.here in
    record {
      minor = spelled.here.0;
      major = spelled.here.1;
      pool = subst (λ bytes. SpellsPool bytes pool) contents.spelled.here.spelled contents.spelled.here;
      names = contents.pool_named;
      rules = contents.rules;
      flags = tables.here.0;
      this_class = tables.here.1;
      super_class = tables.here.2;
      interfaces_few = interfaces.few;
      interfaces = all_each (HasSpelling (SpellsInterface pool)) (IsInterface pool) of_interface class.interfaces interfaces.each;
      fields_few = fields.few;
      fields = all_each (HasSpelling (SpellsField pool)) (IsField pool) of_field class.fields fields.each;
      methods_few = methods.few;
      methods = all_each (HasSpelling (SpellsMethod pool)) (IsMethodOf pool) of_method class.methods methods.each;
    }

pub class_has : (class : ClassFile) → HasParts class → IsWellFormed class
class_has class has =
    let pool = class.pool in
    let version = u4 magic ++ u2 class.minor ++ u2 class.major in
    let head = u2 class.flags.0 ++ u2 class.this_class ++ u2 class.super_class in
    let interfaces = table_has (SpellsInterface pool) class.interfaces (record { few = has.interfaces_few; each = all_each (IsInterface pool) (HasSpelling (SpellsInterface pool)) interface_has class.interfaces has.interfaces }) in
    let fields = table_has (SpellsField pool) class.fields (record { few = has.fields_few; each = all_each (IsField pool) (HasSpelling (SpellsField pool)) field_has class.fields has.fields }) in
    let methods = table_has (SpellsMethod pool) class.methods (record { few = has.methods_few; each = all_each (IsMethodOf pool) (HasSpelling (SpellsMethod pool)) method_has class.methods has.methods }) in
    let last = methods.bytes ++ attributes_bytes [] in
    let members = fields.bytes ++ last in (
      version ++ (pool_bytes pool ++ (head ++ (interfaces.bytes ++ members))),
      record {
        first = version;
        second = pool_bytes pool ++ (head ++ (interfaces.bytes ++ members));
        spelled = refl;
        here = (has.minor, has.major, refl);
        behind = record {
          spelled = record {
            first = pool_bytes pool;
            second = head ++ (interfaces.bytes ++ members);
            spelled = refl;
            here = has.pool;
            behind = record {
              attributes = [];
              spelled = record {
                first = head;
                second = interfaces.bytes ++ members;
                spelled = refl;
                here = (has.flags, has.this_class, has.super_class, refl);
                behind = record {
                  first = interfaces.bytes;
                  second = members;
                  spelled = refl;
                  here = interfaces.spelled;
                  behind = record {
                    first = fields.bytes;
                    second = last;
                    spelled = refl;
                    here = fields.spelled;
                    behind = record { first = methods.bytes; second = attributes_bytes []; spelled = refl; here = methods.spelled; behind = none_stands pool };
                  };
                };
              };
            };
          };
          pool_named = has.names;
          rules = has.rules;
        };
      },
    )
