-- Class files in bytes that have nothing to skip.
use Rattle.std.proofs.Common.{◌≡◌, ℕ, ◌≤◌, List, [], ◌++◌, length, length-append, refl, ap, subst, arith, append_assoc}
use Rattle.cb_text.specs.declared.constant.Constant.{Constant}
use Rattle.cb_text.specs.Pool.{SpellsPool, pool_bytes}
use Rattle.cb_classfile.specs.declared.class.ClassFile.{ClassFile}
use Rattle.cb_classfile.specs.Attributes.{attributes_bytes}
use Rattle.cb_classfile.specs.Class.{SpellsClass, SpellsInterface, SpellsTables, class_bytes, magic}
use Rattle.cb_classfile.specs.Members.{field_bytes, method_bytes}
use Rattle.cb_classfile.specs.Tables.{u2, u4, table_bytes}
use Rattle.cb_classfile.proofs.Canonical.{IsCanonical, canonical_alone, canonical_triple, canonical_table}
use Rattle.cb_classfile.proofs.CanonicalMembers.{canonical_field, canonical_method}
use Rattle.cb_classfile.proofs.OneAttribute.{none_short, none_stands}

-- an interface
pub canonical_interface : (pool : List Constant) → IsCanonical (SpellsInterface pool) u2
canonical_interface pool = canonical_alone (λ bytes index spelled. spelled.spelled)

-- parts, one behind the other
grouped : (head minor major pool flags this super interfaces fields methods attributes : List ℕ)
    → head ++ minor ++ major ++ pool ++ flags ++ this ++ super ++ interfaces ++ fields ++ methods ++ attributes ≡ head ++ minor ++ major ++ (pool ++ (flags ++ this ++ super ++ (interfaces ++ (fields ++ (methods ++ attributes)))))
grouped head minor major pool flags this super interfaces fields methods attributes = simp append_assoc

-- what stands behind the pool
abbrev tables_bytes : ClassFile → List ℕ
tables_bytes class =
    u2 class.flags.0 ++ u2 class.this_class ++ u2 class.super_class ++ (table_bytes u2 class.interfaces ++ (table_bytes (field_bytes class.pool) class.fields ++ (table_bytes (method_bytes class.pool) class.methods ++ attributes_bytes [])))

tables_again : (bytes : List ℕ) (class : ClassFile) → SpellsTables bytes class → SpellsTables (tables_bytes class) class
tables_again bytes class spelled = record {
  attributes = [];
  spelled =
      let parts = spelled.spelled in
      let pool = class.pool in
      record {
        first = u2 class.flags.0 ++ u2 class.this_class ++ u2 class.super_class;
        second = table_bytes u2 class.interfaces ++ (table_bytes (field_bytes pool) class.fields ++ (table_bytes (method_bytes pool) class.methods ++ attributes_bytes []));
        spelled = refl;
        here = canonical_triple.spelled parts.first _ parts.here;
        behind = record {
          first = table_bytes u2 class.interfaces;
          second = table_bytes (field_bytes pool) class.fields ++ (table_bytes (method_bytes pool) class.methods ++ attributes_bytes []);
          spelled = refl;
          here = (canonical_table (canonical_interface pool)).spelled parts.behind.first class.interfaces parts.behind.here;
          behind = record {
            first = table_bytes (field_bytes pool) class.fields;
            second = table_bytes (method_bytes pool) class.methods ++ attributes_bytes [];
            spelled = refl;
            here = (canonical_table (canonical_field pool)).spelled parts.behind.behind.first class.fields parts.behind.behind.here;
            behind = record {
              first = table_bytes (method_bytes pool) class.methods;
              second = attributes_bytes [];
              spelled = refl;
              here = (canonical_table (canonical_method pool)).spelled parts.behind.behind.behind.first class.methods parts.behind.behind.behind.here;
              behind = none_stands pool;
            };
          };
        };
      };
}

-- they are no more
tables_short : (bytes : List ℕ) (class : ClassFile) → SpellsTables bytes class → length (tables_bytes class) ≤ length bytes
tables_short bytes class spelled =
    let pool = class.pool in
    let parts = spelled.spelled in
    let members = parts.behind.behind in
    let head = u2 class.flags.0 ++ u2 class.this_class ++ u2 class.super_class in
    let last = table_bytes (method_bytes pool) class.methods ++ attributes_bytes [] in
    let behind = table_bytes (field_bytes pool) class.fields ++ last in
    omega (
      arith,
      ap length parts.spelled,
      length-append parts.first parts.second,
      ap length parts.here.3,
      ap length parts.behind.spelled,
      length-append parts.behind.first parts.behind.second,
      (canonical_table (canonical_interface pool)).short parts.behind.first class.interfaces parts.behind.here,
      ap length members.spelled,
      length-append members.first members.second,
      (canonical_table (canonical_field pool)).short members.first class.fields members.here,
      ap length members.behind.spelled,
      length-append members.behind.first members.behind.second,
      (canonical_table (canonical_method pool)).short members.behind.first class.methods members.behind.here,
      none_short members.behind.behind,
      length-append head (table_bytes u2 class.interfaces ++ behind),
      length-append (table_bytes u2 class.interfaces) behind,
      length-append (table_bytes (field_bytes pool) class.fields) last,
      length-append (table_bytes (method_bytes pool) class.methods) (attributes_bytes []),
    )

-- the bytes of a class, by the parts of the grammar
regrouped : (class : ClassFile) → class_bytes class ≡ u4 magic ++ u2 class.minor ++ u2 class.major ++ (pool_bytes class.pool ++ tables_bytes class)
regrouped class = grouped (u4 magic) (u2 class.minor) (u2 class.major) (pool_bytes class.pool) (u2 class.flags.0) (u2 class.this_class) (u2 class.super_class) (table_bytes u2 class.interfaces) (table_bytes (field_bytes class.pool) class.fields) (table_bytes (method_bytes class.pool) class.methods) (attributes_bytes [])

-- a class
pub class_respelled : (bytes : List ℕ) (class : ClassFile) → SpellsClass bytes class → SpellsClass (class_bytes class) class
class_respelled bytes class spelled = record {
  first = u4 magic ++ u2 class.minor ++ u2 class.major;
  second = pool_bytes class.pool ++ tables_bytes class;
  spelled = regrouped class;
  here = (spelled.here.0, spelled.here.1, refl);
  behind = record {
    spelled = record {
      first = pool_bytes class.pool;
      second = tables_bytes class;
      spelled = refl;
      here = subst (λ bytes. SpellsPool bytes class.pool) spelled.behind.spelled.here.spelled spelled.behind.spelled.here;
      behind = tables_again spelled.behind.spelled.second class spelled.behind.spelled.behind;
    };
    pool_named = spelled.behind.pool_named;
    rules = spelled.behind.rules;
  };
}

-- no bytes that spell it are fewer
pub class_short : (bytes : List ℕ) (class : ClassFile) → SpellsClass bytes class → length (class_bytes class) ≤ length bytes
class_short bytes class spelled =
    let contents = spelled.behind.spelled in
    omega (
      arith,
      ap length spelled.spelled,
      length-append spelled.first spelled.second,
      ap length spelled.here.2,
      ap length contents.spelled,
      length-append contents.first contents.second,
      ap length contents.here.spelled,
      tables_short contents.second class contents.behind,
      ap length (regrouped class),
      length-append (u4 magic ++ u2 class.minor ++ u2 class.major) (pool_bytes class.pool ++ tables_bytes class),
      length-append (pool_bytes class.pool) (tables_bytes class),
    )
