-- Class files (JVMS §4.1).
use Rattle.std.specs.Prelude.{◌≡◌, ◌≢◌, ◌⊎◌, ◌↔◌, ℕ, ◌^◌, ◌<◌, ◌≤◌, List, [], ◌++◌, map, Option, Some, IfSome, codes}
use Rattle.std.specs.List.{AllByRecursion, AllPairs}
use Rattle.cb_text.specs.declared.constant.Constant.{Constant}
use Rattle.cb_text.specs.Pool.{SpellsPool, pool_bytes}
use Rattle.cb_names.specs.Names.{IsClassName}
use Rattle.cb_classfile.specs.declared.class.ClassFile.{ClassFile}
use Rattle.cb_classfile.specs.declared.field.Field.{Field}
use Rattle.cb_classfile.specs.declared.method.Method.{Method}
use Rattle.cb_classfile.specs.Attributes.{Attribute, SpellsAttributes, attributes_bytes}
use Rattle.cb_classfile.specs.Needed.{CallsClasses}
use Rattle.cb_classfile.specs.Flags.{acc_static, acc_interface, acc_abstract, HasFlag}
use Rattle.cb_classfile.specs.Members.{SpellsField, SpellsMethod, field_bytes, method_bytes}
use Rattle.cb_classfile.specs.Pool.{text_at, class_at, HasClass, AreNamed}
use Rattle.cb_classfile.specs.Tables.{u2, u4, table_bytes, BeginsWith, SpellsTable, SpellsTriple, Then}

abbrev pub magic : ℕ
magic = 0xCAFEBABE

-- the eight bytes with which a class file begins: the magic number, and the minor and the major version
abbrev pub SpellsVersion : List ℕ → ℕ × ℕ → Type 0
SpellsVersion bytes version =
    (version.0 < 2 ^ 16) × (version.1 < 2 ^ 16) × (bytes ≡ u4 magic ++ u2 version.0 ++ u2 version.1)

-- the bytes begin as a class file of this major version does
abbrev pub HasVersion : List ℕ → ℕ → Type 0
HasVersion bytes major = (minor : ℕ) × (rest : List ℕ) × BeginsWith SpellsVersion bytes (minor, major) rest

-- the versions of Java SE 6, 7 and 8
abbrev pub IsAccepted : ℕ → Type 0
IsAccepted major = (50 ≤ major) × (major ≤ 52)

-- the index of a direct superinterface, which is no array
pub record SpellsInterface (pool : List Constant) (bytes : List ℕ) (index : ℕ) : Type 0 where
  pub spelled : bytes ≡ u2 index
  pub fits : index < 2 ^ 16
  pub named : HasClass pool index IsClassName

-- the name and the descriptor at two indices
abbrev pub signature : List Constant → ℕ → ℕ → Option (List ℕ) × Option (List ℕ)
signature pool name descriptor = (text_at pool name, text_at pool descriptor)

abbrev pub object : List ℕ
object = codes "java/lang/Object"

-- an interface is abstract, its superclass is Object and its fields are static (JVMS §4.1, §4.5)
pub record IsInterface (class : ClassFile) : Type 0 where
  pub abstract_class : HasFlag class.flags.0 acc_abstract
  pub superclass : class_at class.pool class.super_class ≡ Some object
  pub fields : AllByRecursion (λ field. HasFlag field.flags.0 acc_static) class.fields

-- its own name, and its superclass, which Object alone hasn't. Neither is an array's
pub record HasClasses (class : ClassFile) : Type 0 where
  pub named : HasClass class.pool class.this_class IsClassName
  pub root : (class.super_class ≡ 0) ↔ (class_at class.pool class.this_class ≡ Some object)
  pub superclass : (class.super_class ≡ 0) ⊎ HasClass class.pool class.super_class IsClassName

-- members of these names and descriptors differ in one or the other
abbrev pub Differ : List Constant → List (ℕ × ℕ) → Type 0
Differ pool members = AllPairs (λ one other. one ≢ other) (map (λ member. signature pool member.0 member.1) members)

-- what is asked of a class beyond its tables, apart from how its members compare
pub record KeepsRulesAlone (class : ClassFile) : Type 0 where
  pub classes : HasClasses class
  pub as_interface : HasFlag class.flags.0 acc_interface → IsInterface class
  -- up to version 51 invokespecial and invokestatic name methods of classes alone (JVMS §4.9.1)
  pub calls : class.major < 52 → AllByRecursion (λ method. IfSome method.body (CallsClasses class.pool)) class.methods

-- a field or method of one name and descriptor stands once (JVMS §4.5, §4.6)
abbrev pub FieldsDiffer : ClassFile → Type 0
FieldsDiffer class = Differ class.pool (map (λ field. (field.name, field.descriptor)) class.fields)

abbrev pub MethodsDiffer : ClassFile → Type 0
MethodsDiffer class = Differ class.pool (map (λ method. (method.name, method.descriptor)) class.methods)

-- what is asked of a class beyond its tables
pub record IsClass (class : ClassFile) : Type 0 where
  pub alone : KeepsRulesAlone class
  pub fields_differ : FieldsDiffer class
  pub methods_differ : MethodsDiffer class

-- the flags and the indices of the class and its superclass, and the tables behind them, each in turn
abbrev pub SpellsEachTable : List Constant → List ℕ → (ℕ × ℕ × ℕ) × (List ℕ × (List Field × (List Method × List Attribute))) → Type 0
SpellsEachTable pool =
    Then SpellsTriple (Then (SpellsTable (SpellsInterface pool)) (Then (SpellsTable (SpellsField pool)) (Then (SpellsTable (SpellsMethod pool)) (SpellsAttributes pool))))

-- what stands behind the pool. The attributes of a class are skipped
pub record SpellsTables (bytes : List ℕ) (class : ClassFile) : Type 0 where
  pub attributes : List Attribute
  pub spelled : SpellsEachTable class.pool bytes ((class.flags.0, class.this_class, class.super_class), (class.interfaces, (class.fields, (class.methods, attributes))))

-- what stands behind the version: the pool and the tables
pub record SpellsContents (bytes : List ℕ) (class : ClassFile) : Type 0 where
  pub spelled : Then SpellsPool SpellsTables bytes (class.pool, class)
  pub pool_named : AreNamed class.pool
  pub rules : IsClass class

-- a class of this version, and one of this version and pool, by what stands behind its version and its pool
abbrev pub SpellsClassOf : ℕ → ℕ → List ℕ → ClassFile → Type 0
SpellsClassOf minor major bytes class = (class.minor ≡ minor) × (class.major ≡ major) × SpellsContents bytes class

abbrev pub SpellsClassOn : ℕ → ℕ → List Constant → List ℕ → ClassFile → Type 0
SpellsClassOn minor major pool bytes class =
    (class.minor ≡ minor) × (class.major ≡ major) × (class.pool ≡ pool) × SpellsTables bytes class

-- a ClassFile
abbrev pub SpellsClass : List ℕ → ClassFile → Type 0
SpellsClass bytes class = Then SpellsVersion SpellsContents bytes ((class.minor, class.major), class)

-- some bytes spell the class
abbrev pub IsWellFormed : ClassFile → Type 0
IsWellFormed class = (bytes : List ℕ) × SpellsClass bytes class

-- the bytes of a class that have nothing to skip: padding is 0, frames, code and constants are the only attributes, and
-- the name of each is at its least index
abbrev pub class_bytes : ClassFile → List ℕ
class_bytes class =
    u4 magic ++ u2 class.minor ++ u2 class.major ++ pool_bytes class.pool ++ u2 class.flags.0 ++ u2 class.this_class ++ u2 class.super_class ++ table_bytes u2 class.interfaces ++ table_bytes (field_bytes class.pool) class.fields ++ table_bytes (method_bytes class.pool) class.methods ++ attributes_bytes []
