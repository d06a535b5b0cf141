-- Fields and methods (JVMS §4.5, §4.6, §4.7.2).
use Rattle.std.specs.Prelude.{◌≡◌, ◌⊎◌, ◌↔◌, ℕ, ◌+◌, ◌^◌, ◌<◌, ◌≤◌, List, ◌++◌, Some, IsSome, IsSomeAnd, codes, option_map}
use Rattle.cb_text.specs.declared.constant.Constant.{Constant}
use Rattle.cb_text.specs.declared.constant.Constant.TheVariants as constants
use Rattle.cb_text.specs.Pool.{constant_at}
use Rattle.cb_names.specs.Descriptors.{IsMethodDescriptor}
use Rattle.cb_classfile.specs.declared.field.Field.{Field}
use Rattle.cb_classfile.specs.declared.member.Member.{Member}
use Rattle.cb_classfile.specs.declared.method.Method.{Method}
use Rattle.cb_classfile.specs.Attributes.{Attribute, SpellsAttributes, SpellsOnce, TellsOfName, attributes_bytes, contents_named, one_attribute}
use Rattle.cb_classfile.specs.Code.{SpellsBody, body_bytes}
use Rattle.cb_classfile.specs.Flags.{acc_static, acc_native, acc_abstract, HasFlag}
use Rattle.cb_classfile.specs.Pool.{text_at, HasText, NamesField, NamesMethod}
use Rattle.cb_classfile.specs.Tables.{u2, SpellsTriple, Then}

-- the types whose values are ints
abbrev pub IsNarrow : List ℕ → Type 0
IsNarrow descriptor = (descriptor ≡ codes "I") ⊎ (descriptor ≡ codes "S") ⊎ (descriptor ≡ codes "C") ⊎ (descriptor ≡ codes "B") ⊎ (descriptor ≡ codes "Z")

-- the constant may be the value of a field of this descriptor (JVMS table 4.7.2-A)
abbrev pub IsValueOf : List ℕ → Constant → Type 0
IsValueOf descriptor (constants.Long number) = descriptor ≡ codes "J"
IsValueOf descriptor (constants.Float bits) = descriptor ≡ codes "F"
IsValueOf descriptor (constants.Double bits) = descriptor ≡ codes "D"
IsValueOf descriptor (constants.Integer number) = IsNarrow descriptor
IsValueOf descriptor (constants.String text) = descriptor ≡ codes "Ljava/lang/String;"
IsValueOf descriptor other = ⊥

-- the contents of an attribute ConstantValue
pub record SpellsValue (pool : List Constant) (descriptor : ℕ) (contents : List ℕ) (index : ℕ) : Type 0 where
  pub spelled : contents ≡ u2 index
  pub fits : index < 2 ^ 16
  pub value : IsSomeAnd (constant_at pool index) (λ constant. HasText pool descriptor (λ text. IsValueOf text constant))

-- a field_info and a method_info are alike: flags, the indices of a name and a descriptor, and attributes (JVMS §4.5,
-- §4.6)
abbrev pub SpellsMember : List Constant → List ℕ → (ℕ × ℕ × ℕ) × List Attribute → Type 0
SpellsMember pool = Then SpellsTriple (SpellsAttributes pool)

-- what is told of one: its numbers, and of its attributes those of a name
pub record TellsMember (pool : List Constant) (attribute : List ℕ) (told : Member) (member : (ℕ × ℕ × ℕ) × List Attribute) : Type 0 where
  pub head : member.0 ≡ (told.flags, told.name, told.descriptor)
  pub occurrence : TellsOfName pool attribute told.occurrence member.1

-- a field_info
pub record SpellsField (pool : List Constant) (bytes : List ℕ) (field : Field) : Type 0 where
  pub attribute_list : List Attribute
  pub member : SpellsMember pool bytes ((field.flags.0, field.name, field.descriptor), attribute_list)
  pub named : NamesField pool field.name field.descriptor
  pub constant : SpellsOnce (SpellsValue pool field.descriptor) (contents_named pool (codes "ConstantValue") attribute_list) field.constant

-- the words of the parameters and of `this`, which a static method hasn't, are at most 255 (JVMS §4.3.3)
abbrev pub HasFewWords : ℕ → List ℕ → Type 0
HasFewWords flags text = (words : ℕ) × IsMethodDescriptor text words × (HasFlag flags acc_static ⊎ (words + 1 ≤ 255))

-- it has code exactly where it is neither abstract nor native (JVMS §4.7.3)
abbrev pub HasCodeWhereAsked : Method → Type 0
HasCodeWhereAsked method = IsSome method.body ↔ ((¬ HasFlag method.flags.0 acc_abstract) × (¬ HasFlag method.flags.0 acc_native))

-- a static method and a constructor aren't abstract (JVMS §4.6)
abbrev pub MayBeAbstract : List Constant → Method → Type 0
MayBeAbstract pool method = (¬ HasFlag method.flags.0 acc_static) × (¬ (text_at pool method.name ≡ Some (codes "<init>")))

-- a class initialiser is static, takes and gives nothing and has code. This is a rule of this machine: JVMS §2.9 takes
-- other methods of the name for no initialisers
abbrev pub IsInitialiser : List Constant → Method → Type 0
IsInitialiser pool method = HasFlag method.flags.0 acc_static × (text_at pool method.descriptor ≡ Some (codes "()V")) × IsSome method.body

-- what is asked of a method beyond its names and its code
pub record IsMethod (pool : List Constant) (method : Method) : Type 0 where
  pub words : HasText pool method.descriptor (HasFewWords method.flags.0)
  pub code : HasCodeWhereAsked method
  pub abstract_method : HasFlag method.flags.0 acc_abstract → MayBeAbstract pool method
  pub initialiser : text_at pool method.name ≡ Some (codes "<clinit>") → IsInitialiser pool method

-- a method_info
pub record SpellsMethod (pool : List Constant) (bytes : List ℕ) (method : Method) : Type 0 where
  pub attribute_list : List Attribute
  pub member : SpellsMember pool bytes ((method.flags.0, method.name, method.descriptor), attribute_list)
  pub named : NamesMethod pool method.name method.descriptor
  pub body : SpellsOnce (SpellsBody pool) (contents_named pool (codes "Code") attribute_list) method.body
  pub rules : IsMethod pool method

-- the bytes of a field and of a method that have nothing to skip
abbrev pub field_bytes : List Constant → Field → List ℕ
field_bytes pool field =
    u2 field.flags.0 ++ u2 field.name ++ u2 field.descriptor ++ attributes_bytes (one_attribute pool (codes "ConstantValue") (option_map u2 field.constant))

abbrev pub method_bytes : List Constant → Method → List ℕ
method_bytes pool method =
    u2 method.flags.0 ++ u2 method.name ++ u2 method.descriptor ++ attributes_bytes (one_attribute pool (codes "Code") (option_map (body_bytes pool) method.body))
