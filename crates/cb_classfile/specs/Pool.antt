-- What an index of the constant pool names (JVMS §4.4).
use Rattle.std.specs.Prelude.{◌≡◌, ◌⊎◌, ℕ, true, List, Some, IsSomeAnd, codes, nat_eq}
use Rattle.std.specs.List.{AllByRecursion, ends_with}
use Rattle.cb_text.specs.declared.constant.Constant.{Constant}
use Rattle.cb_text.specs.declared.constant.Constant.TheVariants.{Class, Fieldref, Methodref, InterfaceMethodref, NameAndType, MethodType, InvokeDynamic}
use Rattle.cb_text.specs.Pool.{constant_at}
pub use Rattle.cb_text.specs.Naming.{text_at, class_at}
use Rattle.cb_names.specs.Names.{IsUnqualifiedName, IsMethodName, IsClassName}
use Rattle.cb_names.specs.Descriptors.{IsFieldDescriptor, IsArrayDescriptor, IsMethodDescriptor}

-- the index names a text that is so
abbrev pub HasText : List Constant → ℕ → (List ℕ → Type 0) → Type 0
HasText pool index Is = IsSomeAnd (text_at pool index) Is

-- the index names a class whose name is so
abbrev pub HasClass : List Constant → ℕ → (List ℕ → Type 0) → Type 0
HasClass pool index Is = IsSomeAnd (class_at pool index) Is

-- any method descriptor
abbrev pub IsAnyMethodDescriptor : List ℕ → Type 0
IsAnyMethodDescriptor text = (words : ℕ) × IsMethodDescriptor text words

-- the name and the descriptor of a field, and those of a method (JVMS §4.4.6)
abbrev pub NamesField : List Constant → ℕ → ℕ → Type 0
NamesField pool name descriptor = HasText pool name IsUnqualifiedName × HasText pool descriptor IsFieldDescriptor

abbrev pub NamesMethod : List Constant → ℕ → ℕ → Type 0
NamesMethod pool name descriptor = HasText pool name IsMethodName × HasText pool descriptor IsAnyMethodDescriptor

-- a method of a class that a constant names: no class initialiser, and a constructor only where it gives nothing
-- (JVMS §4.4.2)
abbrev pub GivesNothing : List ℕ → Type 0
GivesNothing descriptor = ends_with nat_eq descriptor (codes ")V") ≡ true

pub record NamesClassMethod (pool : List Constant) (name descriptor : ℕ) : Type 0 where
  pub method : NamesMethod pool name descriptor
  pub no_initialiser : ¬ (text_at pool name ≡ Some (codes "<clinit>"))
  pub constructor : text_at pool name ≡ Some (codes "<init>") → HasText pool descriptor GivesNothing

-- the name and type at an index is so
abbrev pub MemberIs : (ℕ → ℕ → Type 0) → Constant → Type 0
MemberIs Is (NameAndType name descriptor) = Is name descriptor
MemberIs Is other = ⊥

abbrev pub HasMember : List Constant → ℕ → (ℕ → ℕ → Type 0) → Type 0
HasMember pool member Is = IsSomeAnd (constant_at pool member) (MemberIs Is)

-- the names and descriptors of a constant follow their grammars (JVMS §4.4.1, §4.4.2, §4.4.6, §4.4.9, §4.4.10)
abbrev pub IsNamed : List Constant → Constant → Type 0
IsNamed pool (Class name) = HasText pool name (λ text. IsClassName text ⊎ IsArrayDescriptor text)
IsNamed pool (NameAndType name descriptor) = NamesField pool name descriptor ⊎ NamesMethod pool name descriptor
IsNamed pool (Fieldref holder member) = HasMember pool member (NamesField pool)
IsNamed pool (Methodref holder member) = HasMember pool member (NamesClassMethod pool)
IsNamed pool (InterfaceMethodref holder member) = HasMember pool member (NamesMethod pool)
IsNamed pool (MethodType descriptor) = HasText pool descriptor IsAnyMethodDescriptor
IsNamed pool (InvokeDynamic bootstrap member) = HasMember pool member (NamesMethod pool)
IsNamed pool other = Unit {0}

abbrev pub AreNamed : List Constant → Type 0
AreNamed pool = AllByRecursion (IsNamed pool) pool
