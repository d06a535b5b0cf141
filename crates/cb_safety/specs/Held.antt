-- Values and the contents of objects, by the types that the verifier gives (JVMS §4.10.1.2, §2.3).
use Rattle.std.specs.Prelude.{◌≡◌, ℕ, ℤ, FitsSigned, List, [], ◌∷◌, Some}
use Rattle.std.specs.Int.{w32, w64}
use Rattle.cb_kinds.specs.declared.basic.Basic.{Basic}
use Rattle.cb_kinds.specs.declared.basic.Basic.TheVariants as basics
use Rattle.cb_link.specs.Program.{Linked}
use Rattle.cb_machine.specs.Values.{kept_int, sort_of_basic}
use Rattle.cb_plain.specs.State.{Content, Number, Reference}
use Rattle.cb_plain.specs.declared.value.Value.{Value}
use Rattle.cb_plain.specs.declared.value.Value.TheVariants as values
use Rattle.cb_shapes.specs.declared.sort.Sort.TheVariants as sorts
use Rattle.cb_verify.specs.declared.verification_type.VerificationType.{VerificationType}
use Rattle.cb_verify.specs.declared.verification_type.VerificationType.TheVariants.{Int, Long, New, Null, Object, This, Top}
use Rattle.cb_verify.specs.Types as type_words
use Rattle.cb_verify.specs.Leaving.{new_kind}
use Rattle.cb_verify.specs.Within.{Within}
use Rattle.cb_safety.specs.Kinds.{IsKnown, IsOfKind, Kinds, Refers, kind_in}

-- a value has a type in a method: of an object that isn't initialised only its kind counts, which is that of the method's class or of one
-- below it, or that which the `new` at a place makes. Of what is known nothing can be said but that it is there
pub data HasType (method : Within) (kinds : Kinds) : VerificationType → Value → Type 0 where
  Unknown : (value : Value) → IsKnown kinds value → HasType method kinds Top value
  AnInt : (number : ℤ) → FitsSigned w32 number → HasType method kinds Int (values.Int number)
  ALong : (number : ℤ) → FitsSigned w64 number → HasType method kinds Long (values.Long number)
  ItsNull : HasType method kinds Null (values.Ref 0)
  AReference : (kind serial : ℕ) → Refers method.program kinds kind serial → HasType method kinds (Object kind) (values.Ref serial)
  ItsThis : (serial : ℕ) → IsOfKind method.program kinds method.class serial → HasType method kinds This (values.Ref serial)
  ANew : (place serial kind : ℕ) → new_kind method place ≡ Some kind → kind_in kinds serial ≡ Some kind → HasType method kinds (New place) (values.Ref serial)

-- local variables have types, one by one
pub data HaveTypes (method : Within) (kinds : Kinds) : List VerificationType → List Value → Type 0 where
  NoMore : HaveTypes method kinds [] []
  And : (type : VerificationType) → (value : Value) → (types : List VerificationType) → (held : List Value) →
      HasType method kinds type value → HaveTypes method kinds types held → HaveTypes method kinds (type ∷ types) (value ∷ held)

-- how many words a value has on the operand stack
abbrev pub words_in : Value → ℕ
words_in (values.Long number) = 2
words_in other = 1

-- an operand stack has types, word by word: two words of which nothing is known may be those of one long
pub data IsStack (method : Within) (kinds : Kinds) : List VerificationType → List Value → Type 0 where
  Empty : IsStack method kinds [] []
  Upon : (type : VerificationType) → (value : Value) → (types : List VerificationType) → (stack : List Value) →
      HasType method kinds type value → type_words.words type ≡ words_in value → IsStack method kinds types stack → IsStack method kinds (type ∷ types) (value ∷ stack)
  Halves : (number : ℤ) → (types : List VerificationType) → (stack : List Value) →
      IsStack method kinds types stack → IsStack method kinds (Top ∷ Top ∷ types) (values.Long number ∷ stack)

-- what a word of an object holds, by what a field or an element is: a number that it can keep
pub data HasContent (program : Linked) (kinds : Kinds) : Basic → Content → Type 0 where
  AReference : (kind serial : ℕ) → Refers program kinds kind serial → HasContent program kinds (basics.Reference kind) (Reference serial)
  ALong : (number : ℤ) → FitsSigned w64 number → HasContent program kinds basics.Long (Number number)
  AnInt : (basic : Basic) → (number : ℤ) → sort_of_basic basic ≡ sorts.Int → FitsSigned w32 number → kept_int basic number ≡ number →
      HasContent program kinds basic (Number number)

-- and the value of a static field
pub data HasBasic (program : Linked) (kinds : Kinds) : Basic → Value → Type 0 where
  AReference : (kind serial : ℕ) → Refers program kinds kind serial → HasBasic program kinds (basics.Reference kind) (values.Ref serial)
  ALong : (number : ℤ) → FitsSigned w64 number → HasBasic program kinds basics.Long (values.Long number)
  AnInt : (basic : Basic) → (number : ℤ) → sort_of_basic basic ≡ sorts.Int → FitsSigned w32 number → kept_int basic number ≡ number →
      HasBasic program kinds basic (values.Int number)
