-- What the texts of a pool are, each looked at once.
use Rattle.std.specs.Prelude.{◌≡◌, ◌↔◌, ℕ, ◌+◌, List, Option, slice_get, slice_index, Some, IsTrue, IfSome, MatchOption}
use Rattle.cb_text.specs.declared.constant.Constant.{Constant}
use Rattle.cb_names.specs.Names.{IsUnqualifiedName, IsMethodName, IsClassName}
use Rattle.cb_names.specs.Descriptors.{IsFieldDescriptor, IsArrayDescriptor, IsMethodDescriptor, floating_in}
use Rattle.cb_classfile.specs.declared.texts.TextFacts.{TextFacts}
use Rattle.cb_classfile.specs.Pool.{text_at}

-- these are the facts of a text
pub record AreFacts (text : List ℕ) (facts : TextFacts) : Type 0 where
  pub unqualified_name : IsTrue facts.unqualified_name ↔ IsUnqualifiedName text
  pub method_name : IsTrue facts.method_name ↔ IsMethodName text
  pub class_name : IsTrue facts.class_name ↔ IsClassName text
  pub array_descriptor : IsTrue facts.array_descriptor ↔ IsArrayDescriptor text
  pub field_descriptor : IsTrue facts.field_descriptor ↔ IsFieldDescriptor text
  pub words : MatchOption facts.parameter_words ((words : ℕ) → IsMethodDescriptor text words → ⊥) (λ words. IsMethodDescriptor text words)
  pub exact : (words : ℕ) → IsMethodDescriptor text words → facts.parameter_words ≡ Some words
  -- of a descriptor it is told
  pub floating : IfSome facts.floating (λ floating. floating ≡ floating_in text)

-- these are facts of the texts of a pool, at the places of its constants. A text may have none, as those behind the last
abbrev pub Describe : List Constant → List (Option TextFacts) → Type 0
Describe pool facts =
    (before : ℕ) → IfSome (slice_get facts before) (λ told. IfSome told (λ known. (text : List ℕ) → text_at pool (before + 1) ≡ Some text → AreFacts text known))

-- two indices have one number exactly where they name equal texts, or both name none
abbrev pub TellTexts : List Constant → List ℕ → Type 0
TellTexts pool numbers = (one other : ℕ) → (slice_index numbers one ≡ slice_index numbers other) ↔ (text_at pool one ≡ text_at pool other)
