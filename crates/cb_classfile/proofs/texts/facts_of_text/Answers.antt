use Rattle.std.proofs.Common.{◌≡◌, ◌↔◌, ℕ, List, Option, Some, None, IsTrue, IfSome, is_some, IsSomeAnd, MatchOption, refl, sym, ◌∙◌, ap}
use Rattle.std.proofs.lemmas.Bool.{false≢true}
use Rattle.std.specs.Option.{option_map, option_or}
use Rattle.cb_names.specs.declared.method.MethodFacts.{MethodFacts}
use Rattle.cb_names.specs.declared.types.FieldType.{FieldType}
use Rattle.cb_names.specs.Descriptors.{IsFieldDescriptor, IsMethodDescriptor, floating_in}
use Rattle.cb_names.specs.Types.{IsType, SpellsType, type_of, type_text}
use Rattle.cb_classfile.proofs.texts.facts_of_text.Goals as goal

-- a field descriptor is one of some type
field_is : (text : List ℕ) (field : Option FieldType) → MatchOption field (IsFieldDescriptor text → ⊥) (λ type. SpellsType text (type_of type)) → IsTrue (is_some field) ↔ IsFieldDescriptor text
field_is text None none = (λ is. absurd (false≢true is), λ is. absurd (none is))
field_is text (Some type) spells = (λ is. (type_of type, spells), λ is. refl)

field_typed : (text : List ℕ) (field : Option FieldType) → MatchOption field (IsFieldDescriptor text → ⊥) (λ type. SpellsType text (type_of type)) → IfSome field (λ type. IsType (type_of type))
field_typed text None none = tt
field_typed text (Some type) spells = spells.is

-- the words are those of the parameters
words_are : (text : List ℕ) (method : Option MethodFacts) → MatchOption method ((words : ℕ) → IsMethodDescriptor text words → ⊥) (λ facts. IsMethodDescriptor text facts.words) → MatchOption (option_map (λ facts. facts.words) method) ((words : ℕ) → IsMethodDescriptor text words → ⊥) (λ words. IsMethodDescriptor text words)
words_are text None none = none
words_are text (Some facts) is = is

only_words : (method : Option MethodFacts) (words : ℕ) → IsSomeAnd method (λ facts. facts.words ≡ words) → option_map (λ facts. facts.words) method ≡ Some words
only_words None words is = absurd is
only_words (Some facts) words is = ap Some is

-- the floating-point type is that of the text
floating_is : (text : List ℕ) (field : Option FieldType) (method : Option MethodFacts) → MatchOption field (IsFieldDescriptor text → ⊥) (λ type. SpellsType text (type_of type)) → IfSome method (λ facts. facts.floating ≡ floating_in text) → IfSome (option_or (option_map (λ type. floating_in (type_text (type_of type))) field) (option_map (λ facts. facts.floating) method)) (λ floating. floating ≡ floating_in text)
floating_is text None None none told = tt
floating_is text None (Some facts) none told = told
floating_is text (Some type) method spells told = ap floating_in (sym spells.spelled)

pub floating_told-requires : goal.floating_told-requires
floating_told-requires c = field_typed _ _ c.field_type-field.ensures.found

pub returns : goal.returns
returns c =
    let field = c.field_type-field.ensures.found in
    let method = c.method_facts-method.ensures in
    record {
      unqualified_name = c.name_kinds-names.ensures.unqualified;
      method_name = c.name_kinds-names.ensures.method;
      class_name = c.name_kinds-names.ensures.class;
      array_descriptor = c.is_array_descriptor.ensures;
      field_descriptor = rw c.is_some.ensures (field_is _ _ field);
      words = rw c.words_told.ensures (words_are _ _ method.words);
      exact = λ words is. c.words_told.ensures ∙ only_words _ words (method.exact words is);
      floating = rw c.floating_told.ensures (floating_is _ _ _ field method.floating);
    }
