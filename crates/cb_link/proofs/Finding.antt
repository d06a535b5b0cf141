-- What is found of a member is what its class and its signature give.
use Rattle.std.proofs.Common.{◌≡◌, ◌∙◌, ◌<◌, ◌+◌, ◌∷◌, ap, sym, ℕ, List, Option, Some, None, drop, get_or, length, map}
use Rattle.std.proofs.lemmas.List.{at_drop_more}
use Rattle.std.specs.Prelude.{option_and_then}
use Rattle.cb_text.specs.Naming.{MemberNames}
use Rattle.cb_classfile.specs.declared.class.ClassFile.{ClassFile}
use Rattle.cb_hierarchy.specs.Resolution.{first_some, resolved_field, resolved_method}
use Rattle.cb_kinds.specs.Texts.{number_of_pair}
use Rattle.cb_link.specs.Numbers.{field_texts, hierarchy, method_texts, ranked_fields, ranked_methods}
use Rattle.cb_link.specs.Resolving.{found_field, found_method, holder, object}

module _ (classes : List ClassFile) (member : MemberNames) (class signature : ℕ) (holds : holder classes member.class ≡ Some class) where
  pub field_is : number_of_pair (field_texts classes) (member.name, member.descriptor) ≡ Some signature
      → found_field classes member ≡ resolved_field (hierarchy classes) (ranked_fields classes) class signature
  field_is numbered =
      ap (option_and_then (λ class. option_and_then (λ signature. resolved_field (hierarchy classes) (ranked_fields classes) class signature) (number_of_pair (field_texts classes) (member.name, member.descriptor)))) holds
      ∙ ap (option_and_then (λ signature. resolved_field (hierarchy classes) (ranked_fields classes) class signature)) numbered

  pub method_is : number_of_pair (method_texts classes) (member.name, member.descriptor) ≡ Some signature
      → found_method classes member ≡ resolved_method (hierarchy classes) (ranked_methods classes) object class signature
  method_is numbered =
      ap (option_and_then (λ class. option_and_then (λ signature. resolved_method (hierarchy classes) (ranked_methods classes) object class signature) (number_of_pair (method_texts classes) (member.name, member.descriptor)))) holds
      ∙ ap (option_and_then (λ signature. resolved_method (hierarchy classes) (ranked_methods classes) object class signature)) numbered

-- what is found first, number by number
pub next_none : (find : ℕ → Option ℕ) (numbers : List ℕ) (i : ℕ) (found first : Option ℕ) → i < length numbers → first_some (map find (drop i numbers)) ≡ first
    → found ≡ find (get_or numbers i 0) → found ≡ None → first_some (map find (drop (i + 1) numbers)) ≡ first
next_none find numbers i found first within so is none =
    ap (λ found. first_some (found ∷ map find (drop (i + 1) numbers))) (sym none ∙ is)
    ∙ sym (at_drop_more (λ rest. first_some (map find rest)) numbers i 0 within) ∙ so

pub next_some : (find : ℕ → Option ℕ) (numbers : List ℕ) (i item : ℕ) (first : Option ℕ) → i < length numbers → first_some (map find (drop i numbers)) ≡ first
    → Some item ≡ find (get_or numbers i 0) → Some item ≡ first
next_some find numbers i item first within so is =
    ap (λ next. first_some (next ∷ map find (drop (i + 1) numbers))) is
    ∙ sym (at_drop_more (λ rest. first_some (map find rest)) numbers i 0 within) ∙ so
