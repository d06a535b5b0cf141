-- What the indices of used constants name in a pool and in one that grew from it.
use Rattle.std.proofs.Common.{◌≡◌, ◌∙◌, ap, sym, subst, ℕ, List, ◌++◌, Some, IsSomeAnd}
use Rattle.std.specs.List.{flat_map}
use Rattle.std.proofs.lemmas.Grind.{flat_map-append}
use Rattle.cb_text.specs.declared.constant.Constant.{Constant}
use Rattle.cb_text.specs.Naming.{text_at, class_at}
use Rattle.cb_text.specs.Pool.{constant_at}
use Rattle.cb_classfile.specs.Pool.{HasClass, HasMember, HasText, MemberIs, NamesClassMethod, NamesField, NamesMethod}
use Rattle.cb_asm_record.specs.Constants.{entries_of, index_of, pool_of}
use Rattle.cb_asm_record.specs.Entries.{Entry, Text, Class, NameAndType, with_parts}
use Rattle.cb_asm_record.proofs.Laws.{at_its_index, class_read, has, in_firsts, index_stays, text_read}
use Rattle.cb_asm_prefix.proofs.Pools.{Has, constant_stays, has_front}

-- the pool of what is used, and the index of an entry
abbrev pub Pool : List Entry → List Constant
Pool used = pool_of (entries_of used)

abbrev pub at : List Entry → Entry → ℕ
at used entry = index_of (entries_of used) entry

pub has_more : (used more : List Entry) (entry : Entry) → Has used entry → Has (used ++ more) entry
has_more used more entry there =
    in_firsts (flat_map with_parts (used ++ more)) entry
    ∙ ap (λ all. has all entry) (flat_map-append with_parts used more)
    ∙ has_front (flat_map with_parts used) (flat_map with_parts more) entry (sym (in_firsts (flat_map with_parts used) entry) ∙ there)

-- an index names the same constant, text or class in both
pub record SameConstant (large small : List Constant) (index : ℕ) : Type 0 where
  pub is : constant_at large index ≡ constant_at small index

pub record SameText (large small : List Constant) (index : ℕ) : Type 0 where
  pub is : text_at large index ≡ text_at small index

pub record SameClass (large small : List Constant) (index : ℕ) : Type 0 where
  pub is : class_at large index ≡ class_at small index

pub same_constant : (used more : List Entry) (entry : Entry) → Has used entry → SameConstant (Pool (used ++ more)) (Pool used) (at used entry)
same_constant used more entry there = record {
  is =
      ap (constant_at (Pool (used ++ more))) (sym (index_stays used more entry there))
      ∙ at_its_index (entries_of (used ++ more)) entry (has_more used more entry there)
      ∙ ap Some (constant_stays used more entry there)
      ∙ sym (at_its_index (entries_of used) entry there);
}

pub same_text : (used more : List Entry) (text : List ℕ) → Has used (Text text) → SameText (Pool (used ++ more)) (Pool used) (at used (Text text))
same_text used more text there = record {
  is =
      ap (text_at (Pool (used ++ more))) (sym (index_stays used more (Text text) there))
      ∙ text_read (used ++ more) text (has_more used more (Text text) there)
      ∙ sym (text_read used text there);
}

pub same_class : (used more : List Entry) (name : List ℕ) → Has used (Class name) → SameClass (Pool (used ++ more)) (Pool used) (at used (Class name))
same_class used more name there = record {
  is =
      ap (class_at (Pool (used ++ more))) (sym (index_stays used more (Class name) there))
      ∙ class_read (used ++ more) name (has_more used more (Class name) there)
      ∙ sym (class_read used name there);
}

-- so what is asked of them goes from the one to the other, where the indices are such
pub text_goes : {large small : List Constant} {index : ℕ} (Is : List ℕ → Type 0) → SameText large small index → HasText large index Is → HasText small index Is
text_goes Is same names = subst (λ found. IsSomeAnd found Is) same.is names

pub class_goes : {large small : List Constant} {index : ℕ} (Is : List ℕ → Type 0) → SameClass large small index → HasClass large index Is → HasClass small index Is
class_goes Is same names = subst (λ found. IsSomeAnd found Is) same.is names

pub field_names_go : {large small : List Constant} {name descriptor : ℕ} → SameText large small name → SameText large small descriptor → NamesField large name descriptor → NamesField small name descriptor
field_names_go one other names = (text_goes _ one names.0, text_goes _ other names.1)

pub method_names_go : {large small : List Constant} {name descriptor : ℕ} → SameText large small name → SameText large small descriptor → NamesMethod large name descriptor → NamesMethod small name descriptor
method_names_go one other names = (text_goes _ one names.0, text_goes _ other names.1)

pub class_method_goes : {large small : List Constant} {name descriptor : ℕ} → SameText large small name → SameText large small descriptor → NamesClassMethod large name descriptor → NamesClassMethod small name descriptor
class_method_goes one other names = record {
  method = method_names_go one other names.method;
  no_initialiser = λ is. names.no_initialiser (one.is ∙ is);
  constructor = λ is. text_goes _ other (names.constructor (one.is ∙ is));
}

-- the name and type at an index
pub member_goes : (used more : List Entry) (name descriptor : List ℕ) (Large Small : ℕ → ℕ → Type 0) → Has used (NameAndType name descriptor)
    → (Large (at used (Text name)) (at used (Text descriptor)) → Small (at used (Text name)) (at used (Text descriptor)))
    → HasMember (Pool (used ++ more)) (at used (NameAndType name descriptor)) Large → HasMember (Pool used) (at used (NameAndType name descriptor)) Small
member_goes used more name descriptor Large Small there goes names =
    let here = at_its_index (entries_of used) (NameAndType name descriptor) there in
    let large = subst (λ found. IsSomeAnd found (MemberIs Large)) ((same_constant used more (NameAndType name descriptor) there).is ∙ here) names in
    subst (λ found. IsSomeAnd found (MemberIs Small)) (sym here) (goes large)
