-- A class is assignable to its superclass.
use Rattle.std.proofs.Common.{◌≡◌, ◌∙◌, inl, inr, ap, refl, sym, subst, arith, ℕ, suc, ◌+◌, ◌<◌, ◌==◌, ◌||◌, ◌&&◌, Bool, true, false, cond, not, List, [], ◌∷◌, ◌++◌, length, nat_lt, take, Option, Some, None, option_and_then, option_map, slice_get, get_or}
use Rattle.std.specs.Prelude.{IsSomeAnd, if◌then◌else◌}
use Rattle.std.specs.Cmp.Lexicographic.{bytes_decides}
use Rattle.std.specs.List.{AllByRecursion, Contains, find, join_with_byte, prefix_len}
use Rattle.std.proofs.lemmas.Bool.{and_from, lt-ltb, ne_eqb, or_right}
use Rattle.std.proofs.lemmas.List.{length-map}
use Rattle.std.proofs.lemmas.Option.{option_and_then_some, slice_get-get_or, slice_get-map, slice_get_within}
use Rattle.cb_classfile.specs.Class.{IsWellFormed}
use Rattle.cb_classfile.specs.Pool.{class_at}
use Rattle.cb_classfile.specs.declared.class.ClassFile.{ClassFile}
use Rattle.cb_hierarchy.specs.Bad.{AreGood}
use Rattle.cb_hierarchy.specs.Classes.{listed, parents}
use Rattle.cb_kinds.specs.Kinds.{ends_name, name_in, type_of_name}
use Rattle.cb_kinds.specs.Texts.{number_of, same_text}
use Rattle.cb_link.specs.Having.{IsWhole}
use Rattle.cb_link.specs.Named.{kind_at, kind_in}
use Rattle.cb_link.specs.Numbers.{class_number, hierarchy, name_of, or_none, ranked, ranked_methods}
use Rattle.cb_link.specs.Program.{Linked}
use Rattle.cb_link.specs.Subtypes.{assignable, between, is_assignable, is_below, is_instance, is_object, is_subtype, names_interface, type_of_kind}
use Rattle.cb_names.specs.Names.{IsClassName, IsUnqualifiedName, MayStandInName}
use Rattle.cb_names.specs.Signs.{bracket, letter_class, semicolon, slash}
use Rattle.cb_verify.specs.Types.{kind_goes_to}
use Rattle.cb_safety.specs.Calling.{GoesAbove}
use Rattle.cb_safety.specs.ClassNames.{AreOwnKinds, HaveSuperclasses, NamedOnce}
use Rattle.cb_safety.proofs.Entries.{within_method}
use Rattle.cb_safety.proofs.OwnKinds.{own_kinds}
use Rattle.cb_safety.proofs.Lettered.{plain_name}
use Rattle.cb_safety.proofs.Lists.{all_at, all_both}
use Rattle.cb_safety.proofs.Ordered.{acyclic, named_low, number_low}
use Rattle.cb_safety.proofs.Searching.{all_weaker, found_passes, position_found}
use Rattle.cb_safety.proofs.Subclasses.{subclass_parent}

-- ---- the name of a class in its type

abbrev Plain : ℕ → Type 0
Plain unit = ends_name unit ≡ false

name_behind : (name : List ℕ) → AllByRecursion Plain name → name_in (name ++ semicolon ∷ []) ≡ name
name_behind [] all = refl
name_behind (unit ∷ name) all =
    ap (λ (ends : Bool). take (cond (not ends) (1 + count) 0) (unit ∷ name ++ semicolon ∷ [])) all.0
    ∙ ap (λ (count : ℕ). take count (unit ∷ name ++ semicolon ∷ [])) (let more : 1 + count ≡ suc count = omega arith in more)
    ∙ ap (λ (own : List ℕ). unit ∷ own) (name_behind name all.1)
  where
    count : ℕ
    count = prefix_len (λ (unit : ℕ). not (ends_name unit)) (name ++ semicolon ∷ [])

plain_unit : (unit : ℕ) → MayStandInName unit → Plain unit
plain_unit unit may = ap (λ (test : Bool). test || (unit == bracket)) (ne_eqb unit semicolon may.1) ∙ ne_eqb unit bracket may.2

plain_parts : (parts : List (List ℕ)) → AllByRecursion IsUnqualifiedName parts → AllByRecursion Plain (join_with_byte slash parts)
plain_parts [] all = tt
plain_parts (part ∷ []) all = all_weaker MayStandInName Plain plain_unit part all.0.1
plain_parts (part ∷ other ∷ parts) all =
    all_both Plain part (slash ∷ join_with_byte slash (other ∷ parts)) (all_weaker MayStandInName Plain plain_unit part all.0.1) (refl, plain_parts (other ∷ parts) all.1)

plain_class : (name : List ℕ) → IsClassName name → AllByRecursion Plain name
plain_class name (parts, some, each, is) = subst (λ (own : List ℕ). AllByRecursion Plain own) (sym is) (plain_parts parts each)

pub type_is : (name : List ℕ) → IsClassName name → type_of_name name ≡ letter_class ∷ name ++ semicolon ∷ []
type_is name is = ap (λ (test : Bool). if test then name else letter_class ∷ name ++ semicolon ∷ []) (plain_name name is)

pub types_below : (among : List ℕ → List ℕ → Bool) (one other : List ℕ) → IsClassName one → IsClassName other → among one other ≡ true
    → is_subtype among (type_of_name one) (type_of_name other) ≡ true
types_below among one other is also so =
    ap (λ (type : List ℕ). is_subtype among type (type_of_name other)) (type_is one is)
    ∙ ap (λ (type : List ℕ). is_subtype among (letter_class ∷ one ++ semicolon ∷ []) type) (type_is other also)
    ∙ ap (λ (name : List ℕ). among name (name_in (other ++ semicolon ∷ []))) (name_behind one (plain_class one is))
    ∙ ap (among one) (name_behind other (plain_class other also))
    ∙ so

-- ---- names and their numbers

number_there : (texts : List (List ℕ)) (name : List ℕ) (number : ℕ) → number_of texts name ≡ Some number → slice_get texts number ≡ Some name
number_there texts name number is =
    let text : List ℕ = get_or texts number [] in
    let there : slice_get texts number ≡ Some text = slice_get-get_or texts number [] (number_low texts name number is) in
    let found : find (same_text name) texts ≡ Some text = sym (position_found (same_text name) texts) ∙ ap (option_and_then (slice_get texts)) is ∙ there in
    there ∙ ap {B = Option (List ℕ)} Some (sym ((bytes_decides name text).0 (found_passes (same_text name) texts text found)))

pub own_class_name : (class : ClassFile) → IsWellFormed class → IsClassName (name_of class)
own_class_name class (bytes, spelled) = go (class_at class.pool class.this_class) spelled.behind.rules.alone.classes.named where
  go : (found : Option (List ℕ)) → IsSomeAnd found IsClassName → IsClassName (or_none found)
  go None is = absurd is
  go (Some name) is = is

super_class_name : (class : ClassFile) (name : List ℕ) → IsWellFormed class → class_at class.pool class.super_class ≡ Some name → IsClassName name
super_class_name class name (bytes, spelled) is = elim spelled.behind.rules.alone.classes.superclass [
  | inl none ↦ absurd (cc (ap (class_at class.pool) (sym none) ∙ is))
  | inr named ↦ subst (λ (found : Option (List ℕ)). IsSomeAnd found IsClassName) is named
]

-- ---- a class and its superclass

module _ (classes : List ClassFile) (number above : ℕ) (class : ClassFile) (name : List ℕ) (there : slice_get classes number ≡ Some class)
    (named : class_at class.pool class.super_class ≡ Some name) (numbered : class_number classes name ≡ Some above) where
  ranked_there : slice_get (hierarchy classes) number ≡ Some (ranked classes class)
  ranked_there = slice_get-map (ranked classes) classes number ∙ ap (option_map (ranked classes)) there

  super_there : class_number classes name ≡ Some above → option_and_then (class_number classes) (class_at class.pool class.super_class) ≡ Some above
  super_there found = ap (option_and_then (class_number classes)) named ∙ found

  parents_are : parents (hierarchy classes) number ≡ above ∷ (ranked classes class).interfaces
  parents_are = rw ranked_there (ap (λ (found : Option ℕ). listed found ++ (ranked classes class).interfaces) (super_there numbered))

  is_parent : Contains (parents (hierarchy classes) number) above
  is_parent = subst (λ (list : List ℕ). Contains list above) (sym parents_are) (0, omega arith, refl)

  within_them : number < length (hierarchy classes)
  within_them = omega (arith, length-map classes (ranked classes), slice_get_within classes number class there)

  module _ (own : class_number classes (name_of class) ≡ Some number) (good : AreGood (hierarchy classes) (ranked_methods classes)) where
    assignable_above : is_assignable classes (name_of class) name ≡ true
    assignable_above =
        or_right (names_interface classes name) (is_instance classes (name_of class) name)
        (or_right (same_text (name_of class) name || is_object name) (is_below classes (name_of class) name)
        (ap (λ (found : Option ℕ). between classes found (class_number classes name)) own
        ∙ ap (between classes (Some number)) numbered
        ∙ subclass_parent (hierarchy classes) (acyclic (hierarchy classes) (ranked_methods classes) good) (named_low classes) number above is_parent within_them))

-- by their kinds
kinds_go : (program : Linked) (number above : ℕ) (one other : List ℕ) → slice_get program.kinds number ≡ Some one → slice_get program.kinds above ≡ Some other
    → IsClassName one → IsClassName other → is_assignable program.classes one other ≡ true → kind_goes_to program number above ≡ true
kinds_go program number above one other there up is also so =
    and_from (nat_lt number (length program.kinds) && nat_lt above (length program.kinds)) (assignable program number above)
    (and_from (nat_lt number (length program.kinds)) (nat_lt above (length program.kinds))
    (lt-ltb number (length program.kinds) (slice_get_within program.kinds number one there)) (lt-ltb above (length program.kinds) (slice_get_within program.kinds above other up)))
    (ap (λ (found : Option (List ℕ)). is_subtype (is_assignable program.classes) (type_of_name (or_none found)) (type_of_kind program above)) there
    ∙ ap (λ (found : Option (List ℕ)). is_subtype (is_assignable program.classes) (type_of_name one) (type_of_name (or_none found))) up
    ∙ types_below (is_assignable program.classes) one other is also so)

abbrev above_class : Linked → ℕ → Option ℕ
above_class program number = option_and_then (λ (class : ClassFile). kind_at program number class.super_class) (slice_get program.classes number)

module _ (program : Linked) (whole : IsWhole program) (formed : AllByRecursion IsWellFormed program.classes) (once : NamedOnce program.classes) (have : HaveSuperclasses program.classes) where
  class_goes : (number above : ℕ) (class : ClassFile) (name : List ℕ) → slice_get program.classes number ≡ Some class → class_at class.pool class.super_class ≡ Some name
      → number_of program.kinds name ≡ Some above → kind_goes_to program number above ≡ true
  class_goes number above class name there named is =
      let own : AreOwnKinds program = own_kinds program whole once in
      let well : IsWellFormed class = all_at IsWellFormed program.classes number class formed there in
      let (up, numbered) = have number class name there named in
      kinds_go program number above (name_of class) name (own.kind number class there) (number_there program.kinds name above is) (own_class_name class well)
      (super_class_name class name well named)
      (assignable_above program.classes number up class name there named numbered (own.number number class there) whole.good)

  above_goes : (number above : ℕ) → above_class program number ≡ Some above → kind_goes_to program number above ≡ true
  above_goes number above is =
      option_and_then_some (λ (class : ClassFile). kind_at program number class.super_class) (slice_get program.classes number) above is
      (λ class there kinded.
      option_and_then_some (number_of program.kinds) (class_at class.pool class.super_class) above
      (sym (ap (option_and_then (λ (declaring : ClassFile). kind_in program.kinds declaring.pool class.super_class)) there) ∙ kinded)
      (λ name named numbered. class_goes number above class name there named numbered))

  pub goes_above : GoesAbove program
  goes_above number above method so up =
      above_goes method.class above (sym (ap (λ (own : Linked). above_class own method.class) (within_method program number method so).own) ∙ up)
