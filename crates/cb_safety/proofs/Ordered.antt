-- The order of the classes of a good program with the library in front.
use Rattle.std.proofs.Common.{◌≡◌, ◌∙◌, ◌⊎◌, inl, inr, ap, ap₂, refl, sym, subst, arith, ℕ, zero, suc, ◌+◌, ◌<◌, ◌≤◌, Bool, true, false, not, cond, ◌||◌, List, [], ◌∷◌, ◌++◌, length, map, nat_lt, Option, Some, None}
use Rattle.std.specs.Prelude.{codes, option_and_then, option_map, slice_get}
use Rattle.std.specs.Cmp.Lexicographic.{bytes_decides}
use Rattle.std.specs.List.{AllByRecursion, AllZip, Contains, flat_map, list_all, position, position_or_len}
use Rattle.std.proofs.lemmas.Bool.{and_parts, cases_lt, eqb-true, false≢true, ltb-true, true_from_ne_false}
use Rattle.std.proofs.lemmas.List.{length-map}
use Rattle.std.proofs.lemmas.List.Elements.{Contains-append_cases}
use Rattle.std.proofs.lemmas.Option.{slice_get-map, slice_get_past}
use Rattle.cb_classfile.specs.declared.class.ClassFile.{ClassFile}
use Rattle.cb_classfile.specs.Class.{IsWellFormed}
use Rattle.cb_classfile.specs.Library.{AreLibrary, IsRecordOf, SaysSuperclass}
use Rattle.cb_classfile.specs.Pool.{class_at}
use Rattle.cb_hierarchy.specs.declared.class.Class.{Class as Ranked}
use Rattle.cb_hierarchy.specs.declared.member.Method.{Method as RankedMethod}
use Rattle.cb_hierarchy.specs.Above.{Direct, IsAbove, IsAcyclic, Through}
use Rattle.cb_hierarchy.specs.Bad.{AreGood, ImplementsClass, IsItsOwn}
use Rattle.cb_hierarchy.specs.Classes.{is_interface, listed, parents, superclass, superinterfaces}
use Rattle.cb_hierarchy.specs.Orders.{is_subclass}
use Rattle.cb_kinds.specs.Texts.{number_of, same_text}
use Rattle.cb_kinds.proofs.Laws.{text_at}
use Rattle.cb_library.specs.CoreClasses.{core_classes}
use Rattle.cb_library.specs.Lang.{cloneable_interface, object_class, serializable_interface}
use Rattle.cb_library.specs.Names as names
use Rattle.cb_library.specs.Rows.{CoreClass}
use Rattle.cb_link.specs.Having.{IsWhole}
use Rattle.cb_classfile.specs.Flags.{acc_interface}
use Rattle.cb_link.specs.Numbers.{class_number, class_number_at, has_flag, hierarchy, name_of, or_none, ranked, ranked_methods}
use Rattle.cb_link.specs.Program.{Linked}
use Rattle.cb_link.specs.Subtypes.{between, interface_at, is_below, is_object, names_interface}
use Rattle.cb_safety.specs.Order.{ExtendsObject, HasOrder}
use Rattle.cb_safety.proofs.Lists.{all_at, all_both, all_lists, nothing}
use Rattle.cb_safety.proofs.Searching.{all_each, all_weaker, position_here, position_later}
use Rattle.cb_safety.proofs.Subclasses.{none_above, subclass_above, subclass_next}

-- ---- numbers of classes

pub number_low : (texts : List (List ℕ)) (name : List ℕ) (number : ℕ) → number_of texts name ≡ Some number → number < length texts
number_low texts name number found = go (nat_lt place (length texts)) refl found where
  place : ℕ
  place = position_or_len (same_text name) texts

  go : (test : Bool) → nat_lt place (length texts) ≡ test → cond test (Some place) None ≡ Some number → number < length texts
  go true is found = let same : place ≡ number = cc in subst (λ (number : ℕ). number < length texts) same (ltb-true place (length texts) is)
  go false is found = absurd (cc found)

at_low : (texts : List (List ℕ)) (name : Option (List ℕ)) → AllByRecursion (λ number. number < length texts) (listed (option_and_then (number_of texts) name))
at_low texts None = tt
at_low texts (Some name) = go (number_of texts name) (λ number found. number_low texts name number found) where
  go : (found : Option ℕ) → ((number : ℕ) → found ≡ Some number → number < length texts) → AllByRecursion (λ number. number < length texts) (listed found)
  go None low = tt
  go (Some number) low = (low number refl, tt)

abbrev Low : List ClassFile → ℕ → Type 0
Low classes number = number < length (map name_of classes)

parents_low : (classes : List ClassFile) (number : ℕ) → AllByRecursion (Low classes) (parents (hierarchy classes) number)
parents_low classes number = go (slice_get classes number) (slice_get-map (ranked classes) classes number) where
  go : (class : Option ClassFile) → slice_get (hierarchy classes) number ≡ option_map (ranked classes) class → AllByRecursion (Low classes) (parents (hierarchy classes) number)
  go None is = rw is tt
  go (Some class) is =
      rw is (all_both (Low classes) (listed (class_number_at classes class.pool class.super_class)) (flat_map (λ index. listed (class_number_at classes class.pool index)) class.interfaces)
      (at_low (map name_of classes) (class_at class.pool class.super_class))
      (all_lists (Low classes) (λ index. listed (class_number_at classes class.pool index)) class.interfaces (λ index. at_low (map name_of classes) (class_at class.pool index))))

pub named_low : (classes : List ClassFile) (class parent : ℕ) → Contains (parents (hierarchy classes) class) parent → parent < length (hierarchy classes)
named_low classes class parent among =
    let many : length (hierarchy classes) ≡ length classes = length-map classes (ranked classes) in
    let named : length (map name_of classes) ≡ length classes = length-map classes name_of in
    let low : parent < length (map name_of classes) = all_each (Low classes) (parents (hierarchy classes) class) parent (parents_low classes class) among in
    omega (arith, low, many, named)

pub number_within : (classes : List ClassFile) (name : List ℕ) (number : ℕ) → class_number classes name ≡ Some number → number < length (hierarchy classes)
number_within classes name number is =
    let many : length (hierarchy classes) ≡ length classes = length-map classes (ranked classes) in
    let named : length (map name_of classes) ≡ length classes = length-map classes name_of in
    let low : number < length (map name_of classes) = number_low (map name_of classes) name number is in
    omega (arith, low, many, named)

-- what has parents is there
pub named_in : (classes : List Ranked) (number parent : ℕ) → Contains (parents classes number) parent → number < length classes
named_in classes number parent among = go (cases_lt number (length classes)) where
  go : (number < length classes) ⊎ (length classes ≤ number) → number < length classes
  go (inl low) = low
  go (inr past) =
      let none : slice_get classes number ≡ None = slice_get_past classes number past in
      let no_parents : parents classes number ≡ [] = rw none refl in
      absurd (nothing parent (subst (λ list. Contains list parent) no_parents among))

below_in : (classes : List Ranked) (class other : ℕ) → IsAbove (parents classes) class other → class < length classes
below_in classes class other (Direct one parent among) = named_in classes one parent among
below_in classes class other (Through one parent last among above) = named_in classes one parent among

pub acyclic : (classes : List Ranked) (methods : List RankedMethod) → AreGood classes methods → IsAcyclic classes
acyclic classes methods good = λ class above. good class (below_in classes class class above) (IsItsOwn above)

-- one name is below another by the numbers of both
pub record IsBetween (classes : List ClassFile) (one other : List ℕ) : Type 0 where
  pub lower : ℕ
  pub upper : ℕ
  pub from : class_number classes one ≡ Some lower
  pub to : class_number classes other ≡ Some upper
  pub below : is_subclass (hierarchy classes) lower upper ≡ true

pub between_them : (classes : List ClassFile) (one other : List ℕ) → is_below classes one other ≡ true → IsBetween classes one other
between_them classes one other so = go (class_number classes one) (class_number classes other) refl refl so where
  go : (from to : Option ℕ) → class_number classes one ≡ from → class_number classes other ≡ to → between classes from to ≡ true → IsBetween classes one other
  go None to from_is to_is so = absurd (false≢true so)
  go (Some lower) None from_is to_is so = absurd (false≢true so)
  go (Some lower) (Some upper) from_is to_is so = record { lower = lower; upper = upper; from = from_is; to = to_is; below = so }

below_next : (classes : List ClassFile) (methods : List RankedMethod) → AreGood (hierarchy classes) methods → (one two three : List ℕ) → is_below classes one two ≡ true → is_below classes two three ≡ true
    → is_below classes one three ≡ true
below_next classes methods good one two three is next =
    let first : IsBetween classes one two = between_them classes one two is in
    let second : IsBetween classes two three = between_them classes two three next in
    let same : first.upper ≡ second.lower = number_same first.upper second.lower (sym first.to ∙ second.from) in
    ap₂ (between classes) first.from second.to
    ∙ subclass_next (hierarchy classes) (acyclic (hierarchy classes) methods good) (named_low classes) first.lower first.upper second.upper (number_within classes one first.lower first.from) first.below
    (subst (λ (class : ℕ). is_subclass (hierarchy classes) class second.upper ≡ true) (sym same) second.below)
  where
    number_same : (lower upper : ℕ) → Some lower ≡ Some upper → lower ≡ upper
    number_same lower upper is = cc

-- ---- interfaces

-- above an interface are interfaces and what has no parents
module _ (classes : List Ranked) (root : ℕ) (last : parents classes root ≡ [])
    (each : (class parent : ℕ) → is_interface classes class ≡ true → Contains (parents classes class) parent → (is_interface classes parent ≡ true) ⊎ (parent ≡ root)) where
  pub above_interface : (class other : ℕ) → IsAbove (parents classes) class other → is_interface classes class ≡ true → (is_interface classes other ≡ true) ⊎ (other ≡ root)
  above_interface class other (Direct from parent among) is = each from parent is among
  above_interface class other (Through from parent to among rest) is = elim (each from parent is among) [
    | inl interface ↦ above_interface parent to rest interface
    | inr object ↦ absurd (none_above (parents classes) parent to (ap (parents classes) object ∙ last) rest)
  ]

-- ---- the library in front

-- a row's interface has Object as its superclass
abbrev is_root : Option (List ℕ) → Bool
is_root None = false
is_root (Some name) = is_object name

abbrev extends : CoreClass → Bool
extends row = not (has_flag acc_interface row.flags) || is_root row.superclass

all_extend : list_all extends core_classes ≡ true
all_extend = refl

row_extends : (row : CoreClass) (class : ClassFile) → extends row ≡ true → IsRecordOf row class → ExtendsObject class
row_extends row class so of interface = go row.superclass of.superclass root where
  root : is_root row.superclass ≡ true
  root = sym (ap (λ (test : Bool). not test || is_root row.superclass) (sym (ap (has_flag acc_interface) of.flags) ∙ interface)) ∙ so

  go : (super : Option (List ℕ)) → SaysSuperclass class.pool super class.super_class → is_root super ≡ true → class_at class.pool class.super_class ≡ Some (codes "java/lang/Object")
  go None says root = absurd (false≢true root)
  go (Some name) says root = says ∙ ap Some ((bytes_decides name (codes "java/lang/Object")).0 root)

rows_extend : (rows : List CoreClass) (classes : List ClassFile) → list_all extends rows ≡ true → AllZip IsRecordOf rows classes → AllByRecursion ExtendsObject classes
rows_extend [] [] so are = tt
rows_extend [] (class ∷ classes) so are = absurd are
rows_extend (row ∷ rows) [] so are = absurd are
rows_extend (row ∷ rows) (class ∷ classes) so are =
    let (here, later) = and_parts (extends row) (list_all extends rows) so in
    (row_extends row class here are.0, rows_extend rows classes later are.1)

library_extends : (library : List ClassFile) → AreLibrary library → AllByRecursion ExtendsObject library
library_extends library are = rows_extend core_classes library all_extend are

pub none_zipped : {Row Item : Type 0} (Is : Row → Item → Type 0) (items : List Item) → AllZip Is [] items → items ≡ []
none_zipped Is [] are = refl
none_zipped Is (item ∷ items) are = absurd are

-- Object, Cloneable and Serializable by their places
pub record IsFronted (classes : List ClassFile) : Type 0 where
  pub object : class_number classes (codes "java/lang/Object") ≡ Some 0
  pub last : parents (hierarchy classes) 0 ≡ []
  pub own : (name : List ℕ) → class_number classes name ≡ Some 0 → is_object name ≡ true
  pub cloneable : names_interface classes (codes "java/lang/Cloneable") ≡ true
  pub serializable : names_interface classes (codes "java/io/Serializable") ≡ true

position_three : (test : List ℕ → Bool) (one two three four : List ℕ) (rest : List (List ℕ)) → test one ≡ false → test two ≡ false → test three ≡ false → test four ≡ true
    → position test (one ∷ two ∷ three ∷ four ∷ rest) ≡ Some 3
position_three test one two three four rest not_one not_two not_three is =
    position_later test one (two ∷ three ∷ four ∷ rest) not_one
    ∙ ap (option_map (λ (turn : ℕ). 1 + turn)) (position_later test two (three ∷ four ∷ rest) not_two
    ∙ ap (option_map (λ (turn : ℕ). 1 + turn)) (position_later test three (four ∷ rest) not_three
    ∙ ap (option_map (λ (turn : ℕ). 1 + turn)) (position_here test four rest is)))

-- the names of the first five
record AreFirst (classes : List ClassFile) (rest : List (List ℕ)) : Type 0 where
  pub are : map name_of classes ≡ names.object ∷ names.comparable ∷ names.char_sequence ∷ names.cloneable ∷ names.serializable ∷ rest

object_number : (classes : List ClassFile) (rest : List (List ℕ)) → AreFirst classes rest → class_number classes (codes "java/lang/Object") ≡ Some 0
object_number classes rest first =
    ap (λ (texts : List (List ℕ)). number_of texts (codes "java/lang/Object")) first.are
    ∙ position_here (same_text (codes "java/lang/Object")) names.object (names.comparable ∷ names.char_sequence ∷ names.cloneable ∷ names.serializable ∷ rest) refl

cloneable_number : (classes : List ClassFile) (rest : List (List ℕ)) → AreFirst classes rest → class_number classes (codes "java/lang/Cloneable") ≡ Some 3
cloneable_number classes rest first =
    ap (λ (texts : List (List ℕ)). number_of texts (codes "java/lang/Cloneable")) first.are
    ∙ position_three (same_text (codes "java/lang/Cloneable")) names.object names.comparable names.char_sequence names.cloneable (names.serializable ∷ rest) refl refl refl refl

serializable_number : (classes : List ClassFile) (rest : List (List ℕ)) → AreFirst classes rest → class_number classes (codes "java/io/Serializable") ≡ Some 4
serializable_number classes rest first =
    ap (λ (texts : List (List ℕ)). number_of texts (codes "java/io/Serializable")) first.are
    ∙ position_later (same_text (codes "java/io/Serializable")) names.object (names.comparable ∷ names.char_sequence ∷ names.cloneable ∷ names.serializable ∷ rest) refl
    ∙ ap (option_map (λ (turn : ℕ). 1 + turn))
    (position_three (same_text (codes "java/io/Serializable")) names.comparable names.char_sequence names.cloneable names.serializable rest refl refl refl refl)

own_name : (classes : List ClassFile) (rest : List (List ℕ)) → AreFirst classes rest → (name : List ℕ) → class_number classes name ≡ Some 0 → is_object name ≡ true
own_name classes rest first name is =
    let at : slice_get (map name_of classes) 0 ≡ Some name = text_at (map name_of classes) name 0 is in
    let also : slice_get (map name_of classes) 0 ≡ Some names.object = ap (λ (texts : List (List ℕ)). slice_get texts 0) first.are in
    let same : name ≡ names.object = same_name name names.object (sym at ∙ also) in
    (bytes_decides name (codes "java/lang/Object")).1 same
  where
    same_name : (one other : List ℕ) → Some one ≡ Some other → one ≡ other
    same_name one other is = cc

module _ (one two three four five : ClassFile) (more : List ClassFile) where
  abbrev fronted : List ClassFile
  fronted = one ∷ two ∷ three ∷ four ∷ five ∷ more

  object_parents : IsRecordOf object_class one → parents (hierarchy fronted) 0 ≡ []
  object_parents of =
      ap₂ (λ (index : ℕ) (interfaces : List ℕ). listed (class_number_at fronted one.pool index) ++ flat_map (λ index. listed (class_number_at fronted one.pool index)) interfaces)
      of.superclass (none_zipped (λ name index. class_at one.pool index ≡ Some name) one.interfaces of.interfaces)

  cloneable_is : IsRecordOf cloneable_interface four → is_interface (hierarchy fronted) 3 ≡ true
  cloneable_is of = ap (has_flag acc_interface) of.flags

  serializable_is : IsRecordOf serializable_interface five → is_interface (hierarchy fronted) 4 ≡ true
  serializable_is of = ap (has_flag acc_interface) of.flags

pub fronted_by : (library more : List ClassFile) → AreLibrary library → IsFronted (library ++ more)
fronted_by [] more are = absurd are
fronted_by (one ∷ []) more are = absurd are.1
fronted_by (one ∷ two ∷ []) more are = absurd are.1.1
fronted_by (one ∷ two ∷ three ∷ []) more are = absurd are.1.1.1
fronted_by (one ∷ two ∷ three ∷ four ∷ []) more are = absurd are.1.1.1.1
fronted_by (one ∷ two ∷ three ∷ four ∷ five ∷ library) more are =
    let classes : List ClassFile = one ∷ two ∷ three ∷ four ∷ five ∷ library ++ more in
    let rest : List (List ℕ) = map name_of (library ++ more) in
    let first : AreFirst classes rest = record {
      are = λ i. or_none (are.0.name i) ∷ or_none (are.1.0.name i) ∷ or_none (are.1.1.0.name i) ∷ or_none (are.1.1.1.0.name i) ∷ or_none (are.1.1.1.1.0.name i) ∷ rest;
    } in
    record {
      object = object_number classes rest first;
      last = object_parents one two three four five (library ++ more) are.0;
      own = own_name classes rest first;
      cloneable = ap (interface_at classes) (cloneable_number classes rest first) ∙ cloneable_is one two three four five (library ++ more) are.1.1.1.0;
      serializable = ap (interface_at classes) (serializable_number classes rest first) ∙ serializable_is one two three four five (library ++ more) are.1.1.1.1.0;
    }

-- ---- the order

module _ (classes : List ClassFile) (methods : List RankedMethod) (front : IsFronted classes) (good : AreGood (hierarchy classes) methods) (extend : AllByRecursion ExtendsObject classes) where
  object_super : (class : ℕ) (own : ClassFile) → slice_get classes class ≡ Some own → is_interface (hierarchy classes) class ≡ true → superclass (hierarchy classes) class ≡ 0 ∷ []
  object_super class own at is =
      let there : slice_get (hierarchy classes) class ≡ Some (ranked classes own) = slice_get-map (ranked classes) classes class ∙ ap (option_map (ranked classes)) at in
      let interface : has_flag acc_interface own.flags.0 ≡ true = (rw there at is) in
      let named : class_at own.pool own.super_class ≡ Some (codes "java/lang/Object") = all_at ExtendsObject classes class own extend at interface in
      let number : class_number_at classes own.pool own.super_class ≡ Some 0 = ap (option_and_then (class_number classes)) named ∙ front.object in
      rw there (ap listed number)

  pub each_parent : (class parent : ℕ) → is_interface (hierarchy classes) class ≡ true → Contains (parents (hierarchy classes) class) parent → (is_interface (hierarchy classes) parent ≡ true) ⊎ (parent ≡ 0)
  each_parent class parent is among = go (slice_get classes class) refl where
    only : Contains (0 ∷ []) parent → parent ≡ 0
    only (zero, low, is) = sym is
    only (suc place, low, is) = absurd (omega (arith, low))

    go : (own : Option ClassFile) → slice_get classes class ≡ own → (is_interface (hierarchy classes) parent ≡ true) ⊎ (parent ≡ 0)
    go None at =
        let there : slice_get (hierarchy classes) class ≡ None = slice_get-map (ranked classes) classes class ∙ ap (option_map (ranked classes)) at in
        let none : is_interface (hierarchy classes) class ≡ false = rw there refl in
        absurd (false≢true (sym none ∙ is))
    go (Some own) at = elim (Contains-append_cases (superclass (hierarchy classes) class) (superinterfaces (hierarchy classes) class) parent among) [
      | inl super ↦ inr (only (subst (λ (list : List ℕ). Contains list parent) (object_super class own at is) super))
      | inr interface ↦ inl (true_from_ne_false (is_interface (hierarchy classes) parent)
          (λ none. good class (named_in (hierarchy classes) class parent among) (ImplementsClass parent interface none)))
    ]

  interface_below : (one other : List ℕ) → is_below classes one other ≡ true → names_interface classes one ≡ true → names_interface classes other ≡ false → is_object other ≡ true
  interface_below one other is interface none =
      let them : IsBetween classes one other = between_them classes one other is in
      let lower : is_interface (hierarchy classes) them.lower ≡ true = sym (ap (interface_at classes) them.from) ∙ interface in
      let upper : is_interface (hierarchy classes) them.upper ≡ false = sym (ap (interface_at classes) them.to) ∙ none in
      elim (subclass_above (hierarchy classes) them.lower them.upper them.below) [
        | inl same ↦ absurd (false≢true (sym upper ∙ ap (is_interface (hierarchy classes)) (sym same) ∙ lower))
        | inr above ↦ elim (above_interface (hierarchy classes) 0 front.last each_parent them.lower them.upper above lower) [
          | inl also ↦ absurd (false≢true (sym upper ∙ also))
          | inr object ↦ front.own other (them.to ∙ ap Some object)
        ]
      ]

  object_below : (other : List ℕ) → is_below classes (codes "java/lang/Object") other ≡ true → is_object other ≡ true
  object_below other is =
      let them : IsBetween classes (codes "java/lang/Object") other = between_them classes (codes "java/lang/Object") other is in
      let zeroth : them.lower ≡ 0 = number_same them.lower 0 (sym them.from ∙ front.object) in
      elim (subclass_above (hierarchy classes) them.lower them.upper them.below) [
        | inl same ↦ front.own other (them.to ∙ ap Some (sym same ∙ zeroth))
        | inr above ↦ absurd (none_above (parents (hierarchy classes)) them.lower them.upper (ap (parents (hierarchy classes)) zeroth ∙ front.last) above)
      ]
    where
      number_same : (lower upper : ℕ) → Some lower ≡ Some upper → lower ≡ upper
      number_same lower upper is = cc

  ordered : HasOrder classes
  ordered = record {
    transitive = below_next classes methods good;
    object_last = object_below;
    of_interface = interface_below;
    cloneable = front.cloneable;
    serializable = front.serializable;
  }

has_order : (library more : List ClassFile) → AreLibrary library → AllByRecursion ExtendsObject more → AreGood (hierarchy (library ++ more)) (ranked_methods (library ++ more)) → HasOrder (library ++ more)
has_order library more are extend good =
    ordered (library ++ more) (ranked_methods (library ++ more)) (fronted_by library more are) good (all_both ExtendsObject library more (library_extends library are) extend)

-- a class that is read keeps the rule
pub formed_extends : (class : ClassFile) → IsWellFormed class → ExtendsObject class
formed_extends class (bytes, spelled) interface = (spelled.behind.rules.alone.as_interface (eqb-true _ _ interface)).superclass

formed_order : (library more : List ClassFile) → AreLibrary library → AllByRecursion IsWellFormed more → AreGood (hierarchy (library ++ more)) (ranked_methods (library ++ more)) → HasOrder (library ++ more)
formed_order library more are formed good = has_order library more are (all_weaker IsWellFormed ExtendsObject formed_extends more formed) good

-- the classes of a program
pub program_order : (program : Linked) (library more : List ClassFile) → program.classes ≡ library ++ more → AreLibrary library → AllByRecursion IsWellFormed more → IsWhole program
    → HasOrder program.classes
program_order program library more is are formed whole =
    subst HasOrder (sym is) (formed_order library more are formed (subst (λ (classes : List ClassFile). AreGood (hierarchy classes) (ranked_methods classes)) is whole.good))
