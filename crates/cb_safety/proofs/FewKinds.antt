-- A linked program has no more kinds than an int can say: each begins at a unit of a text of a class, and the files of classes are short.
use Rattle.std.proofs.Common.{◌≡◌, ◌∙◌, ap, arith, refl, sym, subst, ℕ, zero, suc, ◌+◌, ◌*◌, ◌≤◌, ◌^◌, true, List, [], ◌∷◌, ◌++◌, length, map, nat_le, Option, Some, None, option_and_then, slice_get}
use Rattle.std.specs.Prelude.{IsSomeAnd}
use Rattle.std.specs.List.{AllByRecursion, AllZip, flat_map}
use Rattle.std.proofs.lemmas.Bool.{leb-true}
use Rattle.std.proofs.lemmas.List.{length-append}
use Rattle.std.proofs.lemmas.Option.{same_Some}
use Rattle.cb_text.specs.Naming.{text_at, units_of}
use Rattle.cb_text.specs.Pool.{constant_bytes, u2}
use Rattle.cb_text.specs.Text.{text_bytes}
use Rattle.cb_text.specs.declared.constant.Constant.{Constant}
use Rattle.cb_text.specs.declared.constant.Constant.TheVariants as constants
use Rattle.cb_names.specs.Names.{IsClassName}
use Rattle.cb_classfile.specs.Class.{IsWellFormed}
use Rattle.cb_classfile.specs.Library.{AreLibrary, IsRecordOf}
use Rattle.cb_classfile.specs.Pool.{class_at}
use Rattle.cb_classfile.specs.declared.class.ClassFile.{ClassFile}
use Rattle.cb_kinds.proofs.Laws.{entered_firsts, once_all, once_none}
use Rattle.cb_kinds.specs.Kinds.{kinds_of_name}
use Rattle.cb_kinds.specs.Texts.{EachOnce}
use Rattle.cb_library.specs.CoreClasses.{core_classes}
use Rattle.cb_library.specs.Rows.{CoreClass}
use Rattle.cb_link.specs.Making.{class_kinds, fixed_kinds, kinds, named_kinds}
use Rattle.cb_link.specs.Numbers.{name_of, or_none}
use Rattle.cb_link.specs.Program.{Linked}
use Rattle.cb_safety.specs.Constants.{HasClassObjects}
use Rattle.cb_safety.specs.Linked.{IsLinked}
use Rattle.cb_safety.specs.Loaded.{IsShort}
use Rattle.cb_safety.proofs.Assigned.{never}
use Rattle.cb_safety.proofs.Called.{all_changed}
use Rattle.cb_safety.proofs.ClassKinds.{IsSo, any_class, base_arrays, class_so, found_class}
use Rattle.cb_safety.proofs.CoreKinds.{class_objects}
use Rattle.cb_safety.proofs.Counting.{IsAmong, once_few}
use Rattle.cb_safety.proofs.Lettered.{all_firsts}
use Rattle.cb_safety.proofs.Linking.{front, linked_whole}
use Rattle.cb_safety.proofs.Lists.{all_both, all_given}
use Rattle.cb_safety.proofs.Located.{all_part, all_parts}
use Rattle.cb_safety.proofs.OwnStatics.{behind_front, still_there}
use Rattle.cb_safety.proofs.RowKinds.{record_says, row_texts}
use Rattle.cb_safety.proofs.Searching.{all_weaker}
use Rattle.cb_safety.proofs.Starts.{starts, text_kinds}
use Rattle.cb_safety.proofs.Texted.{units_long}

-- ---- the kinds that the constants of a class may name, and how many they are

abbrev pub constant_kinds : Constant → List (List ℕ)
constant_kinds (constants.Utf8 units) = text_kinds units
constant_kinds other = []

abbrev pub pool_kinds : ClassFile → List (List ℕ)
pool_kinds class = flat_map constant_kinds class.pool

starts_count : (text : List ℕ) → length (starts text) ≡ length text + length text
starts_count [] = refl
starts_count (unit ∷ rest) = omega (arith, starts_count rest)

u2_long : (number : ℕ) → length (u2 number) ≡ 2
u2_long number = refl

utf8_count : (units : List ℕ) → length (text_kinds units) ≤ length (constant_bytes (constants.Utf8 units)) + length (constant_bytes (constants.Utf8 units))
utf8_count units =
    omega (
      arith,
      starts_count units,
      units_long units,
      u2_long (length (text_bytes units)),
      length-append (1 ∷ u2 (length (text_bytes units))) (text_bytes units),
    )

constant_count : (constant : Constant) → length (constant_kinds constant) ≤ length (constant_bytes constant) + length (constant_bytes constant)
constant_count (constants.Utf8 units) = utf8_count units
constant_count other = omega arith

pool_count : (pool : List Constant) → length (flat_map constant_kinds pool) ≤ length (flat_map constant_bytes pool) + length (flat_map constant_bytes pool)
pool_count [] = omega arith
pool_count (constant ∷ pool) =
    omega (
      arith,
      constant_count constant,
      pool_count pool,
      length-append (constant_kinds constant) (flat_map constant_kinds pool),
      length-append (constant_bytes constant) (flat_map constant_bytes pool),
    )

class_count : (class : ClassFile) → IsShort class → length (pool_kinds class) ≤ 2097152
class_count class (bytes, short, spelled) =
    let contents = spelled.behind.spelled in
    let one : length bytes ≡ length spelled.first + length spelled.second = ap (λ (bytes : List ℕ). length bytes) spelled.spelled ∙ length-append spelled.first spelled.second in
    let two : length spelled.second ≡ length contents.first + length contents.second = ap (λ (bytes : List ℕ). length bytes) contents.spelled ∙ length-append contents.first contents.second in
    let three : length contents.first ≡ length (u2 (length class.pool + 1)) + length (flat_map constant_bytes class.pool) =
    ap (λ (bytes : List ℕ). length bytes) contents.here.spelled ∙ length-append (u2 (length class.pool + 1)) (flat_map constant_bytes class.pool) in
    omega (arith, short, one, two, three, pool_count class.pool)

classes_count : (classes : List ClassFile) → AllByRecursion IsShort classes → length (flat_map pool_kinds classes) ≤ length classes * 2097152
classes_count [] all = omega arith
classes_count (class ∷ classes) all =
    omega (arith, class_count class all.0, classes_count classes all.1, length-append (pool_kinds class) (flat_map pool_kinds classes))

-- ---- what is among others

among_front : (one other : List (List ℕ)) (text : List ℕ) → IsAmong one text → IsAmong (one ++ other) text
among_front one other text (place, is) = (place, still_there one other place text is)

among_behind : (one other : List (List ℕ)) (text : List ℕ) → IsAmong other text → IsAmong (one ++ other) text
among_behind one other text (place, is) = (length one + place, behind_front one other place ∙ is)

all_front : (one other texts : List (List ℕ)) → AllByRecursion (IsAmong one) texts → AllByRecursion (IsAmong (one ++ other)) texts
all_front one other texts all = all_weaker (IsAmong one) (IsAmong (one ++ other)) (among_front one other) texts all

all_behind : (one other texts : List (List ℕ)) → AllByRecursion (IsAmong other) texts → AllByRecursion (IsAmong (one ++ other)) texts
all_behind one other texts all = all_weaker (IsAmong other) (IsAmong (one ++ other)) (among_behind one other) texts all

all_among : (texts : List (List ℕ)) → AllByRecursion (IsAmong texts) texts
all_among [] = tt
all_among (text ∷ texts) = ((0, refl), all_weaker (IsAmong texts) (IsAmong (text ∷ texts)) (λ other found. (suc found.0, found.1)) texts (all_among texts))

each_part : {Item : Type 0} (parts : Item → List (List ℕ)) (items : List Item) → AllByRecursion (λ item. AllByRecursion (IsAmong (flat_map parts items)) (parts item)) items
each_part parts [] = tt
each_part parts (first ∷ items) = (
  all_front (parts first) (flat_map parts items) (parts first) (all_among (parts first)),
  all_weaker (λ item. AllByRecursion (IsAmong (flat_map parts items)) (parts item)) (λ item. AllByRecursion (IsAmong (parts first ++ flat_map parts items)) (parts item))
      (λ item. all_behind (parts first) (flat_map parts items) (parts item)) items (each_part parts items),
)

parts_each : {Item : Type 0} (P : List ℕ → Type 0) (parts : Item → List (List ℕ)) (items : List Item) → AllByRecursion P (flat_map parts items) → AllByRecursion (λ item. AllByRecursion P (parts item)) items
parts_each P parts [] all = tt
parts_each P parts (first ∷ items) all = let (here, later) = all_parts P (parts first) (flat_map parts items) all in (here, parts_each P parts items later)

-- ---- all that may be kinds of a program

abbrev pub fixed_names : List (List ℕ)
fixed_names = flat_map kinds_of_name fixed_kinds

abbrev pub library_texts : List (List ℕ)
library_texts = flat_map row_texts core_classes

abbrev pub library_kinds : List (List ℕ)
library_kinds = flat_map text_kinds library_texts

library_few : nat_le (length library_kinds) 1048576 ≡ true
library_few = refl

fixed_few : nat_le (length fixed_names) 64 ≡ true
fixed_few = refl

abbrev pub own_kinds : List (List ℕ)
own_kinds = (base_arrays ++ fixed_names) ++ library_kinds

abbrev pub candidates : List ClassFile → List (List ℕ)
candidates more = own_kinds ++ flat_map pool_kinds more

candidates_few : (more : List ClassFile) → AllByRecursion IsShort more → 50 + length more ≤ 1024 → length (candidates more) ≤ 2 ^ 31
candidates_few more all few =
    omega (
      arith,
      few,
      classes_count more all,
      leb-true (length library_kinds) 1048576 library_few,
      leb-true (length fixed_names) 64 fixed_few,
      length-append own_kinds (flat_map pool_kinds more),
      length-append (base_arrays ++ fixed_names) library_kinds,
      length-append base_arrays fixed_names,
    )

module _ (more : List ClassFile) where
  abbrev May : List ℕ → Type 0
  May = IsAmong (candidates more)

  of_own : (texts : List (List ℕ)) → AllByRecursion (IsAmong own_kinds) texts → AllByRecursion May texts
  of_own texts all = all_front own_kinds (flat_map pool_kinds more) texts all

  bases : AllByRecursion May base_arrays
  bases = of_own base_arrays (all_front (base_arrays ++ fixed_names) library_kinds base_arrays (all_front base_arrays fixed_names base_arrays (all_among base_arrays)))

  fixed : AllByRecursion May fixed_names
  fixed = of_own fixed_names (all_front (base_arrays ++ fixed_names) library_kinds fixed_names (all_behind base_arrays fixed_names fixed_names (all_among fixed_names)))

  -- ---- the library's classes

  abbrev So : List ℕ → Type 0
  So = IsSo May bases

  texts_so : AllByRecursion So library_texts
  texts_so =
      all_weaker (λ (text : List ℕ). AllByRecursion (IsAmong library_kinds) (text_kinds text)) So
      (λ text all. of_own (text_kinds text) (all_behind (base_arrays ++ fixed_names) library_kinds (text_kinds text) all)) library_texts (each_part text_kinds library_texts)

  abbrev IsIn : ClassFile → Type 0
  IsIn class = May (name_of class) × AllByRecursion May (class_kinds class)

  library_in : (table : List CoreClass) (classes : List ClassFile) → AllZip IsRecordOf table classes → AllByRecursion (λ row. AllByRecursion So (row_texts row)) table → AllByRecursion IsIn classes
  library_in [] [] are all = tt
  library_in [] (class ∷ classes) are all = absurd are
  library_in (row ∷ table) [] are all = absurd are
  library_in (row ∷ table) (class ∷ classes) are all = (
    (subst May (sym (ap or_none are.0.name)) all.0.0.0, class_so May bases class (record_says May bases row class are.0 all.0)),
    library_in table classes are.1 all.1,
  )

  -- ---- the others

  pool_text : (class : ClassFile) → AllByRecursion May (pool_kinds class) → (index : ℕ) (text : List ℕ) → text_at class.pool index ≡ Some text → So text
  pool_text class all zero text is = never is
  pool_text class all (suc place) text is = go (slice_get class.pool place) refl is where
    go : (found : Option Constant) → slice_get class.pool place ≡ found → option_and_then units_of found ≡ Some text → So text
    go None there is = never is
    go (Some (constants.Utf8 units)) there is =
        subst So (same_Some units text is) (all_part May constant_kinds class.pool place (constants.Utf8 units) all there)
    go (Some other) there is = never is

  class_in : (class : ClassFile) → IsWellFormed class → AllByRecursion May (pool_kinds class) → IsIn class
  class_in class (bytes, spelled) all =
      let both = any_class May bases class.pool has class.fields class.methods in
      (named (class_at class.pool class.this_class) refl spelled.behind.rules.alone.classes.named, class_so May bases class (record { fields = both.0; methods = both.1 }))
    where
      has : (index : ℕ) (text : List ℕ) → text_at class.pool index ≡ Some text → So text
      has = pool_text class all

      named : (found : Option (List ℕ)) → class_at class.pool class.this_class ≡ found → IsSomeAnd found IsClassName → May (or_none found)
      named None is some = absurd some
      named (Some name) is some = (found_class May bases class.pool has class.this_class name is).0

  classes_in : (classes : List ClassFile) → AllByRecursion IsWellFormed classes → AllByRecursion (λ class. AllByRecursion May (pool_kinds class)) classes → AllByRecursion IsIn classes
  classes_in [] formed all = tt
  classes_in (class ∷ classes) formed all = (class_in class formed.0 all.0, classes_in classes formed.1 all.1)

  more_in : AllByRecursion IsWellFormed more → AllByRecursion IsIn more
  more_in formed =
      classes_in more formed
      (all_weaker (λ (class : ClassFile). AllByRecursion (IsAmong (flat_map pool_kinds more)) (pool_kinds class)) (λ (class : ClassFile). AllByRecursion May (pool_kinds class))
      (λ class. all_behind own_kinds (flat_map pool_kinds more) (pool_kinds class)) more (each_part pool_kinds more))

  named_in : (classes : List ClassFile) → AllByRecursion IsIn classes → AllByRecursion May (named_kinds classes)
  named_in classes all =
      all_both May (map name_of classes ++ flat_map class_kinds classes) fixed_names
      (all_both May (map name_of classes) (flat_map class_kinds classes)
      (all_changed May name_of classes (all_weaker IsIn (λ (class : ClassFile). May (name_of class)) (λ class own. own.0) classes all))
      (all_given IsIn May class_kinds classes (λ class own. own.1) all))
      fixed

kinds_once : (classes : List ClassFile) → EachOnce (kinds classes)
kinds_once classes = subst EachOnce (entered_firsts (named_kinds classes)) (once_all [] (named_kinds classes) once_none)

pub kinds_among : (library more : List ClassFile) → AreLibrary library → AllByRecursion IsWellFormed more → AllByRecursion (IsAmong (candidates more)) (kinds (library ++ more))
kinds_among library more are formed =
    all_firsts (IsAmong (candidates more)) (named_kinds (library ++ more))
    (named_in more (library ++ more)
    (all_both (IsIn more) library more (library_in more core_classes library are (parts_each (So more) row_texts core_classes (texts_so more))) (more_in more formed)))

kinds_few : (library more : List ClassFile) → AreLibrary library → AllByRecursion IsWellFormed more → AllByRecursion IsShort more → 50 + length more ≤ 1024
    → length (kinds (library ++ more)) ≤ 2 ^ 31
kinds_few library more are formed short few =
    let among : AllByRecursion (IsAmong (candidates more)) (kinds (library ++ more)) = kinds_among library more are formed in
    let one : length (kinds (library ++ more)) ≤ length (candidates more) = once_few (kinds (library ++ more)) (candidates more) (kinds_once (library ++ more)) among in
    omega (arith, one, candidates_few more short few)

few_kinds : (program : Linked) → IsLinked program → length program.kinds ≤ 2 ^ 31
few_kinds program is =
    subst (λ (kinds : List (List ℕ)). length kinds ≤ 2 ^ 31) (sym ((linked_whole program is).kinds ∙ ap kinds (front program is)))
    (kinds_few is.library is.more is.is_library is.well_formed is.short is.few)

pub has_class_objects : (program : Linked) → IsLinked program → HasClassObjects program
has_class_objects program is = record { objects = class_objects program is; few = few_kinds program is }
