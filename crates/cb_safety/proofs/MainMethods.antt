-- The method with which a program that is linked begins.
use Rattle.std.proofs.Common.{◌≡◌, ◌∙◌, ◌⊎◌, inl, inr, ap, refl, sym, subst, ℕ, zero, suc, ◌==◌, Bool, true, false, not, List, [], ◌∷◌, ◌++◌, map, Option, Some, None, option_and_then, option_map, slice_get}
use Rattle.std.specs.Prelude.{bit_and, codes}
use Rattle.std.specs.Cmp.Lexicographic.{bytes_decides}
use Rattle.std.specs.List.{AllByRecursion, list_all}
use Rattle.std.proofs.lemmas.Bool.{eq-eqb, eqb-true, false≢true}
use Rattle.std.proofs.lemmas.Option.{option_and_then_some, same_Some, slice_get-map}
use Rattle.cb_classfile.specs.Class.{IsWellFormed}
use Rattle.cb_classfile.specs.Flags.{HasFlag, acc_native, acc_static, acc_synchronized}
use Rattle.cb_classfile.specs.Library.{AreLibrary, IsRecordOf, SaysMethod}
use Rattle.cb_classfile.specs.Members.{IsMethod}
use Rattle.cb_classfile.specs.Pool.{text_at}
use Rattle.cb_classfile.specs.Profile.{body_items, constant_item, descriptor_item_at, first_of, is_finalizer, item_if, method_item}
use Rattle.cb_classfile.specs.declared.body.Body.{Body}
use Rattle.cb_classfile.specs.declared.class.ClassFile.{ClassFile}
use Rattle.cb_classfile.specs.declared.feature.Feature.{Feature}
use Rattle.cb_classfile.specs.declared.feature.Feature.TheVariants.{Finalize, Native, Synchronized}
use Rattle.cb_classfile.specs.declared.field.Field.{Field}
use Rattle.cb_classfile.specs.declared.method.Method.{Method}
use Rattle.cb_hierarchy.specs.Members.{method_of}
use Rattle.cb_hierarchy.specs.Orders.{upwards}
use Rattle.cb_hierarchy.specs.Resolution.{first_some, method_is}
use Rattle.cb_hierarchy.specs.declared.member.Method.{Method as RankedMethod}
use Rattle.cb_kinds.specs.Texts.{number_of_pair, same_text}
use Rattle.cb_kinds.specs.declared.basic.Basic.TheVariants as basics
use Rattle.cb_library.specs.CoreClasses.{core_classes}
use Rattle.cb_library.specs.Rows.{CoreClass}
use Rattle.cb_library.specs.Rows as rows
use Rattle.cb_link.specs.Having.{IsWhole}
use Rattle.cb_link.specs.Numbers.{Numbered, class_number, has_flag, hierarchy, method_texts, methods_of, or_none, ranked_method, ranked_methods}
use Rattle.cb_link.specs.Program.{Linked}
use Rattle.cb_link.specs.Resolving.{main_method, main_texts, static_one}
use Rattle.cb_machine.specs.Sites.{arguments}
use Rattle.cb_text.specs.declared.constant.Constant.{Constant}
use Rattle.cb_safety.specs.Linked.{IsLinked}
use Rattle.cb_safety.specs.Loaded.{IsSupported}
use Rattle.cb_safety.specs.Main.{HasMain}
use Rattle.cb_safety.proofs.Assigned.{never, when}
use Rattle.cb_safety.proofs.Declared.{Declares, declared_by}
use Rattle.cb_safety.proofs.Exceptions.{HasRow, fixed_site, row_zipped}
use Rattle.cb_safety.proofs.Linking.{front, linked_begins, linked_formed, linked_good, linked_whole}
use Rattle.cb_safety.proofs.Lists.{all_at}
use Rattle.cb_safety.proofs.MethodNames.{HasWithin, IsFound, class_methods, gives_by, has_within, method_found, name_there, some_body, takes_by}
use Rattle.cb_safety.proofs.Resolved.{first_some_at}
use Rattle.cb_safety.proofs.Searching.{all_pass}

-- ---- how it is found

pub record IsMain (classes : List ClassFile) (number : ℕ) : Type 0 where
  pub class : ℕ
  pub found : IsFound classes class number main_texts
  pub static : has_flag acc_static found.own.member.flags.0 ≡ true

abbrev static_of : Option RankedMethod → Bool
static_of None = false
static_of (Some method) = method.is_static

static_there : (classes : List ClassFile) (found : Option ℕ) (number : ℕ) → static_one classes found ≡ Some number
    → (found ≡ Some number) × (method_is (ranked_methods classes) (λ own. own.is_static) number ≡ true)
static_there classes None number is = never is
static_there classes (Some own) number is =
    let both = when (method_is (ranked_methods classes) (λ own. own.is_static) own) (Some own) number is in
    (both.1, subst (λ (number : ℕ). method_is (ranked_methods classes) (λ own. own.is_static) number ≡ true) (same_Some own number both.1) both.0)

is_main : (classes : List ClassFile) (name : List ℕ) (number : ℕ) → main_method classes name ≡ Some number → IsMain classes number
is_main classes name number is =
    option_and_then_some
    (λ (class : ℕ). option_and_then (λ (signature : ℕ). first_some (map (λ (number : ℕ). static_one classes (method_of (ranked_methods classes) number signature)) (upwards (hierarchy classes) class)))
    (number_of_pair (method_texts classes) main_texts)) (class_number classes name) number is
    (λ own named rest.
    option_and_then_some (λ (signature : ℕ). first_some (map (λ (number : ℕ). static_one classes (method_of (ranked_methods classes) number signature)) (upwards (hierarchy classes) own)))
    (number_of_pair (method_texts classes) main_texts) number rest
    (λ signature signed first.
    let (class, among) = first_some_at (λ (number : ℕ). static_one classes (method_of (ranked_methods classes) number signature)) (upwards (hierarchy classes) own) number first in
    let both = static_there classes (method_of (ranked_methods classes) class signature) number among.1 in
    let found : IsFound classes class number main_texts = method_found classes class signature number main_texts signed both.0 in
    record {
      class = class;
      found = found;
      static =
          sym (ap static_of (slice_get-map (ranked_method classes) (methods_of classes) number ∙ ap (option_map (ranked_method classes)) found.there)) ∙ both.1;
    }))

-- ---- it is no native

no_item : (items : List (Option Feature)) → first_of items ≡ None → AllByRecursion (λ item. item ≡ None) items
no_item [] is = tt
no_item (None ∷ items) is = (refl, no_item items is)
no_item (Some item ∷ items) is = never (sym is)

last_none : (items more : List (Option Feature)) → AllByRecursion (λ item. item ≡ None) (items ++ more) → AllByRecursion (λ item. item ≡ None) more
last_none [] more all = all
last_none (item ∷ items) more all = last_none items more all.1

item_none : (test : Bool) (item : Feature) → item_if test item ≡ None → test ≡ false
item_none true item is = never (sym is)
item_none false item is = refl

abbrev method_items : List Constant → Method → List (Option Feature)
method_items pool method =
    item_if (bit_and method.flags.0 acc_synchronized == acc_synchronized) Synchronized ∷ item_if (bit_and method.flags.0 acc_native == acc_native) Native
    ∷ item_if (is_finalizer pool method) Finalize ∷ descriptor_item_at pool method.descriptor ∷ body_items method.body

no_native : (class : ClassFile) → IsSupported class → (place : ℕ) (method : Method) → slice_get class.methods place ≡ Some method → ¬ HasFlag method.flags.0 acc_native
no_native class supported place method is native =
    let constants : List (Option Feature) = map (constant_item class.pool) class.pool in
    let fields : List (Option Feature) = map (λ (field : Field). descriptor_item_at class.pool field.descriptor) class.fields in
    let methods : List (Option Feature) = map (method_item class.pool) class.methods in
    let own : method_item class.pool method ≡ None =
    all_at (λ (item : Option Feature). item ≡ None) methods place (method_item class.pool method)
    (last_none fields methods (last_none constants (fields ++ methods) (no_item (constants ++ (fields ++ methods)) supported))) (slice_get-map (method_item class.pool) class.methods place ∙ ap (option_map (method_item class.pool)) is) in
    let parts = no_item (method_items class.pool method) own in
    false≢true (sym (item_none (bit_and method.flags.0 acc_native == acc_native) Native parts.1.0) ∙ eq-eqb _ _ native)

-- ---- nor one of the library's

abbrev main_name : List ℕ
main_name = codes "main"

abbrev has_no_main : CoreClass → Bool
has_no_main row = list_all (λ (method : rows.Method). not (same_text method.name main_name)) row.methods

none_have : list_all has_no_main core_classes ≡ true
none_have = refl

not_main : (name : List ℕ) → not (same_text name main_name) ≡ true → ¬ (name ≡ main_name)
not_main name is same = false≢true (sym (ap not ((bytes_decides name main_name).1 same)) ∙ is)

no_core_main : (library : List ClassFile) → AreLibrary library → (number place : ℕ) (class : ClassFile) (method : Method) → slice_get library number ≡ Some class
    → slice_get class.methods place ≡ Some method → ¬ (text_at class.pool method.name ≡ Some main_name)
no_core_main library are number place class method is there named =
    let row : HasRow IsRecordOf core_classes number class = row_zipped IsRecordOf core_classes library number class are is in
    let own : HasRow (SaysMethod class.pool) row.row.methods place method = row_zipped (SaysMethod class.pool) row.row.methods class.methods place method row.is.methods there in
    let none : has_no_main row.row ≡ true = all_at (λ (row : CoreClass). has_no_main row ≡ true) core_classes number row.row (all_pass has_no_main core_classes none_have) row.there in
    not_main own.row.name
    (all_at (λ (method : rows.Method). not (same_text method.name main_name) ≡ true) row.row.methods place own.row
    (all_pass (λ (method : rows.Method). not (same_text method.name main_name)) row.row.methods none) own.there)
    (same_Some own.row.name main_name (sym own.is.name ∙ named))

-- an item in front or behind
at_either : {Item : Type 0} (one other : List Item) (place : ℕ) (item : Item) → slice_get (one ++ other) place ≡ Some item
    → (slice_get one place ≡ Some item) ⊎ ((behind : ℕ) × (slice_get other behind ≡ Some item))
at_either [] other place item is = inr (place, is)
at_either (first ∷ one) other zero item is = inl is
at_either (first ∷ one) other (suc place) item is = at_either one other place item is

-- ---- of a program

module _ (program : Linked) (is : IsLinked program) where
  abbrev number : ℕ
  number = program.main_method

  whole : IsWhole program
  whole = linked_whole program is

  main : IsMain program.classes number
  main = subst (IsMain program.classes) (sym (linked_begins program is)) (is_main program.classes is.main is.method (linked_good program is).begins)

  abbrev own : Numbered Method
  own = main.found.own

  declares : Declares program.classes own
  declares = declared_by program.classes number own main.found.there

  rules : IsMethod declares.declaring.pool own.member
  rules =
      all_at (IsMethod declares.declaring.pool) declares.declaring.methods own.place own.member
      (class_methods declares.declaring (all_at IsWellFormed program.classes own.class declares.declaring (linked_formed program is) declares.there)) declares.lists

  named : text_at declares.declaring.pool own.member.name ≡ Some main_name
  named = ap (λ (pool : List Constant). text_at pool own.member.name) (sym declares.pool) ∙ name_there program.classes main.class number _ _ _ main.found

  static : HasFlag own.member.flags.0 acc_static
  static = eqb-true _ _ main.static

  no_natives : ¬ HasFlag own.member.flags.0 acc_native
  no_natives = elim (at_either is.library is.more own.class declares.declaring (sym (ap (λ (classes : List ClassFile). slice_get classes own.class) (front program is)) ∙ declares.there)) [
    | inl core ↦ absurd (no_core_main is.library is.is_library own.class own.place declares.declaring own.member core declares.lists named)
    | inr loaded ↦ no_native declares.declaring (all_at IsSupported is.more loaded.0 declares.declaring is.supported loaded.1) own.place own.member declares.lists
  ]

  body : (own_body : Body) × (own.member.body ≡ Some own_body)
  body = some_body own.member.body (rules.code.1 ((λ abstract. (rules.abstract_method abstract).0 static), no_natives))

  has : HasWithin program number own body.0
  has = has_within program whole number own main.found.there body.0 body.1

  descriptor : or_none (text_at own.pool own.member.descriptor) ≡ codes "([Ljava/lang/String;)V"
  descriptor = ap (λ (texts : List ℕ × List ℕ). texts.1) main.found.has

  pub has_main : HasMain program
  has_main = record {
    method = has.method;
    within = has.within;
    is_static = has.is_static ∙ main.static;
    takes =
        takes_by program whole number own main.found.there (codes "([Ljava/lang/String;)V") descriptor
        ∙ ap (λ (kind : ℕ). basics.Reference kind ∷ []) (sym (fixed_site program is.library is.more (front program is) is.is_library whole arguments));
    gives = gives_by program whole number own main.found.there (codes "([Ljava/lang/String;)V") descriptor;
  }
