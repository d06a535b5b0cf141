-- The superclass of each class of a program is there, and the classes that its instructions name.
use Rattle.std.proofs.Common.{◌≡◌, ◌∙◌, inl, inr, ap, arith, refl, sym, subst, ℕ, zero, suc, ◌==◌, Bool, true, false, cond, not, ◌&&◌, List, [], ◌∷◌, ◌++◌, Option, Some, None, option_and_then}
use Rattle.std.specs.Prelude.{IsSomeAnd, slice_get}
use Rattle.std.specs.List.{AllByRecursion, AllZip, flat_map, list_all}
use Rattle.std.proofs.lemmas.Bool.{and_parts, false≢true}
use Rattle.std.proofs.lemmas.Bool.Decides.{nat_tests}
use Rattle.std.proofs.lemmas.Option.{none-some, same_Some}
use Rattle.cb_io.specs.Folder.{Files}
use Rattle.cb_text.specs.Naming.{class_at, name_of_class, text_at}
use Rattle.cb_text.specs.Pool.{constant_at}
use Rattle.cb_text.specs.declared.constant.Constant.{Constant}
use Rattle.cb_text.specs.declared.constant.Constant.TheVariants as constants
use Rattle.cb_names.specs.Names.{IsClassName}
use Rattle.cb_names.specs.Signs.{bracket}
use Rattle.cb_insn.specs.declared.insn.Insn.{Insn}
use Rattle.cb_classfile.specs.Class.{IsWellFormed}
use Rattle.cb_classfile.specs.Library.{AreLibrary, IsRecordOf, SaysSuperclass}
use Rattle.cb_classfile.specs.Needed.{index_in}
use Rattle.cb_classfile.specs.Profile.{is_array as begins_array}
use Rattle.cb_classfile.specs.declared.body.Body.{Body}
use Rattle.cb_classfile.specs.declared.class.ClassFile.{ClassFile}
use Rattle.cb_classfile.specs.declared.method.Method.{Method}
use Rattle.cb_kinds.specs.Kinds.{is_array}
use Rattle.cb_library.specs.CoreClasses.{core_classes}
use Rattle.cb_library.specs.Rows.{CoreClass}
use Rattle.cb_link.specs.Making.{named_in}
use Rattle.cb_link.specs.Numbers.{class_number}
use Rattle.cb_load.specs.Loading.{AreLoaded}
use Rattle.cb_load.specs.Names.{Entry, all_of, body_names, class_names, class_names_at, constant_names, frame_names, handler_names, insn_names, mentioned, method_names, names_at, names_in, names_of, needed}
use Rattle.cb_load.proofs.LoadFormed.{loaded_formed}
use Rattle.cb_load.proofs.NamesPlain.{plain_name}
use Rattle.cb_load.proofs.NeededThere.{all_at, all_both, all_parts, all_weaker, names_by, needed_there}

-- ---- names of arrays

flipped : (one other : ℕ) → (one == other) ≡ false → (other == one) ≡ false
flipped one other is = grind (arith, nat_tests)

no_brackets : (name : List ℕ) → is_array name ≡ false → begins_array name ≡ false
no_brackets [] none = refl
no_brackets (unit ∷ rest) none = ap (λ (test : Bool). test && true) (flipped unit bracket none)

own_name : (name : List ℕ) → is_array name ≡ false → class_names name ≡ name ∷ []
own_name name none = ap (λ (test : Bool). cond test (names_in name) (name ∷ [])) (no_brackets name none)

-- ---- the name of a superclass is no array's

plain_of : (found : Option (List ℕ)) (name : List ℕ) → IsSomeAnd found IsClassName → found ≡ Some name → is_array name ≡ false
plain_of None name is told = absurd is
plain_of (Some own) name is told = subst (λ (name : List ℕ). is_array name ≡ false) (same_Some own name told) (plain_name own is)

abbrev HasPlain : ClassFile → Type 0
HasPlain class = (name : List ℕ) → class_at class.pool class.super_class ≡ Some name → is_array name ≡ false

formed_plain : (class : ClassFile) → IsWellFormed class → HasPlain class
formed_plain class (bytes, spelled) name is = elim spelled.behind.rules.alone.classes.superclass [
  | inl zeroth ↦ absurd (none-some name (sym (ap (class_at class.pool) zeroth) ∙ is))
  | inr named ↦ plain_of (class_at class.pool class.super_class) name named is
]

abbrev super_plain : CoreClass → Bool
super_plain row = plain row.superclass where
  plain : Option (List ℕ) → Bool
  plain None = true
  plain (Some name) = not (is_array name)

all_plain : list_all super_plain core_classes ≡ true
all_plain = refl

not_true : (test : Bool) → not test ≡ true → test ≡ false
not_true true is = absurd (false≢true is)
not_true false is = refl

record_plain : (row : CoreClass) (class : ClassFile) → IsRecordOf row class → super_plain row ≡ true → HasPlain class
record_plain row class of plain name is = go row.superclass of.superclass plain where
  test : Option (List ℕ) → Bool
  test None = true
  test (Some name) = not (is_array name)

  go : (super : Option (List ℕ)) → SaysSuperclass class.pool super class.super_class → test super ≡ true → is_array name ≡ false
  go None says plain = absurd (none-some name (sym (ap (class_at class.pool) says) ∙ is))
  go (Some own) says plain = subst (λ (name : List ℕ). is_array name ≡ false) (same_Some own name (sym says ∙ is)) (not_true (is_array own) plain)

library_plain : (table : List CoreClass) (classes : List ClassFile) → AllZip IsRecordOf table classes → list_all super_plain table ≡ true → AllByRecursion HasPlain classes
library_plain [] [] are plain = tt
library_plain [] (class ∷ classes) are plain = absurd are
library_plain (row ∷ table) [] are plain = absurd are
library_plain (row ∷ table) (class ∷ classes) are plain =
    let (here, later) = and_parts (super_plain row) (list_all super_plain table) plain in (record_plain row class are.0 here, library_plain table classes are.1 later)

-- ---- what is so of the names that a class needs

all_part : {Item Part : Type 0} (P : Part → Type 0) (parts : Item → List Part) (items : List Item) (place : ℕ) (item : Item) → AllByRecursion P (flat_map parts items)
    → slice_get items place ≡ Some item → AllByRecursion P (parts item)
all_part P parts [] place item all is = absurd (none-some item is)
all_part P parts (first ∷ items) zero item all is =
    subst (λ item. AllByRecursion P (parts item)) (same_Some first item is) (all_parts P (parts first) (flat_map parts items) all).0
all_part P parts (first ∷ items) (suc place) item all is = all_part P parts items place item (all_parts P (parts first) (flat_map parts items) all).1 is

abbrev Needs : (List ℕ → Type 0) → Entry → Type 0
Needs P entry = entry.needed ≡ true → P entry.name

one_needed : (P : List ℕ → Type 0) (name : List ℕ) → is_array name ≡ false → AllByRecursion (Needs P) (needed (class_names name)) → P name
one_needed P name none all = (subst (λ (names : List (List ℕ)). AllByRecursion (Needs P) (needed names)) (own_name name none) all).0 refl

module _ (P : List ℕ → Type 0) (class : ClassFile) (all : AllByRecursion (Needs P) (names_of class)) where
  abbrev supers : List Entry
  supers = needed (class_names_at class.pool class.super_class)

  abbrev interfaces : List Entry
  interfaces = needed (flat_map (class_names_at class.pool) class.interfaces)

  abbrev fields : List Entry
  fields = mentioned (flat_map (λ field. names_at class.pool field.descriptor) class.fields)

  abbrev methods : List Entry
  methods = flat_map (method_names class.pool) class.methods

  -- its superclass
  super_so : (name : List ℕ) → class_at class.pool class.super_class ≡ Some name → is_array name ≡ false → P name
  super_so name is none =
      let both = (all_parts (Needs P) ((supers ++ interfaces) ++ fields) methods all).0 in
      let front = (all_parts (Needs P) (supers ++ interfaces) fields both).0 in
      one_needed P name none
      (subst (λ (found : Option (List ℕ)). AllByRecursion (Needs P) (needed (all_of class_names found))) is (all_parts (Needs P) supers interfaces front).0)

  -- the class that a constant names
  constant_so : (index : ℕ) (name : List ℕ) → class_at class.pool index ≡ Some name → is_array name ≡ false → AllByRecursion (Needs P) (constant_names class.pool index) → P name
  constant_so index name is none so = go (constant_at class.pool index) refl is where
    go : (found : Option Constant) → constant_at class.pool index ≡ found → option_and_then (text_at class.pool) (option_and_then name_of_class found) ≡ Some name → P name
    go None there is = absurd (none-some name is)
    go (Some (constants.Class at)) there is =
        let own : AllByRecursion (Needs P) (names_by class.pool (Some (constants.Class at))) =
        subst (λ (found : Option Constant). AllByRecursion (Needs P) (names_by class.pool found)) there so in
        one_needed P name none (subst (λ (found : Option (List ℕ)). AllByRecursion (Needs P) (needed (all_of class_names found))) is own)
    go (Some other) there is = absurd (none-some name is)

  insn_so : (insn : Insn) (name : List ℕ) → named_in class.pool insn.operand ≡ Some name → is_array name ≡ false → AllByRecursion (Needs P) (insn_names class.pool insn) → P name
  insn_so insn name is none so = go (index_in insn.operand) refl is where
    names_at_index : Option ℕ → List Entry
    names_at_index None = []
    names_at_index (Some index) = constant_names class.pool index

    go : (found : Option ℕ) → index_in insn.operand ≡ found → option_and_then (class_at class.pool) found ≡ Some name → P name
    go None there is = absurd (none-some name is)
    go (Some index) there is = constant_so index name is none (subst (λ (found : Option ℕ). AllByRecursion (Needs P) (names_at_index found)) there so)

  named_so : (place turn : ℕ) (method : Method) (body : Body) (placed : ℕ × Insn) (name : List ℕ) → slice_get class.methods place ≡ Some method → method.body ≡ Some body
      → slice_get body.code turn ≡ Some placed → named_in class.pool placed.1.operand ≡ Some name → is_array name ≡ false → P name
  named_so place turn method body placed name at has stands is none =
      let of_methods = (all_parts (Needs P) ((supers ++ interfaces) ++ fields) methods all).1 in
      let of_method = all_part (Needs P) (method_names class.pool) class.methods place method of_methods at in
      let of_body : AllByRecursion (Needs P) (body_names class.pool (Some body)) =
      subst (λ (body : Option Body). AllByRecursion (Needs P) (body_names class.pool body)) has
      (all_parts (Needs P) (mentioned (names_at class.pool method.descriptor)) (body_names class.pool method.body) of_method).1 in
      let code : List Entry = flat_map (λ placed. insn_names class.pool placed.1) body.code in
      let handlers : List Entry = needed (flat_map (handler_names class.pool) body.handlers) in
      let frames : List Entry = mentioned (flat_map (frame_names class.pool) body.frames) in
      let of_code = (all_parts (Needs P) code handlers (all_parts (Needs P) (code ++ handlers) frames of_body).0).0 in
      insn_so placed.1 name is none (all_part (Needs P) (λ placed. insn_names class.pool placed.1) body.code turn placed of_code stands)

-- ---- of a program

module _ (files : Option Files) (root main : List ℕ) (library classes : List ClassFile) (are : AreLibrary library) (is : AreLoaded files root main classes) where
  abbrev IsHere : List ℕ → Type 0
  IsHere name = (other : ℕ) × (class_number (library ++ classes) name ≡ Some other)

  pub superclasses_there : (number : ℕ) (class : ClassFile) (name : List ℕ) → slice_get (library ++ classes) number ≡ Some class → class_at class.pool class.super_class ≡ Some name
      → (other : ℕ) × (class_number (library ++ classes) name ≡ Some other)
  superclasses_there number class name at named =
      super_so IsHere class (needed_there files root main library classes are is number class at) name named
      (all_at HasPlain (library ++ classes) number class
      (all_both HasPlain library classes (library_plain core_classes library are all_plain)
      (all_weaker IsWellFormed HasPlain formed_plain classes (loaded_formed files root main classes is))) at name named)

  pub named_there : (number place turn : ℕ) (class : ClassFile) (method : Method) (body : Body) (placed : ℕ × Insn) (name : List ℕ) → slice_get (library ++ classes) number ≡ Some class
      → slice_get class.methods place ≡ Some method → method.body ≡ Some body → slice_get body.code turn ≡ Some placed → named_in class.pool placed.1.operand ≡ Some name
      → is_array name ≡ false → (other : ℕ) × (class_number (library ++ classes) name ≡ Some other)
  named_there number place turn class method body placed name at lists has stands named none =
      named_so IsHere class (needed_there files root main library classes are is number class at) place turn method body placed name lists has stands named none
