-- What is asked of kinds is what their rows say.
use Rattle.std.proofs.Common.{◌≡◌, ◌∙◌, ap, refl, sym, subst, arith, ℕ, zero, suc, Bool, true, false, cond, ltb, List, [], ◌∷◌, ◌++◌, map, length, Option, Some, None, IfSome, ◌<◌, ◌==◌, ◌||◌}
use Rattle.std.specs.Prelude.{option_map, slice_get}
use Rattle.std.specs.Cmp.Lexicographic.{bytes_decides}
use Rattle.std.specs.List.{AllByRecursion, flat_map, list_any, position_or_len}
use Rattle.std.proofs.lemmas.Bool.{false≢true}
use Rattle.std.proofs.lemmas.Bool.Decides.{nat_tests}
use Rattle.std.proofs.lemmas.List.{length-map}
use Rattle.std.proofs.lemmas.List.Folds.{list_any-append}
use Rattle.std.proofs.lemmas.Option.{slice_get-map, slice_get_within}
use Rattle.cb_classfile.specs.declared.class.ClassFile.{ClassFile}
use Rattle.cb_kinds.specs.Basics.{component_of, kind_number}
use Rattle.cb_kinds.specs.Kinds.{kinds_of_name, type_of_name}
use Rattle.cb_kinds.specs.Texts.{number_of, same_text}
use Rattle.cb_kinds.proofs.Laws.{among_all, entered_firsts, number_among, text_at}
use Rattle.cb_link.specs.declared.kind_row.Inner.{Inner}
use Rattle.cb_link.specs.declared.kind_row.KindRow.{KindRow}
use Rattle.cb_link.specs.declared.kind_table.KindTable.{KindTable}
use Rattle.cb_link.specs.InnerKinds.{assignable_by, compared, inner_name, inner_of, instance_by, row_of}
use Rattle.cb_link.specs.Having.{HasOwnName, IsBelow}
use Rattle.cb_link.specs.Making.{class_kinds, fixed_kinds, kinds}
use Rattle.cb_link.specs.Numbers.{class_number, name_of, or_none}
use Rattle.cb_link.specs.Program.{Linked}
use Rattle.cb_link.specs.Subtypes.{assignable, between, instance, is_assignable, is_instance, is_object, is_subtype, names_interface}
use Rattle.cb_link.specs.InnerTables.{IsKindTable}
use Rattle.cb_link.proofs.FormedLaws.{subtype_by}
use Rattle.cb_link.proofs.KindsAmong.{element_low}
use Rattle.cb_link.proofs.Ranged.{number_low}

-- an item that is there is found
or_true : (test : Bool) → (test || true) ≡ true
or_true true = refl
or_true false = refl

any_at : (texts : List (List ℕ)) (place : ℕ) (text : List ℕ) → slice_get texts place ≡ Some text → list_any (same_text text) texts ≡ true
any_at [] place text here = absurd (omega (arith, slice_get_within {A = List ℕ} [] place text here))
any_at (first ∷ texts) zero text here =
    let same : text ≡ first = cc in
    ap (λ test. test || list_any (same_text text) texts) ((bytes_decides text first).1 same)
any_at (first ∷ texts) (suc place) text here = ap (λ test. same_text text first || test) (any_at texts place text here) ∙ or_true (same_text text first)

-- a number that is below is that of a text
numbered_low : (texts : List (List ℕ)) (text : List ℕ) → kind_number texts text < length texts → number_of texts text ≡ Some (kind_number texts text)
numbered_low texts text low =
    let is : ltb (position_or_len (same_text text) texts) (length texts) ≡ true = grind (arith, nat_tests) in
    ap (λ test. cond test (Some (position_or_len (same_text text) texts)) None) is

-- texts are the same where their numbers are
module _ (texts : List (List ℕ)) (place : ℕ) (one other : List ℕ) (here : slice_get texts place ≡ Some one) where
  numbered : number_of texts one ≡ Some (kind_number texts one)
  numbered = number_among texts one (any_at texts place one here)

  its_text : slice_get texts (kind_number texts one) ≡ Some one
  its_text = text_at texts one (kind_number texts one) numbered

  same_by_number : kind_number texts one ≡ kind_number texts other → same_text one other ≡ true
  same_by_number equal =
      let low : kind_number texts other < length texts = subst (λ number. number < length texts) equal (slice_get_within texts (kind_number texts one) one its_text) in
      let also : slice_get texts (kind_number texts other) ≡ Some other = text_at texts other (kind_number texts other) (numbered_low texts other low) in
      let first : slice_get texts (kind_number texts other) ≡ Some one = ap (slice_get texts) (sym equal) ∙ its_text in
      let same : one ≡ other = cc in
      (bytes_decides one other).1 same

  pub same_number : (kind_number texts one == kind_number texts other) ≡ same_text one other
  same_number = go (kind_number texts one == kind_number texts other) (same_text one other) refl refl
    where
      go : (equal same : Bool) → (kind_number texts one == kind_number texts other) ≡ equal → same_text one other ≡ same → equal ≡ same
      go true true is told = refl
      go false false is told = refl
      go true false is told =
          let equal : kind_number texts one ≡ kind_number texts other = grind (arith, nat_tests) in
          absurd (false≢true (sym told ∙ same_by_number equal))
      go false true is told =
          let equal : kind_number texts one ≡ kind_number texts other = ap (kind_number texts) ((bytes_decides one other).0 told) in
          absurd (grind (arith, nat_tests))

-- a row is that of a kind
pub record IsRowOf (program : Linked) (kind : ℕ) (row : KindRow) : Type 0 where
  pub here : slice_get program.kinds kind ≡ Some (or_none (slice_get program.kinds kind))
  pub is : row ≡ row_of program.classes program.kinds (or_none (slice_get program.kinds kind))

pub row_is : (program : Linked) (table : KindTable) → IsKindTable program table → (kind : ℕ) (row : KindRow) → slice_get table.rows kind ≡ Some row → IsRowOf program kind row
row_is program table is kind row there =
    let found = go (slice_get program.kinds kind) (sym (slice_get-map (row_of program.classes program.kinds) program.kinds kind) ∙ ap (λ rows. slice_get rows kind) (sym is.rows) ∙ there) in
    record { here = found.0; is = found.1 }
  where
    go : (found : Option (List ℕ)) → option_map (row_of program.classes program.kinds) found ≡ Some row
        → (found ≡ Some (or_none found)) × (row ≡ row_of program.classes program.kinds (or_none found))
    go None told = absurd (cc)
    go (Some name) told = let same : row_of program.classes program.kinds name ≡ row = cc in (refl, sym same)

-- the classes in it are there
class_low : (classes : List ClassFile) (name : List ℕ) → IfSome (class_number classes name) (λ class. class < length classes)
class_low classes name = go (class_number classes name) (λ class found. number_low (map name_of classes) name class found) where
  go : (found : Option ℕ) → ((class : ℕ) → found ≡ Some class → class < length (map name_of classes)) → IfSome found (λ class. class < length classes)
  go None low = tt
  go (Some class) low = subst (λ count. class < count) (length-map classes name_of) (low class refl)

module _ (program : Linked) (table : KindTable) (is : IsKindTable program table) where
  module _ (kind : ℕ) (row : KindRow) (there : slice_get table.rows kind ≡ Some row) where
    pub class_within : IfSome row.class (λ class. class < length program.classes)
    class_within =
        subst (λ (row : KindRow). IfSome row.class (λ class. class < length program.classes)) (sym (row_is program table is kind row there).is)
        (class_low program.classes (or_none (slice_get program.kinds kind)))

    pub inner_within : IfSome row.inner.class (λ class. class < length program.classes)
    inner_within =
        subst (λ (row : KindRow). IfSome row.inner.class (λ class. class < length program.classes)) (sym (row_is program table is kind row there).is)
        (class_low program.classes (inner_name (or_none (slice_get program.kinds kind))))

    -- and so are its elements
    pub element_within : program.kinds ≡ kinds program.classes → AllByRecursion HasOwnName program.classes → IfSome row.element (IsBelow (length program.kinds))
    element_within all named =
        let of_row = row_is program table is kind row there in
        subst (λ (row : KindRow). IfSome row.element (IsBelow (length program.kinds))) (sym of_row.is)
        (subst (λ names. IfSome (component_of names (or_none (slice_get program.kinds kind))) (IsBelow (length names))) (sym all)
        (element_low program.classes named kind (or_none (slice_get program.kinds kind)) (ap (λ names. slice_get names kind) (sym all) ∙ of_row.here)))

  -- a kind is below another by the classes within
  by_rows : (among : List ℕ → List ℕ → Bool) (name other : List ℕ)
      → compared (row_of program.classes program.kinds name) (row_of program.classes program.kinds other) (among (inner_name name) (inner_name other))
      ≡ is_subtype among (type_of_name name) (type_of_name other)
  by_rows among name other = sym (subtype_by among (type_of_name name) (type_of_name other))

  abbrev inner_at : List ℕ → Inner
  inner_at name = inner_of program.classes (map inner_name program.kinds) (inner_name name)

  inner_instance : (kind : ℕ) (name other : List ℕ) → slice_get program.kinds kind ≡ Some name
      → instance_by program.classes (inner_at name) (inner_at other) ≡ is_instance program.classes (inner_name name) (inner_name other)
  inner_instance kind name other here =
      ap (λ same. same || is_object (inner_name other) || between program.classes (class_number program.classes (inner_name name)) (class_number program.classes (inner_name other)))
      (same_number (map inner_name program.kinds) kind (inner_name name) (inner_name other) (slice_get-map inner_name program.kinds kind ∙ ap (option_map inner_name) here))

  module _ (kind : ℕ) (one : KindRow) (there : slice_get table.rows kind ≡ Some one) (to : ℕ) (other : KindRow) (also : slice_get table.rows to ≡ Some other) where
    from_row : IsRowOf program kind one
    from_row = row_is program table is kind one there

    to_row : IsRowOf program to other
    to_row = row_is program table is to other also

    abbrev from_name : List ℕ
    from_name = or_none (slice_get program.kinds kind)

    abbrev to_name : List ℕ
    to_name = or_none (slice_get program.kinds to)

    pub instance_is : compared one other (instance_by program.classes one.inner other.inner) ≡ instance program kind to
    instance_is =
        (λ i. compared (from_row.is i) (to_row.is i) (instance_by program.classes (from_row.is i).inner (to_row.is i).inner))
        ∙ ap (compared (row_of program.classes program.kinds from_name) (row_of program.classes program.kinds to_name)) (inner_instance kind from_name to_name from_row.here)
        ∙ by_rows (is_instance program.classes) from_name to_name

    pub assignable_is : compared one other (assignable_by program.classes one.inner other.inner) ≡ assignable program kind to
    assignable_is =
        (λ i. compared (from_row.is i) (to_row.is i) (assignable_by program.classes (from_row.is i).inner (to_row.is i).inner))
        ∙ ap (λ below. compared (row_of program.classes program.kinds from_name) (row_of program.classes program.kinds to_name) (names_interface program.classes (inner_name to_name) || below)) (inner_instance kind from_name to_name from_row.here)
        ∙ by_rows (is_assignable program.classes) from_name to_name

-- the kind of a class is there
class_there : (classes : List ClassFile) (class : ℕ) (file : ClassFile) → slice_get classes class ≡ Some file → list_any (same_text (name_of file)) (kinds classes) ≡ true
class_there classes class file here =
    let named : slice_get (map name_of classes) class ≡ Some (name_of file) = slice_get-map name_of classes class ∙ ap (option_map name_of) here in
    let more = flat_map class_kinds classes in
    let fixed = flat_map kinds_of_name fixed_kinds in
    ap (list_any (same_text (name_of file))) (sym (entered_firsts (map name_of classes ++ more ++ fixed)))
    ∙ among_all [] (map name_of classes ++ more ++ fixed) (name_of file)
    ∙ list_any-append (same_text (name_of file)) (map name_of classes ++ more) fixed
    ∙ ap (λ test. test || list_any (same_text (name_of file)) fixed)
    (list_any-append (same_text (name_of file)) (map name_of classes) more
    ∙ ap (λ test. test || list_any (same_text (name_of file)) more) (any_at (map name_of classes) class (name_of file) named))

pub class_kind_low : (classes : List ClassFile) (class number : ℕ) → option_map (λ file. kind_number (kinds classes) (name_of file)) (slice_get classes class) ≡ Some number → number < length (kinds classes)
class_kind_low classes class number is = go (slice_get classes class) refl is
  where
    go : (found : Option ClassFile) → slice_get classes class ≡ found → option_map (λ file. kind_number (kinds classes) (name_of file)) found ≡ Some number → number < length (kinds classes)
    go None told is = absurd (cc)
    go (Some file) told is =
        let same : kind_number (kinds classes) (name_of file) ≡ number = cc in
        number_low (kinds classes) (name_of file) number (number_among (kinds classes) (name_of file) (class_there classes class file told) ∙ ap Some same)

pub kind_of_class_is : (program : Linked) (table : KindTable) → IsKindTable program table → (class number : ℕ) → slice_get table.of_classes class ≡ Some number
    → option_map (λ file. kind_number program.kinds (name_of file)) (slice_get program.classes class) ≡ Some number
kind_of_class_is program table is class number there =
    sym (slice_get-map (λ file. kind_number program.kinds (name_of file)) program.classes class) ∙ ap (λ numbers. slice_get numbers class) (sym is.of_classes) ∙ there

pub kind_of_class_low : (program : Linked) (table : KindTable) → IsKindTable program table → program.kinds ≡ kinds program.classes → (class number : ℕ) → slice_get table.of_classes class ≡ Some number
    → number < length program.kinds
kind_of_class_low program table is named class number there =
    let found = subst (λ all. option_map (λ file. kind_number all (name_of file)) (slice_get program.classes class) ≡ Some number) named (kind_of_class_is program table is class number there) in
    subst (λ all. number < length all) (sym named) (class_kind_low program.classes class number found)
