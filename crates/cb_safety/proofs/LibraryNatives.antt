-- The parameters and the results of natives, in a program that is linked: the library's descriptors, by the kinds that they name.
use Rattle.std.proofs.Common.{◌≡◌, ◌∙◌, ap, ap₂, arith, refl, sym, subst, ℕ, zero, suc, ◌+◌, ◌==◌, ◌||◌, List, [], ◌∷◌, ◌++◌, map, if◌then◌else◌, Option, Some, None, option_and_then, option_map, slice_get}
use Rattle.std.proofs.lemmas.Option.{option_and_then_some, same_Some, slice_get-map}
use Rattle.cb_classfile.specs.Flags.{acc_static}
use Rattle.cb_classfile.specs.Library.{IsRecordOf, SaysMethod}
use Rattle.cb_classfile.specs.Pool.{text_at}
use Rattle.cb_classfile.specs.declared.class.ClassFile.{ClassFile}
use Rattle.cb_classfile.specs.declared.method.Method.{Method}
use Rattle.cb_kinds.proofs.Laws.{kind_number_of}
use Rattle.cb_kinds.specs.Basics.{basic_of, kind_number}
use Rattle.cb_kinds.specs.Descriptors.{parameters_of, result_of}
use Rattle.cb_kinds.specs.Kinds.{name_in}
use Rattle.cb_kinds.specs.Texts.{number_of}
use Rattle.cb_kinds.specs.declared.basic.Basic.{Basic}
use Rattle.cb_kinds.specs.declared.basic.Basic.TheVariants as basics
use Rattle.cb_library.specs.CoreClasses.{core_classes}
use Rattle.cb_library.specs.Rows.{CoreClass, Kind}
use Rattle.cb_library.specs.Rows as rows
use Rattle.cb_library.specs.declared.native.Native.{Native}
use Rattle.cb_link.proofs.Laws.{placed}
use Rattle.cb_link.specs.Having.{IsWhole}
use Rattle.cb_link.specs.Numbers.{has_flag, methods_of, or_none}
use Rattle.cb_link.specs.Places.{IsPlaced}
use Rattle.cb_link.specs.Program.{Linked, linked_method}
use Rattle.cb_link.specs.declared.linked.LinkedMethod.{LinkedMethod}
use Rattle.cb_names.specs.Signs.{bracket, letter_boolean, letter_byte, letter_char, letter_class, letter_double, letter_long, letter_short}
use Rattle.cb_verify.specs.Types.{type_of}
use Rattle.cb_safety.specs.Linked.{IsLinked}
use Rattle.cb_machine.specs.Natives.{native_at, native_in}
use Rattle.cb_safety.specs.Natives.{receiver_types}
use Rattle.cb_safety.specs.Performing.{HasSignature, HaveSignatures}
use Rattle.cb_safety.specs.Signatures.{gives_of, takes_of}
use Rattle.cb_safety.proofs.Assigned.{never}
use Rattle.cb_safety.proofs.CoreKinds.{core_number}
use Rattle.cb_safety.proofs.Exceptions.{IsRow, core_names, file_at, zipped_at}
use Rattle.cb_safety.proofs.Linking.{front, linked_whole}

-- ---- types by the numbers of the library's classes

abbrev or_kind : Option ℕ → ℕ → ℕ
or_kind None kind = kind
or_kind (Some number) kind = number

abbrev core_basic : List (List ℕ) → List ℕ → Basic
core_basic kinds [] = basics.Int
core_basic kinds (unit ∷ rest) =
    if unit == bracket then basics.Reference (kind_number kinds (unit ∷ rest))
    else if unit == letter_class then basics.Reference (or_kind (number_of core_names (name_in rest)) (kind_number kinds (name_in rest)))
    else if unit == letter_boolean then basics.Boolean
    else if unit == letter_byte then basics.Byte
    else if unit == letter_char then basics.Char
    else if unit == letter_short then basics.Short
    else if unit == letter_long || unit == letter_double then basics.Long
    else basics.Int

abbrev MethodFits : Linked → ℕ → rows.Method → Kind → Type 0
MethodFits program class method (rows.Performed native) =
    (receiver_types (has_flag acc_static method.flags) class ++ map type_of (map (core_basic program.kinds) (parameters_of method.descriptor)) ≡ takes_of program native)
    × (option_map (core_basic program.kinds) (result_of method.descriptor) ≡ gives_of program native)
MethodFits program class method other = Unit {0}

abbrev MethodsFit : Linked → ℕ → List rows.Method → Type 0
MethodsFit program class [] = Unit {0}
MethodsFit program class (method ∷ methods) = MethodFits program class method method.kind × MethodsFit program class methods

abbrev RowsFit : Linked → ℕ → List CoreClass → Type 0
RowsFit program class [] = Unit {0}
RowsFit program class (row ∷ table) = MethodsFit program class row.methods × RowsFit program (class + 1) table

all_fit : (program : Linked) → RowsFit program 0 core_classes
all_fit program =
    ((tt, ((refl, refl), ((refl, refl), ((refl, refl), (tt, ((refl, refl), ((refl, refl), tt))))))), ((tt, tt), ((tt, (tt, (tt, tt))), (tt, (tt, ((tt, tt), ((tt, tt), ((tt, (tt, (tt, tt))), (((refl, refl), ((refl, refl), ((refl, refl), ((refl, refl), ((refl, refl), ((refl, refl), ((refl, refl), ((refl, refl), ((refl, refl), ((refl, refl), ((refl, refl), ((refl, refl), ((refl, refl), ((refl, refl), ((refl, refl), ((refl, refl), ((refl, refl), ((refl, refl), ((refl, refl), ((refl, refl), ((refl, refl), ((refl, refl), ((refl, refl), (tt, (tt, (tt, tt)))))))))))))))))))))))))), (((refl, refl), ((refl, refl), ((refl, refl), ((refl, refl), ((refl, refl), ((refl, refl), ((refl, refl), ((refl, refl), ((refl, refl), ((refl, refl), ((refl, refl), ((refl, refl), ((refl, refl), ((refl, refl), ((refl, refl), (tt, (tt, tt))))))))))))))))), (((refl, refl), ((refl, refl), tt)), (((refl, refl), ((refl, refl), ((refl, refl), ((refl, refl), tt)))), (((refl, refl), ((refl, refl), ((refl, refl), ((refl, refl), ((refl, refl), ((refl, refl), ((refl, refl), ((refl, refl), ((refl, refl), ((refl, refl), ((refl, refl), ((refl, refl), (tt, (tt, tt)))))))))))))), (((refl, refl), ((refl, refl), (tt, tt))), ((tt, (tt, (tt, tt))), (((refl, refl), ((refl, refl), ((refl, refl), ((refl, refl), ((refl, refl), ((refl, refl), ((refl, refl), ((refl, refl), ((refl, refl), ((refl, refl), ((refl, refl), ((refl, refl), (tt, tt))))))))))))), (((refl, refl), ((refl, refl), ((refl, refl), ((refl, refl), ((refl, refl), ((refl, refl), ((refl, refl), ((refl, refl), ((refl, refl), ((refl, refl), ((refl, refl), (tt, tt)))))))))))), (((refl, refl), ((refl, refl), ((refl, refl), ((refl, refl), ((refl, refl), ((refl, refl), ((refl, refl), ((refl, refl), (tt, tt))))))))), (((refl, refl), ((refl, refl), ((refl, refl), ((refl, refl), ((refl, refl), ((refl, refl), ((refl, refl), ((refl, refl), (tt, tt))))))))), (((refl, refl), ((refl, refl), ((refl, refl), ((refl, refl), ((refl, refl), ((refl, refl), ((refl, refl), ((refl, refl), ((refl, refl), ((refl, refl), tt)))))))))), ((tt, (tt, (tt, (tt, ((refl, refl), ((refl, refl), ((refl, refl), (tt, ((refl, refl), tt))))))))), ((tt, tt), ((tt, (tt, (tt, (tt, (tt, (tt, (tt, ((refl, refl), ((refl, refl), ((refl, refl), tt)))))))))), ((tt, (tt, (tt, (tt, tt)))), ((tt, (tt, (tt, (tt, tt)))), ((tt, (tt, (tt, (tt, tt)))), ((tt, (tt, (tt, (tt, tt)))), ((tt, (tt, (tt, (tt, tt)))), ((tt, (tt, (tt, (tt, tt)))), ((tt, (tt, (tt, (tt, tt)))), ((tt, (tt, (tt, (tt, tt)))), ((tt, (tt, (tt, (tt, tt)))), ((tt, (tt, (tt, (tt, tt)))), ((tt, (tt, (tt, (tt, tt)))), ((tt, (tt, (tt, (tt, tt)))), ((tt, (tt, (tt, (tt, tt)))), ((tt, (tt, (tt, (tt, tt)))), ((tt, (tt, (tt, (tt, tt)))), ((tt, (tt, (tt, (tt, tt)))), ((tt, (tt, (tt, (tt, tt)))), ((tt, (tt, (tt, (tt, tt)))), ((tt, (tt, (tt, (tt, tt)))), ((tt, (tt, (tt, (tt, tt)))), ((tt, (tt, (tt, (tt, tt)))), ((tt, (tt, (tt, (tt, tt)))), ((tt, (tt, (tt, (tt, tt)))), ((tt, (tt, (tt, (tt, tt)))), ((tt, (tt, (tt, (tt, tt)))), ((tt, (tt, (tt, (tt, tt)))), ((tt, (tt, (tt, (tt, (tt, tt))))), tt))))))))))))))))))))))))))))))))))))))))))))))))))

methods_fit : (program : Linked) (class : ℕ) (methods : List rows.Method) → MethodsFit program class methods → (place : ℕ) (method : rows.Method) → slice_get methods place ≡ Some method
    → MethodFits program class method method.kind
methods_fit program class [] all place method there = never there
methods_fit program class (first ∷ methods) all zero method there = subst (λ (method : rows.Method). MethodFits program class method method.kind) (same_Some first method there) all.0
methods_fit program class (first ∷ methods) all (suc place) method there = methods_fit program class methods all.1 place method there

rows_fit : (program : Linked) (class : ℕ) (table : List CoreClass) → RowsFit program class table → (place : ℕ) (row : CoreClass) → slice_get table place ≡ Some row
    → MethodsFit program (class + place) row.methods
rows_fit program class [] all place row there = never there
rows_fit program class (first ∷ table) all zero row there =
    subst (λ (number : ℕ). MethodsFit program number row.methods) (let same : class ≡ class + 0 = omega arith in same)
    (subst (λ (row : CoreClass). MethodsFit program class row.methods) (same_Some first row there) all.0)
rows_fit program class (first ∷ table) all (suc place) row there =
    subst (λ (number : ℕ). MethodsFit program number row.methods) (let same : class + 1 + place ≡ class + suc place = omega arith in same) (rows_fit program (class + 1) table all.1 place row there)

-- ---- the row of a native

fits_native : (program : Linked) (class : ℕ) (method : rows.Method) (kind : Kind) (native : Native) → native_in kind ≡ Some native → MethodFits program class method kind
    → (receiver_types (has_flag acc_static method.flags) class ++ map type_of (map (core_basic program.kinds) (parameters_of method.descriptor)) ≡ takes_of program native)
    × (option_map (core_basic program.kinds) (result_of method.descriptor) ≡ gives_of program native)
fits_native program class method (rows.Performed own) native is fits =
    subst (λ (native : Native). (receiver_types (has_flag acc_static method.flags) class ++ map type_of (map (core_basic program.kinds) (parameters_of method.descriptor)) ≡ takes_of program native)
    × (option_map (core_basic program.kinds) (result_of method.descriptor) ≡ gives_of program native)) (same_Some own native is) fits
fits_native program class method other native is fits = never is

module _ (program : Linked) (is : IsLinked program) where
  whole : IsWhole program
  whole = linked_whole program is

  basic_same : (text : List ℕ) → basic_of program.kinds text ≡ core_basic program.kinds text
  basic_same [] = refl
  basic_same (unit ∷ rest) =
      ap (λ (kind : ℕ). if unit == bracket then basics.Reference (kind_number program.kinds (unit ∷ rest))
      else if unit == letter_class then basics.Reference kind
      else if unit == letter_boolean then basics.Boolean
      else if unit == letter_byte then basics.Byte
      else if unit == letter_char then basics.Char
      else if unit == letter_short then basics.Short
      else if unit == letter_long || unit == letter_double then basics.Long
      else basics.Int) (by (number_of core_names (name_in rest)) refl)
    where
      by : (found : Option ℕ) → number_of core_names (name_in rest) ≡ found → kind_number program.kinds (name_in rest) ≡ or_kind found (kind_number program.kinds (name_in rest))
      by None none = refl
      by (Some number) there = kind_number_of program.kinds (name_in rest) number (core_number program is (name_in rest) number there)

  basics_same : (texts : List (List ℕ)) → map (basic_of program.kinds) texts ≡ map (core_basic program.kinds) texts
  basics_same [] = refl
  basics_same (text ∷ texts) = ap₂ (λ (basic : Basic) (basics : List Basic). basic ∷ basics) (basic_same text) (basics_same texts)

  result_same : (text : Option (List ℕ)) → option_map (basic_of program.kinds) text ≡ option_map (core_basic program.kinds) text
  result_same None = refl
  result_same (Some text) = ap {B = Option Basic} Some (basic_same text)

  pub have_signatures : HaveSignatures program
  have_signatures number native own numbered performs is_linked is_numbered =
      option_and_then_some (λ (row : CoreClass). option_and_then (λ (method : rows.Method). native_in method.kind) (slice_get row.methods numbered.place)) (slice_get core_classes numbered.class) native at_row
      (λ row row_there stands. option_and_then_some (λ (method : rows.Method). native_in method.kind) (slice_get row.methods numbered.place) native stands
      (λ method there kind. signature row row_there method there kind))
    where
      linked_is : own ≡ linked_method program.kinds numbered
      linked_is =
          same_Some own (linked_method program.kinds numbered)
          (sym is_linked ∙ ap (λ (methods : List LinkedMethod). slice_get methods number) whole.methods ∙ slice_get-map (linked_method program.kinds) (methods_of program.classes) number
          ∙ ap (option_map (linked_method program.kinds)) is_numbered)

      at_row : native_at numbered.class numbered.place ≡ Some native
      at_row =
          sym (ap (λ (own : LinkedMethod). native_at own.class own.place) linked_is)
          ∙ sym (ap (option_and_then (λ (own : LinkedMethod). native_at own.class own.place)) is_linked) ∙ performs

      at : IsPlaced (λ (class : ClassFile). class.methods) program.classes numbered
      at = placed (λ (class : ClassFile). class.methods) program.classes number numbered is_numbered

      signature : (row : CoreClass) → slice_get core_classes numbered.class ≡ Some row → (method : rows.Method) → slice_get row.methods numbered.place ≡ Some method
          → native_in method.kind ≡ Some native → HasSignature program native own numbered
      signature row row_there method there kind =
          let file : IsRow IsRecordOf (is.library ++ is.more) numbered.class row = file_at is.library is.more is.is_library numbered.class row row_there in
          let same : at.declaring ≡ file.item =
          same_Some at.declaring file.item (sym at.declares ∙ ap (λ (classes : List ClassFile). slice_get classes numbered.class) (front program is) ∙ file.there) in
          let listed : IsRow (SaysMethod file.item.pool) file.item.methods numbered.place method =
          zipped_at (SaysMethod file.item.pool) row.methods file.item.methods numbered.place method file.is.methods there in
          let member : numbered.member ≡ listed.item =
          same_Some numbered.member listed.item (sym at.lists ∙ ap (λ (file : ClassFile). slice_get file.methods numbered.place) same ∙ listed.there) in
          let text : text_at numbered.pool numbered.member.descriptor ≡ Some method.descriptor =
          ap₂ (λ (pool : _) (member : Method). text_at pool member.descriptor) (at.of_pool ∙ ap (λ (file : ClassFile). file.pool) same) member ∙ listed.is.descriptor in
          let flags : numbered.member.flags.0 ≡ method.flags = ap (λ (member : Method). member.flags.0) member ∙ listed.is.flags in
          let fits = fits_native program numbered.class method method.kind native kind
          (methods_fit program numbered.class row.methods
          (subst (λ (number : ℕ). MethodsFit program number row.methods) (let none : 0 + numbered.class ≡ numbered.class = omega arith in none)
          (rows_fit program 0 core_classes (all_fit program) numbered.class row row_there)) numbered.place method there) in
          record {
            takes =
                ap (λ (own : LinkedMethod). receiver_types (has_flag acc_static numbered.member.flags.0) own.class ++ map type_of own.parameters) linked_is
                ∙ ap₂ (λ (flags : ℕ) (text : Option (List ℕ)). receiver_types (has_flag acc_static flags) numbered.class ++ map type_of (map (basic_of program.kinds) (parameters_of (or_none text)))) flags text
                ∙ ap (λ (parameters : List Basic). receiver_types (has_flag acc_static method.flags) numbered.class ++ map type_of parameters) (basics_same (parameters_of method.descriptor))
                ∙ fits.0;
            gives =
                ap (λ (own : LinkedMethod). own.result) linked_is
                ∙ ap (λ (text : Option (List ℕ)). option_map (basic_of program.kinds) (result_of (or_none text))) text
                ∙ result_same (result_of method.descriptor) ∙ fits.1;
          }
