-- The kinds that a text may name: each begins at one of its units.
use Rattle.std.proofs.Common.{◌≡◌, ◌∙◌, ap, ap₂, append_assoc, refl, sym, subst, ℕ, ◌==◌, Bool, true, false, cond, not, ◌||◌, List, [], ◌∷◌, ◌++◌, Option, Some, None}
use Rattle.std.specs.List.{AllByRecursion, flat_map}
use Rattle.std.proofs.lemmas.List.Sums.{take_while-cons}
use Rattle.cb_kinds.specs.Descriptors.{all_types, is_base, signs_behind, signs_in_name, types_of}
use Rattle.cb_kinds.specs.Kinds.{array_of, ends_name, is_array, kinds_of_name, kinds_of_type, name_in}
use Rattle.cb_names.specs.Signs.{bracket, letter_class, right_parenthesis, semicolon}
use Rattle.cb_safety.proofs.Lists.{all_both}
use Rattle.cb_safety.proofs.Parts.{name_ends, no_array_in}

-- a text up to a semicolon, and its first type
abbrev pub upto : List ℕ → List ℕ
upto [] = []
upto (unit ∷ rest) = cond (unit == semicolon) (unit ∷ []) (unit ∷ upto rest)

abbrev pub first_type : List ℕ → List ℕ
first_type [] = []
first_type (unit ∷ rest) = cond (unit == bracket) (unit ∷ first_type rest) (cond (unit == letter_class) (unit ∷ upto rest) (unit ∷ []))

-- two kinds for each unit: an array to the end, or the name of a class; and the first type
abbrev pub starts : List ℕ → List (List ℕ)
starts [] = []
starts (unit ∷ rest) = cond (unit == bracket) (unit ∷ rest) (name_in rest) ∷ first_type (unit ∷ rest) ∷ starts rest

-- and those of the whole text
abbrev pub text_kinds : List ℕ → List (List ℕ)
text_kinds text = text ∷ array_of text ∷ name_in text ∷ starts text

-- ---- names up to a semicolon

name_upto : (rest : List ℕ) → name_in (upto rest) ≡ name_in rest
name_upto [] = refl
name_upto (unit ∷ rest) = go (unit == semicolon) refl (name_upto rest) where
  ended : (test : Bool) → (unit == semicolon) ≡ test → (more : List ℕ) → test ≡ true → name_in (unit ∷ more) ≡ []
  ended test is more so =
      take_while-cons (λ (unit : ℕ). not (ends_name unit)) unit more
      ∙ ap (λ (test : Bool). cond (not (test || (unit == bracket))) (unit ∷ name_in more) []) (is ∙ so)

  go : (test : Bool) → (unit == semicolon) ≡ test → name_in (upto rest) ≡ name_in rest → name_in (cond test (unit ∷ []) (unit ∷ upto rest)) ≡ name_in (unit ∷ rest)
  go true is more = ended true is [] refl ∙ sym (ended true is rest refl)
  go false is more =
      take_while-cons (λ (unit : ℕ). not (ends_name unit)) unit (upto rest)
      ∙ ap (λ (name : List ℕ). cond (not (ends_name unit)) (unit ∷ name) []) more
      ∙ sym (take_while-cons (λ (unit : ℕ). not (ends_name unit)) unit rest)

-- ---- what is so of these is so of the kinds of types and of names

module _ (P : List ℕ → Type 0) where
  pub type_so : (text : List ℕ) → AllByRecursion P (starts text) → AllByRecursion P (kinds_of_type text)
  type_so [] all = tt
  type_so (unit ∷ rest) all = go (unit == bracket) (unit == letter_class) all.0 (type_so rest all.1.1) where
    go : (array class : Bool) → P (cond array (unit ∷ rest) (name_in rest)) → AllByRecursion P (kinds_of_type rest)
        → AllByRecursion P (cond array ((unit ∷ rest) ∷ kinds_of_type rest) (cond class (name_in rest ∷ []) []))
    go true class one more = (one, more)
    go false true one more = (one, tt)
    go false false one more = tt

  -- also of the kinds of these kinds
  pub types_so : (text : List ℕ) → AllByRecursion P (starts text) → AllByRecursion (λ kind. AllByRecursion P (kinds_of_name kind)) (kinds_of_type text)
  types_so [] all = tt
  types_so (unit ∷ rest) all = go (unit == bracket) (unit == letter_class) refl all.0 (type_so (unit ∷ rest) all) (types_so rest all.1.1) where
    named : (name : List ℕ) → is_array name ≡ false → P name → AllByRecursion P (kinds_of_name name)
    named name none one = subst (λ (array : Bool). AllByRecursion P (cond array (kinds_of_type name) (name ∷ []))) (sym none) (one, tt)

    arrays : (name : List ℕ) → is_array name ≡ true → AllByRecursion P (kinds_of_type name) → AllByRecursion P (kinds_of_name name)
    arrays name some all = subst (λ (array : Bool). AllByRecursion P (cond array (kinds_of_type name) (name ∷ []))) (sym some) all

    go : (array class : Bool) → (unit == bracket) ≡ array → P (cond array (unit ∷ rest) (name_in rest)) → AllByRecursion P (kinds_of_type (unit ∷ rest))
        → AllByRecursion (λ kind. AllByRecursion P (kinds_of_name kind)) (kinds_of_type rest)
        → AllByRecursion (λ kind. AllByRecursion P (kinds_of_name kind)) (cond array ((unit ∷ rest) ∷ kinds_of_type rest) (cond class (name_in rest ∷ []) []))
    go true class is one own more = (arrays (unit ∷ rest) is own, more)
    go false true is one own more = (named (name_in rest) (no_array_in rest) one, tt)
    go false false is one own more = tt

  pub name_so : (text : List ℕ) → AllByRecursion P (text_kinds text) → AllByRecursion P (kinds_of_name text)
  name_so text all = go (is_array text) where
    go : (array : Bool) → AllByRecursion P (cond array (kinds_of_type text) (text ∷ []))
    go true = type_so text all.1.1.1
    go false = (all.0, tt)

  pub array_so : (text : List ℕ) → AllByRecursion P (text_kinds text) → AllByRecursion P (kinds_of_name (array_of text))
  array_so text all = (all.1.0, go (is_array text)) where
    go : (array : Bool) → AllByRecursion P (kinds_of_type (cond array text (letter_class ∷ text ++ semicolon ∷ [])))
    go true = type_so text all.1.1.1
    go false = (subst P (sym (name_ends text)) all.1.1.0, tt)

  -- ---- and of the types of a descriptor

  first_so : (text : List ℕ) → AllByRecursion P (starts text) → AllByRecursion P (kinds_of_type (first_type text))
  first_so [] all = tt
  first_so (unit ∷ rest) all = go (unit == bracket) (unit == letter_class) refl refl all.0 all.1.0 (first_so rest all.1.1) where
    kinds_by : (array class : Bool) → (unit == bracket) ≡ array → (unit == letter_class) ≡ class → (more : List ℕ)
        → kinds_of_type (unit ∷ more) ≡ cond array ((unit ∷ more) ∷ kinds_of_type more) (cond class (name_in more ∷ []) [])
    kinds_by array class is also more =
        ap₂ (λ (array class : Bool). cond array ((unit ∷ more) ∷ kinds_of_type more) (cond class (name_in more ∷ []) [])) is also

    go : (array class : Bool) → (unit == bracket) ≡ array → (unit == letter_class) ≡ class → P (cond array (unit ∷ rest) (name_in rest))
        → P (cond array (unit ∷ first_type rest) (cond class (unit ∷ upto rest) (unit ∷ []))) → AllByRecursion P (kinds_of_type (first_type rest))
        → AllByRecursion P (kinds_of_type (cond array (unit ∷ first_type rest) (cond class (unit ∷ upto rest) (unit ∷ []))))
    go true class is also one other more = subst (AllByRecursion P) (sym (kinds_by true class is also (first_type rest))) (other, more)
    go false true is also one other more =
        subst (AllByRecursion P) (sym (kinds_by false true is also (upto rest))) (subst P (sym (name_upto rest)) one, tt)
    go false false is also one other more = subst (AllByRecursion P) (sym (kinds_by false false is also [])) tt

  abbrev TypesSo : List (Option (List ℕ)) → Type 0
  TypesSo signs = AllByRecursion P (flat_map kinds_of_type (all_types signs))

  mutual
    signs_so : (brackets text : List ℕ) → AllByRecursion P (kinds_of_type (brackets ++ first_type text)) → AllByRecursion P (starts text) → TypesSo (signs_behind brackets text)
    signs_so brackets [] own all = tt
    signs_so brackets (unit ∷ rest) own all =
        go (unit == bracket) (unit == letter_class) (unit == right_parenthesis) (is_base unit) own
        (λ own. signs_so (brackets ++ unit ∷ []) rest own all.1.1) (λ own. names_so (brackets ++ unit ∷ []) rest own all.1.1)
        (signs_so [] rest (first_so rest all.1.1) all.1.1)
      where
        go : (array class end base : Bool) → AllByRecursion P (kinds_of_type (brackets ++ cond array (unit ∷ first_type rest) (cond class (unit ∷ upto rest) (unit ∷ []))))
            → (AllByRecursion P (kinds_of_type ((brackets ++ unit ∷ []) ++ first_type rest)) → TypesSo (signs_behind (brackets ++ unit ∷ []) rest))
            → (AllByRecursion P (kinds_of_type ((brackets ++ unit ∷ []) ++ upto rest)) → TypesSo (signs_in_name (brackets ++ unit ∷ []) rest))
            → TypesSo (signs_behind [] rest)
            → TypesSo (cond array (signs_behind (brackets ++ unit ∷ []) rest) (cond class (signs_in_name (brackets ++ unit ∷ []) rest)
            (cond end (None ∷ signs_behind [] rest) (cond base (Some (brackets ++ unit ∷ []) ∷ signs_behind [] rest) (signs_behind [] rest)))))
        go true class end base own array named later = array (subst (λ (text : List ℕ). AllByRecursion P (kinds_of_type text)) (sym (append_assoc brackets (unit ∷ []) (first_type rest))) own)
        go false true end base own array named later = named (subst (λ (text : List ℕ). AllByRecursion P (kinds_of_type text)) (sym (append_assoc brackets (unit ∷ []) (upto rest))) own)
        go false false true base own array named later = later
        go false false false true own array named later = all_both P (kinds_of_type (brackets ++ unit ∷ [])) (flat_map kinds_of_type (all_types (signs_behind [] rest))) own later
        go false false false false own array named later = later

    names_so : (front text : List ℕ) → AllByRecursion P (kinds_of_type (front ++ upto text)) → AllByRecursion P (starts text) → TypesSo (signs_in_name front text)
    names_so front [] own all = tt
    names_so front (unit ∷ rest) own all =
        go (unit == semicolon) own (λ own. names_so (front ++ unit ∷ []) rest own all.1.1) (signs_so [] rest (first_so rest all.1.1) all.1.1)
      where
        go : (end : Bool) → AllByRecursion P (kinds_of_type (front ++ cond end (unit ∷ []) (unit ∷ upto rest)))
            → (AllByRecursion P (kinds_of_type ((front ++ unit ∷ []) ++ upto rest)) → TypesSo (signs_in_name (front ++ unit ∷ []) rest)) → TypesSo (signs_behind [] rest)
            → TypesSo (cond end (Some (front ++ unit ∷ []) ∷ signs_behind [] rest) (signs_in_name (front ++ unit ∷ []) rest))
        go true own more later = all_both P (kinds_of_type (front ++ unit ∷ [])) (flat_map kinds_of_type (all_types (signs_behind [] rest))) own later
        go false own more later = more (subst (λ (text : List ℕ). AllByRecursion P (kinds_of_type text)) (sym (append_assoc front (unit ∷ []) (upto rest))) own)

  pub descriptor_so : (text : List ℕ) → AllByRecursion P (starts text) → AllByRecursion P (flat_map kinds_of_type (types_of text))
  descriptor_so text all = signs_so [] text (first_so text all) all
