-- The names of a linked program's kinds are of units of two bytes.
use Rattle.std.proofs.Common.{◌≡◌, ◌∙◌, ap, arith, refl, sym, subst, ℕ, ◌<◌, ◌^◌, ◌==◌, Bool, true, false, cond, not, List, [], ◌∷◌, ◌++◌, nat_lt, Some, slice_get}
use Rattle.std.specs.List.{AllByRecursion, flat_map, list_all}
use Rattle.std.proofs.lemmas.Bool.{and_parts}
use Rattle.std.proofs.lemmas.List.Sums.{take_while-cons}
use Rattle.cb_text.specs.Pool.{Fits}
use Rattle.cb_text.specs.declared.constant.Constant.{Constant}
use Rattle.cb_text.specs.declared.constant.Constant.TheVariants as constants
use Rattle.cb_classfile.specs.Class.{IsWellFormed}
use Rattle.cb_classfile.specs.declared.class.ClassFile.{ClassFile}
use Rattle.cb_kinds.specs.Kinds.{array_of, ends_name, is_array, name_in}
use Rattle.cb_link.specs.Making.{kinds}
use Rattle.cb_link.specs.Program.{Linked}
use Rattle.cb_names.specs.Signs.{bracket, letter_class, semicolon}
use Rattle.cb_safety.specs.Linked.{IsLinked}
use Rattle.cb_safety.proofs.ClassKinds.{base_arrays}
use Rattle.cb_safety.proofs.Counting.{IsAmong}
use Rattle.cb_safety.proofs.FewKinds.{candidates, constant_kinds, fixed_names, kinds_among, library_kinds, library_texts, own_kinds, pool_kinds}
use Rattle.cb_safety.proofs.Linking.{front, linked_whole}
use Rattle.cb_safety.proofs.Lists.{all_at, all_both, all_given}
use Rattle.cb_safety.proofs.Rewritten.{all_joined}
use Rattle.cb_safety.proofs.Searching.{all_weaker}
use Rattle.cb_safety.proofs.Starts.{first_type, starts, text_kinds, upto}
use Rattle.cb_safety.proofs.Units.{Units, literal_low}

-- ---- the kinds that a text may name

name_low : (text : List ℕ) → Units text → Units (name_in text)
name_low [] all = tt
name_low (unit ∷ rest) all =
    subst Units (sym (take_while-cons (λ (unit : ℕ). not (ends_name unit)) unit rest)) (go (not (ends_name unit)) (name_low rest all.1))
  where
    go : (test : Bool) → Units (name_in rest) → Units (cond test (unit ∷ name_in rest) [])
    go true more = (all.0, more)
    go false more = tt

upto_low : (text : List ℕ) → Units text → Units (upto text)
upto_low [] all = tt
upto_low (unit ∷ rest) all = go (unit == semicolon) (upto_low rest all.1) where
  go : (test : Bool) → Units (upto rest) → Units (cond test (unit ∷ []) (unit ∷ upto rest))
  go true more = (all.0, tt)
  go false more = (all.0, more)

first_low : (text : List ℕ) → Units text → Units (first_type text)
first_low [] all = tt
first_low (unit ∷ rest) all = go (unit == bracket) (unit == letter_class) (first_low rest all.1) where
  go : (array class : Bool) → Units (first_type rest) → Units (cond array (unit ∷ first_type rest) (cond class (unit ∷ upto rest) (unit ∷ [])))
  go true class more = (all.0, more)
  go false true more = (all.0, upto_low rest all.1)
  go false false more = (all.0, tt)

starts_low : (text : List ℕ) → Units text → AllByRecursion Units (starts text)
starts_low [] all = tt
starts_low (unit ∷ rest) all = (go (unit == bracket), (first_low (unit ∷ rest) all, starts_low rest all.1)) where
  go : (test : Bool) → Units (cond test (unit ∷ rest) (name_in rest))
  go true = all
  go false = name_low rest all.1

array_low : (text : List ℕ) → Units text → Units (array_of text)
array_low text all = go (is_array text) where
  closed : Units (text ++ semicolon ∷ [])
  closed = all_joined (λ unit. unit < 2 ^ 16) text (semicolon ∷ []) all (omega arith, tt)

  go : (test : Bool) → Units (bracket ∷ cond test text (letter_class ∷ text ++ semicolon ∷ []))
  go true = (omega arith, all)
  go false = (omega arith, (omega arith, closed))

kinds_low : (text : List ℕ) → Units text → AllByRecursion Units (text_kinds text)
kinds_low text all = (all, (array_low text all, (name_low text all, starts_low text all)))

-- ---- those of the library, and of the classes that are loaded

abbrev are_low : List (List ℕ) → Bool
are_low texts = list_all (λ text. list_all (λ unit. nat_lt unit 65536) text) texts

texts_low : (texts : List (List ℕ)) → are_low texts ≡ true → AllByRecursion Units texts
texts_low [] is = tt
texts_low (text ∷ texts) is =
    let both = and_parts (list_all (λ unit. nat_lt unit 65536) text) (are_low texts) is in
    (literal_low text both.0, texts_low texts both.1)

front_tested : are_low (base_arrays ++ fixed_names) ≡ true
front_tested = refl

library_tested : are_low library_texts ≡ true
library_tested = refl

own_low : AllByRecursion Units own_kinds
own_low =
    all_both Units (base_arrays ++ fixed_names) library_kinds (texts_low (base_arrays ++ fixed_names) front_tested)
    (all_given Units Units text_kinds library_texts kinds_low (texts_low library_texts library_tested))

constant_low : (constant : Constant) → Fits constant → AllByRecursion Units (constant_kinds constant)
constant_low (constants.Utf8 units) fits = kinds_low units fits.0
constant_low other fits = tt

pool_low : (class : ClassFile) → IsWellFormed class → AllByRecursion Units (pool_kinds class)
pool_low class (bytes, spelled) = all_given Fits Units constant_kinds class.pool constant_low spelled.behind.spelled.here.fit

candidates_low : (more : List ClassFile) → AllByRecursion IsWellFormed more → AllByRecursion Units (candidates more)
candidates_low more formed = all_both Units own_kinds (flat_map pool_kinds more) own_low (all_given IsWellFormed Units pool_kinds more pool_low formed)

pub names_low : (program : Linked) → IsLinked program → (kind : ℕ) (name : List ℕ) → slice_get program.kinds kind ≡ Some name → Units name
names_low program is kind name there =
    all_at Units program.kinds kind name
    (subst (AllByRecursion Units) (sym ((linked_whole program is).kinds ∙ ap kinds (front program is)))
    (all_weaker (IsAmong (candidates is.more)) Units
    (λ text among. all_at Units (candidates is.more) among.0 text (candidates_low is.more is.well_formed) among.1)
    (kinds (is.library ++ is.more)) (kinds_among is.library is.more is.is_library is.well_formed))) there
