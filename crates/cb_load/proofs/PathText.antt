-- Names as text.
use Rattle.std.proofs.Common.{◌≡◌, ℕ, Bool, true, false, ◌||◌, ◌&&◌, ◌==◌, List, [], ◌∷◌, ◌++◌, map, Option, None, Some, refl, sym, ap, ◌∙◌}
use Rattle.std.specs.Prelude.{not, is_some, unwrap_or, codes}
use Rattle.std.specs.Char.{encode_utf8}
use Rattle.std.specs.Char.Utf16.{utf16_chars, utf16_lossy_chars, has_unpaired_surrogate}
use Rattle.std.specs.List.{flat_map, list_all, list_any}
use Rattle.std.specs.Str.{encode_utf8_all}
use Rattle.std.proofs.lemmas.Bool.{false≢true}
use Rattle.cb_io.specs.Utf8.{character_bytes}
use Rattle.cb_load.specs.Files.{is_paired, is_text, is_under_java, path_of}

either : (test any all : Bool) → any ≡ not all → (test || any) ≡ not (not test && all)
either true any all is = refl
either false any all is = is

pub any_zero : (name : List ℕ) → list_any (λ unit. unit == 0) name ≡ not (list_all (λ unit. not (unit == 0)) name)
any_zero [] = refl
any_zero (unit ∷ name) = either (unit == 0) _ _ (any_zero name)

pub any_lone : (characters : List (Option ℕ)) → list_any (λ character. not (is_some character)) characters ≡ not (list_all is_paired characters)
any_lone [] = refl
any_lone (None ∷ characters) = refl
any_lone (Some character ∷ characters) = any_lone characters

paired_bytes : (characters : List (Option ℕ)) → list_all is_paired characters ≡ true → encode_utf8_all (map (λ character. unwrap_or character 0xFFFD) characters) ≡ flat_map character_bytes characters
paired_bytes [] is = refl
paired_bytes (None ∷ characters) is = absurd (false≢true is)
paired_bytes (Some character ∷ characters) is = ap (λ bytes. encode_utf8 character ++ bytes) (paired_bytes characters is)

-- a name without U+0000 is text where each of its surrogates has its partner
without_zero : (name : List ℕ) (lone : Bool) → list_any (λ unit. unit == 0) name ≡ false → lone ≡ has_unpaired_surrogate name → is_text name ≡ not lone
without_zero name lone none is = go (list_all (λ unit. not (unit == 0)) name) (list_all is_paired (utf16_chars name)) lone (sym (any_zero name) ∙ none) (is ∙ any_lone (utf16_chars name)) where
  go : (all paired lone : Bool) → not all ≡ false → lone ≡ not paired → (all && paired) ≡ not lone
  go true true true none is = is
  go true true false none is = refl
  go true false true none is = refl
  go true false false none is = is
  go false paired lone none is = absurd (false≢true (sym none))

-- a name that isn't text has no path
pub no_path : (root name : List ℕ) (lone : Bool) → is_under_java name ≡ false → list_any (λ unit. unit == 0) name ≡ false → lone ≡ has_unpaired_surrogate name → lone ≡ true → None ≡ path_of root name
no_path root name lone other none is alone = rw (other, without_zero name lone none is, alone) refl

-- one that is has the path of its text
pub a_path : (root name text : List ℕ) (lone : Bool) → is_under_java name ≡ false → list_any (λ unit. unit == 0) name ≡ false → lone ≡ has_unpaired_surrogate name → lone ≡ false → text ≡ encode_utf8_all (utf16_lossy_chars name)
    → Some (root ++ codes "/" ++ text ++ codes ".class") ≡ path_of root name
a_path root name text lone other none is paired spelled = rw (other, whole) (ap (λ bytes. Some (root ++ codes "/" ++ bytes ++ codes ".class")) (spelled ∙ paired_bytes (utf16_chars name) all)) where
  whole : is_text name ≡ true
  whole = without_zero name lone none is ∙ ap not paired

  all : list_all is_paired (utf16_chars name) ≡ true
  all = go (list_all is_paired (utf16_chars name)) (sym (any_lone (utf16_chars name)) ∙ sym is ∙ paired) where
    go : (all : Bool) → not all ≡ false → all ≡ true
    go true none = refl
    go false none = sym none
