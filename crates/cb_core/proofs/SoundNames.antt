-- Tests of the names of rows.
use Rattle.std.proofs.Common.{◌≡◌, sym, arith, ℕ, ◌^◌, ◌<◌, ◌≢◌, ◌⊎◌, inl, inr, Bool, true, not, ◌&&◌, ◌||◌, List, length, codes, is_none, nat_eq, nat_lt}
use Rattle.std.specs.List.{list_all, slice_split}
use Rattle.std.specs.Str.{bytes_eq}
use Rattle.std.proofs.lemmas.List.Splits.{join_with_byte-slice_split, length-slice_split}
use Rattle.cb_names.specs.Names.{MayStandInName, IsUnqualifiedName, IsClassName, IsMethodName}
use Rattle.cb_names.specs.Signs.{dot, slash, semicolon, less, greater, bracket}
use Rattle.cb_classfile.specs.Profile.{class_item}
use Rattle.cb_core.specs.Sound.{IsShort, IsSoundClassName, IsSoundFieldName, IsSoundMethodName}
use Rattle.cb_core.proofs.SoundTests.{below, both, each, either, none, one_text, other_text, unequal}

abbrev pub is_short : List ℕ → Bool
is_short text = list_all (λ unit. nat_lt 0 unit && nat_lt unit 128) text && nat_lt (length text) (2 ^ 16)

pub short : (text : List ℕ) → is_short text ≡ true → IsShort text
short text is = let two = both _ _ is in record {
  ascii = each (λ unit. nat_lt 0 unit && nat_lt unit 128) (λ unit. (0 < unit) × (unit < 128)) one text two.0;
  short = below _ _ two.1;
} where
  one : (unit : ℕ) → (nat_lt 0 unit && nat_lt unit 128) ≡ true → (0 < unit) × (unit < 128)
  one unit is = let two = both _ _ is in (below _ _ two.0, below _ _ two.1)

-- an unqualified name
abbrev pub may_stand : ℕ → Bool
may_stand unit = not (nat_eq unit dot) && (not (nat_eq unit semicolon) && (not (nat_eq unit bracket) && not (nat_eq unit slash)))

stands : (unit : ℕ) → may_stand unit ≡ true → MayStandInName unit
stands unit is =
    let first = both _ _ is in
    let second = both _ _ first.1 in
    let third = both _ _ second.1 in
    (unequal _ _ first.0, unequal _ _ second.0, unequal _ _ third.0, unequal _ _ third.1)

abbrev pub is_unqualified : List ℕ → Bool
is_unqualified name = nat_lt 0 (length name) && list_all may_stand name

pub unqualified : (name : List ℕ) → is_unqualified name ≡ true → IsUnqualifiedName name
unqualified name is = let two = both _ _ is in (below _ _ two.0, each may_stand MayStandInName stands name two.1)

-- the name of a class, by its parts
abbrev pub parts_of : List ℕ → List (List ℕ)
parts_of name = slice_split (λ unit. nat_eq unit slash) name

abbrev pub is_class_name : List ℕ → Bool
is_class_name name = list_all is_unqualified (parts_of name)

pub class_name : (name : List ℕ) → is_class_name name ≡ true → IsClassName name
class_name name is =
    (parts_of name, omega (arith, length-slice_split (λ unit. nat_eq unit slash) name), each is_unqualified IsUnqualifiedName unqualified (parts_of name) is, sym (join_with_byte-slice_split slash name))

abbrev pub is_sound_class_name : List ℕ → Bool
is_sound_class_name name = is_class_name name && (is_none (class_item name) && is_short name)

pub sound_class_name : (name : List ℕ) → is_sound_class_name name ≡ true → IsSoundClassName name
sound_class_name name is =
    let first = both _ _ is in
    let second = both _ _ first.1 in
    record { is = class_name name first.0; supported = none _ second.0; short = short name second.1 }

abbrev pub is_sound_field_name : List ℕ → Bool
is_sound_field_name name = is_unqualified name && is_short name

pub sound_field_name : (name : List ℕ) → is_sound_field_name name ≡ true → IsSoundFieldName name
sound_field_name name is = let two = both _ _ is in record { is = unqualified name two.0; short = short name two.1 }

-- the name of a method
abbrev pub is_no_angle : ℕ → Bool
is_no_angle unit = not (nat_eq unit less) && not (nat_eq unit greater)

no_angle : (unit : ℕ) → is_no_angle unit ≡ true → (unit ≢ less) × (unit ≢ greater)
no_angle unit is = let two = both _ _ is in (unequal _ _ two.0, unequal _ _ two.1)

abbrev pub is_method_name : List ℕ → Bool
is_method_name name = bytes_eq name (codes "<init>") || (is_unqualified name && list_all is_no_angle name)

method_name : (name : List ℕ) → is_method_name name ≡ true → IsMethodName name
method_name name is = of (either _ _ is) where
  of : (bytes_eq name (codes "<init>") ≡ true) ⊎ ((is_unqualified name && list_all is_no_angle name) ≡ true) → IsMethodName name
  of (inl init) = inl (one_text _ _ init)
  of (inr plain) = let two = both _ _ plain in inr (inr (unqualified name two.0, each is_no_angle (λ unit. (unit ≢ less) × (unit ≢ greater)) no_angle name two.1))

abbrev pub is_sound_method_name : List ℕ → Bool
is_sound_method_name name = is_method_name name && (not (bytes_eq name (codes "<clinit>")) && is_short name)

pub sound_method_name : (name : List ℕ) → is_sound_method_name name ≡ true → IsSoundMethodName name
sound_method_name name is =
    let first = both _ _ is in
    let second = both _ _ first.1 in
    record { is = method_name name first.0; no_initialiser = other_text _ _ second.0; short = short name second.1 }
