-- The texts of words: units of two bytes, and no more than the word has bytes.
use Rattle.std.proofs.Common.{rules, tests, ◌≡◌, ◌⊎◌, ◌<◌, ◌≤◌, ◌^◌, ap, arith, inl, inr, refl, ℕ, Bool, true, false, ◌&&◌, List, [], ◌∷◌, ◌++◌, flat_map, length, length-append, nat_lt}
use Rattle.std.specs.Char.{len_utf8}
use Rattle.std.specs.Char.Escape.{encode_utf16}
use Rattle.std.specs.List.{AllByRecursion}
use Rattle.std.specs.Str.{IsUtf8, chars}
use Rattle.std.proofs.Math.Utf8.{encode, encodes, scalar, scalars, scalar_cases}
use Rattle.std.proofs.lemmas.Str.{encodes-chars, length-encode, scalars-chars}
use Rattle.cb_safety.specs.Strings.{IsText}
use Rattle.cb_runner.specs.Words.{IsShort, text_units}

pub all_append : {X : Type 0} (P : X → Type 0) (front back : List X) → AllByRecursion P front → AllByRecursion P back → AllByRecursion P (front ++ back)
all_append P [] back all more = more
all_append P (item ∷ front) back all more = (all.0, all_append P front back all.1 more)

-- a character
abbrev IsUnit : ℕ → Type 0
IsUnit unit = unit < 2 ^ 16

low : (character : ℕ) → scalar character ≡ true → character < 1114112
low character is = below (scalar_cases character is) where
  below : (character < 55296) ⊎ ((57344 ≤ character) × (character < 1114112)) → character < 1114112
  below (inl small) = omega (arith, small)
  below (inr (great, small)) = small

units_fit : (character : ℕ) → character < 1114112 → (small : Bool) → nat_lt character 65536 ≡ small
    → AllByRecursion IsUnit (encode_utf16 character) × (length (encode_utf16 character) ≤ len_utf8 character)
units_fit character below true is = search (rules, tests)
units_fit character below false is = search (rules, tests)

both_true : (one other : Bool) → (one && other) ≡ true → (one ≡ true) × (other ≡ true)
both_true true other is = (refl, is)
both_true false other is = absurd (cc is)

-- and all characters of a word
all_fit : (characters : List ℕ) → scalars characters ≡ true
    → AllByRecursion IsUnit (flat_map encode_utf16 characters) × (length (flat_map encode_utf16 characters) ≤ length (encodes characters))
all_fit [] are = (tt, omega arith)
all_fit (character ∷ characters) are =
    let (first, others) = both_true (scalar character) (scalars characters) are in
    let own = units_fit character (low character first) (nat_lt character 65536) refl in
    let more = all_fit characters others in
    let size = length-append (encode_utf16 character) (flat_map encode_utf16 characters) in
    let bytes = length-append (encode character) (encodes characters) in
    let own_bytes = length-encode character in (
      all_append IsUnit (encode_utf16 character) (flat_map encode_utf16 characters) own.0 more.0,
      omega (arith, size, bytes, own_bytes, own.1, more.1),
    )

pub text_fits : (word : List ℕ) → IsUtf8 word → IsShort word → IsText (text_units word)
text_fits word spelled short =
    let (each, few) = all_fit (chars word) (scalars-chars word spelled) in
    let size = ap length (encodes-chars word spelled) in
    record { each = each; few = omega (arith, few, size, short) }
