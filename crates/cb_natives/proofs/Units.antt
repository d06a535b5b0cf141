-- What is read of arrays of chars.
use Rattle.std.proofs.Common.{◌≡◌, ◌∙◌, ap, arith, refl, sym, subst, ℕ, ℤ, pos, negsuc, zero, suc, ◌<◌, ◌^◌, true, IsTrue, List, length, Option, Some, None, option_map, slice_get, mod-eq_of_lt, w64}
use Rattle.std.proofs.lemmas.Int.{int_wrap_fits, of_z-to_z}
use Rattle.std.proofs.lemmas.List.{length-map}
use Rattle.std.proofs.lemmas.Option.{slice_get-map}
use mir.Val.{bits}
use Rattle.std.specs.Int.{Width, cast_signed, cast_unsigned, int_wrap}
use Rattle.cb_heap.specs.Kept.{content_at, contents_at, is_held, is_kept, is_number}
use Rattle.cb_heap.specs.Reading.{serial_of}
use Rattle.cb_plain.specs.State.{Content, Number, Object, Reference}
use Rattle.cb_machine.specs.Performing.{unit_in}
use Rattle.cb_natives.specs.Given.{HoldsUnits, IsUnit, units_in}

-- ---- one word

pub unit_number : (content : Option Content) → IsUnit content → is_number content ≡ true
unit_number None is = absurd is
unit_number (Some (Number number)) is = refl
unit_number (Some (Reference serial)) is = absurd is

pub word_signed : (w : Width) (word : ℕ) → word < 2 ^ bits w → int_wrap w (pos word) ≡ cast_signed w word
unfolding int_wrap
word_signed w word low = ap (cast_signed w) (mod-eq_of_lt low)

-- the word of a unit is the unit
signed_unit : (number : ℤ) (word : ℕ) → IsUnit (Some (Number number)) → word < 2 ^ 64 → number ≡ int_wrap w64 (pos word) → (word < 2 ^ 16) × (unit_in (Number number) ≡ word)
signed_unit (pos unit) word is low same =
    let fits : unit < 65536 = is in
    let small : unit < 2 ^ 64 = omega (arith, fits) in
    let both : unit ≡ word =
    sym (of_z-to_z w64 unit small)
    ∙ ap (cast_unsigned w64) (sym (word_signed w64 unit small) ∙ int_wrap_fits w64 (pos unit) (record { sfits = omega (arith, fits) }) ∙ same ∙ word_signed w64 word low)
    ∙ of_z-to_z w64 word low in
    (subst (λ (number : ℕ). number < 2 ^ 16) both fits, both)
signed_unit (negsuc unit) word is low same = absurd is

pub unit_so : (content : Option Content) (word : ℕ) → IsUnit content → word < 2 ^ 64 → content ≡ Some (Number (int_wrap w64 (pos word)))
    → (word < 2 ^ 16) × (option_map unit_in content ≡ Some word)
unit_so content word is low same =
    let one = signed_unit (int_wrap w64 (pos word)) word (subst IsUnit same is) low refl in
    (one.0, ap (option_map unit_in) same ∙ ap {B = Option ℕ} Some one.1)

-- ---- an array

pub kept_so : (objects : List (Option Object)) (index : ℕ → ℕ) (array : ℕ) → ¬ (array ≡ 0) → IsTrue (is_held objects (serial_of index array))
    → IsTrue (is_kept objects (serial_of index array))
kept_so objects index zero some held = absurd (some refl)
kept_so objects index (suc place) some held = held

pub count_so : (objects : List (Option Object)) (array : ℕ) → length (units_in objects array) ≡ length (contents_at objects array)
count_so objects array = length-map (contents_at objects array) unit_in

pub unit_of : (objects : List (Option Object)) (array place : ℕ) → slice_get (units_in objects array) place ≡ option_map unit_in (content_at objects array place)
unit_of objects array place = slice_get-map unit_in (contents_at objects array) place

pub each_so : (objects : List (Option Object)) (array place : ℕ) → HoldsUnits objects array → place < length (units_in objects array) → IsUnit (content_at objects array place)
each_so objects array place units low = units.each place (omega (arith, low, count_so objects array))
