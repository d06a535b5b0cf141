-- The names of primitive types, by their codes.
use Rattle.std.proofs.Common.{◌≡◌, ◌≢◌, ◌∙◌, ap, sym, refl, arith, ℕ, ◌+◌, ◌-◌, ◌<◌, ◌≤◌, List, [], length, get_or, slice_get, Some}
use Rattle.std.specs.Option.{unwrap_or}
use Rattle.std.proofs.lemmas.Option.{slice_get-get_or, slice_get_within}
use Rattle.cb_asm_line.specs.Mnemonics.{array_types}
use Rattle.cb_asm_line.specs.Operands.{array_type}

counted : length array_types ≡ 8
counted = refl

pub array_spelled : (place : ℕ) (name : List ℕ) → slice_get array_types place ≡ Some name → name ≡ array_type (4 + place)
array_spelled place name is = let same : (4 + place) - 4 ≡ place = omega arith in ap (λ found. unwrap_or found []) (sym is) ∙ ap (λ each. unwrap_or (slice_get array_types each) []) (sym same)

pub array_within : (place : ℕ) (name : List ℕ) → slice_get array_types place ≡ Some name → place < 8
array_within place name is = let within = slice_get_within array_types place name is in omega (arith, within, counted)

pub no_array : (name : List ℕ) → ((place : ℕ) → slice_get array_types place ≢ Some name) → (code : ℕ) → 4 ≤ code → code ≤ 11 → name ≢ array_type code
no_array name none code least most is =
    let within : code - 4 < length array_types = omega (arith, counted) in
    let found : slice_get array_types (code - 4) ≡ Some (get_or array_types (code - 4) []) = slice_get-get_or array_types (code - 4) [] within in
    none (code - 4) (found ∙ ap Some (sym (ap (λ each. unwrap_or each []) found) ∙ sym is))
