-- Names in a table of texts.
use Rattle.std.proofs.Common.{◌≡◌, ◌∙◌, ap, ℕ, ◌<◌, List, Bor, length, map, get_or, slice_get, Some}
use Rattle.std.proofs.lemmas.Option.{slice_get-get_or, slice_get-map}
use Rattle.std.specs.Option.{option_map}

-- the name at a place
pub name_at : (names : List (Bor (List ℕ))) (place : ℕ) (other : Bor (List ℕ)) → place < length names
    → slice_get (map (λ name. name.now) names) place ≡ Some ((get_or names place other).now)
name_at names place other within =
    slice_get-map (λ name. name.now) names place ∙ ap (option_map (λ name. name.now)) (slice_get-get_or names place other within)
