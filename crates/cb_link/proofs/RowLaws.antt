-- Lists with a row for each item.
use Rattle.std.proofs.Common.{◌≡◌, ◌∙◌, ap, sym, ℕ, List, [], ◌∷◌, ◌++◌, Some, map, take, ◌+◌}
use Rattle.std.specs.Prelude.{slice_get}
use Rattle.std.proofs.lemmas.Option.{get_or_from_slice_get, slice_get_within}
use Rattle.cb_link.proofs.PlacesLaws.{mapped_more}

-- one more row
pub row_more : {X Y : Type 0} (f : X → Y) (items : List X) (place : ℕ) (item : X) (before after : List Y) (row : Y) → slice_get items place ≡ Some item
    → before ≡ map f (take place items) → row ≡ f item → after ≡ before ++ row ∷ [] → after ≡ map f (take (place + 1) items)
row_more f items place item before after row here so is then =
    mapped_more f items place item before after row (slice_get_within items place item here) so
    (is ∙ ap f (sym (get_or_from_slice_get items place item item here))) then
