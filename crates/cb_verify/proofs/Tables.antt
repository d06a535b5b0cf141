-- What stands at a place of a table.
use Rattle.std.proofs.Common.{◌≡◌, ◌∙◌, ap, refl, sym, ℕ, ◌==◌, Bool, true, false, List, Option, Some, None, cond, length, nat_lt}
use Rattle.std.specs.Prelude.{option_and_then, option_map, slice_get}
use Rattle.std.specs.List.{find, position_or_len}
use Rattle.std.proofs.lemmas.Bool.{ltb-false}
use Rattle.std.proofs.lemmas.List.Folds.{find_at}
use Rattle.std.proofs.lemmas.Option.{slice_get_past}
use Rattle.cb_plain.specs.PlaceTable.{IsTableOf, answered, index_at}
use Rattle.cb_verify.specs.Frames.{Frame}
use Rattle.cb_verify.specs.Framed.{frame_at_place}

-- the item of the index of the first one there is the first one there
pub found_at : {Item : Type 0} (items : List (ℕ × Item)) (place : ℕ) → option_and_then (slice_get items) (index_at items place) ≡ find (λ item. item.0 == place) items
found_at {Item} items place = go (nat_lt index (length items)) refl ∙ sym (find_at test items) where
  test : ℕ × Item → Bool
  test item = item.0 == place

  index : ℕ
  index = position_or_len test items

  go : (low : Bool) → nat_lt index (length items) ≡ low → option_and_then (slice_get items) (cond low (Some index) None) ≡ slice_get items index
  go true is = refl
  go false is = sym (slice_get_past items index (ltb-false index (length items) is))

-- the frame of what a table answers for a place is the one there
pub frame_found : (frames all : List (ℕ × Frame)) (table : List (Option ℕ)) (pc : ℕ) (found : Option ℕ) → frames ≡ all → IsTableOf frames table → found ≡ answered table pc
    → option_map (λ entry. entry.1) (option_and_then (slice_get frames) found) ≡ frame_at_place pc all
frame_found frames all table pc found same is at =
    ap (λ found. option_map (λ (entry : ℕ × Frame). entry.1) (option_and_then (slice_get frames) found)) (at ∙ is pc)
    ∙ ap (option_map (λ (entry : ℕ × Frame). entry.1)) (found_at frames pc) ∙ ap (frame_at_place pc) same
