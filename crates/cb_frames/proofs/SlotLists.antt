-- Slots by their kinds and their words.
use Rattle.std.proofs.Common.{◌≡◌, ap, ap₂, arith, refl, ℕ, ◌<◌, zero, suc, List, [], ◌∷◌, get_or, length, slice_set}
use Rattle.cb_frames.specs.declared.slot.Kind.{Kind}
use Rattle.cb_frames.specs.declared.slot.Slot.{Slot}
use Rattle.cb_frames.specs.Slots.{slots_with}

-- there are as many as words
pub counted : (kinds : List Kind) (words : List ℕ) → length kinds ≡ length words → length (slots_with kinds words) ≡ length words
counted [] [] same = refl
counted [] (word ∷ words) same = absurd (omega (arith, same))
counted (kind ∷ kinds) [] same = absurd (omega (arith, same))
counted (kind ∷ kinds) (word ∷ words) same =
    let rest = counted kinds words (omega (arith, same)) in
    omega (arith, rest)

-- the one at a place has the kind and the word there
pub got_with : (kinds : List Kind) (words : List ℕ) (place : ℕ) (kind : Kind) (word : ℕ) → length kinds ≡ length words → place < length words
    → kind ≡ get_or kinds place kind → word ≡ get_or words place word → (let one : Slot = record { kind = kind; word = word } in one ≡ get_or (slots_with kinds words) place one)
got_with kinds [] place kind word same low one other = absurd (omega (arith, low))
got_with [] (second ∷ words) place kind word same low one other = absurd (omega (arith, same))
got_with (first ∷ kinds) (second ∷ words) zero kind word same low one other =
    ap₂ (λ kind word. let one : Slot = record { kind = kind; word = word } in one) one other
got_with (first ∷ kinds) (second ∷ words) (suc place) kind word same low one other =
    got_with kinds words place kind word (omega (arith, same)) (omega (arith, low)) one other

-- both are put in the place of those of one
pub put_with : (kinds : List Kind) (words : List ℕ) (place : ℕ) (slot : Slot)
    → slots_with (slice_set kinds place slot.kind) (slice_set words place slot.word) ≡ slice_set (slots_with kinds words) place slot
put_with [] words zero slot = refl
put_with [] words (suc place) slot = refl
put_with (kind ∷ kinds) [] zero slot = refl
put_with (kind ∷ kinds) [] (suc place) slot = refl
put_with (kind ∷ kinds) (word ∷ words) zero slot = refl
put_with (kind ∷ kinds) (word ∷ words) (suc place) slot =
    ap (λ rest. (let one : Slot = record { kind = kind; word = word } in one) ∷ rest) (put_with kinds words place slot)
