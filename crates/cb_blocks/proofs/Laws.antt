-- Where words of parts stand in the region, for the crates above.
use Rattle.std.proofs.Common.{◌≡◌, ◌∙◌, ℕ, ◌+◌, ◌-◌, ◌*◌, ◌/◌, ◌%◌, ◌<◌, ◌≤◌, List, length, take, sym, ap, subst, arith, lit<, inl, inr}
use Rattle.std.proofs.lemmas.Bool.{cases_eq}
use Rattle.std.proofs.lemmas.List.{get_or-take, length-take-le}
use Rattle.cb_blocks.specs.Parted.{IsGrown, IsGrownBy, IsParted, Parted, blocks_for, index_of, with_fewer}
use Rattle.cb_blocks.specs.Rows.{place_in, row}
use Rattle.cb_blocks.proofs.Changed.{stays}
use Rattle.cb_blocks.proofs.Laid.{room_for}
use Rattle.cb_blocks.proofs.Paged.{page_of, places_apart}
use Rattle.cb_blocks.proofs.Rowed.{row_set_other, row_set_same}

-- the blocks of a part have room for its words
room_of_part : (parts : Parted) (part i : ℕ) → IsParted parts → part < length parts.words → i < length (row parts.words part) → i < length (row parts.rows part) * 256
room_of_part parts part i is below inside = omega (arith, inside, room_for 256 (length (row parts.words part)) (lit< tt), is.exact part below)

-- no two words stand at one place
pub index_apart : (parts : Parted) (part other i j : ℕ) → IsParted parts → part < length parts.words → other < length parts.words → i < length (row parts.words part) → j < length (row parts.words other)
    → index_of parts part i ≡ index_of parts other j → (part ≡ other) × (i ≡ j)
index_apart parts part other i j is below below' inside inside' same =
    places_apart 256 parts.rows part other i j (lit< tt) is.apart (room_of_part parts part i is below inside) (room_of_part parts other j is below' inside') same

-- all stand within the blocks
pub index_below : (parts : Parted) (part i : ℕ) → IsParted parts → part < length parts.words → i < length (row parts.words part) → index_of parts part i < parts.blocks * 256
index_below parts part i is below inside =
    let page = page_of 256 (length (row parts.rows part)) i (lit< tt) (room_of_part parts part i is below inside) in
    omega (arith, is.within part (i / 256) page)

-- they stay where a part grows
pub index_grown : (old new : Parted) (part words other i : ℕ) → IsParted old → part < length old.words → IsGrown old new part words → other < length old.words → i < length (row old.words other)
    → index_of new other i ≡ index_of old other i
index_grown old new part words other i is below grown h inside =
    stays old.rows new.rows part (blocks_for (length (row old.words part) + words) - blocks_for (length (row old.words part))) other i (omega (arith, below, is.same)) grown.rows (room_of_part old other i is h inside)

-- and those that are left stay where one shrinks
pub index_fewer : (parts : Parted) (part used other i : ℕ) → IsParted parts → part < length parts.words → used ≤ length (row parts.words part) → i < length (row (with_fewer parts part used).words other)
    → index_of (with_fewer parts part used) other i ≡ index_of parts other i
index_fewer parts part used other i is below fewer inside =
    elim (cases_eq other part) [
      | inl same ↦
          let left : i < used = subst (λ n. i < n) (ap (λ p. length (row (with_fewer parts part used).words p)) same ∙ ap length (row_set_same parts.words part (take used (row parts.words part)) below) ∙ length-take-le used (row parts.words part) fewer) inside in
          let page : i / 256 < blocks_for used = page_of 256 (blocks_for used) i (lit< tt) (omega (arith, left, room_for 256 used (lit< tt))) in
          ap (λ p. place_in 256 (row (with_fewer parts part used).rows p) i) same
          ∙ ap (λ xs. place_in 256 xs i) (row_set_same parts.rows part (take (blocks_for used) (row parts.rows part)) (omega (arith, below, is.same)))
          ∙ ap (λ n. n * 256 + i % 256) (get_or-take (blocks_for used) (row parts.rows part) (i / 256) 0 page)
          ∙ ap (λ p. place_in 256 (row parts.rows p) i) (sym same)
      | inr differs ↦ ap (λ xs. place_in 256 xs i) (row_set_other parts.rows part other (take (blocks_for used) (row parts.rows part)) differs)
    ]

pub index_grown_by : (old new : Parted) (part : ℕ) (more : List ℕ) (other i : ℕ) → IsParted old → part < length old.words → IsGrownBy old new part more → other < length old.words → i < length (row old.words other)
    → index_of new other i ≡ index_of old other i
index_grown_by old new part more other i is below grown h inside =
    stays old.rows new.rows part (blocks_for (length (row old.words part) + length more) - blocks_for (length (row old.words part))) other i (omega (arith, below, is.same)) grown.rows (room_of_part old other i is h inside)
