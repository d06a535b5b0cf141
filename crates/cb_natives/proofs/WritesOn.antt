-- Pieces of texts that are written one behind the other.
use Rattle.std.proofs.Common.{◌≡◌, ◌∙◌, ap, arith, refl, subst, sym, ℕ, pos, zero, suc, ◌+◌, ◌<◌, ◌≤◌, ◌^◌, true, List, [], ◌∷◌, ◌++◌, Option, IsTrue, drop, length, map, slice_get, take}
use Rattle.std.proofs.lemmas.List.{length-append, length-map, map-append}
use Rattle.cb_heap.specs.Kept.{contents_at, is_held, is_number}
use Rattle.cb_heap.specs.Reading.{serial_of}
use Rattle.cb_link.specs.Program.{Linked}
use Rattle.cb_machine.specs.Copying.{overwritten}
use Rattle.cb_machine.specs.Performing.{unit_in}
use Rattle.cb_machine.specs.Strings.{unit_contents}
use Rattle.cb_machine.specs.Texts.{replaced}
use Rattle.cb_plain.specs.State.{Content, Number, Object}
use Rattle.cb_plain.specs.Updates.{with_contents_in}
use Rattle.cb_natives.specs.Given.{HoldsUnits, IsUnit, units_in}
use Rattle.cb_natives.specs.Pieces.{IsPiece, IsText, MayWrite, piece_units, text_units}
use Rattle.cb_natives.specs.Writing.{IsApart, TextApart}
use Rattle.cb_natives.specs.declared.pieces.Piece.{Piece}
use Rattle.cb_natives.specs.declared.pieces.Piece.TheVariants as pieces
use Rattle.cb_natives.specs.declared.pieces.Text.{Text}
use Rattle.cb_natives.proofs.Changes.{contents_other, contents_with, held_changed, kept_changed, with_twice}
use Rattle.cb_natives.proofs.Overwriting.{over, over_length, over_none, over_over, over_past, over_first}
use Rattle.cb_natives.proofs.Writes.{IsTarget, wrote}

-- ---- numbers stay numbers

numbers_over : (contents : List Content) (from : ℕ) (units : List ℕ) → ((word : ℕ) → word < length contents → is_number (slice_get contents word) ≡ true)
    → (word : ℕ) → word < length contents → is_number (slice_get (over contents from (unit_contents units)) word) ≡ true
numbers_over [] from units numbers word low = absurd (omega (arith, low))
numbers_over (content ∷ contents) zero [] numbers word low = ap (λ held. is_number (slice_get held word)) (over_none (content ∷ contents) 0) ∙ numbers word low
numbers_over (content ∷ contents) zero (unit ∷ units) numbers zero low = ap (λ held. is_number (slice_get held 0)) (over_first content contents (Number (pos unit)) (unit_contents units))
numbers_over (content ∷ contents) zero (unit ∷ units) numbers (suc word) low =
    ap (λ held. is_number (slice_get held (suc word))) (over_first content contents (Number (pos unit)) (unit_contents units))
    ∙ numbers_over contents 0 units (λ word low. numbers (suc word) (omega (arith, low))) word (omega (arith, low))
numbers_over (content ∷ contents) (suc from) units numbers zero low =
    ap (λ held. is_number (slice_get held 0)) (over_past content contents from (unit_contents units)) ∙ numbers 0 (omega arith)
numbers_over (content ∷ contents) (suc from) units numbers (suc word) low =
    ap (λ held. is_number (slice_get held (suc word))) (over_past content contents from (unit_contents units))
    ∙ numbers_over contents from units (λ word low. numbers (suc word) (omega (arith, low))) word (omega (arith, low))

pub units_length : (units : List ℕ) → length (unit_contents units) ≡ length units
units_length units = length-map units (λ (unit : ℕ). Number (pos unit))

-- ---- pieces that read as they did

-- an array, of one serial before and of another one now
pub record StaysArray (objects now : List (Option Object)) (one other : ℕ) : Type 0 where
  pub held : IsTrue (is_held now other)
  pub contents : contents_at now other ≡ contents_at objects one

abbrev pub Stays : (objects now : List (Option Object)) → (before after : ℕ → ℕ) → Piece → Type 0
Stays objects now before after (pieces.Range array from count) = StaysArray objects now (serial_of before array) (serial_of after array)
Stays objects now before after (pieces.Replaced array old new) = StaysArray objects now (serial_of before array) (serial_of after array)
Stays objects now before after other = Unit {0}

module _ (objects now : List (Option Object)) (one other : ℕ) (stays : StaysArray objects now one other) where
  pub units_stay : units_in now other ≡ units_in objects one
  units_stay = ap (map unit_in) stays.contents

  pub holds_stay : HoldsUnits objects one → HoldsUnits now other
  holds_stay holds = record {
    held = stays.held;
    each = λ place low. subst (λ contents. IsUnit (slice_get contents place)) (sym stays.contents)
        (holds.each place (subst (λ (contents : List Content). place < length contents) stays.contents low));
    few = subst (λ (contents : List Content). length contents < 2 ^ 31) (sym stays.contents) holds.few;
  }

module _ (program : Linked) (objects now : List (Option Object)) (before after : ℕ → ℕ) where
  pub piece_stays : (piece : Piece) → Stays objects now before after piece → IsPiece program objects before piece → IsPiece program now after piece
  piece_stays (pieces.Range array from count) stays is = record {
    holds = holds_stay objects now (serial_of before array) (serial_of after array) stays is.holds;
    within = subst (λ (units : List ℕ). from + count ≤ length units) (sym (units_stay objects now (serial_of before array) (serial_of after array) stays)) is.within;
  }
  piece_stays (pieces.Replaced array old new) stays is = holds_stay objects now (serial_of before array) (serial_of after array) stays is
  piece_stays (pieces.Short units count) stays is = is
  piece_stays (pieces.Name kind) stays is = is
  piece_stays (pieces.Zeros count) stays is = is

  pub piece_same : (piece : Piece) → Stays objects now before after piece → piece_units program now after piece ≡ piece_units program objects before piece
  piece_same (pieces.Range array from count) stays = ap (λ units. take count (drop from units)) (units_stay objects now (serial_of before array) (serial_of after array) stays)
  piece_same (pieces.Replaced array old new) stays = ap (map (replaced old new)) (units_stay objects now (serial_of before array) (serial_of after array) stays)
  piece_same (pieces.Short units count) stays = refl
  piece_same (pieces.Name kind) stays = refl
  piece_same (pieces.Zeros count) stays = refl

-- ---- one behind the other

module _ (objects : List (Option Object)) (to from : ℕ) (target : IsTarget objects to) (units : List ℕ) (room : from + length units ≤ length (contents_at objects to)) where
  abbrev contents : List Content
  contents = contents_at objects to

  abbrev behind : List (Option Object)
  behind = wrote objects to from units

  contents_behind : contents_at behind to ≡ overwritten contents from (unit_contents units)
  contents_behind = contents_with objects to (overwritten contents from (unit_contents units)) target.there

  length_over : length (over contents from (unit_contents units)) ≡ length contents
  length_over = over_length contents from (unit_contents units) (omega (arith, room, units_length units))

  pub length_behind : length (contents_at behind to) ≡ length contents
  length_behind = ap length contents_behind ∙ length_over

  pub target_behind : IsTarget behind to
  target_behind = record {
    there = kept_changed objects to to (overwritten contents from (unit_contents units)) ∙ target.there;
    numbers = λ word low. ap (λ held. is_number (slice_get held word)) contents_behind
        ∙ numbers_over contents from units target.numbers word (omega (arith, low, length_behind));
    few = omega (arith, length_behind, target.few);
  }

  pub wrote_twice : (others : List ℕ) → wrote behind to (from + length units) others ≡ wrote objects to from (units ++ others)
  wrote_twice others =
      let at : from + length (unit_contents units) ≡ from + length units = omega (arith, units_length units) in
      with_twice objects to (overwritten contents from (unit_contents units)) (overwritten (contents_at behind to) (from + length units) (unit_contents others))
      ∙ ap (λ held. with_contents_in objects to (overwritten held (from + length units) (unit_contents others))) contents_behind
      ∙ ap (λ (at : ℕ). with_contents_in objects to (over (over contents from (unit_contents units)) at (unit_contents others))) (sym at)
      ∙ ap (with_contents_in objects to) (over_over contents from (unit_contents units) (unit_contents others) (omega (arith, room, units_length units)))
      ∙ ap (λ new. with_contents_in objects to (over contents from new)) (sym (map-append (λ (unit : ℕ). Number (pos unit)) units others))

  array_behind : (array : ℕ) → (array ≡ to → ⊥) → HoldsUnits objects array → StaysArray objects behind array array
  array_behind array apart holds = record {
    held = held_changed objects to array (overwritten contents from (unit_contents units)) ∙ holds.held;
    contents = contents_other objects to array (overwritten contents from (unit_contents units)) (λ same. apart (sym same));
  }

  pub stays_behind : (program : Linked) (index : ℕ → ℕ) (piece : Piece) → IsApart index to piece → IsPiece program objects index piece → Stays objects behind index index piece
  stays_behind program index (pieces.Range array start count) apart is = array_behind (serial_of index array) apart is.holds
  stays_behind program index (pieces.Replaced array old new) apart is = array_behind (serial_of index array) apart is
  stays_behind program index (pieces.Short short count) apart is = tt
  stays_behind program index (pieces.Name kind) apart is = tt
  stays_behind program index (pieces.Zeros count) apart is = tt

pub apart_may : (index : ℕ → ℕ) (to from : ℕ) (piece : Piece) → IsApart index to piece → MayWrite index to from piece
apart_may index to from (pieces.Range array start count) apart = λ own. absurd (apart own)
apart_may index to from (pieces.Replaced array old new) apart = apart
apart_may index to from (pieces.Short units count) apart = tt
apart_may index to from (pieces.Name kind) apart = tt
apart_may index to from (pieces.Zeros count) apart = tt

-- what is asked where a piece is written
pub record CanWrite (program : Linked) (objects : List (Option Object)) (index : ℕ → ℕ) (to from : ℕ) (piece : Piece) : Type 0 where
  pub target : IsTarget objects (serial_of index to)
  pub is : IsPiece program objects index piece
  pub may : MayWrite index (serial_of index to) from piece
  pub room : from + length (piece_units program objects index piece) ≤ length (contents_at objects (serial_of index to))

-- what was written so far of a text
pub record Wrote (objects : List (Option Object)) (index : ℕ → ℕ) (to from : ℕ) (units : List ℕ) (now : List (Option Object)) (after : ℕ → ℕ) (end : ℕ) : Type 0 where
  pub kept : now ≡ wrote objects (serial_of index to) from units
  pub places : after ≡ index
  pub ends : end ≡ from + length units

module _ (program : Linked) (objects : List (Option Object)) (index : ℕ → ℕ) (to from : ℕ) (units : List ℕ) (now : List (Option Object)) (after : ℕ → ℕ) (end : ℕ) (piece : Piece)
    (before : Wrote objects index to from units now after end) (target : IsTarget objects (serial_of index to)) (apart : IsApart index (serial_of index to) piece)
    (is : IsPiece program objects index piece) (room : from + length units + length (piece_units program objects index piece) ≤ length (contents_at objects (serial_of index to))) where
  abbrev at : ℕ
  at = serial_of index to

  abbrev written : List (Option Object)
  written = wrote objects at from units

  within : from + length units ≤ length (contents_at objects at)
  within = omega (arith, room)

  stays : Stays objects written index index piece
  stays = stays_behind objects at from target units within program index piece apart is

  same : piece_units program written index piece ≡ piece_units program objects index piece
  same = piece_same program objects written index index piece stays

  can_there : CanWrite program written index to (from + length units) piece
  can_there = record {
    target = target_behind objects at from target units within;
    is = piece_stays program objects written index index piece stays is;
    may = apart_may index at (from + length units) piece apart;
    room = omega (arith, room, ap length same, length_behind objects at from target units within);
  }

  pub can_next : CanWrite program now after to end piece
  can_next =
      subst (λ now. CanWrite program now after to end piece) (sym before.kept)
      (subst (λ after. CanWrite program written after to end piece) (sym before.places)
      (subst (λ (end : ℕ). CanWrite program written index to end piece) (sym before.ends) can_there))

  pub wrote_next : (then : List (Option Object)) (behind : ℕ → ℕ) (last : ℕ) → then ≡ wrote now (serial_of after to) end (piece_units program now after piece) → behind ≡ after
      → last ≡ end + length (piece_units program now after piece) → Wrote objects index to from (units ++ piece_units program objects index piece) then behind last
  wrote_next then behind last kept places ends =
      let read : piece_units program now after piece ≡ piece_units program objects index piece =
      ap (λ after. piece_units program now after piece) before.places ∙ ap (λ now. piece_units program now index piece) before.kept ∙ same in
      record {
        kept = kept
            ∙ ap (λ read. wrote now (serial_of after to) end read) read
            ∙ ap (λ after. wrote now (serial_of after to) end (piece_units program objects index piece)) before.places
            ∙ ap (λ now. wrote now at end (piece_units program objects index piece)) before.kept
            ∙ ap (λ end. wrote written at end (piece_units program objects index piece)) before.ends
            ∙ wrote_twice objects at from target units within (piece_units program objects index piece);
        places = places ∙ before.places;
        ends = omega (arith, ends, ap length read, before.ends, length-append units (piece_units program objects index piece));
      }

-- the pieces of a text
module _ (program : Linked) (objects : List (Option Object)) (index : ℕ → ℕ) (to from : ℕ) (text : Text) (target : IsTarget objects (serial_of index to))
    (is : IsText program objects index text) (apart : TextApart index (serial_of index to) text)
    (room : from + length (text_units program objects index text) ≤ length (contents_at objects (serial_of index to))) where
  abbrev one : List ℕ
  one = piece_units program objects index text.first

  abbrev two : List ℕ
  two = piece_units program objects index text.second

  abbrev three : List ℕ
  three = piece_units program objects index text.third

  pub room_one : from + length one ≤ length (contents_at objects (serial_of index to))
  room_one = omega (arith, room, length-append (one ++ two) three, length-append one two)

  room_two : from + length one + length two ≤ length (contents_at objects (serial_of index to))
  room_two = omega (arith, room, length-append (one ++ two) three, length-append one two)

  room_three : from + length (one ++ two) + length three ≤ length (contents_at objects (serial_of index to))
  room_three = omega (arith, room, length-append (one ++ two) three)

  module _ (now : List (Option Object)) (after : ℕ → ℕ) (end : ℕ) where
    pub second_can : Wrote objects index to from one now after end → CanWrite program now after to end text.second
    second_can before = can_next program objects index to from one now after end text.second before target apart.second is.second room_two

    pub third_can : Wrote objects index to from (one ++ two) now after end → CanWrite program now after to end text.third
    third_can before = can_next program objects index to from (one ++ two) now after end text.third before target apart.third is.third room_three

    module _ (then : List (Option Object)) (behind : ℕ → ℕ) (last : ℕ) where
      pub second_wrote : Wrote objects index to from one now after end → then ≡ wrote now (serial_of after to) end (piece_units program now after text.second) → behind ≡ after
          → last ≡ end + length (piece_units program now after text.second) → Wrote objects index to from (one ++ two) then behind last
      second_wrote before = wrote_next program objects index to from one now after end text.second before target apart.second is.second room_two then behind last

      pub third_wrote : Wrote objects index to from (one ++ two) now after end → then ≡ wrote now (serial_of after to) end (piece_units program now after text.third) → behind ≡ after
          → last ≡ end + length (piece_units program now after text.third) → Wrote objects index to from (one ++ two ++ three) then behind last
      third_wrote before = wrote_next program objects index to from (one ++ two) now after end text.third before target apart.third is.third room_three then behind last
