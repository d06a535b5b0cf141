-- Pieces of texts: how they are read and written unit by unit, and one behind the other.
use Rattle.std.proofs.Common.{◌≡◌, ◌∙◌, ap, arith, refl, subst, sym, ℕ, pos, zero, suc, ◌+◌, ◌<◌, ◌≤◌, ◌^◌, List, [], ◌∷◌, Option, Some, None, IsTrue, drop, get_or, length, map, option_map, slice_get, take}
use Rattle.std.proofs.lemmas.List.{drop_more, drop_all, get_or-drop, get_or-map, get_or-replicate, get_or-take, length-drop, length-map, length-replicate, length-take, drop-map}
use Rattle.std.proofs.lemmas.Option.{none-some, same_Some}
use Rattle.cb_heap.specs.Kept.{content_at, contents_at, is_kept, is_number, with_content}
use Rattle.cb_heap.specs.Reading.{serial_of}
use Rattle.cb_link.specs.Numbers.{or_none}
use Rattle.cb_link.specs.Program.{Linked}
use Rattle.cb_machine.specs.Copying.{overwritten}
use Rattle.cb_machine.specs.Performing.{unit_in}
use Rattle.cb_machine.specs.Strings.{unit_contents}
use Rattle.cb_machine.specs.Texts.{dotted, replaced}
use Rattle.cb_plain.specs.State.{Content, Number, Object}
use Rattle.cb_plain.specs.Updates.{with_contents_in}
use Rattle.cb_natives.specs.Given.{IsUnit, units_in}
use Rattle.cb_natives.specs.Pieces.{IsPiece, MayWrite, piece_units}
use Rattle.cb_natives.specs.Writing.{HoldsNumbers, MayRead, unit_of_word, unit_read}
use Rattle.cb_natives.specs.declared.pieces.Piece.{Piece}
use Rattle.cb_natives.specs.declared.pieces.Piece.TheVariants as pieces
use Rattle.cb_natives.proofs.Changes.{put_before, with_same, word_same}
use Rattle.cb_natives.proofs.Overwriting.{over_none}
use Rattle.cb_natives.proofs.Units.{count_so}

-- ---- how many units there are, and which

pub range_length : (units : List ℕ) (from count : ℕ) → from + count ≤ length units → length (take count (drop from units)) ≡ count
range_length units from count fits = omega (arith, length-take count (drop from units), length-drop from units)

pub front_length : (units : List ℕ) (count : ℕ) → count ≤ length units → length (take count units) ≡ count
front_length units count fits = omega (arith, length-take count units)

range_at : (units : List ℕ) (from count place : ℕ) → place < count → get_or (take count (drop from units)) place 0 ≡ get_or units (from + place) 0
range_at units from count place low = get_or-take count (drop from units) place 0 low ∙ get_or-drop from units place 0

word_at : (contents : List Content) (place : ℕ) → get_or (map unit_in contents) place 0 ≡ unit_of_word (slice_get contents place)
word_at [] place = refl
word_at (content ∷ contents) zero = refl
word_at (content ∷ contents) (suc place) = word_at contents place

pub word_so : (content : Option Content) (unit : ℕ) → option_map unit_in content ≡ Some unit → unit_of_word content ≡ unit
word_so None unit is = absurd (none-some unit is)
word_so (Some content) unit is = same_Some (unit_in content) unit is

module _ (program : Linked) (objects : List (Option Object)) (index : ℕ → ℕ) where
  pub read_at : (piece : Piece) (place : ℕ) → IsPiece program objects index piece → place < length (piece_units program objects index piece)
      → get_or (piece_units program objects index piece) place 0 ≡ unit_read program objects index piece place
  read_at (pieces.Range array from count) place is low =
      let units = units_in objects (serial_of index array) in
      range_at units from count place (omega (arith, low, range_length units from count is.within)) ∙ word_at (contents_at objects (serial_of index array)) (from + place)
  read_at (pieces.Replaced array old new) place is low =
      let units = units_in objects (serial_of index array) in
      get_or-map (replaced old new) units place 0 0 (omega (arith, low, length-map units (replaced old new)))
      ∙ ap (replaced old new) (word_at (contents_at objects (serial_of index array)) place)
  read_at (pieces.Short units count) place is low = get_or-take count units place 0 (omega (arith, low, front_length units count is))
  read_at (pieces.Name kind) place is low =
      let name = or_none (slice_get program.kinds kind) in
      get_or-map dotted name place 0 0 (omega (arith, low, length-map name dotted))
  read_at (pieces.Zeros count) place is low = get_or-replicate count place 0 0 (omega (arith, low, length-replicate {A = ℕ} count 0))

  pub may_read : (piece : Piece) (place : ℕ) → IsPiece program objects index piece → place < length (piece_units program objects index piece) → MayRead program objects index piece place
  may_read (pieces.Range array from count) place is low =
      let serial = serial_of index array in
      let units = units_in objects serial in
      let within : from + place < length (contents_at objects serial) = omega (arith, low, range_length units from count is.within, is.within, count_so objects serial) in
      let few = is.holds.few in
      (omega (arith, within, few), is.holds.each (from + place) within)
  may_read (pieces.Replaced array old new) place is low =
      let serial = serial_of index array in
      let units = units_in objects serial in
      is.each place (omega (arith, low, length-map units (replaced old new), count_so objects serial))
  may_read (pieces.Short units count) place is low = omega (arith, low, is, front_length units count is)
  may_read (pieces.Name kind) place is low =
      let name = or_none (slice_get program.kinds kind) in
      omega (arith, low, length-map name dotted)
  may_read (pieces.Zeros count) place is low = tt

-- ---- where others were written behind

module _ (program : Linked) (objects now : List (Option Object)) (index : ℕ → ℕ) (to at : ℕ)
    (same : (array word : ℕ) → (array ≡ to → word < at) → content_at now array word ≡ content_at objects array word) where
  pub reads_same : (piece : Piece) (from place : ℕ) → MayWrite index to from piece → from + place < at → unit_read program now index piece place ≡ unit_read program objects index piece place
  reads_same (pieces.Range array start count) from place may low = ap unit_of_word (same (serial_of index array) (start + place) (λ own. omega (arith, may own, low)))
  reads_same (pieces.Replaced array old new) from place may low =
      ap (λ content. replaced old new (unit_of_word content)) (same (serial_of index array) place (λ own. absurd (may own)))
  reads_same (pieces.Short units count) from place may low = refl
  reads_same (pieces.Name kind) from place may low = refl
  reads_same (pieces.Zeros count) from place may low = refl

  pub may_still : (piece : Piece) (from place : ℕ) → MayWrite index to from piece → from + place < at → MayRead program objects index piece place → MayRead program now index piece place
  may_still (pieces.Range array start count) from place may low read =
      (read.0, subst IsUnit (sym (same (serial_of index array) (start + place) (λ own. omega (arith, may own, low)))) read.1)
  may_still (pieces.Replaced array old new) from place may low read = subst IsUnit (sym (same (serial_of index array) place (λ own. absurd (may own)))) read
  may_still (pieces.Short units count) from place may low read = read
  may_still (pieces.Name kind) from place may low read = read
  may_still (pieces.Zeros count) from place may low read = read

-- ---- an array that is written into

abbrev pub wrote : List (Option Object) → ℕ → ℕ → List ℕ → List (Option Object)
wrote objects to from units = with_contents_in objects to (overwritten (contents_at objects to) from (unit_contents units))

pub record IsTarget (objects : List (Option Object)) (to : ℕ) : Type 0 where
  pub there : IsTrue (is_kept objects to)
  pub numbers : HoldsNumbers objects to
  pub few : length (contents_at objects to) < 2 ^ 31

-- what was written so far of a piece: its units from a place on, the last first
abbrev pub wrote_back : List (Option Object) → ℕ → ℕ → List ℕ → ℕ → List (Option Object)
wrote_back objects to from units left = with_contents_in objects to (overwritten (contents_at objects to) (from + left) (drop left (unit_contents units)))

pub back_none : (objects : List (Option Object)) (to from : ℕ) (units : List ℕ) (left : ℕ) → left ≡ length units → objects ≡ wrote_back objects to from units left
back_none objects to from units left whole =
    let none : drop left (unit_contents units) ≡ [] = drop_all left (unit_contents units) (omega (arith, whole, length-map units (λ (unit : ℕ). Number (pos unit)))) in
    sym (ap (λ new. with_contents_in objects to (overwritten (contents_at objects to) (from + left) new)) none
    ∙ ap (with_contents_in objects to) (over_none (contents_at objects to) (from + left))
    ∙ with_same objects to)

pub back_all : (objects now : List (Option Object)) (to from : ℕ) (units : List ℕ) (left : ℕ) → now ≡ wrote_back objects to from units left → left ≡ 0 → now ≡ wrote objects to from units
back_all objects now to from units left before none =
    let first : from + left ≡ from = omega (arith, none) in
    before
    ∙ ap (λ (left : ℕ). with_contents_in objects to (overwritten (contents_at objects to) (from + left) (drop left (unit_contents units)))) none
    ∙ ap (λ (at : ℕ). with_contents_in objects to (overwritten (contents_at objects to) at (unit_contents units))) (sym (ap (λ left. from + left) none) ∙ first)

-- one step of it
module _ (program : Linked) (objects now : List (Option Object)) (index : ℕ → ℕ) (to from : ℕ) (piece : Piece) (left place : ℕ)
    (target : IsTarget objects to) (is : IsPiece program objects index piece) (may : MayWrite index to from piece)
    (room : from + length (piece_units program objects index piece) ≤ length (contents_at objects to))
    (before : now ≡ wrote_back objects to from (piece_units program objects index piece) left)
    (next : left ≡ suc place) (low : left ≤ length (piece_units program objects index piece)) where
  abbrev units : List ℕ
  units = piece_units program objects index piece

  same_before : (array word : ℕ) → (array ≡ to → word < from + left) → content_at now array word ≡ content_at objects array word
  same_before array word under =
      ap (λ objects. content_at objects array word) before
      ∙ word_same objects to target.there (from + left) (drop left (unit_contents units)) (omega (arith, room, low)) array word under

  step_number : IsTrue (is_number (content_at now to (from + place)))
  step_number =
      ap is_number (same_before to (from + place) (λ own. omega (arith, next))) ∙ target.numbers (from + place) (omega (arith, room, low, next))

  step_read : MayRead program now index piece place
  step_read = may_still program objects now index to (from + left) same_before piece from place may (omega (arith, next)) (may_read program objects index piece place is (omega (arith, low, next)))

  unit_so : Number (pos (get_or units place 0)) ∷ drop left (unit_contents units) ≡ drop place (unit_contents units)
  unit_so =
      let within : place < length units = omega (arith, low, next) in
      let more : place + 1 ≡ left = omega (arith, next) in
      sym (drop-map (λ (unit : ℕ). Number (pos unit)) place units
      ∙ ap unit_contents (drop_more units place 0 within)
      ∙ ap (λ (rest : List Content). Number (pos (get_or units place 0)) ∷ rest) (ap (λ (count : ℕ). unit_contents (drop count units)) more ∙ sym (drop-map (λ (unit : ℕ). Number (pos unit)) left units)))

  step_writes : with_content now to (from + place) (Number (pos (unit_read program now index piece place))) ≡ wrote_back objects to from units place
  step_writes =
      let within : place < length units = omega (arith, low, next) in
      let under : from + left ≡ suc (from + place) = omega (arith, next) in
      let unit : unit_read program now index piece place ≡ get_or units place 0 =
      reads_same program objects now index to (from + left) same_before piece from place may (omega (arith, next)) ∙ sym (read_at program objects index piece place is within) in
      ap (λ unit. with_content now to (from + place) (Number (pos unit))) unit
      ∙ ap (λ now. with_content now to (from + place) (Number (pos (get_or units place 0)))) before
      ∙ ap (λ (count : ℕ). with_content (with_contents_in objects to (overwritten (contents_at objects to) count (drop left (unit_contents units)))) to (from + place) (Number (pos (get_or units place 0)))) under
      ∙ put_before objects to (from + place) (Number (pos (get_or units place 0))) (drop left (unit_contents units)) target.there (omega (arith, room, low, next))
      ∙ ap (λ new. with_contents_in objects to (overwritten (contents_at objects to) (from + place) new)) unit_so

-- the same at a place of a store that names objects as it did
module _ (program : Linked) (objects now : List (Option Object)) (index after : ℕ → ℕ) (at from : ℕ) (piece : Piece) (left place : ℕ)
    (target : IsTarget objects (serial_of index at)) (is : IsPiece program objects index piece) (may : MayWrite index (serial_of index at) from piece)
    (room : from + length (piece_units program objects index piece) ≤ length (contents_at objects (serial_of index at)))
    (before : now ≡ wrote_back objects (serial_of index at) from (piece_units program objects index piece) left) (places : after ≡ index)
    (next : left ≡ suc place) (low : left ≤ length (piece_units program objects index piece)) where
  pub number_there : IsTrue (is_number (content_at now (serial_of after at) (from + place)))
  number_there =
      ap (λ index. is_number (content_at now (serial_of index at) (from + place))) places
      ∙ step_number program objects now index (serial_of index at) from piece left place target is may room before next low

  pub read_there : MayRead program now after piece place
  read_there =
      subst (λ index. MayRead program now index piece place) (sym places)
      (step_read program objects now index (serial_of index at) from piece left place target is may room before next low)

  pub written_there : (then : List (Option Object)) → then ≡ with_content now (serial_of after at) (from + place) (Number (pos (unit_read program now after piece place)))
      → then ≡ wrote_back objects (serial_of index at) from (piece_units program objects index piece) place
  written_there then put =
      put
      ∙ ap (λ index. with_content now (serial_of index at) (from + place) (Number (pos (unit_read program now index piece place)))) places
      ∙ step_writes program objects now index (serial_of index at) from piece left place target is may room before next low
