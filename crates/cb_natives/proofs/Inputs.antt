-- Bytes that are written into an array, the last first, and one piece behind the other.
use Rattle.std.proofs.Common.{◌≡◌, ◌∙◌, ap, append-nil, arith, inl, inr, refl, subst, sym, ℕ, zero, suc, ◌+◌, ◌<◌, ◌≤◌, ◌-◌, ◌^◌, true, false, List, [], ◌∷◌, ◌++◌, Option, IfOk, IsTrue, drop, get_or, length, map, slice_get, take}
use Rattle.std.proofs.KnownBytes.{Consumes-kept, Consumes-nil, Consumes-trans}
use Rattle.std.proofs.lemmas.List.{drop_all, drop-map, drop_more, length-append, length-map, map-append}
use Rattle.std.proofs.lemmas.Bool.{false≢true}
use Rattle.std.specs.Io.{ReadsAtMost}
use Rattle.std.specs.Io.KnownBytes.{Keeps, ReadConsumes}
use Rattle.std.specs.List.{AllByRecursion}
use Rattle.std.specs.declared.result.Result.{Result}
use Rattle.std.specs.declared.result.Result.TheVariants.{Err, Ok}
use Rattle.cb_heap.specs.Kept.{content_at, contents_at, is_number, with_content}
use Rattle.cb_heap.specs.Reading.{serial_of}
use Rattle.cb_io.specs.Faults.{CountsFaults}
use Rattle.cb_machine.specs.Copying.{overwritten}
use Rattle.cb_machine.specs.Outside.{stored_byte}
use Rattle.cb_plain.specs.State.{Content, Object}
use Rattle.cb_plain.specs.Updates.{with_contents_in}
use Rattle.cb_natives.specs.Given.{HoldsBytes}
use Rattle.cb_natives.specs.Asking.{Asked, Call, Calls, NoCall}
use Rattle.cb_natives.specs.Input.{GaveIn, Loses, MovesInto, ReadsFront, TakesInto, TakesPiece, Took, with_bytes}
use Rattle.cb_natives.proofs.Changes.{contents_with, kept_changed, put_before, with_same, with_twice, word_same}
use Rattle.cb_natives.proofs.Overwriting.{over, over_first, over_length, over_none, over_over, over_past}

bytes_length : (bytes : List ℕ) → length (map stored_byte bytes) ≡ length bytes
bytes_length bytes = length-map bytes stored_byte

-- ---- the last first: those from a place on are written

abbrev pub bytes_back : List (Option Object) → (array from : ℕ) → List ℕ → ℕ → List (Option Object)
bytes_back objects array from bytes left = with_contents_in objects array (overwritten (contents_at objects array) (from + left) (drop left (map stored_byte bytes)))

pub back_none : (objects : List (Option Object)) (array from : ℕ) (bytes : List ℕ) (left : ℕ) → left ≡ length bytes → objects ≡ bytes_back objects array from bytes left
back_none objects array from bytes left whole =
    let none : drop left (map stored_byte bytes) ≡ [] = drop_all left (map stored_byte bytes) (omega (arith, whole, bytes_length bytes)) in
    sym (ap (λ new. with_contents_in objects array (overwritten (contents_at objects array) (from + left) new)) none
    ∙ ap (with_contents_in objects array) (over_none (contents_at objects array) (from + left))
    ∙ with_same objects array)

pub back_all : (objects now : List (Option Object)) (array from : ℕ) (bytes : List ℕ) (left : ℕ) → now ≡ bytes_back objects array from bytes left → left ≡ 0
    → now ≡ with_bytes objects array from bytes
back_all objects now array from bytes left before none =
    let first : from + left ≡ from = omega (arith, none) in
    before
    ∙ ap (λ (left : ℕ). with_contents_in objects array (overwritten (contents_at objects array) (from + left) (drop left (map stored_byte bytes)))) none
    ∙ ap (λ (at : ℕ). with_contents_in objects array (overwritten (contents_at objects array) at (map stored_byte bytes))) (sym (ap (λ left. from + left) none) ∙ first)

module _ (objects now : List (Option Object)) (array from : ℕ) (bytes : List ℕ) (left place : ℕ) (holds : HoldsBytes objects array)
    (room : from + length bytes ≤ length (contents_at objects array)) (before : now ≡ bytes_back objects array from bytes left)
    (next : left ≡ suc place) (low : left ≤ length bytes) where
  step_number : is_number (content_at now array (from + place)) ≡ true
  step_number =
      ap (λ objects. is_number (content_at objects array (from + place))) before
      ∙ ap is_number (word_same objects array holds.there (from + left) (drop left (map stored_byte bytes)) (omega (arith, room, low)) array (from + place) (λ own. omega (arith, next)))
      ∙ holds.numbers (from + place) (omega (arith, room, low, next))

  byte_so : stored_byte (get_or bytes place 0) ∷ drop left (map stored_byte bytes) ≡ drop place (map stored_byte bytes)
  byte_so =
      let within : place < length bytes = omega (arith, low, next) in
      let more : place + 1 ≡ left = omega (arith, next) in
      sym (drop-map stored_byte place bytes
      ∙ ap (map stored_byte) (drop_more bytes place 0 within)
      ∙ ap (λ (rest : List Content). stored_byte (get_or bytes place 0) ∷ rest) (ap (λ (count : ℕ). map stored_byte (drop count bytes)) more ∙ sym (drop-map stored_byte left bytes)))

  step_writes : with_content now array (from + place) (stored_byte (get_or bytes place 0)) ≡ bytes_back objects array from bytes place
  step_writes =
      let under : from + left ≡ suc (from + place) = omega (arith, next) in
      let byte = stored_byte (get_or bytes place 0) in
      ap (λ now. with_content now array (from + place) byte) before
      ∙ ap (λ (count : ℕ). with_content (with_contents_in objects array (overwritten (contents_at objects array) count (drop left (map stored_byte bytes)))) array (from + place) byte) under
      ∙ put_before objects array (from + place) byte (drop left (map stored_byte bytes)) holds.there (omega (arith, room, low, next))
      ∙ ap (λ new. with_contents_in objects array (overwritten (contents_at objects array) (from + place) new)) byte_so

-- the same at a place of a store that names objects as it did
module _ (objects now : List (Option Object)) (index after : ℕ → ℕ) (at from : ℕ) (bytes : List ℕ) (left place : ℕ) (holds : HoldsBytes objects (serial_of index at))
    (room : from + length bytes ≤ length (contents_at objects (serial_of index at))) (before : now ≡ bytes_back objects (serial_of index at) from bytes left)
    (places : after ≡ index) (next : left ≡ suc place) (low : left ≤ length bytes) where
  pub number_there : IsTrue (is_number (content_at now (serial_of after at) (from + place)))
  number_there =
      ap (λ index. is_number (content_at now (serial_of index at) (from + place))) places
      ∙ step_number objects now (serial_of index at) from bytes left place holds room before next low

  pub written_there : (then : List (Option Object)) (byte : Content) → byte ≡ stored_byte (get_or bytes place 0) → then ≡ with_content now (serial_of after at) (from + place) byte
      → then ≡ bytes_back objects (serial_of index at) from bytes place
  written_there then byte is put =
      put
      ∙ ap (λ index. with_content now (serial_of index at) (from + place) byte) places
      ∙ ap (with_content now (serial_of index at) (from + place)) is
      ∙ step_writes objects now (serial_of index at) from bytes left place holds room before next low

-- ---- one piece behind the other

all_joined : (P : ℕ → Type 0) (front back : List ℕ) → AllByRecursion P front → AllByRecursion P back → AllByRecursion P (front ++ back)
all_joined P [] back all each = each
all_joined P (item ∷ front) back all each = (all.0, all_joined P front back all.1 each)

pub all_front : (bytes : List ℕ) → ((place : ℕ) → get_or bytes place 0 < 2 ^ 8) → (count : ℕ) → AllByRecursion (λ byte. byte < 2 ^ 8) (take count bytes)
all_front [] each zero = tt
all_front [] each (suc count) = tt
all_front (byte ∷ bytes) each zero = tt
all_front (byte ∷ bytes) each (suc count) = (each 0, all_front bytes (λ place. each (suc place)) count)

pub front_read : {Fault : Type 0} (before now : Option (List ℕ)) (most : ℕ) (buffer : List ℕ) (result : Result ℕ Fault) → ReadsAtMost result buffer
    → ReadConsumes before now result buffer → 0 < length buffer → length buffer ≤ most → ((place : ℕ) → get_or buffer place 0 < 2 ^ 8)
    → IfOk result (λ moved. ReadsFront before now most buffer moved)
front_read before now most buffer (Ok moved) bound consumes some few each =
    record { low = all_front buffer each moved; size = sym bound.1; few = omega (arith, bound.0, few); consumes = consumes.0; end = λ none. consumes.1 none some }
front_read before now most buffer (Err fault) bound consumes some few each = tt

numbers_over : (contents : List Content) (from : ℕ) (bytes : List ℕ) → ((word : ℕ) → word < length contents → is_number (slice_get contents word) ≡ true)
    → (word : ℕ) → word < length contents → is_number (slice_get (over contents from (map stored_byte bytes)) word) ≡ true
numbers_over [] from bytes numbers word low = absurd (omega (arith, low))
numbers_over (content ∷ contents) zero [] numbers word low = ap (λ held. is_number (slice_get held word)) (over_none (content ∷ contents) 0) ∙ numbers word low
numbers_over (content ∷ contents) zero (byte ∷ bytes) numbers zero low = ap (λ held. is_number (slice_get held 0)) (over_first content contents (stored_byte byte) (map stored_byte bytes))
numbers_over (content ∷ contents) zero (byte ∷ bytes) numbers (suc word) low =
    ap (λ held. is_number (slice_get held (suc word))) (over_first content contents (stored_byte byte) (map stored_byte bytes))
    ∙ numbers_over contents 0 bytes (λ word low. numbers (suc word) (omega (arith, low))) word (omega (arith, low))
numbers_over (content ∷ contents) (suc from) bytes numbers zero low =
    ap (λ held. is_number (slice_get held 0)) (over_past content contents from (map stored_byte bytes)) ∙ numbers 0 (omega arith)
numbers_over (content ∷ contents) (suc from) bytes numbers (suc word) low =
    ap (λ held. is_number (slice_get held (suc word))) (over_past content contents from (map stored_byte bytes))
    ∙ numbers_over contents from bytes (λ word low. numbers (suc word) (omega (arith, low))) word (omega (arith, low))

module _ (objects : List (Option Object)) (array from : ℕ) (holds : HoldsBytes objects array) (bytes : List ℕ) (room : from + length bytes ≤ length (contents_at objects array)) where
  contents_behind : contents_at (with_bytes objects array from bytes) array ≡ overwritten (contents_at objects array) from (map stored_byte bytes)
  contents_behind = contents_with objects array (overwritten (contents_at objects array) from (map stored_byte bytes)) holds.there

  pub length_behind : length (contents_at (with_bytes objects array from bytes) array) ≡ length (contents_at objects array)
  length_behind = ap length contents_behind ∙ over_length (contents_at objects array) from (map stored_byte bytes) (omega (arith, room, bytes_length bytes))

  pub holds_behind : HoldsBytes (with_bytes objects array from bytes) array
  holds_behind = record {
    there = kept_changed objects array array (overwritten (contents_at objects array) from (map stored_byte bytes)) ∙ holds.there;
    numbers = λ word low. ap (λ held. is_number (slice_get held word)) contents_behind
        ∙ numbers_over (contents_at objects array) from bytes holds.numbers word (omega (arith, low, length_behind));
    few = omega (arith, length_behind, holds.few);
  }

  bytes_twice : (others : List ℕ) → with_bytes (with_bytes objects array from bytes) array (from + length bytes) others ≡ with_bytes objects array from (bytes ++ others)
  bytes_twice others =
      let contents = contents_at objects array in
      let behind = with_bytes objects array from bytes in
      let at : from + length (map stored_byte bytes) ≡ from + length bytes = omega (arith, bytes_length bytes) in
      with_twice objects array (overwritten contents from (map stored_byte bytes)) (overwritten (contents_at behind array) (from + length bytes) (map stored_byte others))
      ∙ ap (λ held. with_contents_in objects array (overwritten held (from + length bytes) (map stored_byte others))) contents_behind
      ∙ ap (λ (at : ℕ). with_contents_in objects array (over (over contents from (map stored_byte bytes)) at (map stored_byte others))) (sym at)
      ∙ ap (with_contents_in objects array) (over_over contents from (map stored_byte bytes) (map stored_byte others) (omega (arith, room, bytes_length bytes)))
      ∙ ap (λ new. with_contents_in objects array (over contents from new)) (sym (map-append stored_byte bytes others))

-- calls that didn't fail
pub still_low : (first before now : ℕ) → CountsFaults before now (false ≡ true) → (first < 2 ^ 64 - 1 → before ≤ first) → first < 2 ^ 64 - 1 → now ≤ first
still_low first before now counts unfailed low =
    let same : before ≤ first = unfailed low in
    let exact = counts.exact (omega (arith, same, low)) in
    let never : before < now → ⊥ = λ rose. false≢true (exact.1 rose) in
    omega (arith, same, never)

empty_so : (bytes : List ℕ) → length bytes ≡ 0 → bytes ≡ []
empty_so [] none = refl
empty_so (byte ∷ bytes) none = absurd (omega (arith, none))

pub moves_none : {In : Type 0} (gave : In → ℕ → List ℕ → In → Type 0) (first : In) (left : Option (List ℕ)) (objects : List (Option Object)) (array from : ℕ)
    → MovesInto (λ bytes. Calls gave first bytes first) left left objects objects array from 0
moves_none gave first left objects array from = record {
  bytes = [];
  known = NoCall;
  low = tt;
  size = refl;
  consumes = Consumes-nil left;
  stand = sym (ap (with_contents_in objects array) (over_none (contents_at objects array) from) ∙ with_same objects array);
}

-- what was taken so far, at a place of a store that names objects as it did
module _ {In : Type 0} (gave : In → ℕ → List ℕ → In → Type 0) (first stop : In) (before mid : Option (List ℕ)) (objects between : List (Option Object)) (index middle : ℕ → ℕ) (at from taken : ℕ)
    (holds : HoldsBytes objects (serial_of index at)) (moves : MovesInto (λ bytes. Calls gave first bytes stop) before mid objects between (serial_of index at) from taken) (places : middle ≡ index)
    (room : from + taken ≤ length (contents_at objects (serial_of index at))) where
  abbrev array : ℕ
  array = serial_of index at

  within : from + length moves.bytes ≤ length (contents_at objects array)
  within = omega (arith, room, moves.size)

  pub holds_there : HoldsBytes between (serial_of middle at)
  holds_there =
      subst (λ index. HoldsBytes between (serial_of index at)) (sym places)
      (subst (λ objects. HoldsBytes objects array) (sym moves.stand) (holds_behind objects array from holds moves.bytes within))

  pub length_there : length (contents_at between (serial_of middle at)) ≡ length (contents_at objects array)
  length_there =
      ap (λ index. length (contents_at between (serial_of index at))) places
      ∙ ap (λ objects. length (contents_at objects array)) moves.stand ∙ length_behind objects array from holds moves.bytes within

  joins : (Known Both : List ℕ → Type 0) (now : Option (List ℕ)) (after : List (Option Object)) (more : ℕ) → (other : MovesInto Known mid now between after (serial_of middle at) (from + taken) more)
      → Both (moves.bytes ++ other.bytes) → MovesInto Both before now objects after array from (taken + more)
  joins Known Both now after more other both =
      let same : from + taken ≡ from + length moves.bytes = omega (arith, moves.size) in
      record {
        bytes = moves.bytes ++ other.bytes;
        known = both;
        low = all_joined (λ byte. byte < 2 ^ 8) moves.bytes other.bytes moves.low other.low;
        size = omega (arith, length-append moves.bytes other.bytes, moves.size, other.size);
        consumes = Consumes-trans before mid now moves.bytes other.bytes moves.consumes other.consumes;
        stand = other.stand
            ∙ ap (λ index. with_bytes between (serial_of index at) (from + taken) other.bytes) places
            ∙ ap (λ objects. with_bytes objects array (from + taken) other.bytes) moves.stand
            ∙ ap (λ (start : ℕ). with_bytes (with_bytes objects array from moves.bytes) array start other.bytes) same
            ∙ bytes_twice objects array from holds moves.bytes within other.bytes;
      }

  -- some more came
  pub moves_more : (last : In) (now : Option (List ℕ)) (after : List (Option Object)) (more : ℕ) → MovesInto (GaveIn gave stop last) mid now between after (serial_of middle at) (from + taken) more
      → (more ≡ 0 → ⊥) → MovesInto (λ bytes. Calls gave first bytes last) before now objects after array from (taken + more)
  moves_more last now after more other some =
      let (most, few, given) = other.known in
      joins (GaveIn gave stop last) (λ bytes. Calls gave first bytes last) now after more other (Call moves.bytes other.bytes stop last most moves.known given (omega (arith, other.size, some)))

  -- none more came
  asked_last : (last : In) (count : ℕ) (bytes : List ℕ) → taken < count → GaveIn gave stop last bytes → bytes ≡ [] → Asked gave count first last (moves.bytes ++ bytes)
  asked_last last count bytes less (most, some, given) none =
      subst (λ bytes. Asked gave count first last (moves.bytes ++ bytes)) (sym none)
      (subst (Asked gave count first last) (sym (append-nil moves.bytes)) (record { mid = stop; calls = moves.known; ends = inr (omega (arith, less, moves.size), (most, some, subst (λ bytes. gave stop most bytes last) none given)) }))

  pub taken_last : (last : In) (now : Option (List ℕ)) (after : List (Option Object)) (count most more : ℕ) → taken < count
      → TakesPiece gave stop last mid now most between after (serial_of middle at) (from + taken) more → more ≡ 0 → TakesInto gave first last before now count objects after array from taken
  taken_last last now after count most more less piece none =
      let all : taken + more ≡ taken = omega (arith, none) in
      let asked : Asked gave count first last (moves.bytes ++ piece.moves.bytes) = asked_last last count piece.moves.bytes less piece.moves.known (empty_so piece.moves.bytes (piece.moves.size ∙ none)) in
      record {
        moves = subst (λ (taken : ℕ). MovesInto (Asked gave count first last) before now objects after array from taken) all
            (joins (GaveIn gave stop last) (Asked gave count first last) now after more piece.moves asked);
        most = omega (arith, less);
        end = λ less. piece.end none;
      }

  -- all came
  pub taken_all : (count : ℕ) → taken ≡ count → TakesInto gave first stop before mid count objects between array from taken
  taken_all count all = record {
    moves = record {
      bytes = moves.bytes;
      known = record { mid = stop; calls = moves.known; ends = inl (moves.size ∙ all, refl) };
      low = moves.low;
      size = moves.size;
      consumes = moves.consumes;
      stand = moves.stand;
    };
    most = omega (arith, all);
    end = λ less. absurd (omega (arith, all, less));
  }

-- ---- what was taken

pub given_front : {In Fault : Type 0} (gave : In → ℕ → List ℕ → In → Type 0) (first last : In) (most : ℕ) (buffer : List ℕ) (result : Result ℕ Fault)
    → IfOk result (λ moved. gave first most (take moved buffer) last) → 0 < most → IfOk result (λ moved. GaveIn gave first last (take moved buffer))
given_front gave first last most buffer (Ok moved) given some = (most, some, given)
given_front gave first last most buffer (Err fault) given some = tt

-- one call was made for one byte
pub asked_one : {In : Type 0} (gave : In → ℕ → List ℕ → In → Type 0) (first last : In) (bytes : List ℕ) → GaveIn gave first last bytes → length bytes ≤ 1
    → Asked gave 1 first last bytes
asked_one gave first last [] (most, some, given) few = record { mid = first; calls = NoCall; ends = inr (omega arith, (most, some, given)) }
asked_one gave first last (byte ∷ bytes) (most, some, given) few =
    record { mid = last; calls = Call [] (byte ∷ bytes) first last most NoCall given (omega arith); ends = inl (omega (arith, few), refl) }

pub took_all : {In : Type 0} (gave : In → ℕ → List ℕ → In → Type 0) (first last : In) (before now : Option (List ℕ)) (count : ℕ) (objects after : List (Option Object)) (array from taken : ℕ)
    → (takes : TakesInto gave first last before now count objects after array from taken) → Took before now count takes.moves.bytes
took_all gave first last before now count objects after array from taken takes = record {
  low = takes.moves.low;
  few = omega (arith, takes.moves.size, takes.most);
  consumes = takes.moves.consumes;
  end = λ less. takes.end (omega (arith, takes.moves.size, less));
}

pub took_front : (before now : Option (List ℕ)) (most : ℕ) (buffer : List ℕ) (moved : ℕ) → most ≡ 1 → (reads : ReadsFront before now most buffer moved)
    → Took before now 1 (take moved buffer)
took_front before now most buffer moved one reads = record {
  low = reads.low;
  few = omega (arith, reads.size, reads.few, one);
  consumes = reads.consumes;
  end = λ less. reads.end (omega (arith, reads.size, less));
}

-- a call that fails behind others takes nothing more
pub loses_so : {In : Type 0} (gave : In → ℕ → List ℕ → In → Type 0) (first stop : In) (before mid now : Option (List ℕ)) (objects after : List (Option Object)) (array from taken count : ℕ)
    → MovesInto (λ bytes. Calls gave first bytes stop) before mid objects after array from taken → taken < count → Keeps mid now → Loses gave count first before now
loses_so gave first stop before mid now objects after array from taken count moves less keeps =
    record { front = moves.bytes; few = omega (arith, moves.size, less); consumes = Consumes-kept before mid now moves.bytes moves.consumes keeps; mid = stop; calls = moves.known }
