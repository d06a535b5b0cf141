-- Objects that are changed, and what is placed behind them.
use Rattle.std.proofs.Common.{◌≡◌, ◌∙◌, ap, add-one, arith, refl, subst, sym, ℕ, pos, zero, suc, ◌+◌, ◌-◌, ◌<◌, ◌≤◌, ◌^◌, true, false, IsTrue, List, [], ◌∷◌, ◌++◌, drop, length, map, replicate, Option, Some, None, is_some, slice_get, slice_set, take}
use Rattle.std.proofs.lemmas.Bool.{false≢true}
use Rattle.std.proofs.lemmas.List.{drop-replicate, length-map, map-append}
use Rattle.std.proofs.lemmas.Option.{none-some, same_Some}
use Rattle.cb_heap.proofs.Laws.{held_alike, held_further, placed_there, residents_changed, there_before}
use Rattle.cb_heap.specs.Kept.{content_at, contents_at, is_held, is_kept, is_number, is_reference, with_content}
use Rattle.cb_heap.specs.Reading.{serial_of}
use Rattle.cb_heap.specs.Store.{ReadsAsBefore}
use Rattle.cb_link.specs.Program.{Linked}
use Rattle.cb_machine.specs.Copying.{overwritten}
use Rattle.cb_machine.specs.Performing.{unit_in}
use Rattle.cb_machine.specs.Strings.{unit_contents}
use Rattle.cb_machine.specs.Texts.{replaced}
use Rattle.cb_plain.specs.State.{Content, Number, Object, Reference}
use Rattle.cb_plain.specs.Updates.{object_in, with_contents_in}
use Rattle.cb_natives.specs.Given.{HoldsUnits, IsUnit, units_in}
use Rattle.cb_natives.specs.MakingOwn.{roomy}
use Rattle.cb_natives.specs.Pieces.{IsPiece, IsText, piece_units, text_units}
use Rattle.cb_natives.specs.Writing.{IsApart, TextApart}
use Rattle.cb_natives.specs.declared.pieces.Piece.{Piece}
use Rattle.cb_natives.specs.declared.pieces.Piece.TheVariants as pieces
use Rattle.cb_natives.specs.declared.pieces.Text.{Text}

-- ---- an object that is there

pub contents_so : (objects : List (Option Object)) (serial : ℕ) (object : Object) → object_in objects serial ≡ Some object → contents_at objects serial ≡ object.contents
contents_so objects serial object is = rw is refl

pub kept_there : (objects : List (Option Object)) (serial : ℕ) → IsTrue (is_kept objects serial) → (object : Object) × (object_in objects serial ≡ Some object)
kept_there objects serial is = by_object (object_in objects serial) refl is where
  by_object : (found : Option Object) → object_in objects serial ≡ found → IsTrue (is_some found) → (object : Object) × (object_in objects serial ≡ Some object)
  by_object None same some = absurd (false≢true some)
  by_object (Some object) same some = (object, same)

pub there_kept : (objects : List (Option Object)) (serial : ℕ) (object : Object) → object_in objects serial ≡ Some object → IsTrue (is_kept objects serial)
there_kept objects serial object is = ap is_some is

none_word : (objects : List (Option Object)) (serial word : ℕ) → object_in objects serial ≡ None → content_at objects serial word ≡ None
none_word objects serial word is = rw is refl

-- a word that is there is one of an object
pub word_there : (objects : List (Option Object)) (serial word : ℕ) (content : Content) → content_at objects serial word ≡ Some content
    → (object : Object) × (object_in objects serial ≡ Some object) × (slice_get object.contents word ≡ Some content)
word_there objects serial word content is = by_object (object_in objects serial) refl where
  by_object : (found : Option Object) → object_in objects serial ≡ found
      → (object : Object) × (object_in objects serial ≡ Some object) × (slice_get object.contents word ≡ Some content)
  by_object None same = absurd (none-some content (sym (none_word objects serial word same) ∙ is))
  by_object (Some object) same = (object, same, sym (ap (λ (contents : List Content). slice_get contents word) (contents_so objects serial object same)) ∙ is)

pub reference_there : (found : Option Content) → is_reference found ≡ true → (serial : ℕ) × (found ≡ Some (Reference serial))
reference_there None is = absurd (false≢true is)
reference_there (Some (Number number)) is = absurd (false≢true is)
reference_there (Some (Reference serial)) is = (serial, refl)

pub reference_kept : (objects : List (Option Object)) (serial word : ℕ) → is_reference (content_at objects serial word) ≡ true
    → (object : Object) × (object_in objects serial ≡ Some object)
reference_kept objects serial word is =
    let found = reference_there (content_at objects serial word) is in
    let there = word_there objects serial word (Reference found.0) found.1 in
    (there.0, there.1)

number_there : (found : Option Content) → is_number found ≡ true → (content : Content) × (found ≡ Some content)
number_there None is = absurd (false≢true is)
number_there (Some (Number number)) is = (Number number, refl)
number_there (Some (Reference serial)) is = absurd (false≢true is)

pub number_kept : (objects : List (Option Object)) (serial word : ℕ) → is_number (content_at objects serial word) ≡ true
    → (object : Object) × (object_in objects serial ≡ Some object)
number_kept objects serial word is =
    let found = number_there (content_at objects serial word) is in
    let there = word_there objects serial word found.0 found.1 in
    (there.0, there.1)

pub held_so : (objects : List (Option Object)) (serial : ℕ) → IsTrue (is_kept objects serial) → IsTrue (is_held objects serial)
held_so objects zero is = refl
held_so objects (suc place) is = is

-- ---- other contents

changed_at : (objects : List (Option Object)) (place : ℕ) (contents : List Content) (object : Object) → object_in objects (suc place) ≡ Some object
    → object_in (with_contents_in objects (suc place) contents) (suc place) ≡ Some (record { site = object.site; kind = object.kind; contents = contents })
changed_at [] place contents object is = absurd (none-some object is)
changed_at (None ∷ objects) zero contents object is = absurd (none-some object is)
changed_at (Some each ∷ objects) zero contents object is =
    ap {B = Option Object} (λ (object : Object). Some (record { site = object.site; kind = object.kind; contents = contents })) (same_Some each object is)
changed_at (entry ∷ objects) (suc place) contents object is = changed_at objects place contents object is

pub changed_there : (objects : List (Option Object)) (serial : ℕ) (contents : List Content) (object : Object) → object_in objects serial ≡ Some object
    → object_in (with_contents_in objects serial contents) serial ≡ Some (record { site = object.site; kind = object.kind; contents = contents })
changed_there objects zero contents object is = absurd (none-some object is)
changed_there objects (suc place) contents object is = changed_at objects place contents object is

pub contents_with : (objects : List (Option Object)) (serial : ℕ) (contents : List Content) → IsTrue (is_kept objects serial)
    → contents_at (with_contents_in objects serial contents) serial ≡ contents
contents_with objects serial contents is =
    let found = kept_there objects serial is in
    contents_so (with_contents_in objects serial contents) serial (record { site = found.0.site; kind = found.0.kind; contents = contents })
    (changed_there objects serial contents found.0 found.1)

twice_at : (objects : List (Option Object)) (place : ℕ) (one other : List Content)
    → with_contents_in (with_contents_in objects (suc place) one) (suc place) other ≡ with_contents_in objects (suc place) other
twice_at [] place one other = refl
twice_at (None ∷ objects) zero one other = refl
twice_at (Some object ∷ objects) zero one other = refl
twice_at (entry ∷ objects) (suc place) one other = ap (λ (rest : List (Option Object)). entry ∷ rest) (twice_at objects place one other)

pub with_twice : (objects : List (Option Object)) (serial : ℕ) (one other : List Content)
    → with_contents_in (with_contents_in objects serial one) serial other ≡ with_contents_in objects serial other
with_twice objects zero one other = refl
with_twice objects (suc place) one other = twice_at objects place one other

same_at : (objects : List (Option Object)) (place : ℕ) → with_contents_in objects (suc place) (contents_at objects (suc place)) ≡ objects
same_at [] place = refl
same_at (None ∷ objects) zero = refl
same_at (Some object ∷ objects) zero = refl
same_at (entry ∷ objects) (suc place) = ap (λ (rest : List (Option Object)). entry ∷ rest) (same_at objects place)

pub with_same : (objects : List (Option Object)) (serial : ℕ) → with_contents_in objects serial (contents_at objects serial) ≡ objects
with_same objects zero = refl
with_same objects (suc place) = same_at objects place

other_at : (objects : List (Option Object)) (one other : ℕ) (contents : List Content) → (one ≡ other → ⊥)
    → object_in (with_contents_in objects (suc one) contents) (suc other) ≡ object_in objects (suc other)
other_at [] one other contents differ = refl
other_at (entry ∷ objects) zero zero contents differ = absurd (differ refl)
other_at (entry ∷ objects) zero (suc other) contents differ = refl
other_at (entry ∷ objects) (suc one) zero contents differ = refl
other_at (entry ∷ objects) (suc one) (suc other) contents differ = other_at objects one other contents (λ same. differ (ap suc same))

pub other_same : (objects : List (Option Object)) (one other : ℕ) (contents : List Content) → (one ≡ other → ⊥)
    → object_in (with_contents_in objects one contents) other ≡ object_in objects other
other_same objects zero other contents differ = refl
other_same objects (suc one) zero contents differ = refl
other_same objects (suc one) (suc other) contents differ = other_at objects one other contents (λ same. differ (ap suc same))

pub other_content : (objects : List (Option Object)) (one other word : ℕ) (contents : List Content) → (one ≡ other → ⊥)
    → content_at (with_contents_in objects one contents) other word ≡ content_at objects other word
other_content objects one other word contents differ = rw (other_same objects one other contents differ) refl

pub kept_changed : (objects : List (Option Object)) (one serial : ℕ) (contents : List Content) → IsTrue (is_kept objects serial)
    → IsTrue (is_kept (with_contents_in objects one contents) serial)
kept_changed objects one zero contents is = absurd (false≢true is)
kept_changed objects one (suc place) contents is =
    held_alike (with_contents_in objects one contents) objects (suc place) (residents_changed objects one contents) ∙ is

-- ---- an object behind them

behind_at : (objects : List (Option Object)) (object : Object) (place : ℕ) (contents : List Content) → IsTrue (is_kept objects (suc place))
    → with_contents_in (objects ++ Some object ∷ []) (suc place) contents ≡ with_contents_in objects (suc place) contents ++ Some object ∷ []
behind_at [] object place contents is = absurd (false≢true is)
behind_at (entry ∷ objects) object zero contents is = refl
behind_at (entry ∷ objects) object (suc place) contents is = ap (λ (rest : List (Option Object)). entry ∷ rest) (behind_at objects object place contents is)

contents_behind : (objects : List (Option Object)) (object : Object) (serial : ℕ) (contents : List Content) → IsTrue (is_kept objects serial)
    → with_contents_in (objects ++ Some object ∷ []) serial contents ≡ with_contents_in objects serial contents ++ Some object ∷ []
contents_behind objects object zero contents is = refl
contents_behind objects object (suc place) contents is = behind_at objects object place contents is

contents_before : (objects : List (Option Object)) (object : Object) (serial : ℕ) → IsTrue (is_kept objects serial)
    → contents_at (objects ++ Some object ∷ []) serial ≡ contents_at objects serial
contents_before objects object serial is =
    let found = kept_there objects serial is in
    contents_so (objects ++ Some object ∷ []) serial found.0 (there_before objects object serial found.0 found.1) ∙ sym (contents_so objects serial found.0 found.1)

pub content_behind : (objects : List (Option Object)) (object : Object) (serial word : ℕ) (content : Content) → IsTrue (is_kept objects serial)
    → with_content (objects ++ Some object ∷ []) serial word content ≡ with_content objects serial word content ++ Some object ∷ []
content_behind objects object serial word content is =
    ap (λ (contents : List Content). with_contents_in (objects ++ Some object ∷ []) serial (slice_set contents word content)) (contents_before objects object serial is)
    ∙ contents_behind objects object serial (slice_set (contents_at objects serial) word content) is

pub word_before : (objects : List (Option Object)) (object : Object) (serial word : ℕ) → IsTrue (is_kept objects serial)
    → content_at (objects ++ Some object ∷ []) serial word ≡ content_at objects serial word
word_before objects object serial word is = ap (λ (contents : List Content). slice_get contents word) (contents_before objects object serial is)

held_contents : (objects : List (Option Object)) (object : Object) (serial : ℕ) → IsTrue (is_held objects serial)
    → contents_at (objects ++ Some object ∷ []) serial ≡ contents_at objects serial
held_contents objects object zero is = refl
held_contents objects object (suc place) is = contents_before objects object (suc place) is

last_at : (objects : List (Option Object)) (object : Object) (contents : List Content)
    → with_contents_in (objects ++ Some object ∷ []) (suc (length objects)) contents ≡ objects ++ Some (record { site = object.site; kind = object.kind; contents = contents }) ∷ []
last_at [] object contents = refl
last_at (entry ∷ objects) object contents = ap (λ (rest : List (Option Object)). entry ∷ rest) (last_at objects object contents)

pub with_last : (objects : List (Option Object)) (object : Object) (contents : List Content)
    → with_contents_in (objects ++ Some object ∷ []) (length objects + 1) contents ≡ objects ++ Some (record { site = object.site; kind = object.kind; contents = contents }) ∷ []
with_last objects object contents =
    ap (λ (serial : ℕ). with_contents_in (objects ++ Some object ∷ []) serial contents) (add-one (length objects)) ∙ last_at objects object contents

pub last_kept : (objects : List (Option Object)) (object : Object) → IsTrue (is_kept (objects ++ Some object ∷ []) (length objects + 1))
last_kept objects object = ap is_some (placed_there objects object)

past_end : (objects : List (Option Object)) → is_kept objects (suc (length objects)) ≡ false
past_end [] = refl
past_end (entry ∷ objects) = past_end objects

not_held : (objects : List (Option Object)) (serial : ℕ) → IsTrue (is_held objects serial) → (serial ≡ length objects + 1) → ⊥
not_held objects serial is same =
    false≢true (sym (past_end objects) ∙ subst (λ (serial : ℕ). is_held objects serial ≡ true) (same ∙ add-one (length objects)) is)

-- ---- room

map_zeros : (count : ℕ) → map (λ (unit : ℕ). Number (pos unit)) (replicate count 0) ≡ replicate count (Number (pos 0))
map_zeros zero = refl
map_zeros (suc count) = ap (λ (rest : List Content). Number (pos 0) ∷ rest) (map_zeros count)

pub roomy_so : (units : List ℕ) (room : ℕ) → overwritten (replicate room (Number (pos 0))) 0 (unit_contents units) ≡ roomy units room
roomy_so units room =
    let size : 0 + length (unit_contents units) ≡ length units = omega (arith, length-map units (λ (unit : ℕ). Number (pos unit))) in
    ap (λ (count : ℕ). unit_contents units ++ drop count (replicate room (Number (pos 0)))) size
    ∙ ap (λ (rest : List Content). unit_contents units ++ rest) (drop-replicate (length units) room (Number (pos 0)) ∙ sym (map_zeros (room - length units)))
    ∙ sym (map-append (λ (unit : ℕ). Number (pos unit)) units (replicate (room - length units) 0))

pub zeros_numbers : (room word : ℕ) → word < length (replicate room (Number (pos 0))) → is_number (slice_get (replicate room (Number (pos 0))) word) ≡ true
zeros_numbers zero word low = absurd (omega (arith, low))
zeros_numbers (suc room) zero low = refl
zeros_numbers (suc room) (suc word) low = zeros_numbers room word (omega (arith, low))

-- ---- texts read as they did

module _ (program : Linked) (objects : List (Option Object)) (index after : ℕ → ℕ) (object : Object) (again : ReadsAsBefore objects index after) where
  abbrev front : List (Option Object)
  front = objects ++ Some object ∷ []

  units_again : (array : ℕ) → IsTrue (is_held objects (serial_of index array)) → units_in front (serial_of after array) ≡ units_in objects (serial_of index array)
  units_again array held =
      ap (λ (serial : ℕ). units_in front serial) (again array held) ∙ ap (map unit_in) (held_contents objects object (serial_of index array) held)

  holds_again : (array : ℕ) → HoldsUnits objects (serial_of index array) → HoldsUnits front (serial_of after array)
  holds_again array units =
      let same = held_contents objects object (serial_of index array) units.held in
      subst (λ (serial : ℕ). HoldsUnits front serial) (sym (again array units.held)) (record {
        held = held_further objects object (serial_of index array) units.held;
        each = λ place low. subst (λ (contents : List Content). IsUnit (slice_get contents place)) (sym same)
            (units.each place (subst (λ (contents : List Content). place < length contents) same low));
        few = subst (λ (contents : List Content). length contents < 2 ^ 31) (sym same) units.few;
      })

  piece_again : (piece : Piece) → IsPiece program objects index piece
      → (piece_units program front after piece ≡ piece_units program objects index piece) × IsPiece program front after piece
  piece_again (pieces.Range array from count) is = (
    ap (λ (units : List ℕ). take count (drop from units)) (units_again array is.holds.held),
    record {
      holds = holds_again array is.holds;
      within = subst (λ (units : List ℕ). from + count ≤ length units) (sym (units_again array is.holds.held)) is.within;
    },
  )
  piece_again (pieces.Replaced array old new) is = (ap (map (replaced old new)) (units_again array is.held), holds_again array is)
  piece_again (pieces.Short units count) is = (refl, is)
  piece_again (pieces.Name kind) is = (refl, is)
  piece_again (pieces.Zeros count) is = (refl, is)

  pub text_again : (text : Text) → IsText program objects index text
      → (text_units program front after text ≡ text_units program objects index text) × IsText program front after text
  text_again text is =
      let first = piece_again text.first is.first in
      let second = piece_again text.second is.second in
      let third = piece_again text.third is.third in (
        ap (λ (units : List ℕ). units ++ piece_units program front after text.second ++ piece_units program front after text.third) first.0
            ∙ ap (λ (units : List ℕ). piece_units program objects index text.first ++ units ++ piece_units program front after text.third) second.0
            ∙ ap (λ (units : List ℕ). piece_units program objects index text.first ++ piece_units program objects index text.second ++ units) third.0,
        record { first = first.1; second = second.1; third = third.1 },
      )

  array_apart : (array : ℕ) → IsTrue (is_held objects (serial_of index array)) → (serial_of after array ≡ length objects + 1) → ⊥
  array_apart array held same = not_held objects (serial_of index array) held (sym (again array held) ∙ same)

  piece_apart : (piece : Piece) → IsPiece program objects index piece → IsApart after (length objects + 1) piece
  piece_apart (pieces.Range array from count) is = array_apart array is.holds.held
  piece_apart (pieces.Replaced array old new) is = array_apart array is.held
  piece_apart (pieces.Short units count) is = tt
  piece_apart (pieces.Name kind) is = tt
  piece_apart (pieces.Zeros count) is = tt

  pub text_apart : (text : Text) → IsText program objects index text → TextApart after (length objects + 1) text
  text_apart text is = record { first = piece_apart text.first is.first; second = piece_apart text.second is.second; third = piece_apart text.third is.third }
