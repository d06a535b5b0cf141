-- Pieces of texts where an object is placed, and the string of an array of chars.
use Rattle.std.proofs.Common.{◌≡◌, ◌∙◌, ap, add-one, arith, refl, sym, ℕ, pos, zero, suc, ◌+◌, ◌<◌, ◌≤◌, Bool, true, false, List, [], ◌∷◌, ◌++◌, Option, Some, IsTrue, is_some, length, replicate, slice_get, slice_set, subst}
use Rattle.std.proofs.lemmas.Bool.{false≢true}
use Rattle.std.proofs.lemmas.List.{length-append}
use Rattle.cb_heap.proofs.Laws.{held_further, may_point_there, placed_there, there_before}
use Rattle.cb_heap.specs.Kept.{contents_at, is_held, is_kept, is_number, with_content}
use Rattle.cb_heap.specs.Reading.{serial_of}
use Rattle.cb_heap.specs.Shaped.{new_object}
use Rattle.cb_heap.specs.Store.{ReadsAsBefore, may_point}
use Rattle.cb_link.specs.Program.{Linked}
use Rattle.cb_plain.specs.declared.shape.Shape.{Shape}
use Rattle.cb_plain.specs.declared.shape.Shape.TheVariants.{Elements, Fields}
use Rattle.cb_plain.specs.State.{Content, Number, Object, Reference}
use Rattle.cb_plain.specs.Updates.{object_in, with_contents_in}
use Rattle.cb_natives.specs.Given.{HoldsUnits}
use Rattle.cb_natives.specs.Pieces.{IsPiece, IsText, piece_units, text_units}
use Rattle.cb_natives.specs.Writing.{IsApart, TextApart}
use Rattle.cb_natives.specs.declared.pieces.Piece.{Piece}
use Rattle.cb_natives.specs.declared.pieces.Piece.TheVariants as pieces
use Rattle.cb_natives.specs.declared.pieces.Text.{Text}
use Rattle.cb_natives.proofs.WritesOn.{Stays, StaysArray, piece_same, piece_stays}

-- ---- the object that was placed last, and those before it

further_at : (objects : List (Option Object)) (object : Object) (place : ℕ) → IsTrue (is_held objects (suc place)) → contents_at (objects ++ Some object ∷ []) (suc place) ≡ contents_at objects (suc place)
further_at [] object place held = absurd (false≢true held)
further_at (entry ∷ objects) object zero held = refl
further_at (entry ∷ objects) object (suc place) held = further_at objects object place held

contents_further : (objects : List (Option Object)) (object : Object) (serial : ℕ) → IsTrue (is_held objects serial) → contents_at (objects ++ Some object ∷ []) serial ≡ contents_at objects serial
contents_further objects object zero held = refl
contents_further objects object (suc place) held = further_at objects object place held

below_at : (objects : List (Option Object)) (place : ℕ) → IsTrue (is_held objects (suc place)) → place < length objects
below_at [] place held = absurd (false≢true held)
below_at (entry ∷ objects) zero held = omega arith
below_at (entry ∷ objects) (suc place) held = omega (arith, below_at objects place held)

held_below : (objects : List (Option Object)) (serial : ℕ) → IsTrue (is_held objects serial) → serial ≤ length objects
held_below objects zero held = omega arith
held_below objects (suc place) held = omega (arith, below_at objects place held)

last_at : (objects : List (Option Object)) (object : Object) (contents : List Content)
    → with_contents_in (objects ++ Some object ∷ []) (suc (length objects)) contents ≡ objects ++ Some (record { site = object.site; kind = object.kind; contents = contents }) ∷ []
last_at [] object contents = refl
last_at (entry ∷ objects) object contents = ap (λ (rest : List (Option Object)). entry ∷ rest) (last_at objects object contents)

pub with_last : (objects : List (Option Object)) (object : Object) (contents : List Content)
    → with_contents_in (objects ++ Some object ∷ []) (length objects + 1) contents ≡ objects ++ Some (record { site = object.site; kind = object.kind; contents = contents }) ∷ []
with_last objects object contents =
    ap (λ (serial : ℕ). with_contents_in (objects ++ Some object ∷ []) serial contents) (add-one (length objects)) ∙ last_at objects object contents

pub last_contents : (objects : List (Option Object)) (object : Object) → contents_at (objects ++ Some object ∷ []) (length objects + 1) ≡ object.contents
last_contents objects object = rw (placed_there objects object) refl

pub last_kept : (objects : List (Option Object)) (object : Object) → IsTrue (is_kept (objects ++ Some object ∷ []) (length objects + 1))
last_kept objects object = ap is_some (placed_there objects object)

last_held : (objects : List (Option Object)) (object : Object) → IsTrue (is_held (objects ++ Some object ∷ []) (length objects + 1))
last_held objects object =
    ap (is_held (objects ++ Some object ∷ [])) (add-one (length objects))
    ∙ ap (is_kept (objects ++ Some object ∷ [])) (sym (add-one (length objects))) ∙ ap is_some (placed_there objects object)

-- new objects: an array of numbers, and one of one reference
pub array_blank : (shapes : List Shape) (site kind size : ℕ) → slice_get shapes kind ≡ Some (Elements false) → (new_object shapes site kind size).contents ≡ replicate size (Number (pos 0))
array_blank shapes site kind size is = rw is refl

pub string_blank : (shapes : List Shape) (site kind : ℕ) → slice_get shapes kind ≡ Some (Fields (true ∷ [])) → (new_object shapes site kind 1).contents ≡ Reference 0 ∷ []
string_blank shapes site kind is = rw is refl

pub blank_numbers : (size word : ℕ) → word < size → is_number (slice_get (replicate size (Number (pos 0))) word) ≡ true
blank_numbers zero word low = absurd (omega (arith, low))
blank_numbers (suc size) zero low = refl
blank_numbers (suc size) (suc word) low = blank_numbers size word (omega (arith, low))

-- ---- pieces

module _ (objects : List (Option Object)) (object : Object) (before after : ℕ → ℕ) (again : ReadsAsBefore objects before after) where
  abbrev behind : List (Option Object)
  behind = objects ++ Some object ∷ []

  array_stays : (array : ℕ) → HoldsUnits objects (serial_of before array) → StaysArray objects behind (serial_of before array) (serial_of after array)
  array_stays array holds = record {
    held = ap (is_held behind) (again array holds.held) ∙ held_further objects object (serial_of before array) holds.held;
    contents = ap (contents_at behind) (again array holds.held) ∙ contents_further objects object (serial_of before array) holds.held;
  }

  array_apart : (array : ℕ) → HoldsUnits objects (serial_of before array) → serial_of after array ≡ length objects + 1 → ⊥
  array_apart array holds own = omega (arith, held_below objects (serial_of before array) holds.held, again array holds.held, own)

  module _ (program : Linked) where
    stays_placed : (piece : Piece) → IsPiece program objects before piece → Stays objects behind before after piece
    stays_placed (pieces.Range array from count) is = array_stays array is.holds
    stays_placed (pieces.Replaced array old new) is = array_stays array is
    stays_placed (pieces.Short units count) is = tt
    stays_placed (pieces.Name kind) is = tt
    stays_placed (pieces.Zeros count) is = tt

    apart_placed : (piece : Piece) → IsPiece program objects before piece → IsApart after (length objects + 1) piece
    apart_placed (pieces.Range array from count) is = array_apart array is.holds
    apart_placed (pieces.Replaced array old new) is = array_apart array is
    apart_placed (pieces.Short units count) is = tt
    apart_placed (pieces.Name kind) is = tt
    apart_placed (pieces.Zeros count) is = tt

    pub text_placed : (text : Text) → IsText program objects before text → IsText program behind after text
    text_placed text is = record {
      first = piece_stays program objects behind before after text.first (stays_placed text.first is.first) is.first;
      second = piece_stays program objects behind before after text.second (stays_placed text.second is.second) is.second;
      third = piece_stays program objects behind before after text.third (stays_placed text.third is.third) is.third;
    }

    pub text_apart : (text : Text) → IsText program objects before text → TextApart after (length objects + 1) text
    text_apart text is = record { first = apart_placed text.first is.first; second = apart_placed text.second is.second; third = apart_placed text.third is.third }

    pub text_same : (text : Text) → IsText program objects before text → text_units program behind after text ≡ text_units program objects before text
    text_same text is =
        ap (λ first. first ++ piece_units program behind after text.second ++ piece_units program behind after text.third)
        (piece_same program objects behind before after text.first (stays_placed text.first is.first))
        ∙ ap (λ second. piece_units program objects before text.first ++ second ++ piece_units program behind after text.third)
        (piece_same program objects behind before after text.second (stays_placed text.second is.second))
        ∙ ap (λ third. piece_units program objects before text.first ++ piece_units program objects before text.second ++ third)
        (piece_same program objects behind before after text.third (stays_placed text.third is.third))

-- ---- a string that was placed behind its array

module _ (objects middle now : List (Option Object)) (first second : Object) (before between after : ℕ → ℕ) (array at : ℕ)
    (placed : middle ≡ objects ++ Some first ∷ []) (one : serial_of between array ≡ length objects + 1) (reads : ReadsAsBefore objects before between)
    (behind : now ≡ middle ++ Some second ∷ []) (two : serial_of after at ≡ length middle + 1) (again : ReadsAsBefore middle between after)
    (blank : second.contents ≡ Reference 0 ∷ []) where
  abbrev front : List (Option Object)
  front = objects ++ Some first ∷ []

  abbrev both : List (Option Object)
  both = front ++ Some second ∷ []

  now_so : now ≡ both
  now_so = behind ∙ ap (λ middle. middle ++ Some second ∷ []) placed

  again_so : ReadsAsBefore front between after
  again_so = subst (λ middle. ReadsAsBefore middle between after) placed again

  string_at : serial_of after at ≡ length front + 1
  string_at = two ∙ ap (λ (middle : List (Option Object)). length middle + 1) placed

  array_at : serial_of after array ≡ length objects + 1
  array_at = again_so array (ap (is_held front) one ∙ last_held objects first) ∙ one

  first_there : object_in both (length objects + 1) ≡ Some first
  first_there = there_before front second (length objects + 1) first (placed_there objects first)

  pub allowed_so : (allows : ℕ → ℕ → Bool) → allows second.site first.site ≡ true → IsTrue (may_point allows now (serial_of after at) (serial_of after array))
  allowed_so allows allowed =
      ap (λ now. may_point allows now (serial_of after at) (serial_of after array)) now_so
      ∙ ap (λ (serial : ℕ). may_point allows both serial (serial_of after array)) string_at
      ∙ ap (may_point allows both (length front + 1)) array_at
      ∙ may_point_there allows both (length front + 1) (length objects + 1) second first (placed_there front second) first_there allowed

  pub string_so : (then : List (Option Object)) → then ≡ with_content now (serial_of after at) 0 (Reference (serial_of after array))
      → then ≡ front ++ Some (record { site = second.site; kind = second.kind; contents = Reference (length objects + 1) ∷ [] }) ∷ []
  string_so then put =
      put
      ∙ ap (λ now. with_content now (serial_of after at) 0 (Reference (serial_of after array))) now_so
      ∙ ap (λ (serial : ℕ). with_content both serial 0 (Reference (serial_of after array))) string_at
      ∙ ap (λ (serial : ℕ). with_content both (length front + 1) 0 (Reference serial)) array_at
      ∙ ap (λ (contents : List Content). with_contents_in both (length front + 1) (slice_set contents 0 (Reference (length objects + 1))))
      (last_contents front second ∙ blank)
      ∙ with_last front second (Reference (length objects + 1) ∷ [])

  pub serial_so : (last : ℕ → ℕ) → last ≡ after → serial_of last at ≡ length objects + 1 + 1
  serial_so last same = ap (λ index. serial_of index at) same ∙ string_at ∙ ap (λ count. count + 1) (length-append objects (Some first ∷ []))

  pub reads_so : (last : ℕ → ℕ) → last ≡ after → ReadsAsBefore objects before last
  reads_so last same place held =
      ap (λ index. serial_of index place) same
      ∙ again_so place (ap (is_held front) (reads place held) ∙ held_further objects first (serial_of before place) held)
      ∙ reads place held
