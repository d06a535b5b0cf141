-- Arrays of chars that are placed and referred to, and those that are written.
use Rattle.std.proofs.Common.{◌≡◌, ◌∙◌, ap, arith, refl, subst, sym, add-zero, zero-add, ℕ, pos, zero, suc, ◌+◌, ◌<◌, ◌≤◌, ◌^◌, Bool, true, false, IsTrue, List, [], ◌∷◌, ◌++◌, drop, get_or, length, replicate, Option, Some, slice_get, slice_set, take}
use Rattle.std.proofs.lemmas.List.{append-nil, append_assoc, drop-append-le, drop_all, drop_more, length-append, length-drop, length-replicate, length-take-le, set_at, take-append-drop, take_more}
use Rattle.std.proofs.lemmas.Option.{get_or_from_slice_get}
use Rattle.cb_heap.proofs.Laws.{placed_there}
use Rattle.cb_heap.specs.Follows.{Follows}
use Rattle.cb_heap.specs.Kept.{content_at, contents_at, is_held, is_kept, is_number, is_reference, with_content}
use Rattle.cb_heap.specs.Shaped.{has_size, new_object}
use Rattle.cb_heap.specs.Store.{ReadsAsBefore, may_point}
use Rattle.cb_link.specs.Program.{Linked}
use Rattle.cb_machine.specs.Copying.{overwritten}
use Rattle.cb_machine.specs.Performing.{count_slot, value_slot}
use Rattle.cb_machine.specs.Plans.{object_of}
use Rattle.cb_machine.specs.Strings.{unit_contents}
use Rattle.cb_plain.specs.State.{Content, Number, Object, Reference}
use Rattle.cb_plain.specs.Updates.{object_in, with_contents_in}
use Rattle.cb_plain.specs.declared.shape.Shape.{Shape}
use Rattle.cb_plain.specs.declared.shape.Shape.TheVariants.{Elements}
use Rattle.cb_natives.specs.Following.{FollowsFrom}
use Rattle.cb_natives.specs.Given.{HoldsUnits}
use Rattle.cb_natives.specs.MakingOwn.{closed_up, counting, deleted, referring, roomy}
use Rattle.cb_natives.specs.Pieces.{IsText, text_units}
use Rattle.cb_natives.specs.Writing.{HoldsNumbers, TextApart}
use Rattle.cb_natives.specs.declared.pieces.Text.{Text}
use Rattle.cb_natives.proofs.FollowLaws.{follows_from_so, follows_one, number_before, put_may}
use Rattle.cb_natives.proofs.OwnLaws.{changed_there, content_behind, contents_so, contents_with, held_so, kept_changed, kept_there, last_kept, reference_kept, roomy_so, text_again, text_apart, there_kept, with_last, with_same, with_twice, word_before, zeros_numbers}
use Rattle.cb_natives.proofs.Units.{unit_number}

-- ---- a new array

pub sized_so : (shapes : List Shape) (kind size : ℕ) → slice_get shapes kind ≡ Some (Elements false) → IsTrue (has_size shapes kind size)
sized_so shapes kind size is = rw is refl

abbrev pub blank_array : (site kind room : ℕ) → Object
blank_array site kind room = object_of site kind (replicate room (Number (pos 0)))

pub blank_so : (shapes : List Shape) (site kind size : ℕ) → slice_get shapes kind ≡ Some (Elements false) → new_object shapes site kind size ≡ blank_array site kind size
blank_so shapes site kind size is = rw is refl

module _ (program : Linked) (objects : List (Option Object)) (index after : ℕ → ℕ) (again : ReadsAsBefore objects index after) (text : Text)
    (is : IsText program objects index text) (site kind room : ℕ) (fits : length (text_units program objects index text) ≤ room) (few : room < 2 ^ 31)
    (kept : List (Option Object)) (placed : kept ≡ objects ++ Some (blank_array site kind room) ∷ []) (serial : ℕ) (last : serial ≡ length objects + 1) where
  abbrev front : List (Option Object)
  front = objects ++ Some (blank_array site kind room) ∷ []

  blank_contents : contents_at kept serial ≡ replicate room (Number (pos 0))
  blank_contents =
      ap (λ (kept : List (Option Object)). contents_at kept serial) placed ∙ ap (contents_at front) last
      ∙ contents_so front (length objects + 1) (blank_array site kind room) (placed_there objects (blank_array site kind room))

  pub array_there : IsTrue (is_kept kept serial)
  array_there =
      ap (λ (kept : List (Option Object)). is_kept kept serial) placed ∙ ap (is_kept front) last ∙ last_kept objects (blank_array site kind room)

  pub array_numbers : HoldsNumbers kept serial
  array_numbers = λ word low.
      ap (λ (contents : List Content). is_number (slice_get contents word)) blank_contents
      ∙ zeros_numbers room word (subst (λ (contents : List Content). word < length contents) blank_contents low)

  text_units_there : text_units program kept after text ≡ text_units program objects index text
  text_units_there =
      ap (λ (kept : List (Option Object)). text_units program kept after text) placed
      ∙ (text_again program objects index after (blank_array site kind room) again text is).0

  pub text_there : IsText program kept after text
  text_there =
      subst (λ (kept : List (Option Object)). IsText program kept after text) (sym placed) (text_again program objects index after (blank_array site kind room) again text is).1

  pub array_apart : TextApart after serial text
  array_apart =
      subst (λ (serial : ℕ). TextApart after serial text) (sym last) (text_apart program objects index after (blank_array site kind room) again text is)

  array_size : length (contents_at kept serial) ≡ room
  array_size = ap length blank_contents ∙ length-replicate room (Number (pos 0))

  pub array_room : 0 + length (text_units program kept after text) ≤ length (contents_at kept serial)
  array_room = let units = ap length text_units_there in let size = array_size in omega (arith, fits, units, size)

  pub array_few : length (contents_at kept serial) < 2 ^ 31
  array_few = let size = array_size in omega (arith, few, size)

  pub array_written : with_contents_in kept serial (overwritten (contents_at kept serial) 0 (unit_contents (text_units program kept after text)))
      ≡ objects ++ Some (object_of site kind (roomy (text_units program objects index text) room)) ∷ []
  array_written =
      ap (λ (units : List ℕ). with_contents_in kept serial (overwritten (contents_at kept serial) 0 (unit_contents units))) text_units_there
      ∙ ap (λ (contents : List Content). with_contents_in kept serial (overwritten contents 0 (unit_contents (text_units program objects index text)))) blank_contents
      ∙ ap (with_contents_in kept serial) (roomy_so (text_units program objects index text) room)
      ∙ ap (λ (kept : List (Option Object)). with_contents_in kept serial (roomy (text_units program objects index text) room)) placed
      ∙ ap (λ (serial : ℕ). with_contents_in front serial (roomy (text_units program objects index text) room)) last
      ∙ with_last objects (blank_array site kind room) (roomy (text_units program objects index text) room)

-- ---- an object that refers to it

slot_other : (contents : List Content) (content : Content) → slice_get (slice_set contents value_slot content) count_slot ≡ slice_get contents count_slot
slot_other [] content = refl
slot_other (first ∷ contents) content = refl

module _ (objects : List (Option Object)) (array : Object) (serial : ℕ) (refers : is_reference (content_at objects serial value_slot) ≡ true)
    (kept : List (Option Object)) (placed : kept ≡ objects ++ Some array ∷ []) where
  abbrev behind : List (Option Object)
  behind = objects ++ Some array ∷ []

  own : (object : Object) × (object_in objects serial ≡ Some object)
  own = reference_kept objects serial value_slot refers

  pub own_kept : IsTrue (is_kept objects serial)
  own_kept = there_kept objects serial own.0 own.1

  module _ (at : ℕ) (same : at ≡ serial) (to : ℕ) (last : to ≡ length objects + 1) where
    pub refers_there : is_reference (content_at kept at value_slot) ≡ true
    refers_there =
        ap (λ (kept : List (Option Object)). is_reference (content_at kept at value_slot)) placed
        ∙ ap (λ (serial : ℕ). is_reference (content_at behind serial value_slot)) same
        ∙ ap is_reference (word_before objects array serial value_slot own_kept) ∙ refers

    pub array_held : IsTrue (is_held kept to)
    array_held =
        ap (λ (kept : List (Option Object)). is_held kept to) placed ∙ ap (is_held behind) last
        ∙ held_so behind (length objects + 1) (last_kept objects array)

    pub referred : with_content kept at value_slot (Reference to) ≡ referring objects serial (length objects + 1) ++ Some array ∷ []
    referred =
        ap (λ (kept : List (Option Object)). with_content kept at value_slot (Reference to)) placed
        ∙ ap (λ (serial : ℕ). with_content behind serial value_slot (Reference to)) same
        ∙ ap (λ (to : ℕ). with_content behind serial value_slot (Reference to)) last
        ∙ content_behind objects array serial value_slot (Reference (length objects + 1)) own_kept

    pub may_refer : (allows later : ℕ → ℕ → Bool) → later ≡ allows → FollowsFrom allows (referring objects serial (length objects + 1) ++ Some array ∷ []) serial
        → IsTrue (may_point later kept at to)
    may_refer allows later alike follows =
        put_may later kept at value_slot to refers_there
        (follows_from_so allows later alike (referring objects serial (length objects + 1) ++ Some array ∷ []) (with_content kept at value_slot (Reference to)) referred serial at same follows)

-- and counts
module _ (objects : List (Option Object)) (array : Object) (serial to : ℕ) (counts : is_number (content_at objects serial count_slot) ≡ true) (there : IsTrue (is_kept objects serial))
    (kept : List (Option Object)) (placed : kept ≡ referring objects serial to ++ Some array ∷ []) (at : ℕ) (same : at ≡ serial) where
  abbrev now : List (Option Object)
  now = referring objects serial to

  now_kept : IsTrue (is_kept now serial)
  now_kept = kept_changed objects serial serial (slice_set (contents_at objects serial) value_slot (Reference to)) there

  now_counts : content_at now serial count_slot ≡ content_at objects serial count_slot
  now_counts =
      let own = own_object in
      ap (λ (contents : List Content). slice_get contents count_slot)
      (contents_so now serial (record { site = own.0.site; kind = own.0.kind; contents = slice_set (contents_at objects serial) value_slot (Reference to) })
      (changed_there objects serial (slice_set (contents_at objects serial) value_slot (Reference to)) own.0 own.1))
      ∙ slot_other (contents_at objects serial) (Reference to) where
        own_object : (object : Object) × (object_in objects serial ≡ Some object)
        own_object = kept_there objects serial there

  pub counts_there : is_number (content_at kept at count_slot) ≡ true
  counts_there =
      ap (λ (kept : List (Option Object)). is_number (content_at kept at count_slot)) placed
      ∙ ap (λ (serial : ℕ). is_number (content_at (now ++ Some array ∷ []) serial count_slot)) same
      ∙ ap is_number (word_before now array serial count_slot now_kept ∙ now_counts) ∙ counts

  pub counted_there : (count : ℕ) → counting kept at count ≡ counting now serial count ++ Some array ∷ []
  counted_there count =
      ap (λ (kept : List (Option Object)). counting kept at count) placed
      ∙ ap (λ (serial : ℕ). counting (now ++ Some array ∷ []) serial count) same
      ∙ content_behind now array serial count_slot (Number (pos count)) now_kept

pub follows_counting : (objects : List (Option Object)) (array : Object) (serial to : ℕ) → is_number (content_at objects serial count_slot) ≡ true → IsTrue (is_kept objects serial)
    → (allows : ℕ → ℕ → Bool) (count : ℕ) → Follows allows (counting (referring objects serial to) serial count ++ Some array ∷ []) → FollowsFrom allows (referring objects serial to ++ Some array ∷ []) serial
follows_counting objects array serial to counts there allows count follows =
    let now : List (Option Object) = referring objects serial to ++ Some array ∷ [] in
    let after : List (Option Object) = counting (referring objects serial to) serial count ++ Some array ∷ [] in
    number_before allows now serial count_slot (Number (pos count)) (counts_there objects array serial to counts there now refl serial refl)
    (subst (λ objects. FollowsFrom allows objects serial) (sym (counted_there objects array serial to counts there now refl serial refl count)) (follows_one allows after serial follows))

-- ---- an array that is there

pub holds_numbers : (objects : List (Option Object)) (array : ℕ) → HoldsUnits objects array → HoldsNumbers objects array
holds_numbers objects array units = λ word low. unit_number (content_at objects array word) (units.each word low)

append_read : (front rest : List Content) (place : ℕ) → slice_get (front ++ rest) (length front + place) ≡ slice_get rest place
append_read [] rest place = ap (slice_get rest) (zero-add place)
append_read (first ∷ front) rest place =
    let more : suc (length front) + place ≡ suc (length front + place) = omega arith in
    ap (slice_get (first ∷ front ++ rest)) more ∙ append_read front rest place

drop_read : (count : ℕ) (contents : List Content) (place : ℕ) → slice_get (drop count contents) place ≡ slice_get contents (count + place)
drop_read zero contents place = ap (slice_get contents) (sym (zero-add place))
drop_read (suc count) [] place = refl
drop_read (suc count) (first ∷ contents) place =
    let more : suc (count + place) ≡ suc count + place = omega arith in
    drop_read count contents place ∙ ap (slice_get (first ∷ contents)) more

-- one of its words is left out, word by word
module _ (contents : List Content) (place : ℕ) where
  closed_start : place < length contents → closed_up contents place place ≡ contents
  closed_start low =
      ap (λ (middle : List Content). take place contents ++ middle ++ drop place contents)
      (drop_all (place + 1) (take (place + 1) contents) (let size = length-take-le (place + 1) contents (omega (arith, low)) in omega (arith, size)))
      ∙ append-nil-front where
        append-nil-front : take place contents ++ [] ++ drop place contents ≡ contents
        append-nil-front = ap (λ (front : List Content). front ++ drop place contents) (append-nil (take place contents)) ∙ take-append-drop place contents

  module _ (count : ℕ) (there : place ≤ count) (low : count + 1 < length contents) where
    abbrev front_words : List Content
    front_words = take place contents ++ drop (place + 1) (take (count + 1) contents)

    front_size : length front_words ≡ count
    front_size =
        length-append (take place contents) (drop (place + 1) (take (count + 1) contents))
        ∙ ap (λ (size : ℕ). size + length (drop (place + 1) (take (count + 1) contents))) (length-take-le place contents (omega (arith, there, low)))
        ∙ ap (λ (size : ℕ). place + size) (length-drop (place + 1) (take (count + 1) contents))
        ∙ (let size = length-take-le (count + 1) contents (omega (arith, low)) in omega (arith, size, there))

    closed_here : (content : Content) → closed_up contents place count ≡ front_words ++ get_or contents count content ∷ drop (count + 1) contents
    closed_here content = ap (λ (rest : List Content). front_words ++ rest) (drop_more contents count content (omega (arith, low)))

    pub closed_next : (content : Content) → slice_get contents (count + 1) ≡ Some content
        → slice_set (closed_up contents place count) count content ≡ closed_up contents place (count + 1)
    closed_next content is =
        ap (λ (words : List Content). slice_set words count content) (closed_here content)
        ∙ set_at front_words (get_or contents count content) (drop (count + 1) contents) content count front_size
        ∙ sym (append_assoc front_words (content ∷ []) (drop (count + 1) contents))
        ∙ ap (λ (words : List Content). words ++ drop (count + 1) contents)
        (append_assoc (take place contents) (drop (place + 1) (take (count + 1) contents)) (content ∷ [])
        ∙ ap (λ (words : List Content). take place contents ++ words)
        (sym (drop-append-le (place + 1) (take (count + 1) contents) (content ∷ []) (let size = length-take-le (count + 1) contents (omega (arith, low)) in omega (arith, size, there)))
        ∙ ap (drop (place + 1)) (sym (take_more contents (count + 1) content low ∙ ap (λ (content : Content). take (count + 1) contents ++ content ∷ []) (get_or_from_slice_get contents (count + 1) content content is)))))

    pub closed_read : slice_get (closed_up contents place count) (count + 1) ≡ slice_get contents (count + 1)
    closed_read =
        ap (λ (size : ℕ). slice_get (closed_up contents place count) (size + 1)) (sym front_size)
        ∙ append_read front_words (drop count contents) 1 ∙ drop_read count contents 1

    pub closed_word : slice_get (closed_up contents place count) count ≡ slice_get contents count
    closed_word =
        ap (slice_get (closed_up contents place count)) (sym (add-zero count))
        ∙ ap (λ (size : ℕ). slice_get (closed_up contents place count) (size + 0)) (sym front_size)
        ∙ append_read front_words (drop count contents) 0 ∙ drop_read count contents 0 ∙ ap (slice_get contents) (add-zero count)

pub deleted_start : (objects : List (Option Object)) (array place : ℕ) → place < length (contents_at objects array) → deleted objects array place place ≡ objects
deleted_start objects array place low = ap (with_contents_in objects array) (closed_start (contents_at objects array) place low) ∙ with_same objects array

module _ (objects : List (Option Object)) (array : ℕ) (kept : IsTrue (is_kept objects array)) (place count : ℕ) (there : place ≤ count) (low : count + 1 < length (contents_at objects array)) where
  abbrev words : List Content
  words = contents_at objects array

  now_words : contents_at (deleted objects array place count) array ≡ closed_up words place count
  now_words = contents_with objects array (closed_up words place count) kept

  pub deleted_next : (content : Content) → content_at objects array (count + 1) ≡ Some content
      → with_content (deleted objects array place count) array count content ≡ deleted objects array place (count + 1)
  deleted_next content is =
      with_twice objects array (closed_up words place count) (slice_set (contents_at (deleted objects array place count) array) count content)
      ∙ ap (λ (contents : List Content). with_contents_in objects array (slice_set contents count content)) now_words
      ∙ ap (with_contents_in objects array) (closed_next words place count there low content is)

  pub deleted_read : content_at (deleted objects array place count) array (count + 1) ≡ content_at objects array (count + 1)
  deleted_read = ap (λ (contents : List Content). slice_get contents (count + 1)) now_words ∙ closed_read words place count there low

  pub deleted_word : content_at (deleted objects array place count) array count ≡ content_at objects array count
  deleted_word = ap (λ (contents : List Content). slice_get contents count) now_words ∙ closed_word words place count there low
