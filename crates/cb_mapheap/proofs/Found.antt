-- An object that is kept, by its place.
use Rattle.std.proofs.Common.{◌≡◌, ◌∙◌, ap, sym, refl, subst, arith, ℕ, pos, zero, suc, pred, ◌+◌, ◌-◌, ◌<◌, ◌≤◌, Bool, true, false, List, [], ◌∷◌, Some, None, Option, IsTrue, drop, length, map, get_or, set, slice_get, option_map, is_some, get_or-drop, length-drop, zero-add}
use Rattle.std.specs.Int.{int_wrap, w64}
use Rattle.std.proofs.lemmas.Bool.{false≢true}
use Rattle.std.proofs.lemmas.List.{get_or_read}
use Rattle.std.proofs.lemmas.Option.{slice_get-map}
use Rattle.cb_plain.specs.declared.shape.Shape.{Shape}
use Rattle.cb_plain.specs.declared.want.Want.{Want}
use Rattle.cb_plain.specs.State.{Content, Number, Object, Reference}
use Rattle.cb_plain.specs.Updates.{kept, object_in}
use Rattle.cb_heap.specs.Kept.{content_at, is_kept, is_number, is_reference, with_content}
use Rattle.cb_heap.specs.Reading.{serial_of}
use Rattle.cb_mapheap.specs.Layout.{Begins, IsStore, LiesAt}
use Rattle.cb_mapheap.specs.Placed.{Placed}
use Rattle.cb_mapheap.specs.Words.{content_of, length_of, marks_in, object_of, objects_in}
use Rattle.cb_mapheap.proofs.Contents.{contents_at, contents_length, marks_begin}
use Rattle.cb_mapheap.proofs.Laid.{begins_there, kept_within, lies_set, object_there, objects_count, objects_set, start_of, start_there}

-- what a store is seen as
abbrev pub placed_of : List Shape → (starts words : List ℕ) → List Want → Placed
placed_of all starts words granted = record { shapes = all; objects = objects_in all (length starts) words; granted = granted }

-- where an object lies that is kept
abbrev pub start_at : List ℕ → ℕ → ℕ
start_at starts at = get_or starts (at - 1) 0

abbrev pub words_at : (starts words : List ℕ) → ℕ → List ℕ
words_at starts words at = drop (start_at starts at) words

pub record Found (all : List Shape) (starts words : List ℕ) (objects : List (Option Object)) (at : ℕ) : Type 0 where
  pub low : 0 < at
  pub high : at ≤ length starts
  pub start : start_at starts at ≡ start_of (at - 1) words
  pub begins : Begins all at (words_at starts words at)
  pub object : object_in objects (serial_of pred at) ≡ Some (object_of all (words_at starts words at))

found_in : (all : List Shape) (starts words : List ℕ) (at : ℕ) → LiesAt all 0 1 starts words → IsTrue (is_kept (map Some (objects_in all (length starts) words)) (serial_of pred at)) →
    Found all starts words (map Some (objects_in all (length starts) words)) at
found_in all starts words zero lies there = absurd (false≢true there)
found_in all starts words (suc n) lies there =
    let below : n < length starts = subst (λ count. n < count) (objects_count all (length starts) words) (kept_within (objects_in all (length starts) words) n there) in
    let place : suc n - 1 ≡ n = omega arith in
    let number : 1 + n ≡ suc n = omega arith in
    let start = ap (λ k. get_or starts k 0) place ∙ start_there all 0 1 starts words n lies below ∙ zero-add (start_of n words) in
    record {
      low = omega arith;
      high = omega (arith, below);
      start = start ∙ ap (λ k. start_of k words) (sym place);
      begins = subst (λ spot. Begins all (suc n) (drop spot words)) (sym start) (subst (λ serial. Begins all serial (drop (start_of n words) words)) number (begins_there all 0 1 starts words n lies below));
      object = ap kept (slice_get-map Some (objects_in all (length starts) words) n ∙ ap (option_map Some) (object_there all 0 1 starts words n lies below))
          ∙ ap (λ spot. Some (object_of all (drop spot words))) (sym start);
    }

pub found : {all : List Shape} {starts words : List ℕ} {granted : List Want} {most_starts most_words : ℕ} {now : Placed} (at : ℕ) → IsStore all starts words granted most_starts most_words →
    placed_of all starts words granted ≡ now → IsTrue (is_kept (map Some now.objects) (serial_of pred at)) → Found all starts words (map Some now.objects) at
found {all} {starts} {words} {granted} at store is there =
    subst (λ (now : Placed). IsTrue (is_kept (map Some now.objects) (serial_of pred at)) → Found all starts words (map Some now.objects) at) is (found_in all starts words at store.lies) there

-- a word of its header is there, and reads as it does from where the object begins
pub header_within : {all : List Shape} {starts words : List ℕ} {objects : List (Option Object)} {at : ℕ} (k : ℕ) → k < 3 → Found all starts words objects at → start_at starts at + k < length words
header_within {all} {starts} {words} {objects} {at} k below found = omega (arith, below, found.begins.whole, length-drop (start_at starts at) words)

pub word_read : {starts starts' : List ℕ} {place word : ℕ} (words : List ℕ) (at k : ℕ) → starts' ≡ starts → place ≡ start_at starts' at + k → start_at starts at + k < length words → word ≡ get_or words place word →
    get_or (words_at starts words at) k 0 ≡ word
word_read {starts} {starts'} {place} {word} words at k same is within read =
    let there : place ≡ start_at starts at + k = is ∙ ap (λ starts. start_at starts at + k) same in
    get_or-drop (start_at starts at) words k 0 ∙ ap (λ spot. get_or words spot 0) (sym there) ∙ sym (get_or_read words place word (omega (arith, there, within)) read 0)

pub object_length : {all : List Shape} {starts words : List ℕ} {objects : List (Option Object)} {at : ℕ} → Found all starts words objects at →
    length (object_of all (words_at starts words at)).contents ≡ length_of (words_at starts words at)
object_length {all} {starts} {words} {objects} {at} found =
    let marks = marks_begin all at (words_at starts words at) found.begins in
    let long : length (marks_in all (words_at starts words at)) ≤ length (drop 3 (words_at starts words at)) = omega (arith, marks, found.begins.whole, length-drop 3 (words_at starts words at)) in
    contents_length (marks_in all (words_at starts words at)) (drop 3 (words_at starts words at)) long ∙ marks

-- a word of contents that passes a test that none passes where nothing is
there_if : (test : Option Content → Bool) → test None ≡ false → (objects : List (Option Object)) (serial i : ℕ) (object : Option Object) → object_in objects serial ≡ object →
    IsTrue (test (content_at objects serial i)) → IsTrue (is_some object)
there_if test none objects serial i None is passes = absurd (false≢true (sym none ∙ rw is at passes))
there_if test none objects serial i (Some object) is passes = refl

within_if : (test : Option Content → Bool) → test None ≡ false → (contents : List Content) (i : ℕ) → IsTrue (test (slice_get contents i)) → i < length contents
within_if test none [] i passes = absurd (false≢true (sym none ∙ passes))
within_if test none (content ∷ contents) zero passes = omega arith
within_if test none (content ∷ contents) (suc i) passes = omega (arith, within_if test none contents i passes)

pub record FoundWord (test : Option Content → Bool) (all : List Shape) (starts words : List ℕ) (objects : List (Option Object)) (at i : ℕ) : Type 0 where
  pub found : Found all starts words objects at
  pub below : i < length_of (words_at starts words at)
  pub within : start_at starts at + (3 + i) < length words
  pub content : content_at objects (serial_of pred at) i ≡ Some (content_of (get_or (marks_in all (words_at starts words at)) i false) (get_or (words_at starts words at) (3 + i) 0))
  pub passes : IsTrue (test (Some (content_of (get_or (marks_in all (words_at starts words at)) i false) (get_or (words_at starts words at) (3 + i) 0))))

pub found_word : {all : List Shape} {starts words : List ℕ} {granted : List Want} {most_starts most_words : ℕ} {now : Placed} (test : Option Content → Bool) → test None ≡ false → (at i : ℕ) →
    IsStore all starts words granted most_starts most_words → placed_of all starts words granted ≡ now → IsTrue (test (content_at (map Some now.objects) (serial_of pred at) i)) →
    FoundWord test all starts words (map Some now.objects) at i
found_word {all} {starts} {words} {granted} {most_starts} {most_words} {now} test none at i store is passes =
    let here : Found all starts words (map Some now.objects) at =
    found at store is (there_if test none (map Some now.objects) (serial_of pred at) i (object_in (map Some now.objects) (serial_of pred at)) refl passes) in
    let object : Object = object_of all (words_at starts words at) in
    let same : content_at (map Some now.objects) (serial_of pred at) i ≡ slice_get object.contents i = rw here.object refl in
    let below : i < length object.contents = within_if test none object.contents i (subst (λ content. IsTrue (test content)) same passes) in
    let few : i < length_of (words_at starts words at) = subst (λ count. i < count) (object_length here) below in
    let content = same ∙ contents_at (marks_in all (words_at starts words at)) (drop 3 (words_at starts words at)) i false below
    ∙ ap (λ word. Some (content_of (get_or (marks_in all (words_at starts words at)) i false) word)) (get_or-drop 3 (words_at starts words at) i 0) in
    record {
      found = here;
      below = few;
      within = omega (arith, few, here.begins.whole, length-drop (start_at starts at) words);
      content = content;
      passes = subst (λ content. IsTrue (test content)) content passes;
    }

-- what marks tell of contents
pub number_in : (mark : Bool) (word other : ℕ) → IsTrue (is_number (Some (content_of mark word))) → content_of mark other ≡ Number (int_wrap w64 (pos other))
number_in true word other is = absurd (false≢true is)
number_in false word other is = refl

pub reference_in : (mark : Bool) (word other : ℕ) → IsTrue (is_reference (Some (content_of mark word))) → content_of mark other ≡ Reference other
reference_in true word other is = refl
reference_in false word other is = absurd (false≢true is)

-- another word there
lies_in : (all : List Shape) (starts words : List ℕ) (objects : List (Option Object)) (at i place word : ℕ) → LiesAt all 0 1 starts words → Found all starts words objects at →
    i < length_of (words_at starts words at) → place ≡ start_at starts at + (3 + i) → LiesAt all 0 1 starts (set words place word)
lies_in all starts words objects at i place word lies found below is =
    let start : at - 1 < length starts = omega (arith, found.low, found.high) in
    lies_set all 0 1 starts words (at - 1) i place word lies start (subst (λ spot. i < length_of (drop spot words)) found.start below) (is ∙ ap (λ spot. spot + (3 + i)) found.start)

objects_with : (all : List Shape) (starts words : List ℕ) (at i place word : ℕ) (content : Content) → LiesAt all 0 1 starts words → Found all starts words (map Some (objects_in all (length starts) words)) at →
    i < length_of (words_at starts words at) → place ≡ start_at starts at + (3 + i) → content_of (get_or (marks_in all (words_at starts words at)) i false) word ≡ content →
    map Some (objects_in all (length starts) (set words place word)) ≡ with_content (map Some (objects_in all (length starts) words)) (serial_of pred at) i content
objects_with all starts words zero i place word content lies found below is same = absurd (omega (arith, found.low))
objects_with all starts words (suc n) i place word content lies found below is same =
    let back : suc n - 1 ≡ n = omega arith in
    let start = found.start ∙ ap (λ k. start_of k words) back in
    let within : n < length starts = omega (arith, found.high) in
    objects_set all 0 1 starts words n i place word false lies within (subst (λ spot. i < length_of (drop spot words)) start below) (is ∙ ap (λ spot. spot + (3 + i)) start)
    ∙ rw (← start, found.object, same) refl

pub written_lies : {all : List Shape} {starts words : List ℕ} {granted : List Want} {most_starts most_words : ℕ} {objects : List (Option Object)} {test : Option Content → Bool} {at i : ℕ} (place word : ℕ) →
    IsStore all starts words granted most_starts most_words → FoundWord test all starts words objects at i → place ≡ start_at starts at + (3 + i) → LiesAt all 0 1 starts (set words place word)
written_lies {all} {starts} {words} {granted} {most_starts} {most_words} {objects} {test} {at} {i} place word store here is =
    lies_in all starts words objects at i place word store.lies here.found here.below is

pub written : {all : List Shape} {starts words : List ℕ} {granted : List Want} {most_starts most_words : ℕ} {now : Placed} {test : Option Content → Bool} {at i : ℕ} (place word : ℕ) (content : Content) →
    IsStore all starts words granted most_starts most_words → placed_of all starts words granted ≡ now → FoundWord test all starts words (map Some now.objects) at i → place ≡ start_at starts at + (3 + i) →
    content_of (get_or (marks_in all (words_at starts words at)) i false) word ≡ content →
    map Some (objects_in all (length starts) (set words place word)) ≡ with_content (map Some now.objects) (serial_of pred at) i content
written {all} {starts} {words} {granted} {most_starts} {most_words} {now} {test} {at} {i} place word content store is here at_place same =
    subst (λ (now : Placed). FoundWord test all starts words (map Some now.objects) at i → map Some (objects_in all (length starts) (set words place word)) ≡ with_content (map Some now.objects) (serial_of pred at) i content) is
    (λ (here : FoundWord test all starts words (map Some (objects_in all (length starts) words)) at i). objects_with all starts words at i place word content store.lies here.found here.below at_place same) here
