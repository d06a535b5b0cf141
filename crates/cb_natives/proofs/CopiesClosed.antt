-- Objects stay closed, and as many, where words of one are copied to another one.
use Rattle.std.proofs.Common.{◌≡◌, ◌∙◌, ap, refl, subst, sym, ℕ, zero, suc, ◌+◌, List, [], ◌∷◌, ◌++◌, Bool, drop, length, take, Option, Some, None, IsTrue}
use Rattle.std.specs.List.{flat_map, list_all}
use Rattle.std.proofs.lemmas.Grind.{flat_map-append}
use Rattle.cb_heap.proofs.Laws.{all_of, front_of, rest_of}
use Rattle.cb_heap.specs.Closed.{IsClosed, reference_in_word, references_in, references_in_entry}
use Rattle.cb_heap.specs.Kept.{contents_at, is_held}
use Rattle.cb_heap.specs.Reading.{View, serial_of}
use Rattle.cb_machine.specs.Copying.{overwritten}
use Rattle.cb_plain.specs.Reach.{root_references}
use Rattle.cb_plain.specs.State.{Content, Object, Roots}
use Rattle.cb_plain.specs.Updates.{with_contents_in}
use Rattle.cb_natives.specs.ArrayRanges.{copied_by}
use Rattle.cb_natives.specs.Copies.{copied, words_from}
use Rattle.cb_natives.specs.declared.array_ranges.Ranges.{Ranges}
use Rattle.cb_natives.proofs.Changes.{held_changed}

-- ---- words

abbrev words_in : List Content → List ℕ
words_in contents = flat_map reference_in_word contents

module _ (test : ℕ → Bool) where
  abbrev Pass : List ℕ → Type 0
  Pass references = IsTrue (list_all test references)

  taken_pass : (count : ℕ) (contents : List Content) → Pass (words_in contents) → Pass (words_in (take count contents))
  taken_pass zero contents all = refl
  taken_pass (suc count) [] all = refl
  taken_pass (suc count) (word ∷ contents) all =
      all_of test (reference_in_word word) (words_in (take count contents)) (front_of test (reference_in_word word) (words_in contents) all)
      (taken_pass count contents (rest_of test (reference_in_word word) (words_in contents) all))

  dropped_pass : (count : ℕ) (contents : List Content) → Pass (words_in contents) → Pass (words_in (drop count contents))
  dropped_pass zero contents all = all
  dropped_pass (suc count) [] all = refl
  dropped_pass (suc count) (word ∷ contents) all = dropped_pass count contents (rest_of test (reference_in_word word) (words_in contents) all)

  joined_pass : (one other : List Content) → Pass (words_in one) → Pass (words_in other) → Pass (words_in (one ++ other))
  joined_pass one other first second =
      ap (list_all test) (flat_map-append reference_in_word one other) ∙ all_of test (words_in one) (words_in other) first second

  over_pass : (contents new : List Content) (from : ℕ) → Pass (words_in contents) → Pass (words_in new) → Pass (words_in (overwritten contents from new))
  over_pass contents new from all own =
      joined_pass (take from contents ++ new) (drop (from + length new) contents) (joined_pass (take from contents) new (taken_pass from contents all) own)
      (dropped_pass (from + length new) contents all)

  -- ---- objects

  contents_pass_at : (objects : List (Option Object)) (place : ℕ) → Pass (references_in objects) → Pass (words_in (contents_at objects (suc place)))
  contents_pass_at [] place all = refl
  contents_pass_at (None ∷ objects) zero all = refl
  contents_pass_at (Some object ∷ objects) zero all = front_of test (words_in object.contents) (references_in objects) all
  contents_pass_at (entry ∷ objects) (suc place) all = contents_pass_at objects place (rest_of test (references_in_entry entry) (references_in objects) all)

  contents_pass : (objects : List (Option Object)) (serial : ℕ) → Pass (references_in objects) → Pass (words_in (contents_at objects serial))
  contents_pass objects zero all = refl
  contents_pass objects (suc place) all = contents_pass_at objects place all

  with_pass_at : (objects : List (Option Object)) (place : ℕ) (new : List Content) → Pass (references_in objects) → Pass (words_in new)
      → Pass (references_in (with_contents_in objects (suc place) new))
  with_pass_at [] place new all own = all
  with_pass_at (None ∷ objects) zero new all own = all
  with_pass_at (Some object ∷ objects) zero new all own =
      all_of test (words_in new) (references_in objects) own (rest_of test (words_in object.contents) (references_in objects) all)
  with_pass_at (entry ∷ objects) (suc place) new all own =
      all_of test (references_in_entry entry) (references_in (with_contents_in objects (suc place) new)) (front_of test (references_in_entry entry) (references_in objects) all)
      (with_pass_at objects place new (rest_of test (references_in_entry entry) (references_in objects) all) own)

  with_pass : (objects : List (Option Object)) (serial : ℕ) (new : List Content) → Pass (references_in objects) → Pass (words_in new)
      → Pass (references_in (with_contents_in objects serial new))
  with_pass objects zero new all own = all
  with_pass objects (suc place) new all own = with_pass_at objects place new all own

  copied_pass : (objects : List (Option Object)) (source start to at count : ℕ) → Pass (references_in objects) → Pass (references_in (copied objects source start to at count))
  copied_pass objects source start to at count all =
      with_pass objects to (overwritten (contents_at objects to) at (words_from objects source start count)) all
      (over_pass (contents_at objects to) (words_from objects source start count) at (contents_pass objects to all)
      (taken_pass count (drop start (contents_at objects source)) (dropped_pass start (contents_at objects source) (contents_pass objects source all))))

same_all : (one other : ℕ → Bool) (items : List ℕ) → ((item : ℕ) → one item ≡ other item) → list_all one items ≡ list_all other items
same_all one other [] same = refl
same_all one other (item ∷ items) same = rw (same item, same_all one other items same) refl

copied_closed : (view : View) (source start to at count : ℕ) → IsClosed view → IsClosed (record { roots = view.roots; objects = copied view.objects source start to at count })
copied_closed view source start to at count closed =
    let now = copied view.objects source start to at count in
    let alike : (each : ℕ) → is_held now each ≡ is_held view.objects each =
    λ each. held_changed view.objects to each (overwritten (contents_at view.objects to) at (words_from view.objects source start count)) in
    record {
      roots = same_all (is_held now) (is_held view.objects) (root_references view.roots) alike ∙ closed.roots;
      objects = same_all (is_held now) (is_held view.objects) (references_in now) alike ∙ copied_pass (is_held view.objects) view.objects source start to at count closed.objects;
    }

-- ---- how many there are

with_length_at : (objects : List (Option Object)) (place : ℕ) (new : List Content) → length (with_contents_in objects (suc place) new) ≡ length objects
with_length_at [] place new = refl
with_length_at (entry ∷ objects) zero new = refl
with_length_at (entry ∷ objects) (suc place) new = ap suc (with_length_at objects place new)

pub with_length : (objects : List (Option Object)) (serial : ℕ) (new : List Content) → length (with_contents_in objects serial new) ≡ length objects
with_length objects zero new = refl
with_length objects (suc place) new = with_length_at objects place new

copied_length : (objects : List (Option Object)) (source start to at count : ℕ) → length (copied objects source start to at count) ≡ length objects
copied_length objects source start to at count = with_length objects to (overwritten (contents_at objects to) at (words_from objects source start count))

-- ---- by a plan

pub copied_closes : (objects : List (Option Object)) (index : ℕ → ℕ) (ranges : Ranges) (now : List (Option Object)) → now ≡ copied_by objects index (Some ranges) → (roots : Roots)
    → IsClosed (record { roots = roots; objects = objects }) → IsClosed (record { roots = roots; objects = now })
copied_closes objects index ranges now is roots closed =
    subst (λ (now : List (Option Object)). IsClosed (record { roots = roots; objects = now })) (sym is)
    (copied_closed (record { roots = roots; objects = objects }) (serial_of index ranges.source) ranges.start (serial_of index ranges.to) ranges.at ranges.count closed)

pub copied_counts : (objects : List (Option Object)) (index : ℕ → ℕ) (ranges : Ranges) (now : List (Option Object)) → now ≡ copied_by objects index (Some ranges) → length now ≡ length objects
copied_counts objects index ranges now is =
    ap (λ (now : List (Option Object)). length now) is ∙ copied_length objects (serial_of index ranges.source) ranges.start (serial_of index ranges.to) ranges.at ranges.count
