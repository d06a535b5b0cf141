-- What calls that put another word into an object owe.
use Rattle.std.proofs.Common.{◌≡◌, ◌∙◌, ℕ, pos, zero, suc, ◌+◌, Bool, true, false, IsTrue, Option, Some, List, set, refl, sym, ap, subst, inl, inr, get_or}
use Rattle.std.specs.Int.{int_wrap, w64}
use Rattle.std.proofs.lemmas.Bool.{false≢true}
use Rattle.cb_plain.specs.State.{Content, Number, Object, Reference}
use Rattle.cb_plain.specs.Updates.{object_in}
use Rattle.cb_heap.specs.Kept.{content_at, is_held, is_number, is_reference, with_content}
use Rattle.cb_heap.specs.Reading.{serial_of}
use Rattle.cb_heap.specs.Store.{may_point}
use Rattle.cb_blocks.specs.Parted.{Parted, with_words}
use Rattle.cb_partheap.specs.Headers.{IsWord}
use Rattle.cb_partheap.specs.Heaps.{Heap, content_of, index_in, marks_at, may_refer, object_by, objects_in, part_of, settings_in, with_memory, with_word}
use Rattle.cb_partheap.specs.Marks.{IsUnmarked}
use Rattle.cb_partheap.specs.Spots.{IsSpot, Spot, place_of, words_by}
use Rattle.cb_partheap.specs.Whole.{IsHeap, MayHold}
use Rattle.cb_partheap.proofs.Calls.{FoundWord, found_word, number_in, reference_in, word_found}
use Rattle.cb_partheap.proofs.Found.{place_apart}
use Rattle.cb_partheap.proofs.Reading.{Found, found}
use Rattle.cb_partheap.proofs.Unmarked.{written}
use Rattle.cb_partheap.proofs.Written.{IsContent, put_heap, put_index, put_objects}

-- the words that are left
abbrev pub Writes : Heap → (at i word : ℕ) → Parted → Type 0
Writes heap at i word memory =
    (spot : Spot) → IsWord heap.memory at (3 + i) spot → memory ≡ with_words heap.memory spot.part (set (words_by heap.memory spot) (spot.start + (3 + i)) word)

pub record Put (heap now : Heap) (at i word : ℕ) (memory : Parted) (content : Content) : Type 0 where
  pub heap_is : IsHeap (with_memory heap memory)
  pub objects : objects_in (with_memory heap memory) ≡ with_content (objects_in now) (serial_of (index_in now) at) i content
  pub index : index_in (with_memory heap memory) ≡ index_in now
  pub words : (spot : Spot) → IsSpot now.memory spot → place_of now.memory spot ≡ at → with_memory heap memory ≡ with_word now spot i word
  pub unmarked : IsUnmarked now → IsUnmarked (with_memory heap memory)

put_found : (test : Option Content → Bool) (heap : Heap) (at i word : ℕ) (memory : Parted) (content : Content) → IsHeap heap → (here : FoundWord test heap at i) → Writes heap at i word memory →
    (marks_at heap.shapes (words_by heap.memory here.found.spot) here.found.spot.start i ≡ true → MayHold heap here.found.spot.part word) →
    content_of (index_in heap) (marks_at heap.shapes (words_by heap.memory here.found.spot) here.found.spot.start i) word ≡ content → Put heap heap at i word memory content
put_found test heap at i word memory content is here writes may same =
    let spot : Spot = here.found.spot in
    let c : IsContent heap spot i word = record { is = is; here = here.found.is; below = here.below; may = may } in
    let new : with_word heap spot i word ≡ with_memory heap memory = ap (with_memory heap) (sym (writes spot (word_found test heap at i is here))) in
    record {
      heap_is = subst IsHeap new (put_heap heap spot i word c);
      objects = ap objects_in (sym new) ∙ put_objects heap spot i word c ∙ ap (λ serial. with_content (objects_in heap) serial i (content_of (index_in heap) (marks_at heap.shapes (words_by heap.memory spot) spot.start i) word)) (sym here.found.serial)
          ∙ ap (with_content (objects_in heap) (serial_of (index_in heap) at) i) same;
      index = ap index_in (sym new) ∙ put_index heap spot i word c;
      words = λ other there place. sym new ∙ ap (λ s. with_word heap s i word) (place_apart heap.memory spot other is.parted here.found.is there (here.found.place ∙ sym place));
      unmarked = λ none. subst IsUnmarked new (written heap spot i word is none here.found.is here.below);
    }

-- a number
number_mark : (index : ℕ → ℕ) (mark : Bool) (word : ℕ) → IsTrue (is_number (Some (content_of index mark word))) → mark ≡ true → ⊥
number_mark index true word is marked = false≢true is
number_mark index false word is marked = false≢true marked

pub put_number : {heap now : Heap} (at i word : ℕ) (memory : Parted) → IsHeap heap → heap ≡ now → IsTrue (is_number (content_at (objects_in now) (serial_of (index_in now) at) i)) → Writes heap at i word memory →
    Put heap now at i word memory (Number (int_wrap w64 (pos word)))
put_number {heap} {now} at i word memory is same number writes =
    let here = found_word is_number refl heap at i is (subst (λ (h : Heap). IsTrue (is_number (content_at (objects_in h) (serial_of (index_in h) at) i))) (sym same) number) in
    let spot : Spot = here.found.spot in
    let mark : Bool = marks_at heap.shapes (words_by heap.memory spot) spot.start i in
    let old : ℕ = get_or (words_by heap.memory spot) (spot.start + (3 + i)) 0 in
    let put = put_found is_number heap at i word memory (Number (int_wrap w64 (pos word))) is here writes (λ marked. absurd (number_mark (index_in heap) mark old here.passes marked)) (number_in (index_in heap) mark old word here.passes) in
    subst (λ (h : Heap). Put heap h at i word memory (Number (int_wrap w64 (pos word)))) same put

-- a reference to an object whose site is allowed, or null
pair_allowed : (allows : ℕ → ℕ → Bool) (objects : List (Option Object)) (one other : ℕ) (a b : Object) → object_in objects one ≡ Some a → object_in objects (suc other) ≡ Some b → IsTrue (may_point allows objects one (suc other)) → allows a.site b.site ≡ true
pair_allowed allows objects one other a b first second may = rw (first, second) at may

may_hold : (heap : Heap) (at to : ℕ) → IsHeap heap → (here : Found heap at) → IsTrue (is_held (objects_in heap) (serial_of (index_in heap) to)) →
    IsTrue (may_point (settings_in heap).allows (objects_in heap) (serial_of (index_in heap) at) (serial_of (index_in heap) to)) → MayHold heap here.spot.part to
may_hold heap at zero is here held allowed = inl refl
may_hold heap at (suc to) is here held allowed =
    let there = found heap (suc to) is held in
    let pair = pair_allowed (settings_in heap).allows (objects_in heap) (serial_of (index_in heap) at) (index_in heap (suc to)) (object_by heap here.spot) (object_by heap there.spot) here.object there.object allowed in
    inr (
      there.spot,
      there.is,
      there.place,
      sym (ap (λ part. may_refer heap.edges part (part_of heap.site_parts (object_by heap there.spot).site)) (is.placed here.spot here.is).here
          ∙ ap (may_refer heap.edges here.spot.part) (is.placed there.spot there.is).here) ∙ pair,
    )

pub put_reference : {heap now : Heap} (at i to : ℕ) (memory : Parted) → IsHeap heap → heap ≡ now → IsTrue (is_reference (content_at (objects_in now) (serial_of (index_in now) at) i)) →
    IsTrue (is_held (objects_in now) (serial_of (index_in now) to)) → IsTrue (may_point (settings_in now).allows (objects_in now) (serial_of (index_in now) at) (serial_of (index_in now) to)) → Writes heap at i to memory →
    Put heap now at i to memory (Reference (serial_of (index_in now) to))
put_reference {heap} {now} at i to memory is same reference held allowed writes =
    let here = found_word is_reference refl heap at i is (subst (λ (h : Heap). IsTrue (is_reference (content_at (objects_in h) (serial_of (index_in h) at) i))) (sym same) reference) in
    let spot : Spot = here.found.spot in
    let mark : Bool = marks_at heap.shapes (words_by heap.memory spot) spot.start i in
    let old : ℕ = get_or (words_by heap.memory spot) (spot.start + (3 + i)) 0 in
    let may = may_hold heap at to is here.found (subst (λ (h : Heap). IsTrue (is_held (objects_in h) (serial_of (index_in h) to))) (sym same) held)
    (subst (λ (h : Heap). IsTrue (may_point (settings_in h).allows (objects_in h) (serial_of (index_in h) at) (serial_of (index_in h) to))) (sym same) allowed) in
    let put = put_found is_reference heap at i to memory (Reference (serial_of (index_in heap) to)) is here writes (λ marked. may) (reference_in (index_in heap) mark old to here.passes) in
    subst (λ (h : Heap). Put heap h at i to memory (Reference (serial_of (index_in h) to))) same put
