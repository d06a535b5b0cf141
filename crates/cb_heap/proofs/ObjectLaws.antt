-- Objects stay closed.
use Rattle.std.proofs.Common.{◌≡◌, ◌∙◌, ap, refl, ℕ, Bool, List, [], ◌∷◌, ◌++◌, Option, Some, None, slice_set, zero, suc, IsTrue}
use Rattle.std.specs.List.{flat_map, list_all}
use Rattle.std.proofs.lemmas.Grind.{flat_map-append}
use Rattle.cb_plain.specs.Reach.{root_references}
use Rattle.cb_plain.specs.State.{Content, Object}
use Rattle.cb_heap.specs.Closed.{IsClosed, reference_in_word, references_in as references_in_objects, references_in_entry}
use Rattle.cb_heap.specs.Kept.{contents_at, is_held, residents, with_content}
use Rattle.cb_heap.specs.Reading.{View}
use Rattle.cb_heap.proofs.KeptLaws.{residents_changed, held_alike, held_further}
use Rattle.cb_heap.proofs.ClosedLaws.{all_of, first_part, second_part, front_of, rest_of, all_with}

same_all : {X : Type 0} (one other : X → Bool) (items : List X) → ((item : X) → one item ≡ other item) → list_all one items ≡ list_all other items
same_all one other [] same = refl
same_all one other (item ∷ items) same = rw (same item, same_all one other items same) refl

more_all : {X : Type 0} (one other : X → Bool) (items : List X) → ((item : X) → IsTrue (one item) → IsTrue (other item)) → IsTrue (list_all one items) → IsTrue (list_all other items)
more_all one other [] more all = refl
more_all one other (item ∷ items) more all =
    all_of other (item ∷ []) items (rw (more item (first_part (one item) (list_all one items) all)) refl) (more_all one other items more (second_part (one item) (list_all one items) all))

pub residents_content : (objects : List (Option Object)) (serial word : ℕ) (content : Content) → residents (with_content objects serial word content) ≡ residents objects
residents_content objects serial word content = residents_changed objects serial (slice_set (contents_at objects serial) word content)

content_held_at : (test : ℕ → Bool) (objects : List (Option Object)) (place word : ℕ) (content : Content) → IsTrue (list_all test (references_in_objects objects)) →
    IsTrue (list_all test (reference_in_word content)) → IsTrue (list_all test (references_in_objects (with_content objects (suc place) word content)))
content_held_at test [] place word content all new = all
content_held_at test (None ∷ objects) zero word content all new = all
content_held_at test (Some object ∷ objects) zero word content all new =
    all_of test (flat_map reference_in_word (slice_set object.contents word content)) (references_in_objects objects)
    (all_with test reference_in_word object.contents word content (front_of test (flat_map reference_in_word object.contents) (references_in_objects objects) all) new)
    (rest_of test (flat_map reference_in_word object.contents) (references_in_objects objects) all)
content_held_at test (entry ∷ objects) (suc place) word content all new =
    all_of test (references_in_entry entry) (references_in_objects (with_content objects (suc place) word content)) (front_of test (references_in_entry entry) (references_in_objects objects) all)
    (content_held_at test objects place word content (rest_of test (references_in_entry entry) (references_in_objects objects) all) new)

content_held : (test : ℕ → Bool) (objects : List (Option Object)) (serial word : ℕ) (content : Content) → IsTrue (list_all test (references_in_objects objects)) →
    IsTrue (list_all test (reference_in_word content)) → IsTrue (list_all test (references_in_objects (with_content objects serial word content)))
content_held test objects zero word content all new = all
content_held test objects (suc place) word content all new = content_held_at test objects place word content all new

pub closed_content : (view : View) (serial word : ℕ) (content : Content) → IsClosed view → IsTrue (list_all (is_held view.objects) (reference_in_word content)) →
    IsClosed (record { roots = view.roots; objects = with_content view.objects serial word content })
closed_content view serial word content closed new =
    let alike : (each : ℕ) → is_held (with_content view.objects serial word content) each ≡ is_held view.objects each =
    λ each. held_alike (with_content view.objects serial word content) view.objects each (residents_content view.objects serial word content) in
    record {
      roots = same_all (is_held (with_content view.objects serial word content)) (is_held view.objects) (root_references view.roots) alike ∙ closed.roots;
      objects = same_all (is_held (with_content view.objects serial word content)) (is_held view.objects) (references_in_objects (with_content view.objects serial word content)) alike
          ∙ content_held (is_held view.objects) view.objects serial word content closed.objects new;
    }

pub closed_new : (view : View) (object : Object) → IsClosed view → IsTrue (list_all (is_held (view.objects ++ Some object ∷ [])) (flat_map reference_in_word object.contents)) →
    IsClosed (record { roots = view.roots; objects = view.objects ++ Some object ∷ [] })
closed_new view object closed new =
    let further : (each : ℕ) → IsTrue (is_held view.objects each) → IsTrue (is_held (view.objects ++ Some object ∷ []) each) = held_further view.objects object in
    record {
      roots = more_all (is_held view.objects) (is_held (view.objects ++ Some object ∷ [])) (root_references view.roots) further closed.roots;
      objects =
          ap (list_all (is_held (view.objects ++ Some object ∷ []))) (flat_map-append references_in_entry view.objects (Some object ∷ []))
          ∙ all_of (is_held (view.objects ++ Some object ∷ [])) (references_in_objects view.objects) (flat_map reference_in_word object.contents ++ [])
          (more_all (is_held view.objects) (is_held (view.objects ++ Some object ∷ [])) (references_in_objects view.objects) further closed.objects)
          (all_of (is_held (view.objects ++ Some object ∷ [])) (flat_map reference_in_word object.contents) [] new refl);
    }
