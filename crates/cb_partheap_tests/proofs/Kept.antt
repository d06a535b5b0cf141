-- What is read of an object by its place, and what the calls of a heap leave.
use Rattle.std.proofs.Common.{min, nat_lt, ◌≡◌, ◌∙◌, ap, sym, refl, subst, arith, ℕ, ◌+◌, ◌<◌, ◌==◌, ◌||◌, Bool, true, false, List, [], ◌∷◌, ◌++◌, Option, Some, None, is_some, option_map, length, map, slice_get, slice_index, drop, if◌then◌else◌, zero, suc, IsTrue, length-append}
use Rattle.std.specs.List.{All, AllByRecursion}
use Rattle.std.proofs.lemmas.Bool.{eq-eqb, eqb-true, false≢true, lt-ltb}
use Rattle.std.proofs.lemmas.List.{length-map}
use Rattle.std.proofs.lemmas.List.Elements.{All-push, All-weaker}
use Rattle.std.proofs.lemmas.Option.{get_or_from_slice_get, none-some, same_Some}
use Rattle.cb_dag.specs.Graphs.{has_edge}
use Rattle.cb_plain.specs.declared.want.Want.{Want}
use Rattle.cb_plain.specs.Requests.{add_want, most_words, words_at}
use Rattle.cb_plain.specs.State.{Content, Object}
use Rattle.cb_plain.specs.Updates.{object_in}
use Rattle.cb_heap.specs.Kept.{content_at, is_held, is_kept, residents, with_content}
use Rattle.cb_heap.specs.Reading.{serial_of}
use Rattle.cb_heap.specs.Store.{ReadsAsBefore, may_point}
use Rattle.cb_heap.proofs.Laws as laws
use Rattle.cb_partheap.specs.Headers.{IsShaped}
use Rattle.cb_partheap.specs.Heaps.{Heap, content_of, index_in, marks_at, may_refer, object_by, objects_in, part_of, settings_in}
use Rattle.cb_partheap.specs.Spots.{Spot, words_by}
use Rattle.cb_partheap.specs.Whole.{IsHeap}
use Rattle.cb_partheap.specs.Words.{site_at, size_at}
use Rattle.cb_partheap.proofs.Laws.{Found, content_by, contents_found, found, header_found, object_length, slice_get-tabulated}
use Rattle.cb_partheap_tests.specs.Tried.{AllKept, IsKept, is_word}

pub there : {heap now : Heap} (at : ℕ) → IsHeap heap → heap ≡ now → IsKept now at → Found heap at
there {heap} {now} at is same kept = found heap at is (subst (λ (h : Heap). IsKept h at) (sym same) kept)

-- a word of an object
pub record WordThere (heap : Heap) (at i : ℕ) : Type 0 where
  pub found : Found heap at
  pub below : i < size_at (words_by heap.memory found.spot) found.spot.start

pub word_there : {heap now : Heap} (at i count : ℕ) → IsHeap heap → heap ≡ now → IsKept now at →
    option_map (λ object. length object.contents) (object_in (objects_in now) (serial_of (index_in now) at)) ≡ Some count → i < count → WordThere heap at i
word_there {heap} {now} at i count is same kept long below =
    let here = there at is same kept in
    let told : option_map (λ (object : Object). length object.contents) (object_in (objects_in heap) (serial_of (index_in heap) at)) ≡ Some count =
    ap (λ (h : Heap). option_map (λ (object : Object). length object.contents) (object_in (objects_in h) (serial_of (index_in h) at))) same ∙ long in
    let size : Some (length (object_by heap here.spot).contents) ≡ Some count = ap (option_map (λ (object : Object). length object.contents)) (sym here.object) ∙ told in
    record { found = here; below = omega (arith, below, object_length heap here.spot, same_Some (length (object_by heap here.spot).contents) count size) }

pub shaped_there : {heap : Heap} (at i : ℕ) → IsHeap heap → (word : WordThere heap at i) → IsShaped heap.memory heap.shapes at i word.found.spot
shaped_there {heap} at i is word = record { header = header_found heap at is word.found; shaped = (is.placed word.found.spot word.found.is).shaped; below = word.below }

by_mark : (index : ℕ → ℕ) (mark : Bool) (word : ℕ) → IsTrue (is_word mark (Some (content_of index mark word)))
by_mark index true word = refl
by_mark index false word = refl

pub told_word : {heap now : Heap} (at i : ℕ) (mark : Bool) → IsHeap heap → heap ≡ now → (word : WordThere heap at i) → mark ≡ marks_at heap.shapes (words_by heap.memory word.found.spot) word.found.spot.start i →
    IsTrue (is_word mark (content_at (objects_in now) (serial_of (index_in now) at) i))
told_word {heap} {now} at i mark is same word told =
    let spot : Spot = word.found.spot in
    let content : content_at (objects_in heap) (serial_of (index_in heap) at) i ≡ Some (content_by heap spot i) =
    ap (λ (contents : List Content). slice_get contents i) (contents_found (objects_in heap) (serial_of (index_in heap) at) (object_by heap spot) word.found.object)
    ∙ slice_get-tabulated (size_at (words_by heap.memory spot) spot.start) (content_by heap spot) i word.below in
    subst (λ (h : Heap). IsTrue (is_word mark (content_at (objects_in h) (serial_of (index_in h) at) i))) same
    (subst (λ (c : Option Content). IsTrue (is_word mark c)) (sym content)
    (subst (λ (m : Bool). IsTrue (is_word m (Some (content_by heap spot i)))) (sym told) (by_mark (index_in heap) (marks_at heap.shapes (words_by heap.memory spot) spot.start i) (slice_index (words_by heap.memory spot) (spot.start + (3 + i))))))

-- the part of an object's site
site_same : {heap now : Heap} (at site : ℕ) → IsHeap heap → heap ≡ now → (here : Found heap at) → option_map (λ object. object.site) (object_in (objects_in now) (serial_of (index_in now) at)) ≡ Some site →
    site_at (words_by heap.memory here.spot) here.spot.start ≡ site
site_same {heap} {now} at site is same here told =
    let before : option_map (λ (object : Object). object.site) (object_in (objects_in heap) (serial_of (index_in heap) at)) ≡ Some site =
    ap (λ (h : Heap). option_map (λ (object : Object). object.site) (object_in (objects_in h) (serial_of (index_in h) at))) same ∙ told in
    let size : Some (object_by heap here.spot).site ≡ Some site = ap (option_map (λ (object : Object). object.site)) (sym here.object) ∙ before in
    same_Some (object_by heap here.spot).site site size

pub site_there : {heap now : Heap} (at site : ℕ) → IsHeap heap → heap ≡ now → IsKept now at → option_map (λ object. object.site) (object_in (objects_in now) (serial_of (index_in now) at)) ≡ Some site → site < length heap.site_parts
site_there {heap} {now} at site is same kept told =
    let here = there at is same kept in
    omega (arith, (is.placed here.spot here.is).site, site_same at site is same here told)

pub part_there : {heap now : Heap} (at site part : ℕ) → IsHeap heap → heap ≡ now → IsKept now at → option_map (λ object. object.site) (object_in (objects_in now) (serial_of (index_in now) at)) ≡ Some site →
    slice_get heap.site_parts site ≡ Some part → option_map (λ object. part_of now.site_parts object.site) (object_in (objects_in now) (serial_of (index_in now) at)) ≡ Some part
part_there {heap} {now} at site part is same kept told read =
    let here = there at is same kept in
    let object : Object = object_by heap here.spot in
    let part_is : part_of heap.site_parts object.site ≡ part = ap (part_of heap.site_parts) (site_same at site is same here told) ∙ get_or_from_slice_get heap.site_parts site part 0 read in
    subst (λ (h : Heap). option_map (λ (o : Object). part_of h.site_parts o.site) (object_in (objects_in h) (serial_of (index_in h) at)) ≡ Some part) same
    (ap (option_map (λ (o : Object). part_of heap.site_parts o.site)) here.object ∙ ap Some part_is)

-- an object may refer to another by their parts
mapped : {X Y : Type 0} (f : X → Y) (found : Option X) (y : Y) → option_map f found ≡ Some y → (x : X) × (found ≡ Some x) × (f x ≡ y)
mapped {X} {Y} f None y is = absurd (none-some y is)
mapped {X} {Y} f (Some x) y is = (x, refl, same_Some (f x) y is)

pub may_by_parts : (heap : Heap) (one other part part' : ℕ) → option_map (λ object. part_of heap.site_parts object.site) (object_in (objects_in heap) one) ≡ Some part →
    option_map (λ object. part_of heap.site_parts object.site) (object_in (objects_in heap) other) ≡ Some part' → may_refer heap.edges part part' ≡ true →
    IsTrue (may_point (settings_in heap).allows (objects_in heap) one other)
may_by_parts heap one other part part' here there refers =
    let first = mapped (λ (object : Object). part_of heap.site_parts object.site) (object_in (objects_in heap) one) part here in
    let second = mapped (λ (object : Object). part_of heap.site_parts object.site) (object_in (objects_in heap) other) part' there in
    laws.may_point_there (settings_in heap).allows (objects_in heap) one other first.0 second.0 first.1 second.1
    (ap (λ (p : ℕ). may_refer heap.edges p (part_of heap.site_parts second.0.site)) first.2 ∙ ap (may_refer heap.edges part) second.2 ∙ refers)

pub same_part : (edges : List (List Bool)) (part part' : ℕ) → part ≡ part' → may_refer edges part part' ≡ true
same_part edges part part' same = rw (eq-eqb part part' same) refl

pub by_edge : (edges : List (List Bool)) (part part' : ℕ) → has_edge edges part part' ≡ true → may_refer edges part part' ≡ true
by_edge edges part part' edge = by_test (part == part') where
  by_test : (same : Bool) → (same || has_edge edges part part') ≡ true
  by_test true = refl
  by_test false = edge

-- where a number or a reference is put all is kept
kept_again : (one other : List (Option Object)) (serial : ℕ) → residents one ≡ residents other → IsTrue (is_kept other serial) → IsTrue (is_kept one serial)
kept_again one other zero same kept = absurd (false≢true kept)
kept_again one other (suc place) same kept = laws.held_alike one other (suc place) same ∙ kept

pub put_kept : (old new : Heap) (places : List ℕ) (serial i : ℕ) (content : Content) → AllKept old places → objects_in new ≡ with_content (objects_in old) serial i content → index_in new ≡ index_in old → AllKept new places
put_kept old new places serial i content all objects index =
    let alike : residents (objects_in new) ≡ residents (objects_in old) = ap residents objects ∙ laws.residents_content (objects_in old) serial i content in
    record {
      each = All-weaker (IsKept old) (IsKept new) (λ at kept. kept_again (objects_in new) (objects_in old) (serial_of (index_in new) at) alike
          (subst (λ (index : ℕ → ℕ). IsTrue (is_kept (objects_in old) (serial_of index at))) (sym index) kept)) places all.each;
      count = sym (length-map (objects_in new) is_some) ∙ ap length alike ∙ length-map (objects_in old) is_some ∙ all.count;
    }

-- and where an object is placed
further : (objects : List (Option Object)) (object : Object) (serial : ℕ) → IsTrue (is_kept objects serial) → IsTrue (is_kept (objects ++ Some object ∷ []) serial)
further objects object zero kept = absurd (false≢true kept)
further objects object (suc place) kept = laws.held_further objects object (suc place) kept

held_too : (objects : List (Option Object)) (serial : ℕ) → IsTrue (is_kept objects serial) → IsTrue (is_held objects serial)
held_too objects zero kept = refl
held_too objects (suc place) kept = kept

pub placed_there : (old new : Heap) (object : Object) (at : ℕ) → objects_in new ≡ objects_in old ++ Some object ∷ [] → serial_of (index_in new) at ≡ length (objects_in old) + 1 → IsKept new at
placed_there old new object at objects serial =
    subst (λ (held : List (Option Object)). IsTrue (is_kept held (serial_of (index_in new) at))) (sym objects)
    (subst (λ (s : ℕ). IsTrue (is_kept (objects_in old ++ Some object ∷ []) s)) (sym serial) (ap is_some (laws.placed_there (objects_in old) object)))

pub place_kept : (old new : Heap) (places : List ℕ) (object : Object) (at : ℕ) → AllKept old places → objects_in new ≡ objects_in old ++ Some object ∷ [] →
    serial_of (index_in new) at ≡ length (objects_in old) + 1 → ReadsAsBefore (objects_in old) (index_in old) (index_in new) → AllKept new (places ++ at ∷ [])
place_kept old new places object at all objects serial again =
    let stays : (other : ℕ) → IsKept old other → IsKept new other =
    λ other kept. subst (λ (held : List (Option Object)). IsTrue (is_kept held (serial_of (index_in new) other))) (sym objects)
    (subst (λ (s : ℕ). IsTrue (is_kept (objects_in old ++ Some object ∷ []) s)) (sym (again other (held_too (objects_in old) (serial_of (index_in old) other) kept))) (further (objects_in old) object (serial_of (index_in old) other) kept)) in
    record {
      each = All-push (IsKept new) places at (All-weaker (IsKept old) (IsKept new) stays places all.each) (placed_there old new object at objects serial);
      count = omega (arith, ap length objects, length-append (objects_in old) (Some object ∷ []), all.count, length-append places (at ∷ []));
    }

-- the words of a site among requests, one after the other
pub words_from : (wants : List Want) (i site : ℕ) (want : Want) → slice_get wants i ≡ Some want → words_at (drop i wants) site ≡ (if want.site == site then want.words else words_at (drop (suc i) wants) site)
words_from [] i site want is = absurd (none-some want is)
words_from (first ∷ wants) zero site want is = ap (λ (w : Want). if w.site == site then w.words else words_at wants site) (same_Some first want is)
words_from (first ∷ wants) (suc i) site want is = words_from wants i site want is

pub words_found : (wants : List Want) (i site : ℕ) (want : Want) → slice_get wants i ≡ Some want → want.site ≡ site → words_at (drop i wants) site ≡ want.words
words_found wants i site want is same = words_from wants i site want is ∙ ap (λ (test : Bool). if test then want.words else words_at (drop (suc i) wants) site) (eq-eqb want.site site same)

pub words_past : (wants : List Want) (i site : ℕ) (want : Want) → slice_get wants i ≡ Some want → (want.site ≡ site → ⊥) → words_at (drop (i + 1) wants) site ≡ words_at (drop i wants) site
words_past wants i site want is differs =
    let step : suc i ≡ i + 1 = omega arith in
    sym (words_from wants i site want is ∙ by_test (want.site == site) refl ∙ ap (λ n. words_at (drop n wants) site) step) where
      by_test : (same : Bool) → (want.site == site) ≡ same → (if same then want.words else words_at (drop (suc i) wants) site) ≡ words_at (drop (suc i) wants) site
      by_test true is_same = absurd (differs (eqb-true want.site site is_same))
      by_test false is_same = refl

-- a request for sites that are known asks for one more
pub known_added : (sites : ℕ) (wants : List Want) (want : Want) → AllByRecursion (λ each. IsTrue (nat_lt each.site sites)) wants → want.site < sites → AllByRecursion (λ each. IsTrue (nat_lt each.site sites)) (add_want wants want)
known_added sites [] want known below = (lt-ltb want.site sites below, tt)
known_added sites (old ∷ wants) want known below = by_test (old.site == want.site) (known_added sites wants want known.1 below) where
  by_test : (same : Bool) → AllByRecursion (λ each. IsTrue (nat_lt each.site sites)) (add_want wants want) →
      AllByRecursion (λ each. IsTrue (nat_lt each.site sites)) (if same then record { site = old.site; words = min (old.words + want.words) most_words } ∷ wants else old ∷ add_want wants want)
  by_test true rest = (known.0, known.1)
  by_test false rest = (known.0, rest)
