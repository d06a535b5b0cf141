-- What calls of the store leave.
use Rattle.std.proofs.Common.{◌≡◌, ◌∙◌, ap, sym, refl, subst, arith, ℕ, pred, zero, suc, ◌+◌, ◌-◌, ◌/◌, ◌^◌, ◌<◌, ◌≤◌, inl, Bool, true, false, List, [], ◌∷◌, ◌++◌, Some, Ok, Err, Result, IsTrue, OnOk, is_ok, length, map, set, slice_get, length-append, length-set}
use Rattle.std.proofs.lemmas.Bool.{false≢true, leb-false}
use Rattle.std.proofs.lemmas.List.{length-map, map_push}
use Rattle.std.proofs.lemmas.Option.{none-some, same_Some}
use Rattle.cb_plain.specs.declared.shape.Shape.{Shape}
use Rattle.cb_plain.specs.declared.want.Want.{Want}
use Rattle.cb_plain.specs.Requests.{most_words}
use Rattle.cb_plain.specs.State.{Object, Roots, words_of}
use Rattle.cb_heap.specs.declared.no_room.NoRoom.TheVariants.{Full}
use Rattle.cb_heap.specs.Closed.{Collects, IsClosed}
use Rattle.cb_plain.specs.Requests.{spent, words_at}
use Rattle.cb_heap.specs.Grants.{IsBounded, words_granted}
use Rattle.cb_heap.specs.Kept.{keep, residents, words_kept}
use Rattle.cb_heap.specs.Reading.{View, seen, serial_of}
use Rattle.cb_heap.specs.Shaped.{has_size, new_object}
use Rattle.cb_mapheap.specs.Layout.{Begins, IsStore, LiesAt}
use Rattle.cb_mapheap.specs.Placed.{Placed}
use Rattle.cb_mapheap.specs.Room.{MakesRoom, has_reached, one_has_reached}
use Rattle.cb_mapheap.specs.Words.{blank_words, objects_in}
use Rattle.cb_mapheap.proofs.Contents.{begins_new, blank_length, blank_size, object_new}
use Rattle.cb_mapheap.proofs.Found.{placed_of}
use Rattle.cb_mapheap.proofs.Laid.{lies_more, objects_count, objects_more, words_there}
use Rattle.cb_mapheap.proofs.Laws.{serial_is}
use Rattle.cb_mapheap.proofs.Wants.{granted_spent}

-- a collection that lets nothing go
all_kept : (objects : List Object) → keep (residents (map Some objects)) (map Some objects) ≡ map Some objects
all_kept [] = refl
all_kept (object ∷ objects) = ap (λ rest. Some object ∷ rest) (all_kept objects)

pub collects_same : (objects now : List Object) (roots : Roots) → now ≡ objects → IsClosed (seen pred (map Some objects) roots) → Collects (seen pred (map Some objects) roots) (seen pred (map Some now) roots)
collects_same objects now roots same closed =
    subst (λ (now : List Object). Collects (seen pred (map Some objects) roots) (seen pred (map Some now) roots)) (sym same)
    (record { roots = refl; objects = sym (all_kept objects); count = refl; closed = closed })

-- the number of objects, and the words that they take
pub count_now : {all : List Shape} {granted : List Want} {now : Placed} (starts words : List ℕ) → placed_of all starts words granted ≡ now → length now.objects ≡ length starts
count_now {all} starts words is = sym (ap (λ (now : Placed). length now.objects) is) ∙ objects_count all (length starts) words

pub words_now : {all : List Shape} {starts words : List ℕ} {granted : List Want} {most_starts most : ℕ} {now : Placed} → IsStore all starts words granted most_starts most → placed_of all starts words granted ≡ now →
    length words ≡ words_kept (map Some now.objects)
words_now {all} {starts} {words} store is = sym (words_there all 0 1 starts words store.lies) ∙ ap (λ (now : Placed). words_kept (map Some now.objects)) is

-- where too much is asked for

pub refuses : (view : View) (wants : List Want) (live : ℕ) → live ≡ words_kept view.objects → one_has_reached most_words wants ≡ true →
    MakesRoom tt view wants (Err (Full live most_words (most_words - 1))) (record { facts = tt; residents = residents view.objects })
refuses view wants live same much = record {
  full = ((λ more. ap (λ live. Err (Full live most_words (most_words - 1))) same), (λ is. much));
  refused = λ reason is. inl (cc);
  residents = refl;
}

-- where room was made
each_below : (wants : List Want) (want : Want) (place : ℕ) → one_has_reached most_words wants ≡ false → slice_get wants place ≡ Some want → want.words < most_words
each_below [] want place none there = absurd (none-some want there)
each_below (first ∷ wants) want place none there = below_first (has_reached most_words first) first wants want place refl (each_below wants want) none there where
  below_first : (is : Bool) (first : Want) (wants : List Want) (want : Want) (place : ℕ) → has_reached most_words first ≡ is →
      ((place : ℕ) → one_has_reached most_words wants ≡ false → slice_get wants place ≡ Some want → want.words < most_words) →
      one_has_reached most_words (first ∷ wants) ≡ false → slice_get (first ∷ wants) place ≡ Some want → want.words < most_words
  below_first true first wants want place is behind none there = absurd (false≢true (sym none ∙ rw is refl))
  below_first false first wants want zero is behind none there = subst (λ (want : Want). want.words < most_words) (same_Some first want there) (leb-false most_words first.words is)
  below_first false first wants want (suc place) is behind none there = behind place (rw is at none) there

on_ok : {T E F : Type 0} (one : Result T E) (other : Result T F) (P Q : Type 0) → is_ok other ≡ is_ok one → OnOk one P → (P → Q) → OnOk other Q
on_ok (Ok value) (Ok other) P Q same holds then = then holds
on_ok (Err error) (Ok other) P Q same holds then = absurd (false≢true (sym same))
on_ok one (Err error) P Q same holds then = tt

pub bounded : {E F : Type 0} (one : Result (Unit {0}) E) (other : Result (Unit {0}) F) (objects now : List Object) (wants : List Want) → is_ok other ≡ is_ok one → now ≡ objects → one_has_reached most_words wants ≡ false →
    OnOk one (length objects + 1 + words_granted wants / 3 < 2 ^ 63) → OnOk other (IsBounded false (length (map Some now)) wants)
bounded one other objects now wants same kept none few =
    on_ok one other (length objects + 1 + words_granted wants / 3 < 2 ^ 63) (IsBounded false (length (map Some now)) wants) same few
    (λ (few : length objects + 1 + words_granted wants / 3 < 2 ^ 63). record {
      each = λ want place there. each_below wants want place none there;
      words = λ fixed. absurd (false≢true fixed);
      serials = λ fixed. omega (arith, few, length-map now Some, ap length kept);
    })

-- where an object is placed
pub enough : (granted : List Want) (site words : ℕ) → words ≤ words_at granted site → words ≤ words_granted granted
enough granted site words fits = omega (arith, granted_spent granted site words fits)

pub placed_store : {all : List Shape} {starts words : List ℕ} {granted : List Want} {most_starts most : ℕ} (site kind size serial start : ℕ) (starts' words' : List ℕ) (granted' : List Want) (most_starts' most' : ℕ) →
    IsStore all starts words granted most_starts most → kind < 2 ^ 32 → site < 2 ^ 32 → IsTrue (has_size all kind size) → words_of size ≤ words_at granted site →
    serial ≡ length starts + 1 → start ≡ length words → starts' ≡ starts ++ start ∷ [] → words' ≡ words ++ blank_words serial site kind size → granted' ≡ spent granted site (words_of size) →
    most_starts' ≡ most_starts → most' ≡ most → IsStore all starts' words' granted' most_starts' most'
placed_store {all} {starts} {words} {granted} {most_starts} {most} site kind size serial start starts' words' granted' most_starts' most' store kind_below site_below shaped fits number end starts_are words_are left same_starts same_words =
    let more : List ℕ = blank_words serial site kind size in
    let spent_is = granted_spent granted site (words_of size) fits in
    let long = length-append words more in
    let whole : length more ≡ 3 + size = blank_size serial site kind size in
    let counted = length-append starts (start ∷ []) in
    let here : serial ≡ 1 + length starts = omega (arith, number) in
    let place : start ≡ 0 + length words = omega (arith, end) in
    rw (starts_are, words_are, left, same_starts, same_words)
    (record {
      lies = rw place (lies_more all 0 1 starts words more store.lies (subst (λ number. Begins all number more) here (begins_new all serial site kind size kind_below site_below shaped)) (omega (arith, whole, blank_length serial site kind size kind_below)));
      word_room = omega (arith, long, whole, spent_is, store.word_room);
      start_room = omega (arith, counted, spent_is, store.start_room);
    })

pub placed_objects : {all : List Shape} {starts words : List ℕ} {granted : List Want} {most_starts most : ℕ} {now : Placed} (site kind size serial start : ℕ) (starts' words' : List ℕ) →
    IsStore all starts words granted most_starts most → placed_of all starts words granted ≡ now → kind < 2 ^ 32 → IsTrue (has_size now.shapes kind size) →
    starts' ≡ starts ++ start ∷ [] → words' ≡ words ++ blank_words serial site kind size →
    map Some (objects_in all (length starts') words') ≡ map Some now.objects ++ Some (new_object now.shapes site kind size) ∷ []
placed_objects {all} {starts} {words} {granted} {most_starts} {most} {now} site kind size serial start starts' words' store is kind_below shaped starts_are words_are =
    let more : List ℕ = blank_words serial site kind size in
    subst (λ (now : Placed). IsTrue (has_size now.shapes kind size) → map Some (objects_in all (length starts') words') ≡ map Some now.objects ++ Some (new_object now.shapes site kind size) ∷ []) is
    (λ (shaped : IsTrue (has_size all kind size)).
    rw (starts_are, words_are) (ap (map Some) (objects_more all 0 1 start starts words more store.lies ∙ ap (λ object. objects_in all (length starts) words ++ object ∷ []) (object_new all serial site kind size kind_below shaped))
    ∙ map_push Some (objects_in all (length starts) words) (new_object all site kind size)))
    shaped

pub placed_serial : (count : ℕ) (objects : List Object) → length objects ≡ count → serial_of pred (count + 1) ≡ length (map Some objects) + 1
placed_serial count objects same = serial_is (count + 1) ∙ omega (arith, same, length-map objects Some)

-- where a word is put
pub put_store : {all : List Shape} {starts words : List ℕ} {granted : List Want} {most_starts most : ℕ} (place word : ℕ) →
    IsStore all starts words granted most_starts most → LiesAt all 0 1 starts (set words place word) → IsStore all starts (set words place word) granted most_starts most
put_store {all} {starts} {words} {granted} {most_starts} {most} place word store lies = record {
  lies = lies;
  word_room = omega (arith, length-set words place word, store.word_room);
  start_room = store.start_room;
}
