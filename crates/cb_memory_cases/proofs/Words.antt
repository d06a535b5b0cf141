-- Objects of numbers or references stay such when others are placed, and when numbers are put.
use Rattle.std.proofs.Common.{◌≡◌, ◌∙◌, ap, sym, refl, subst, arith, ℕ, ◌+◌, ◌*◌, ◌<◌, ◌≤◌, ◌==◌, if◌then◌else◌, Bool, true, false, pos, List, [], ◌∷◌, ◌++◌, Option, Some, None, is_some, length, replicate, slice_get, slice_set, zero, suc, IsTrue}
use Rattle.std.proofs.lemmas.Bool.{false≢true}
use Rattle.std.proofs.lemmas.Option.{none-some}
use Rattle.std.proofs.lemmas.Nat.{mul-le}
use Rattle.std.proofs.Math.Nat.{add-mul}
use Rattle.std.specs.Int.{int_wrap, w64}
use Rattle.cb_plain.specs.declared.shape.Shape.{Shape}
use Rattle.cb_plain.specs.declared.want.Want.{Want}
use Rattle.cb_plain.specs.Requests.{spent, words_at}
use Rattle.cb_plain.specs.State.{Content, Number, Object, Reference, blank}
use Rattle.cb_plain.specs.Updates.{object_in}
use Rattle.cb_heap.specs.Kept.{content_at, contents_at, is_held, is_number, is_reference, with_content}
use Rattle.cb_heap.specs.Reading.{serial_of}
use Rattle.cb_heap.specs.Shaped.{new_object}
use Rattle.cb_heap.specs.Storage.{Storage}
use Rattle.cb_heap.specs.Store.{ReadsAsBefore}
use Rattle.cb_heap.proofs.Laws as laws
use Rattle.cb_memory_cases.specs.Timed.{HasWords, Stays, array_kinds, kind_of}
use Rattle.cb_partheap_tests.specs.Tried.{is_word}

-- a word of nothing is neither
no_word : (mark : Bool) → IsTrue (is_word mark None) → ⊥
no_word true is = false≢true is
no_word false is = false≢true is

held_where : (objects : List (Option Object)) (serial : ℕ) (each : Object) → object_in objects serial ≡ Some each → IsTrue (is_held objects serial)
held_where objects zero each is = refl
held_where objects (suc place) each is = ap is_some is

-- where a word is there, its object is
there : (mark : Bool) (objects : List (Option Object)) (serial i : ℕ) → IsTrue (is_word mark (content_at objects serial i)) → (each : Object) × (object_in objects serial ≡ Some each)
there mark objects serial i is = by_object (object_in objects serial) refl where
  by_object : (found : Option Object) → object_in objects serial ≡ found → (each : Object) × (object_in objects serial ≡ Some each)
  by_object None same = absurd (no_word mark (subst (λ content. IsTrue (is_word mark content)) (rw same refl) is))
  by_object (Some each) same = (each, same)

pub placed_word : (mark : Bool) (objects : List (Option Object)) (object : Object) (before after : ℕ → ℕ) (at i : ℕ) → ReadsAsBefore objects before after →
    IsTrue (is_word mark (content_at objects (serial_of before at) i)) → IsTrue (is_word mark (content_at (objects ++ Some object ∷ []) (serial_of after at) i))
placed_word mark objects object before after at i again is =
    let found = there mark objects (serial_of before at) i is in
    let further = laws.there_before objects object (serial_of before at) found.0 found.1 in
    let same : serial_of after at ≡ serial_of before at = again at (held_where objects (serial_of before at) found.0 found.1) in
    let content : content_at (objects ++ Some object ∷ []) (serial_of after at) i ≡ content_at objects (serial_of before at) i =
    ap (λ serial. content_at (objects ++ Some object ∷ []) serial i) same
    ∙ laws.content_of_object (objects ++ Some object ∷ []) (serial_of before at) i found.0 further
    ∙ sym (laws.content_of_object objects (serial_of before at) i found.0 found.1) in
    subst (λ content. IsTrue (is_word mark content)) (sym content) is

-- a new one
blank_is : (mark : Bool) (size i : ℕ) → i < size → IsTrue (is_word mark (slice_get (replicate size (blank mark)) i))
blank_is mark zero i below = absurd (omega (arith, below))
blank_is true (suc size) zero below = refl
blank_is false (suc size) zero below = refl
blank_is mark (suc size) (suc i) below = blank_is mark size i (omega (arith, below))

pub new_word : (mark : Bool) (objects : List (Option Object)) (site size serial i : ℕ) → serial ≡ length objects + 1 → i < size →
    IsTrue (is_word mark (content_at (objects ++ Some (new_object array_kinds site (kind_of mark) size) ∷ []) serial i))
new_word mark objects site size serial i is below =
    let object : Object = new_object array_kinds site (kind_of mark) size in
    let found : object_in (objects ++ Some object ∷ []) serial ≡ Some object = ap (object_in (objects ++ Some object ∷ [])) is ∙ laws.placed_there objects object in
    subst (λ content. IsTrue (is_word mark content)) (sym (laws.content_of_object (objects ++ Some object ∷ []) serial i object found)) (by_mark mark)
  where
    by_mark : (mark : Bool) → IsTrue (is_word mark (slice_get (new_object array_kinds site (kind_of mark) size).contents i))
    by_mark true = blank_is true size i below
    by_mark false = blank_is false size i below

-- a number that is put
set_word : (mark : Bool) (contents : List Content) (j i : ℕ) (content : Content) → (IsTrue (is_word mark (slice_get contents j)) → IsTrue (is_word mark (Some content))) →
    IsTrue (is_word mark (slice_get contents i)) → IsTrue (is_word mark (slice_get (slice_set contents j content) i))
set_word mark [] j i content alike is = is
set_word mark (first ∷ contents) zero zero content alike is = alike is
set_word mark (first ∷ contents) zero (suc i) content alike is = is
set_word mark (first ∷ contents) (suc j) zero content alike is = is
set_word mark (first ∷ contents) (suc j) (suc i) content alike is = set_word mark contents j i content alike is

put_at : (mark : Bool) (objects : List (Option Object)) (serial j other i : ℕ) (content : Content) →
    (IsTrue (is_word mark (content_at objects (suc serial) j)) → IsTrue (is_word mark (Some content))) →
    IsTrue (is_word mark (content_at objects (suc other) i)) → IsTrue (is_word mark (content_at (with_content objects (suc serial) j content) (suc other) i))
put_at mark [] serial j other i content alike is = is
put_at mark (None ∷ objects) zero j other i content alike is = is
put_at mark (Some object ∷ objects) zero j zero i content alike is = set_word mark object.contents j i content alike is
put_at mark (Some object ∷ objects) zero j (suc other) i content alike is = is
put_at mark (entry ∷ objects) (suc serial) j zero i content alike is = is
put_at mark (entry ∷ objects) (suc serial) j (suc other) i content alike is = put_at mark objects serial j other i content alike is

-- what holds a number holds no reference
alike_number : (mark : Bool) (before : Option Content) (number : ℕ) → IsTrue (is_number before) → IsTrue (is_word mark before) → IsTrue (is_word mark (Some (Number (int_wrap w64 (pos number)))))
alike_number false before number is word = refl
alike_number true None number is word = absurd (false≢true is)
alike_number true (Some (Number other)) number is word = absurd (false≢true word)
alike_number true (Some (Reference other)) number is word = absurd (false≢true is)

pub put_word : (mark : Bool) (objects : List (Option Object)) (serial j other i number : ℕ) → IsTrue (is_number (content_at objects serial j)) →
    IsTrue (is_word mark (content_at objects other i)) → IsTrue (is_word mark (content_at (with_content objects serial j (Number (int_wrap w64 (pos number)))) other i))
put_word mark objects zero j other i number is word = word
put_word mark objects (suc serial) j zero i number is word = absurd (no_word mark word)
put_word mark objects (suc serial) j (suc other) i number is word =
    put_at mark objects serial j other i (Number (int_wrap w64 (pos number))) (alike_number mark (content_at objects (suc serial) j) number is) word

-- room that is left
pub spent_room : (wants : List Want) (site words : ℕ) → words ≤ words_at wants site → words_at (spent wants site words) site + words ≡ words_at wants site
spent_room [] site words few = omega (arith, few)
spent_room (want ∷ wants) site words few = by_site (want.site == site) refl (spent_room wants site words) where
  by_site : (same : Bool) → (want.site == site) ≡ same → (words ≤ words_at wants site → words_at (spent wants site words) site + words ≡ words_at wants site) →
      words_at (spent (want ∷ wants) site words) site + words ≡ words_at (want ∷ wants) site
  by_site true same rest = rw same (rw same (omega (arith, subst (λ is. words ≤ (if is then want.words else words_at wants site)) same few)))
  by_site false same rest = rw same (rw same (rest (subst (λ is. words ≤ (if is then want.words else words_at wants site)) same few)))

pub room_left : (count counter words before now : ℕ) → counter < count → now + counter * words ≡ before → count * words ≤ before → words ≤ now
room_left count counter words before now below is enough = let least : (counter + 1) * words ≤ count * words = mul-le (counter + 1) words count words (omega (arith, below)) (omega arith) in omega (arith, least, is, enough, add-mul counter 1 words)

-- what a store's calls leave
pub put_stays : {Facts : Type 0} → (old new : Storage Facts) (at word number : ℕ) → IsTrue (is_number (content_at old.kept (serial_of old.index at) word)) →
    new.kept ≡ with_content old.kept (serial_of old.index at) word (Number (int_wrap w64 (pos number))) → new.index ≡ old.index → Stays old new
put_stays old new at word number is kept index mark size other words =
    record {
      each = λ i below.
          subst (λ (objects : List (Option Object)). IsTrue (is_word mark (content_at objects (serial_of new.index other) i))) (sym kept)
          (subst (λ (read : ℕ → ℕ). IsTrue (is_word mark (content_at (with_content old.kept (serial_of old.index at) word (Number (int_wrap w64 (pos number)))) (serial_of read other) i))) (sym index)
          (put_word mark old.kept (serial_of old.index at) word (serial_of old.index other) i number is (words.each i below)));
    }

pub place_stays : {Facts : Type 0} → (old new : Storage Facts) (object : Object) → new.kept ≡ old.kept ++ Some object ∷ [] → ReadsAsBefore old.kept old.index new.index → Stays old new
place_stays old new object kept again mark size other words =
    record {
      each = λ i below.
          subst (λ (objects : List (Option Object)). IsTrue (is_word mark (content_at objects (serial_of new.index other) i))) (sym kept)
          (placed_word mark old.kept object old.index new.index other i again (words.each i below));
    }

pub placed_words : {Facts : Type 0} → (old new : Storage Facts) (mark : Bool) (kind size at : ℕ) → old.settings.shapes ≡ array_kinds → kind ≡ kind_of mark →
    new.kept ≡ old.kept ++ Some (new_object old.settings.shapes 0 kind size) ∷ [] → serial_of new.index at ≡ length old.kept + 1 → HasWords new mark size at
placed_words old new mark kind size at shapes kinds kept serial =
    let all : new.kept ≡ old.kept ++ Some (new_object array_kinds 0 (kind_of mark) size) ∷ [] =
    kept ∙ ap (λ (held : List Shape). old.kept ++ Some (new_object held 0 kind size) ∷ []) shapes ∙ ap (λ (which : ℕ). old.kept ++ Some (new_object array_kinds 0 which size) ∷ []) kinds in
    record {
      each = λ i below.
          subst (λ (objects : List (Option Object)). IsTrue (is_word mark (content_at objects (serial_of new.index at) i))) (sym all)
          (new_word mark old.kept 0 size (serial_of new.index at) i serial below);
    }
