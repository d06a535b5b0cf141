-- References that follow what sites allow, where words are written one by one: no write changes a site.
use Rattle.std.proofs.Common.{◌≡◌, ◌∙◌, ap, ap₂, add-one, arith, refl, subst, sym, zero-add, ℕ, ℤ, zero, suc, ◌+◌, ◌<◌, ◌≤◌, Bool, true, false, List, [], ◌∷◌, ◌++◌, Option, Some, None, IsTrue, drop, get_or, length, length-set, option_map, slice_get, slice_set, take}
use Rattle.std.specs.List.{Contains}
use Rattle.std.proofs.lemmas.Bool.{false≢true}
use Rattle.std.proofs.lemmas.List.{get_or-set_other}
use Rattle.std.proofs.lemmas.Option.{get_or_from_slice_get, slice_get_within}
use Rattle.cb_heap.proofs.Laws.{content_of_object, placed_there, put_there, there_before}
use Rattle.cb_heap.specs.Follows.{Follows}
use Rattle.cb_heap.specs.Kept.{content_at, contents_at, is_number, is_reference, with_content}
use Rattle.cb_heap.specs.Store.{may_point}
use Rattle.cb_machine.specs.Copying.{overwritten}
use Rattle.cb_machine.specs.Sites.{made_characters, made_strings}
use Rattle.cb_plain.specs.Reach.{Points}
use Rattle.cb_plain.specs.State.{Content, Number, Object, Reference}
use Rattle.cb_plain.specs.Updates.{object_in, with_contents_in}
use Rattle.cb_plain.specs.declared.shape.Shape.{Shape}
use Rattle.cb_natives.specs.Copies.{MayCopy, copied, words_from}
use Rattle.cb_natives.specs.Following.{FollowsFrom, MayRefer}
use Rattle.cb_natives.specs.MakingTexts.{new_array, new_string, with_made}
use Rattle.cb_natives.proofs.Changes.{contents_with}
use Rattle.cb_natives.proofs.Overwriting.{over, over_past}
use Rattle.cb_natives.proofs.OwnLaws.{changed_there, contents_so, reference_there, word_there}

-- ---- sites

abbrev pub site_in : List (Option Object) → ℕ → Option ℕ
site_in objects serial = option_map (λ (object : Object). object.site) (object_in objects serial)

abbrev site_test : (ℕ → ℕ → Bool) → Option ℕ → Option ℕ → Bool
site_test allows None other = false
site_test allows (Some one) None = false
site_test allows (Some one) (Some other) = allows one other

tested_so : (allows : ℕ → ℕ → Bool) (objects : List (Option Object)) (one place : ℕ)
    → may_point allows objects one (suc place) ≡ site_test allows (site_in objects one) (site_in objects (suc place))
tested_so allows objects one place = go (object_in objects one) (object_in objects (suc place)) refl refl where
  go : (first second : Option Object) → object_in objects one ≡ first → object_in objects (suc place) ≡ second
      → may_point allows objects one (suc place) ≡ site_test allows (site_in objects one) (site_in objects (suc place))
  go None second is also = rw is refl
  go (Some first) None is also = rw (is, also) refl
  go (Some first) (Some second) is also = rw (is, also) refl

-- what an object may refer to is told by the sites of both
pub may_alike : (allows : ℕ → ℕ → Bool) (before after : List (Option Object)) (one other : ℕ) → site_in before one ≡ site_in after one → site_in before other ≡ site_in after other
    → may_point allows before one other ≡ may_point allows after one other
may_alike allows before after one zero same also = refl
may_alike allows before after one (suc place) same also =
    tested_so allows before one place ∙ ap₂ (site_test allows) same also ∙ sym (tested_so allows after one place)

site_with : (objects : List (Option Object)) (place other : ℕ) (contents : List Content) → site_in (with_contents_in objects (suc place) contents) (suc other) ≡ site_in objects (suc other)
site_with [] place other contents = refl
site_with (None ∷ objects) zero zero contents = refl
site_with (Some object ∷ objects) zero zero contents = refl
site_with (entry ∷ objects) zero (suc other) contents = refl
site_with (entry ∷ objects) (suc place) zero contents = refl
site_with (entry ∷ objects) (suc place) (suc other) contents = site_with objects place other contents

pub site_same : (objects : List (Option Object)) (serial other : ℕ) (contents : List Content) → site_in (with_contents_in objects serial contents) other ≡ site_in objects other
site_same objects zero other contents = refl
site_same objects (suc place) zero contents = refl
site_same objects (suc place) (suc other) contents = site_with objects place other contents

-- ---- a word that is left

pub follows_so : (allows later : ℕ → ℕ → Bool) → later ≡ allows → (objects now : List (Option Object)) → now ≡ objects → Follows allows objects → Follows later now
follows_so allows later same objects now is follows = subst (λ (allows : ℕ → ℕ → Bool). Follows allows now) (sym same) (subst (Follows allows) (sym is) follows)

pub follows_from_so : (allows later : ℕ → ℕ → Bool) → later ≡ allows → (objects now : List (Option Object)) → now ≡ objects → (one at : ℕ) → at ≡ one → FollowsFrom allows objects one
    → FollowsFrom later now at
follows_from_so allows later same objects now is one at own follows =
    subst (λ (allows : ℕ → ℕ → Bool). FollowsFrom allows now at) (sym same)
    (subst (FollowsFrom allows now) (sym own) (subst (λ objects. FollowsFrom allows objects one) (sym is) follows))

pub follows_one : (allows : ℕ → ℕ → Bool) (objects : List (Option Object)) (one : ℕ) → Follows allows objects → FollowsFrom allows objects one
follows_one allows objects one follows = record { each = λ other points. follows.each one other points }

word_points : (objects : List (Option Object)) (one slot other : ℕ) → content_at objects one slot ≡ Some (Reference other) → 0 < other → Points objects one other
word_points objects one slot other is some =
    let there = word_there objects one slot (Reference other) is in
    record {
      object = there.0;
      there = there.1;
      holds = (slot, slice_get_within there.0.contents slot (Reference other) there.2, get_or_from_slice_get there.0.contents slot (Reference other) (Reference other) there.2);
      is_some = some;
    }

word_may : (allows : ℕ → ℕ → Bool) (objects : List (Option Object)) (one slot other : ℕ) → FollowsFrom allows objects one → content_at objects one slot ≡ Some (Reference other)
    → IsTrue (may_point allows objects one other)
word_may allows objects one slot zero follows is = refl
word_may allows objects one slot (suc place) follows is = follows.each (suc place) (word_points objects one slot (suc place) is (omega arith))

-- an object may already refer to what a word of it refers to afterwards
pub word_left : (allows : ℕ → ℕ → Bool) (before after : List (Option Object)) (one slot other : ℕ) → FollowsFrom allows after one → content_at after one slot ≡ Some (Reference other)
    → site_in before one ≡ site_in after one → site_in before other ≡ site_in after other → IsTrue (may_point allows before one other)
word_left allows before after one slot other follows is same also =
    may_alike allows before after one other same also ∙ word_may allows after one slot other follows is

-- ---- a word that is written

word_put : (objects : List (Option Object)) (one slot : ℕ) (old new : Content) → content_at objects one slot ≡ Some old → content_at (with_content objects one slot new) one slot ≡ Some new
word_put objects one slot old new is =
    let there = word_there objects one slot old is in
    put_there objects one slot new there.0 there.1 (slice_get_within there.0.contents slot old there.2)

pub put_may : (allows : ℕ → ℕ → Bool) (objects : List (Option Object)) (one slot other : ℕ) → is_reference (content_at objects one slot) ≡ true
    → FollowsFrom allows (with_content objects one slot (Reference other)) one → IsTrue (may_point allows objects one other)
put_may allows objects one slot other refers follows =
    let old = reference_there (content_at objects one slot) refers in
    let words = slice_set (contents_at objects one) slot (Reference other) in
    word_left allows objects (with_content objects one slot (Reference other)) one slot other follows (word_put objects one slot (Reference old.0) (Reference other) old.1)
    (sym (site_same objects one one words)) (sym (site_same objects one other words))

-- where it referred to nothing, the others stay
word_stays : (contents : List Content) (slot : ℕ) (old new held : Content) → slice_get contents slot ≡ Some old → (old ≡ held → ⊥) → Contains contents held → Contains (slice_set contents slot new) held
word_stays contents slot old new held is differ (place, low, there) =
    let apart : place ≡ slot → ⊥ =
    λ same. differ (sym (get_or_from_slice_get contents slot old held is) ∙ ap (λ (place : ℕ). get_or contents place held) (sym same) ∙ there) in
    (place, omega (arith, low, length-set contents slot new), get_or-set_other contents slot place new held apart ∙ there)

points_stays : (objects : List (Option Object)) (one slot : ℕ) (old new : Content) → content_at objects one slot ≡ Some old → (other : ℕ) → (old ≡ Reference other → ⊥)
    → Points objects one other → Points (with_content objects one slot new) one other
points_stays objects one slot old new is other differ points =
    let words = slice_set (contents_at objects one) slot new in
    record {
      object = record { site = points.object.site; kind = points.object.kind; contents = words };
      there = changed_there objects one words points.object points.there;
      holds = word_stays (contents_at objects one) slot old new (Reference other) is differ
          (subst (λ contents. Contains contents (Reference other)) (sym (contents_so objects one points.object points.there)) points.holds);
      is_some = points.is_some;
    }

pub follows_before : (allows : ℕ → ℕ → Bool) (objects : List (Option Object)) (one slot : ℕ) (old new : Content) → content_at objects one slot ≡ Some old
    → ((other : ℕ) → 0 < other → old ≡ Reference other → ⊥) → FollowsFrom allows (with_content objects one slot new) one → FollowsFrom allows objects one
follows_before allows objects one slot old new is none follows = record {
  each = λ other points.
      let words = slice_set (contents_at objects one) slot new in
      may_alike allows objects (with_content objects one slot new) one other (sym (site_same objects one one words)) (sym (site_same objects one other words))
      ∙ follows.each other (points_stays objects one slot old new is other (none other points.is_some) points);
}

number_word : (found : Option Content) → is_number found ≡ true → (number : ℤ) × (found ≡ Some (Number number))
number_word None is = absurd (false≢true is)
number_word (Some (Number number)) is = (number, refl)
number_word (Some (Reference serial)) is = absurd (false≢true is)

pub number_before : (allows : ℕ → ℕ → Bool) (objects : List (Option Object)) (one slot : ℕ) (new : Content) → is_number (content_at objects one slot) ≡ true
    → FollowsFrom allows (with_content objects one slot new) one → FollowsFrom allows objects one
number_before allows objects one slot new is follows =
    let old = number_word (content_at objects one slot) is in
    follows_before allows objects one slot (Number old.0) new old.1 (λ other some same. cc same) follows

pub null_before : (allows : ℕ → ℕ → Bool) (objects : List (Option Object)) (one slot : ℕ) (new : Content) → content_at objects one slot ≡ Some (Reference 0)
    → FollowsFrom allows (with_content objects one slot new) one → FollowsFrom allows objects one
null_before allows objects one slot new is follows =
    follows_before allows objects one slot (Reference 0) new is (λ other some same. let none : 0 ≡ other = cc same in absurd (omega (arith, some, none))) follows

-- ---- a string that is placed behind its array

pair_allowed : (allows : ℕ → ℕ → Bool) (objects : List (Option Object)) (one place : ℕ) (first second : Object) → object_in objects one ≡ Some first → object_in objects (suc place) ≡ Some second
    → IsTrue (may_point allows objects one (suc place)) → allows first.site second.site ≡ true
pair_allowed allows objects one place first second is also may =
    sym (let same : may_point allows objects one (suc place) ≡ allows first.site second.site = rw (is, also) refl in same) ∙ may

pub made_pair : (allows : ℕ → ℕ → Bool) (objects : List (Option Object)) (array string : ℕ) (units : List ℕ) → Follows allows (with_made array string units objects)
    → allows made_strings made_characters ≡ true
made_pair allows objects array string units follows =
    let first = new_array array units in
    let second = new_string string (length objects + 1) in
    let front : List (Option Object) = objects ++ Some first ∷ [] in
    let both : List (Option Object) = with_made array string units objects in
    let one = length front + 1 in
    let there : object_in both one ≡ Some second = placed_there front second in
    let before : object_in both (suc (length objects)) ≡ Some first =
    sym (ap (object_in both) (add-one (length objects))) ∙ there_before front second (length objects + 1) first (placed_there objects first) in
    let word : content_at both one 0 ≡ Some (Reference (length objects + 1)) = content_of_object both one 0 second there in
    pair_allowed allows both one (length objects) second first there before
    (ap (may_point allows both one) (sym (add-one (length objects))) ∙ word_may allows both one 0 (length objects + 1) (follows_one allows both one follows) word)

-- ---- words that are copied

front_word : {A : Type 0} (items rest : List A) (place : ℕ) → place < length items → slice_get (items ++ rest) place ≡ slice_get items place
front_word [] rest place low = absurd (omega (arith, low))
front_word (item ∷ items) rest zero low = refl
front_word (item ∷ items) rest (suc place) low = front_word items rest place (omega (arith, low))

over_at : {A : Type 0} (items : List A) (from : ℕ) (new : List A) (place : ℕ) → from ≤ length items → place < length new → slice_get (over items from new) (from + place) ≡ slice_get new place
over_at items zero new place fits low = ap (slice_get (over items 0 new)) (zero-add place) ∙ front_word new (drop (0 + length new) items) place low
over_at [] (suc from) new place fits low = absurd (omega (arith, fits))
over_at (item ∷ items) (suc from) new place fits low =
    let more : suc from + place ≡ suc (from + place) = omega arith in
    ap (slice_get (over (item ∷ items) (suc from) new)) more
    ∙ ap (λ held. slice_get held (suc (from + place))) (over_past item items from new)
    ∙ over_at items from new place (omega (arith, fits)) low

taken_word : {A : Type 0} (count : ℕ) (items : List A) (place : ℕ) → place < count → slice_get (take count items) place ≡ slice_get items place
taken_word zero items place low = absurd (omega (arith, low))
taken_word (suc count) [] place low = refl
taken_word (suc count) (item ∷ items) zero low = refl
taken_word (suc count) (item ∷ items) (suc place) low = taken_word count items place (omega (arith, low))

dropped_word : {A : Type 0} (count : ℕ) (items : List A) (place : ℕ) → slice_get (drop count items) place ≡ slice_get items (count + place)
dropped_word zero items place = ap (slice_get items) (sym (zero-add place))
dropped_word (suc count) [] place = refl
dropped_word (suc count) (item ∷ items) place =
    let more : suc (count + place) ≡ suc count + place = omega arith in
    dropped_word count items place ∙ ap (slice_get (item ∷ items)) more

module _ (allows : ℕ → ℕ → Bool) (objects : List (Option Object)) (shape : Shape) (source start to at count : ℕ) (may : MayCopy objects shape source start to at count)
    (follows : FollowsFrom allows (copied objects source start to at count) to) where
  abbrev words : List Content
  words = words_from objects source start count

  long : (place : ℕ) (content : Content) → place < count → content_at objects source (start + place) ≡ Some content → place < length words
  long place content low is =
      slice_get_within words place content
      (taken_word count (drop start (contents_at objects source)) place low ∙ dropped_word start (contents_at objects source) place ∙ is)

  copied_word : (place : ℕ) (content : Content) → place < count → content_at objects source (start + place) ≡ Some content
      → content_at (copied objects source start to at count) to (at + place) ≡ Some content
  copied_word place content low is =
      ap (λ contents. slice_get contents (at + place)) (contents_with objects to (overwritten (contents_at objects to) at words) may.there)
      ∙ over_at (contents_at objects to) at words place (omega (arith, may.room)) (long place content low is)
      ∙ taken_word count (drop start (contents_at objects source)) place low
      ∙ dropped_word start (contents_at objects source) place
      ∙ is

  pub may_copy : (contents : List Content) (place : ℕ) → place < count → (found : Option Content) → content_at objects source (start + place) ≡ found
      → MayRefer allows (with_contents_in objects to contents) to found
  may_copy contents place low None is = tt
  may_copy contents place low (Some (Number number)) is = tt
  may_copy contents place low (Some (Reference other)) is =
      let now = overwritten (contents_at objects to) at words in
      word_left allows (with_contents_in objects to contents) (copied objects source start to at count) to (at + place) other follows (copied_word place (Reference other) low is)
      (site_same objects to to contents ∙ sym (site_same objects to to now)) (site_same objects to other contents ∙ sym (site_same objects to other now))
