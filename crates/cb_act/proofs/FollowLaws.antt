-- An object may refer to what one of its words refers to afterwards, where references follow what sites allow: no write changes a site.
use Rattle.std.proofs.Common.{◌≡◌, ◌∙◌, ap₂, refl, sym, ℕ, zero, suc, arith, Bool, true, false, List, [], ◌∷◌, Option, Some, None, IsTrue, option_map, slice_get, slice_set, is_some}
use Rattle.std.proofs.lemmas.Bool.{false≢true}
use Rattle.std.proofs.lemmas.Option.{get_or_from_slice_get, slice_get_within}
use Rattle.cb_frames.specs.Entries.{referent}
use Rattle.cb_heap.proofs.Laws.{put_there}
use Rattle.cb_heap.specs.Follows.{Follows}
use Rattle.cb_heap.specs.Kept.{content_at, contents_at, with_content}
use Rattle.cb_heap.specs.Reading.{read_value, serial_of}
use Rattle.cb_heap.specs.Store.{may_point}
use Rattle.cb_kinds.specs.declared.basic.Basic.{Basic}
use Rattle.cb_machine.specs.Values.{content_of}
use Rattle.cb_plain.specs.Reach.{Points}
use Rattle.cb_plain.specs.State.{Content, Object, Reference}
use Rattle.cb_plain.specs.Updates.{object_in, with_contents_in}
use Rattle.cb_plain.specs.declared.value.Value.{Value}
use Rattle.cb_plain.specs.declared.value.Value.TheVariants as values
use Rattle.cb_act.specs.Objects.{Suits}

abbrev pub site_in : List (Option Object) → ℕ → Option ℕ
site_in objects serial = option_map (λ (object : Object). object.site) (object_in objects serial)

abbrev site_test : (ℕ → ℕ → Bool) → Option ℕ → Option ℕ → Bool
site_test allows None other = false
site_test allows (Some one) None = false
site_test allows (Some one) (Some other) = allows one other

tested_so : (allows : ℕ → ℕ → Bool) (objects : List (Option Object)) (one place : ℕ)
    → may_point allows objects one (suc place) ≡ site_test allows (site_in objects one) (site_in objects (suc place))
tested_so allows objects one place = go (object_in objects one) (object_in objects (suc place)) refl refl where
  go : (first second : Option Object) → object_in objects one ≡ first → object_in objects (suc place) ≡ second
      → may_point allows objects one (suc place) ≡ site_test allows (site_in objects one) (site_in objects (suc place))
  go None second is also = rw is refl
  go (Some first) None is also = rw (is, also) refl
  go (Some first) (Some second) is also = rw (is, also) refl

-- what an object may refer to is told by the sites of both
pub may_alike : (allows : ℕ → ℕ → Bool) (before after : List (Option Object)) (one other : ℕ) → site_in before one ≡ site_in after one → site_in before other ≡ site_in after other
    → may_point allows before one other ≡ may_point allows after one other
may_alike allows before after one zero same also = refl
may_alike allows before after one (suc place) same also =
    tested_so allows before one place ∙ ap₂ (site_test allows) same also ∙ sym (tested_so allows after one place)

site_with : (objects : List (Option Object)) (place other : ℕ) (contents : List Content) → site_in (with_contents_in objects (suc place) contents) (suc other) ≡ site_in objects (suc other)
site_with [] place other contents = refl
site_with (None ∷ objects) zero zero contents = refl
site_with (Some object ∷ objects) zero zero contents = refl
site_with (entry ∷ objects) zero (suc other) contents = refl
site_with (entry ∷ objects) (suc place) zero contents = refl
site_with (entry ∷ objects) (suc place) (suc other) contents = site_with objects place other contents

pub site_same : (objects : List (Option Object)) (serial other : ℕ) (contents : List Content) → site_in (with_contents_in objects serial contents) other ≡ site_in objects other
site_same objects zero other contents = refl
site_same objects (suc place) zero contents = refl
site_same objects (suc place) (suc other) contents = site_with objects place other contents

-- a word of an object that is there
pub record WordAt (objects : List (Option Object)) (serial slot : ℕ) (content : Content) : Type 0 where
  pub object : Object
  pub there : object_in objects serial ≡ Some object
  pub is : slice_get object.contents slot ≡ Some content

pub word_at : (objects : List (Option Object)) (serial slot : ℕ) (content : Content) → content_at objects serial slot ≡ Some content → WordAt objects serial slot content
word_at objects serial slot content is = go (object_in objects serial) refl where
  go : (found : Option Object) → object_in objects serial ≡ found → WordAt objects serial slot content
  go None there = let none : content_at objects serial slot ≡ None = rw there refl in absurd (cc (sym none ∙ is))
  go (Some object) there =
      let same : content_at objects serial slot ≡ slice_get object.contents slot = rw there refl in
      record { object = object; there = there; is = sym same ∙ is }

pub word_points : (objects : List (Option Object)) (one slot place : ℕ) → content_at objects one slot ≡ Some (Reference (suc place)) → Points objects one (suc place)
word_points objects one slot place is =
    let word : WordAt objects one slot (Reference (suc place)) = word_at objects one slot (Reference (suc place)) is in
    record {
      object = word.object;
      there = word.there;
      holds = (slot, slice_get_within word.object.contents slot (Reference (suc place)) word.is, get_or_from_slice_get word.object.contents slot (Reference (suc place)) (Reference (suc place)) word.is);
      is_some = omega arith;
    }

pub word_may : (allows : ℕ → ℕ → Bool) (objects : List (Option Object)) (one slot other : ℕ) → Follows allows objects → content_at objects one slot ≡ Some (Reference other)
    → IsTrue (may_point allows objects one other)
word_may allows objects one slot zero follows is = refl
word_may allows objects one slot (suc place) follows is = follows.each one (suc place) (word_points objects one slot place is)

-- the word is written
pub put_allowed : (allows : ℕ → ℕ → Bool) (objects : List (Option Object)) (one slot other : ℕ) → is_some (content_at objects one slot) ≡ true
    → Follows allows (with_content objects one slot (Reference other)) → IsTrue (may_point allows objects one other)
put_allowed allows objects one slot other some follows = go (content_at objects one slot) refl some where
  words : List Content
  words = slice_set (contents_at objects one) slot (Reference other)

  go : (old : Option Content) → content_at objects one slot ≡ old → is_some old ≡ true → IsTrue (may_point allows objects one other)
  go None is some = absurd (false≢true some)
  go (Some old) is some =
      let word : WordAt objects one slot old = word_at objects one slot old is in
      let put : content_at (with_content objects one slot (Reference other)) one slot ≡ Some (Reference other) =
      put_there objects one slot (Reference other) word.object word.there (slice_get_within word.object.contents slot old word.is) in
      may_alike allows objects (with_content objects one slot (Reference other)) one other (sym (site_same objects one one (slice_set (contents_at objects one) slot (Reference other))))
      (sym (site_same objects one other (slice_set (contents_at objects one) slot (Reference other))))
      ∙ word_may allows (with_content objects one slot (Reference other)) one slot other follows put

-- a value is put into it
pub value_allowed : (allows : ℕ → ℕ → Bool) (objects : List (Option Object)) (index : ℕ → ℕ) (one slot : ℕ) (value : Value) → is_some (content_at objects one slot) ≡ true
    → Follows allows (with_content objects one slot (content_of (read_value index value))) → IsTrue (may_point allows objects one (serial_of index (referent value)))
value_allowed allows objects index one slot (values.Int number) some follows = refl
value_allowed allows objects index one slot (values.Long number) some follows = refl
value_allowed allows objects index one slot (values.Ref place) some follows = put_allowed allows objects one slot (serial_of index place) some follows

-- a word that suits a type is there
pub some_word : (basic : Basic) (content : Option Content) → Suits basic content → is_some content ≡ true
some_word basic None suits = absurd (no_word basic suits) where
  no_word : (basic : Basic) → Suits basic None → ⊥
  no_word basic suits = suits
some_word basic (Some content) suits = refl
