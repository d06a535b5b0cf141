-- An array of chars that is filled word by word, and a string that refers to it.
use Rattle.std.proofs.Common.{◌≡◌, ◌∙◌, ap, add-one, arith, append_assoc, refl, sym, ℕ, pos, ◌+◌, ◌<◌, Bool, true, List, [], ◌∷◌, ◌++◌, Option, Some, None, get_or, is_some, length, replicate, slice_get, slice_set, zero, suc, IsTrue}
use Rattle.std.proofs.lemmas.Bool.{false≢true}
use Rattle.cb_plain.specs.declared.shape.Shape.{Shape}
use Rattle.cb_plain.specs.declared.shape.Shape.TheVariants.{Fields}
use Rattle.cb_plain.specs.State.{Content, Number, Object, Reference}
use Rattle.cb_plain.specs.Updates.{object_in, with_contents_in}
use Rattle.cb_heap.specs.Kept.{content_at, contents_at, is_held, is_kept, is_number, with_content}
use Rattle.cb_heap.specs.Reading.{serial_of}
use Rattle.cb_heap.specs.Shaped.{new_object}
use Rattle.cb_heap.specs.Store.{ReadsAsBefore, may_point}
use Rattle.cb_heap.specs.Text.{unit_contents}
use Rattle.cb_heap.proofs.PlacedLaws.{may_point_there, placed_there, there_before}

-- objects with other contents in one
same_at : (objects : List (Option Object)) (place : ℕ) → with_contents_in objects (suc place) (contents_at objects (suc place)) ≡ objects
same_at [] place = refl
same_at (None ∷ objects) zero = refl
same_at (Some object ∷ objects) zero = refl
same_at (entry ∷ objects) (suc place) = ap (λ (rest : List (Option Object)). entry ∷ rest) (same_at objects place)

pub with_same : (objects : List (Option Object)) (serial : ℕ) → with_contents_in objects serial (contents_at objects serial) ≡ objects
with_same objects zero = refl
with_same objects (suc place) = same_at objects place

twice_at : (objects : List (Option Object)) (place : ℕ) (one other : List Content)
    → with_contents_in (with_contents_in objects (suc place) one) (suc place) other ≡ with_contents_in objects (suc place) other
twice_at [] place one other = refl
twice_at (None ∷ objects) zero one other = refl
twice_at (Some object ∷ objects) zero one other = refl
twice_at (entry ∷ objects) (suc place) one other = ap (λ (rest : List (Option Object)). entry ∷ rest) (twice_at objects place one other)

with_twice : (objects : List (Option Object)) (serial : ℕ) (one other : List Content)
    → with_contents_in (with_contents_in objects serial one) serial other ≡ with_contents_in objects serial other
with_twice objects zero one other = refl
with_twice objects (suc place) one other = twice_at objects place one other

contents_there : (objects : List (Option Object)) (place : ℕ) (contents : List Content) → IsTrue (is_kept objects (suc place))
    → contents_at (with_contents_in objects (suc place) contents) (suc place) ≡ contents
contents_there [] place contents there = absurd (false≢true there)
contents_there (None ∷ objects) zero contents there = absurd (false≢true there)
contents_there (Some object ∷ objects) zero contents there = refl
contents_there (entry ∷ objects) (suc place) contents there = contents_there objects place contents there

contents_with : (objects : List (Option Object)) (serial : ℕ) (contents : List Content) → IsTrue (is_kept objects serial)
    → contents_at (with_contents_in objects serial contents) serial ≡ contents
contents_with objects zero contents there = absurd (false≢true there)
contents_with objects (suc place) contents there = contents_there objects place contents there

-- words that are filled with units so far
abbrev pub filled : List ℕ → ℕ → List Content
filled [] count = []
filled (unit ∷ units) zero = Number (pos 0) ∷ filled units zero
filled (unit ∷ units) (suc count) = Number (pos unit) ∷ filled units count

pub filled_none : (units : List ℕ) → replicate (length units) (Number (pos 0)) ≡ filled units 0
filled_none [] = refl
filled_none (unit ∷ units) = ap (λ (rest : List Content). Number (pos 0) ∷ rest) (filled_none units)

pub filled_all : (units : List ℕ) → filled units (length units) ≡ unit_contents units
filled_all [] = refl
filled_all (unit ∷ units) = ap (λ (rest : List Content). Number (pos unit) ∷ rest) (filled_all units)

filled_suc : (units : List ℕ) (count : ℕ) → count < length units → slice_set (filled units count) count (Number (pos (get_or units count 0))) ≡ filled units (suc count)
filled_suc [] count low = absurd (omega (arith, low))
filled_suc (unit ∷ units) zero low = refl
filled_suc (unit ∷ units) (suc count) low = ap (λ (rest : List Content). Number (pos unit) ∷ rest) (filled_suc units count (omega (arith, low)))

filled_next : (units : List ℕ) (count : ℕ) → count < length units → slice_set (filled units count) count (Number (pos (get_or units count 0))) ≡ filled units (count + 1)
filled_next units count low = filled_suc units count low ∙ ap (filled units) (sym (add-one count))

filled_blank : (units : List ℕ) (count : ℕ) → count < length units → slice_get (filled units count) count ≡ Some (Number (pos 0))
filled_blank [] count low = absurd (omega (arith, low))
filled_blank (unit ∷ units) zero low = refl
filled_blank (unit ∷ units) (suc count) low = filled_blank units count (omega (arith, low))

module _ (objects : List (Option Object)) (serial : ℕ) (units : List ℕ) (there : IsTrue (is_kept objects serial)) (count : ℕ) (low : count < length units) where
  pub number_so : is_number (content_at (with_contents_in objects serial (filled units count)) serial count) ≡ true
  number_so =
      ap (λ (contents : List Content). is_number (slice_get contents count)) (contents_with objects serial (filled units count) there)
      ∙ ap is_number (filled_blank units count low)

  pub written_so : with_content (with_contents_in objects serial (filled units count)) serial count (Number (pos (get_or units count 0)))
      ≡ with_contents_in objects serial (filled units (count + 1))
  written_so =
      with_twice objects serial (filled units count)
      (slice_set (contents_at (with_contents_in objects serial (filled units count)) serial) count (Number (pos (get_or units count 0))))
      ∙ ap (λ (contents : List Content). with_contents_in objects serial (slice_set contents count (Number (pos (get_or units count 0)))))
      (contents_with objects serial (filled units count) there)
      ∙ ap (with_contents_in objects serial) (filled_next units count low)

-- the object that was placed last
last_at : (objects : List (Option Object)) (object : Object) (contents : List Content)
    → with_contents_in (objects ++ Some object ∷ []) (suc (length objects)) contents ≡ objects ++ Some (record { site = object.site; kind = object.kind; contents = contents }) ∷ []
last_at [] object contents = refl
last_at (entry ∷ objects) object contents = ap (λ (rest : List (Option Object)). entry ∷ rest) (last_at objects object contents)

pub with_last : (objects : List (Option Object)) (object : Object) (contents : List Content)
    → with_contents_in (objects ++ Some object ∷ []) (length objects + 1) contents ≡ objects ++ Some (record { site = object.site; kind = object.kind; contents = contents }) ∷ []
with_last objects object contents =
    ap (λ (serial : ℕ). with_contents_in (objects ++ Some object ∷ []) serial contents) (add-one (length objects)) ∙ last_at objects object contents

last_contents : (objects : List (Option Object)) (object : Object) → contents_at (objects ++ Some object ∷ []) (length objects + 1) ≡ object.contents
last_contents objects object = rw (placed_there objects object) refl

last_held : (objects : List (Option Object)) (object : Object) → IsTrue (is_held (objects ++ Some object ∷ []) (length objects + 1))
last_held objects object =
    ap (is_held (objects ++ Some object ∷ [])) (add-one (length objects))
    ∙ ap (is_kept (objects ++ Some object ∷ [])) (sym (add-one (length objects))) ∙ ap is_some (placed_there objects object)

-- a new object of one reference
pub string_blank : (shapes : List Shape) (site kind : ℕ) → slice_get shapes kind ≡ Some (Fields (true ∷ [])) → (new_object shapes site kind 1).contents ≡ Reference 0 ∷ []
string_blank shapes site kind is = rw is refl

-- a string that was placed behind its array
module _ (objects : List (Option Object)) (first second : Object) (between after : ℕ → ℕ) (array at : ℕ)
    (again : ReadsAsBefore (objects ++ Some first ∷ []) between after) (one : serial_of between array ≡ length objects + 1)
    (two : serial_of after at ≡ length (objects ++ Some first ∷ []) + 1) (blank : second.contents ≡ Reference 0 ∷ []) where
  abbrev front : List (Option Object)
  front = objects ++ Some first ∷ []

  abbrev both : List (Option Object)
  both = front ++ Some second ∷ []

  array_so : serial_of after array ≡ length objects + 1
  array_so = again array (ap (is_held front) one ∙ last_held objects first) ∙ one

  first_there : object_in both (length objects + 1) ≡ Some first
  first_there = there_before front second (length objects + 1) first (placed_there objects first)

  pub allowed_so : (allows : ℕ → ℕ → Bool) → allows second.site first.site ≡ true → IsTrue (may_point allows both (serial_of after at) (serial_of after array))
  allowed_so allows allowed =
      ap (λ (serial : ℕ). may_point allows both serial (serial_of after array)) two
      ∙ ap (may_point allows both (length front + 1)) array_so
      ∙ may_point_there allows both (length front + 1) (length objects + 1) second first (placed_there front second) first_there allowed

  pub text_so : with_content both (serial_of after at) 0 (Reference (serial_of after array))
      ≡ objects ++ Some first ∷ Some (record { site = second.site; kind = second.kind; contents = Reference (length objects + 1) ∷ [] }) ∷ []
  text_so =
      ap (λ (serial : ℕ). with_content both serial 0 (Reference (serial_of after array))) two
      ∙ ap (λ (serial : ℕ). with_content both (length front + 1) 0 (Reference serial)) array_so
      ∙ ap (λ (contents : List Content). with_contents_in both (length front + 1) (slice_set contents 0 (Reference (length objects + 1))))
      (last_contents front second ∙ blank)
      ∙ with_last front second (Reference (length objects + 1) ∷ [])
      ∙ append_assoc objects (Some first ∷ []) (Some (record { site = second.site; kind = second.kind; contents = Reference (length objects + 1) ∷ [] }) ∷ [])
