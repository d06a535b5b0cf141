-- Taking the objects of some sites is a collection.
use Rattle.std.proofs.Common.{◌≡◌, ◌∙◌, ap, sym, refl, arith, ℕ, ◌⊎◌, inl, inr, Bool, true, false, List, [], ◌∷◌, Option, Some, None, get_or, is_some, length, slice_get, zero, suc, zero-lt-suc, IsTrue}
use Rattle.std.specs.List.{Contains, flat_map, list_all}
use Rattle.std.proofs.lemmas.Bool.{false≢true}
use Rattle.std.proofs.lemmas.List.Elements.{Contains-get_or}
use Rattle.std.proofs.lemmas.List.Sums.{list_all-from_AllPass}
use Rattle.std.proofs.lemmas.Option.{get_or_from_slice_get, none-some, same_Some, slice_get_within}
use Rattle.cb_plain.specs.Reach.{AtRoot, Behind, IsReached, Points, root_references}
use Rattle.cb_plain.specs.State.{Content, Number, Object, Reference}
use Rattle.cb_plain.specs.Updates.{kept as kept_entry, object_in}
use Rattle.cb_heap.specs.Closed.{IsClosed, reference_in_word, references_in_entry}
use Rattle.cb_heap.specs.Follows.{Follows, TakesPredecessors}
use Rattle.cb_heap.specs.Kept.{is_held, keep, residents}
use Rattle.cb_heap.specs.Laws.{TakesCollect}
use Rattle.cb_heap.specs.Reading.{View}
use Rattle.cb_heap.specs.Store.{may_point}
use Rattle.cb_heap.specs.Taking.{IsTaken, left_of}
use Rattle.cb_heap.proofs.ClosedLaws.{all_of}
use Rattle.cb_heap.proofs.ReachedLaws.{all_in, among, held_from, passes_held, word_among}

-- a list all of whose items pass, and one of parts
pub all_among : {X : Type 0} (test : X → Bool) (items : List X) → ((item : X) → Contains items item → IsTrue (test item)) → IsTrue (list_all test items)
all_among test items each = list_all-from_AllPass test items (λ place other below. each (get_or items place other) (Contains-get_or items place other below))

pub all_parts : {X Y : Type 0} (test : Y → Bool) (part : X → List Y) (items : List X) →
    ((place : ℕ) → (item : X) → slice_get items place ≡ Some item → IsTrue (list_all test (part item))) → IsTrue (list_all test (flat_map part items))
all_parts test part [] each = refl
all_parts test part (item ∷ items) each =
    all_of test (part item) (flat_map part items) (each zero item refl) (all_parts test part items (λ place other is. each (suc place) other is))

-- an object that is kept stands in its place
kept_object : (entry : Option (Option Object)) → IsTrue (is_some (kept_entry entry)) → (object : Object) × (entry ≡ Some (Some object))
kept_object None there = absurd (false≢true there)
kept_object (Some None) there = absurd (false≢true there)
kept_object (Some (Some object)) there = (object, refl)

-- what is to be kept is, and nothing else
kept_after : (after : List Bool) (objects : List (Option Object)) (place : ℕ) (object : Object) → slice_get after place ≡ Some true → slice_get objects place ≡ Some (Some object) →
    slice_get (keep after objects) place ≡ Some (Some object)
kept_after [] objects place object stays is = absurd (none-some true stays)
kept_after (first ∷ after) [] place object stays is = absurd (none-some (Some object) is)
kept_after (true ∷ after) (entry ∷ objects) zero object stays is = is
kept_after (false ∷ after) (entry ∷ objects) zero object stays is = absurd (false≢true (same_Some false true stays))
kept_after (true ∷ after) (entry ∷ objects) (suc place) object stays is = kept_after after objects place object stays is
kept_after (false ∷ after) (entry ∷ objects) (suc place) object stays is = kept_after after objects place object stays is

kept_before : (after : List Bool) (objects : List (Option Object)) (place : ℕ) (object : Object) → slice_get (keep after objects) place ≡ Some (Some object) →
    (slice_get after place ≡ Some true) × (slice_get objects place ≡ Some (Some object))
kept_before [] objects place object is = absurd (none-some (Some object) is)
kept_before (first ∷ after) [] place object is = absurd (none-some (Some object) is)
kept_before (true ∷ after) (entry ∷ objects) zero object is = (refl, is)
kept_before (false ∷ after) (entry ∷ objects) zero object is = absurd (none-some object (same_Some None (Some object) is))
kept_before (true ∷ after) (entry ∷ objects) (suc place) object is = kept_before after objects place object is
kept_before (false ∷ after) (entry ∷ objects) (suc place) object is = kept_before after objects place object is

pub length-keep : (after : List Bool) (objects : List (Option Object)) → length after ≡ length objects → length (keep after objects) ≡ length objects
length-keep [] [] same = refl
length-keep [] (entry ∷ objects) same = absurd (omega (arith, same))
length-keep (stays ∷ after) [] same = refl
length-keep (true ∷ after) (entry ∷ objects) same = ap suc (length-keep after objects (omega (arith, same)))
length-keep (false ∷ after) (entry ∷ objects) same = ap suc (length-keep after objects (omega (arith, same)))

-- where no object is to be kept that isn't there
pub residents_left : (after : List Bool) (objects : List (Option Object)) → length after ≡ length objects →
    ((place : ℕ) → slice_get objects place ≡ Some None → slice_get after place ≡ Some false) → residents (keep after objects) ≡ after
residents_left [] objects same gone = refl
residents_left (stays ∷ after) [] same gone = absurd (omega (arith, same))
residents_left (false ∷ after) (entry ∷ objects) same gone = ap (λ rest. false ∷ rest) (residents_left after objects (omega (arith, same)) (λ place is. gone (suc place) is))
residents_left (true ∷ after) (None ∷ objects) same gone = absurd (false≢true (sym (same_Some true false (gone zero refl))))
residents_left (true ∷ after) (Some object ∷ objects) same gone = ap (λ rest. true ∷ rest) (residents_left after objects (omega (arith, same)) (λ place is. gone (suc place) is))

-- what sites allow of two objects that are there
allowed_there : (allows : ℕ → ℕ → Bool) (objects : List (Option Object)) (one place : ℕ) (first second : Object) → object_in objects one ≡ Some first →
    object_in objects (suc place) ≡ Some second → IsTrue (may_point allows objects one (suc place)) → allows first.site second.site ≡ true
allowed_there allows objects one place first second is also may = rw (is, also) at may

module _ (allows : ℕ → ℕ → Bool) (taken : ℕ → Bool) (view : View) (after : List Bool) (closed : IsClosed view) (follows : Follows allows view.objects) (predecessors : TakesPredecessors allows taken) (takes : IsTaken taken view after) where
  abbrev objects : List (Option Object)
  objects = view.objects

  abbrev left : List (Option Object)
  left = keep after objects

  -- an object stays whose site isn't taken, and one that is reached
  stays : (place : ℕ) (object : Object) → slice_get objects place ≡ Some (Some object) → (taken object.site ≡ false) ⊎ IsReached view.roots objects (suc place) → IsTrue (is_held left (suc place))
  stays place object is why = ap (λ entry. is_some (kept_entry entry)) (kept_after after objects place object ((takes.stays place object is).1 why) is)

  root_stays : (serial : ℕ) → Contains (root_references view.roots) serial → IsTrue (is_held left serial)
  root_stays zero root = refl
  root_stays (suc place) root =
      let found = kept_object (slice_get objects place) (among (is_held objects) (root_references view.roots) (suc place) closed.roots root) in
      stays place found.0 found.1 (inr (AtRoot (suc place) root))

  -- an object that stays, though the site of one that it refers to is taken, has a site that is taken too, and so both are reached
  referent_stays : (place below : ℕ) (one other : Object) → slice_get objects place ≡ Some (Some one) → slice_get objects below ≡ Some (Some other) → slice_get after place ≡ Some true →
      Points objects (suc place) (suc below) → (goes : Bool) → taken other.site ≡ goes → IsTrue (is_held left (suc below))
  referent_stays place below one other is also marked points false free = stays below other also (inl free)
  referent_stays place below one other is also marked points true goes =
      let allowed = allowed_there allows objects (suc place) below one other (ap kept_entry is) (ap kept_entry also) (follows.each (suc place) (suc below) points) in
      elim ((takes.stays place one is).0 marked) [
        | inl free ↦ absurd (false≢true (sym free ∙ predecessors.each one.site other.site allowed goes))
        | inr reached ↦ stays below other also (inr (Behind (suc place) (suc below) reached points))
      ]

  reference_stays : (place : ℕ) (one : Object) → slice_get left place ≡ Some (Some one) → (serial : ℕ) → Contains one.contents (Reference serial) → IsTrue (is_held left serial)
  reference_stays place one is zero holds = refl
  reference_stays place one is (suc below) holds =
      let before = kept_before after objects place one is in
      let words = all_in (is_held objects) references_in_entry objects place (Some one) before.1 closed.objects in
      let found = kept_object (slice_get objects below) (held_from objects (suc below) (word_among (is_held objects) one.contents (suc below) holds words)) in
      let points : Points objects (suc place) (suc below) = record { object = one; there = ap kept_entry before.1; holds = holds; is_some = zero-lt-suc below } in
      referent_stays place below one found.0 before.1 found.1 before.0 points (taken found.0.site) refl

  word_stays : (place : ℕ) (one : Object) → slice_get left place ≡ Some (Some one) → (at : ℕ) (word : Content) → slice_get one.contents at ≡ Some word →
      IsTrue (list_all (is_held left) (reference_in_word word))
  word_stays place one is at (Number number) holds = refl
  word_stays place one is at (Reference serial) holds =
      let there : Contains one.contents (Reference serial) =
      (at, slice_get_within one.contents at (Reference serial) holds, get_or_from_slice_get one.contents at (Reference serial) (Reference serial) holds) in
      passes_held left serial (reference_stays place one is serial there)

  entry_stays : (place : ℕ) (entry : Option Object) → slice_get left place ≡ Some entry → IsTrue (list_all (is_held left) (references_in_entry entry))
  entry_stays place None is = refl
  entry_stays place (Some one) is = all_parts (is_held left) reference_in_word one.contents (word_stays place one is)

  closed_left : IsClosed (left_of view after)
  closed_left =
      record { roots = all_among (is_held left) (root_references view.roots) root_stays; objects = all_parts (is_held left) references_in_entry left entry_stays }

pub takes_collect : TakesCollect
takes_collect allows taken view after closed follows predecessors takes =
    let marks = residents_left after view.objects takes.count takes.gone in (
      record {
        roots = refl;
        objects = ap (λ kept. keep kept view.objects) (sym marks);
        count = length-keep after view.objects takes.count;
        closed = closed_left allows taken view after closed follows predecessors takes;
      },
      marks,
    )
