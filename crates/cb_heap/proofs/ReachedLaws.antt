-- What is reached stays.
use Rattle.std.proofs.Common.{◌≡◌, ◌∙◌, ap, refl, subst, arith, ℕ, ◌<◌, Bool, true, false, List, [], ◌∷◌, ◌++◌, Option, Some, None, nat_lt, slice_get, zero, suc, IsTrue}
use Rattle.std.specs.List.{Contains, flat_map, list_all}
use Rattle.std.proofs.lemmas.Bool.{false≢true, lt-ltb, ltb-true}
use Rattle.std.proofs.lemmas.List.Sums.{AllPass-from_list_all}
use Rattle.std.proofs.lemmas.Option.{none-some, same_Some, slice_get-get_or}
use Rattle.cb_plain.specs.declared.value.Value.{Value}
use Rattle.cb_plain.specs.declared.value.Value.TheVariants as values
use Rattle.cb_plain.specs.Reach.{AtRoot, Behind, Points, frame_references, reference_in, references_in, root_references, unless_null}
use Rattle.cb_plain.specs.State.{Content, Frame, Initialising, Object, OfMethod, Reference, Roots}
use Rattle.cb_plain.specs.Updates.{kept as kept_entry}
use Rattle.cb_heap.specs.Closed.{Collects, reference_in_word, references_in_entry}
use Rattle.cb_heap.specs.Kept.{is_held, is_kept, keep, residents}
use Rattle.cb_heap.specs.Laws.{KeepsReached}
use Rattle.cb_heap.specs.Reading.{View}
use Rattle.cb_heap.proofs.ClosedLaws.{all_of, first_part, front_of, rest_of, joined}

pub held_from : (objects : List (Option Object)) (serial : ℕ) → IsTrue (list_all (is_held objects) (unless_null serial)) → IsTrue (is_held objects serial)
held_from objects zero all = refl
held_from objects (suc place) all = first_part (is_held objects (suc place)) true all

pub passes_held : (objects : List (Option Object)) (serial : ℕ) → IsTrue (is_held objects serial) → IsTrue (list_all (is_held objects) (unless_null serial))
passes_held objects zero held = refl
passes_held objects (suc place) held = rw held refl

pub all_in : {X Y : Type 0} (test : Y → Bool) (part : X → List Y) (items : List X) (place : ℕ) (item : X) → slice_get items place ≡ Some item →
    IsTrue (list_all test (flat_map part items)) → IsTrue (list_all test (part item))
all_in test part [] place item is all = absurd (none-some item is)
all_in test part (first ∷ items) zero item is all = subst (λ each. IsTrue (list_all test (part each))) (same_Some first item is) (front_of test (part first) (flat_map part items) all)
all_in test part (first ∷ items) (suc place) item is all = all_in test part items place item is (rest_of test (part first) (flat_map part items) all)

kept_stays : (kept : List Bool) (objects : List (Option Object)) (place : ℕ) (object : Object) → slice_get objects place ≡ Some (Some object) →
    IsTrue (is_kept (keep kept objects) (suc place)) → slice_get (keep kept objects) place ≡ Some (Some object)
kept_stays [] objects place object is there = absurd (false≢true there)
kept_stays (stays ∷ kept) [] place object is there = absurd (none-some (Some object) is)
kept_stays (true ∷ kept) (entry ∷ objects) zero object is there = is
kept_stays (false ∷ kept) (entry ∷ objects) zero object is there = absurd (false≢true there)
kept_stays (true ∷ kept) (entry ∷ objects) (suc place) object is there = kept_stays kept objects place object is there
kept_stays (false ∷ kept) (entry ∷ objects) (suc place) object is there = kept_stays kept objects place object is there

-- what is among all passes where all do
pub among : (test : ℕ → Bool) (items : List ℕ) (item : ℕ) → IsTrue (list_all test items) → Contains items item → IsTrue (test item)
among test items item all there = subst (λ each. IsTrue (test each)) there.2 (AllPass-from_list_all test items all there.0 item there.1)

-- no root is null
abbrev positive : ℕ → Bool
positive serial = nat_lt 0 serial

positives : {X : Type 0} (part : X → List ℕ) (items : List X) → ((item : X) → IsTrue (list_all positive (part item))) → IsTrue (list_all positive (flat_map part items))
positives part [] each = refl
positives part (item ∷ items) each = all_of positive (part item) (flat_map part items) (each item) (positives part items each)

positive_unless : (serial : ℕ) → IsTrue (list_all positive (unless_null serial))
positive_unless zero = refl
positive_unless (suc place) = rw (lt-ltb 0 (suc place) (omega arith)) refl

positive_value : (value : Value) → IsTrue (list_all positive (reference_in value))
positive_value (values.Int number) = refl
positive_value (values.Long number) = refl
positive_value (values.Ref place) = positive_unless place

positive_frame : (frame : Frame) → IsTrue (list_all positive (frame_references frame))
positive_frame (OfMethod frame) =
    all_of positive (references_in frame.locals) (references_in frame.stack) (positives reference_in frame.locals positive_value) (positives reference_in frame.stack positive_value)
positive_frame (Initialising class place) = refl

positive_roots : (held : Roots) → IsTrue (list_all positive (root_references held))
positive_roots held =
    joined positive held (positives frame_references held.frames positive_frame) (positives reference_in held.statics positive_value)
    (positives unless_null (held.tables.constants ++ held.tables.classes ++ held.tables.integers ++ held.tables.longs ++ held.tables.characters ++ held.tables.booleans) positive_unless)
    (positive_unless held.pending) (positive_unless held.argument)

pub word_among : (test : ℕ → Bool) (contents : List Content) (other : ℕ) → Contains contents (Reference other) → IsTrue (list_all test (flat_map reference_in_word contents)) →
    IsTrue (list_all test (unless_null other))
word_among test contents other there all =
    all_in test reference_in_word contents there.0 (Reference other) (slice_get-get_or contents there.0 (Reference other) there.1 ∙ ap Some there.2) all

pub held_kept : (objects : List (Option Object)) (serial : ℕ) → 0 < serial → IsTrue (is_held objects serial) → IsTrue (is_kept objects serial)
held_kept objects zero some held = absurd (omega (arith, some))
held_kept objects (suc place) some held = held

pub entry_from : (entry : Option (Option Object)) (object : Object) → kept_entry entry ≡ Some object → entry ≡ Some (Some object)
entry_from None object is = absurd (none-some object is)
entry_from (Some each) object is = ap Some is

pointed : (old new : View) → Collects old new → (one other : ℕ) → IsTrue (is_kept new.objects one) → Points old.objects one other → IsTrue (is_kept new.objects other)
pointed old new collects zero other kept points = absurd (none-some points.object points.there)
pointed old new collects (suc place) other kept points =
    let there = kept_stays (residents new.objects) old.objects place points.object (entry_from (slice_get old.objects place) points.object points.there)
    (subst (λ objects. IsTrue (is_kept objects (suc place))) collects.objects kept) in
    held_kept new.objects other points.is_some (held_from new.objects other
    (word_among (is_held new.objects) points.object.contents other points.holds
    (all_in (is_held new.objects) references_in_entry new.objects place (Some points.object) (ap (λ objects. slice_get objects place) collects.objects ∙ there) collects.closed.objects)))

pub keeps_reached : KeepsReached
keeps_reached old new closed collects serial (AtRoot root there) =
    held_kept new.objects root (ltb-true 0 root (among positive (root_references old.roots) root (positive_roots old.roots) there))
    (among (is_held new.objects) (root_references old.roots) root (subst (λ held. IsTrue (list_all (is_held new.objects) (root_references held))) collects.roots collects.closed.roots) there)
keeps_reached old new closed collects serial (Behind one other reached points) =
    pointed old new collects one other (keeps_reached old new closed collects one reached) points
