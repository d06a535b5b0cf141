-- Two objects that are placed one after the other, and linked.
use Rattle.std.proofs.Common.{◌≡◌, ◌∙◌, ap, sym, refl, subst, arith, ℕ, ◌+◌, List, [], ◌∷◌, ◌++◌, Option, Some, is_some, length, slice_get, zero, suc, IsTrue, length-append}
use Rattle.std.specs.List.{list_all}
use Rattle.cb_plain.specs.Reach.{root_references}
use Rattle.cb_plain.specs.Roots.{with_pending}
use Rattle.cb_plain.specs.State.{Content, Object, Reference, Roots}
use Rattle.cb_plain.specs.Updates.{object_in}
use Rattle.cb_heap.specs.Closed.{Collects, IsClosed}
use Rattle.cb_heap.specs.Kept.{content_at, is_held, is_kept, with_content}
use Rattle.cb_heap.specs.Reading.{View, read_roots, seen, serial_of}
use Rattle.cb_heap.specs.Store.{ReadsAsBefore}
use Rattle.cb_heap.proofs.Laws as laws

abbrev pub and : List (Option Object) → Object → List (Option Object)
and objects object = objects ++ Some object ∷ []

pub count_and : (objects : List (Option Object)) (object : Object) → length (and objects object) ≡ length objects + 1
count_and objects object = length-append objects (Some object ∷ [])

pub first_there : (objects : List (Option Object)) (one other : Object) → object_in (and (and objects one) other) (length objects + 1) ≡ Some one
first_there objects one other = laws.there_before (and objects one) other (length objects + 1) one (laws.placed_there objects one)

pub second_there : (objects : List (Option Object)) (one other : Object) → object_in (and (and objects one) other) (length objects + 2) ≡ Some other
second_there objects one other =
    ap (object_in (and (and objects one) other)) (omega (arith, count_and objects one)) ∙ laws.placed_there (and objects one) other

pub held_where : (objects : List (Option Object)) (serial : ℕ) (each : Object) → object_in objects serial ≡ Some each → IsTrue (is_held objects serial)
held_where objects zero each is = refl
held_where objects (suc place) each is = ap is_some is

-- the places of both
pub first_place : (objects : List (Option Object)) (one : Object) (before after : ℕ → ℕ) (place : ℕ) → ReadsAsBefore (and objects one) before after →
    serial_of before place ≡ length objects + 1 → serial_of after place ≡ length objects + 1
first_place objects one before after place again is =
    again place (subst (λ serial. IsTrue (is_held (and objects one) serial)) (sym is) (held_where (and objects one) (length objects + 1) one (laws.placed_there objects one))) ∙ is

pub second_place : (objects : List (Option Object)) (one : Object) (after : ℕ → ℕ) (place : ℕ) → serial_of after place ≡ length (and objects one) + 1 → serial_of after place ≡ length objects + 2
second_place objects one after place is = is ∙ omega (arith, count_and objects one)

-- linked and named by the pending exception, the view is closed
pub linked_closed : (objects : List (Option Object)) (one other : Object) (index before after : ℕ → ℕ) (held : Roots) (place : ℕ) →
    one.contents ≡ Reference 0 ∷ [] → other.contents ≡ Reference 0 ∷ [] → IsClosed (seen index objects held) →
    ReadsAsBefore objects index before → ReadsAsBefore (and objects one) before after → serial_of after place ≡ length objects + 1 →
    IsClosed (seen after (with_content (and (and objects one) other) (length objects + 1) 0 (Reference (length objects + 2))) (with_pending held place))
linked_closed objects one other index before after held place blank also closed again further is =
    let both : List (Option Object) = and (and objects one) other in
    let now : List (Option Object) = with_content both (length objects + 1) 0 (Reference (length objects + 2)) in
    let first : read_roots before held ≡ read_roots index held = laws.roots_again objects index before again held closed.roots in
    let grown = laws.closed_new (seen index objects held) one closed (rw blank refl) in
    let same : read_roots after held ≡ read_roots index held =
    laws.roots_again (and objects one) before after further held (subst (λ read. IsTrue (list_all (is_held (and objects one)) (root_references read))) (sym first) grown.roots) ∙ first in
    let whole = laws.closed_new (record { roots = read_roots index held; objects = and objects one }) other grown (rw also refl) in
    let put = laws.closed_content (record { roots = read_roots index held; objects = both }) (length objects + 1) 0 (Reference (length objects + 2)) whole
    (laws.passes_held both (length objects + 2) (held_where both (length objects + 2) other (second_there objects one other))) in
    let named : IsTrue (is_held now (serial_of after place)) =
    subst (λ serial. IsTrue (is_held now serial)) (sym is)
    (laws.held_alike now both (length objects + 1) (laws.residents_content both (length objects + 1) 0 (Reference (length objects + 2)))
    ∙ held_where both (length objects + 1) one (first_there objects one other)) in
    record {
      roots = laws.closed_pending (is_held now) (read_roots after held) (serial_of after place) (subst (λ read. IsTrue (list_all (is_held now) (root_references read))) (sym same) put.roots)
          (laws.passes_held now (serial_of after place) named);
      objects = put.objects;
    }

-- where both were placed
pub word_there : (objects : List (Option Object)) (one other : Object) → one.contents ≡ Reference 0 ∷ [] → content_at (and (and objects one) other) (length objects + 1) 0 ≡ Some (Reference 0)
word_there objects one other blank = laws.content_of_object (and (and objects one) other) (length objects + 1) 0 one (first_there objects one other) ∙ ap (λ held. slice_get held 0) blank

-- what the first of them holds when they are linked
pub word_linked : (objects : List (Option Object)) (one other : Object) → one.contents ≡ Reference 0 ∷ [] →
    content_at (with_content (and (and objects one) other) (length objects + 1) 0 (Reference (length objects + 2))) (length objects + 1) 0 ≡ Some (Reference (length objects + 2))
word_linked objects one other blank =
    laws.put_there (and (and objects one) other) (length objects + 1) 0 (Reference (length objects + 2)) one (first_there objects one other) (rw blank (omega arith))

-- and is read back when all else is collected
pub word_back : (objects : List (Option Object)) (one other : Object) (old new : View) → one.contents ≡ Reference 0 ∷ [] →
    old.objects ≡ with_content (and (and objects one) other) (length objects + 1) 0 (Reference (length objects + 2)) → old.roots.pending ≡ length objects + 1 → Collects old new →
    content_at new.objects (new.roots.pending) 0 ≡ Some (Reference (length objects + 2))
word_back objects one other old new blank is named collects =
    let pending : new.roots.pending ≡ length objects + 1 = ap (λ roots. roots.pending) collects.roots ∙ named in
    let held : IsTrue (is_held new.objects new.roots.pending) = laws.held_from new.objects new.roots.pending (laws.pending_of (is_held new.objects) new.roots collects.closed.roots) in
    let kept : IsTrue (is_kept new.objects new.roots.pending) = laws.held_kept new.objects new.roots.pending (omega (arith, pending)) held in
    laws.content_left old new collects new.roots.pending 0 kept
    ∙ ap (λ serial. content_at old.objects serial 0) pending
    ∙ ap (λ held. content_at held (length objects + 1) 0) is
    ∙ word_linked objects one other blank

abbrev referent_or : Option Content → ℕ
referent_or (Some (Reference serial)) = serial
referent_or other = 0

pub same_word : {one other : ℕ} → Some (Reference one) ≡ Some (Reference other) → one ≡ other
same_word is = ap referent_or is
