-- What is kept of a typed state is typed, where nothing that is kept names an object that isn't.
use Rattle.std.proofs.Common.{◌≡◌, ◌∙◌, ap, sym, ℕ, zero, suc, Bool, List, Option, Some, IsTrue, is_some, slice_get}
use Rattle.std.specs.List.{list_all}
use Rattle.cb_heap.specs.Closed.{IsClosed, references_in, references_in_entry}
use Rattle.cb_heap.specs.Kept.{is_held, keep}
use Rattle.cb_heap.specs.StandsFor.{forget}
use Rattle.cb_heap.proofs.Laws as laws
use Rattle.cb_link.specs.Program.{Linked}
use Rattle.cb_plain.specs.State.{Object, State}
use Rattle.cb_plain.specs.Updates.{object_in, with_objects}
use Rattle.cb_safety.specs.Heap.{IsHeap, IsObject}
use Rattle.cb_safety.specs.Kinds.{kind_in, kinds_of}
use Rattle.cb_safety.specs.States.{IsTypedState}
use Rattle.cb_safety.proofs.Altered.{kind_there}
use Rattle.cb_safety.proofs.Asking.{IsAt, is_at}
use Rattle.cb_safety.proofs.Assigned.{never}
use Rattle.cb_safety.proofs.Staying as staying

module _ (residents : List Bool) (objects : List (Option Object)) where
  abbrev left : List (Option Object)
  left = keep residents objects

  -- an object that is kept has the kind that it had
  kind_kept : (serial own : ℕ) → IsTrue (is_held left serial) → kind_in (kinds_of objects) serial ≡ Some own → kind_in (kinds_of left) serial ≡ Some own
  kind_kept zero own held is = is
  kind_kept (suc place) own held is =
      let at : IsAt objects (suc place) own = is_at objects (suc place) own is in
      kind_there left place at.object (laws.same_object residents objects (suc place) held ∙ at.there) ∙ ap Some at.is

  heap_kept : (program : Linked) → IsTrue (list_all (is_held left) (references_in left)) → IsHeap program objects → IsHeap program left
  heap_kept program pass heap_is = record { each = by } where
    by : (serial : ℕ) (object : Object) → object_in left serial ≡ Some object → IsObject program (kinds_of left) object
    by zero object is = never is
    by (suc place) object is =
        staying.object_stays (kinds_of objects) (kinds_of left) (is_held left) kind_kept program object
        (laws.all_in (is_held left) references_in_entry left place (Some object) (laws.entry_from (slice_get left place) object is) pass)
        (heap_is.each (suc place) object (sym (laws.same_object residents objects (suc place) (ap is_some is)) ∙ is))

pub kept_states_are_typed : (program : Linked) (residents : List Bool) (state : State) → IsTypedState program state → IsClosed (forget residents state)
    → IsTypedState program (with_objects state (keep residents state.objects))
kept_states_are_typed program residents state typed closed = record {
  heap = heap_kept residents state.objects program closed.objects typed.heap;
  roots =
      staying.roots_stay (kinds_of state.objects) (kinds_of (keep residents state.objects)) (is_held (keep residents state.objects)) (kind_kept residents state.objects) program
      state.roots closed.roots typed.roots;
  input = typed.input;
}
