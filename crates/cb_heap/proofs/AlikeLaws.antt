-- What is reached is kept in a closed view, and reached alike where only some objects are kept.
use Rattle.std.proofs.Common.{◌≡◌, ◌∙◌, ap, sym, refl, ℕ, Bool, List, [], ◌∷◌, Option, Some, None, is_some, zero, suc, IsTrue}
use Rattle.cb_plain.specs.Reach.{AtRoot, Behind, IsReached, Points}
use Rattle.cb_plain.specs.State.{Object, State}
use Rattle.cb_heap.specs.Closed.{IsClosed}
use Rattle.cb_heap.specs.Kept.{is_held, is_kept, keep, residents}
use Rattle.cb_heap.specs.Laws.{ReachedAlike}
use Rattle.cb_heap.specs.Reading.{View}
use Rattle.cb_heap.specs.StandsFor.{forget}
use Rattle.cb_heap.proofs.KeptLaws.{same_object}
use Rattle.cb_heap.proofs.ReachedLaws.{keeps_reached}

keep_all : (objects : List (Option Object)) → keep (residents objects) objects ≡ objects
keep_all [] = refl
keep_all (None ∷ objects) = ap (λ rest. None ∷ rest) (keep_all objects)
keep_all (Some object ∷ objects) = ap (λ rest. Some object ∷ rest) (keep_all objects)

-- a collection may leave all as it is
pub reached_kept : (view : View) → IsClosed view → (serial : ℕ) → IsReached view.roots view.objects serial → IsTrue (is_kept view.objects serial)
reached_kept view closed = keeps_reached view view closed (record { roots = refl; objects = sym (keep_all view.objects); count = refl; closed = closed })

pub kept_held : (objects : List (Option Object)) (serial : ℕ) → IsTrue (is_kept objects serial) → IsTrue (is_held objects serial)
kept_held objects zero kept = refl
kept_held objects (suc place) kept = kept

-- a reference in an object that is kept is there in the state too, and back
points_in : (kept : List Bool) (objects : List (Option Object)) (one other : ℕ) → IsTrue (is_kept (keep kept objects) one) → Points objects one other → Points (keep kept objects) one other
points_in kept objects one other there points =
    record { object = points.object; there = same_object kept objects one (kept_held (keep kept objects) one there) ∙ points.there; holds = points.holds; is_some = points.is_some }

points_out : (kept : List Bool) (objects : List (Option Object)) (one other : ℕ) → Points (keep kept objects) one other → Points objects one other
points_out kept objects one other points =
    record { object = points.object; there = sym (same_object kept objects one (kept_held (keep kept objects) one (ap is_some points.there))) ∙ points.there; holds = points.holds; is_some = points.is_some }

nothing_lost : (kept : List Bool) (state : State) → IsClosed (forget kept state) → (serial : ℕ) → IsReached state.roots state.objects serial → IsReached state.roots (keep kept state.objects) serial
nothing_lost kept state closed serial (AtRoot root there) = AtRoot root there
nothing_lost kept state closed serial (Behind one other reached points) =
    let before = nothing_lost kept state closed one reached in
    Behind one other before (points_in kept state.objects one other (reached_kept (forget kept state) closed one before) points)

nothing_besides : (kept : List Bool) (state : State) (serial : ℕ) → IsReached state.roots (keep kept state.objects) serial → IsReached state.roots state.objects serial
nothing_besides kept state serial (AtRoot root there) = AtRoot root there
nothing_besides kept state serial (Behind one other reached points) = Behind one other (nothing_besides kept state one reached) (points_out kept state.objects one other points)

pub reached_alike : ReachedAlike
reached_alike kept state same closed serial = (nothing_lost kept state closed serial, nothing_besides kept state serial)
