-- What is kept of objects.
use Rattle.std.proofs.Common.{◌≡◌, ◌∙◌, ap, refl, arith, ℕ, Bool, true, false, List, [], ◌∷◌, length, Option, None, zero, suc}
use Rattle.cb_heap.specs.Kept.{is_held, keep}
use Rattle.cb_heap.specs.StandsFor.{forget}
use Rattle.cb_heap.proofs.Laws.{content_of_object, held_from, passes_held, reference_held, same_object}
use Rattle.cb_machine.specs.Standing.{Now}
use Rattle.cb_plain.specs.State.{Content, Object, State}
use Rattle.cb_plain.specs.Updates.{with_contents_in}
use Rattle.cb_act.specs.Changing.{IsHere, IsUnseen}
use Rattle.cb_act.specs.Keeping.{IsKeeping, KeepsHere}

pub length_kept : (residents : List Bool) (objects : List (Option Object)) → length residents ≡ length objects → length (keep residents objects) ≡ length objects
length_kept [] objects same = same
length_kept (stays ∷ residents) [] same = absurd (omega (arith, same))
length_kept (true ∷ residents) (entry ∷ objects) same = ap suc (length_kept residents objects (omega (arith, same)))
length_kept (false ∷ residents) (entry ∷ objects) same = ap suc (length_kept residents objects (omega (arith, same)))

-- and so are objects with other contents
contents_in : (residents : List Bool) (objects : List (Option Object)) (place : ℕ) (contents : List Content)
    → keep residents (with_contents_in objects (suc place) contents) ≡ with_contents_in (keep residents objects) (suc place) contents
contents_in [] objects place contents = refl
contents_in (stays ∷ residents) [] place contents = refl
contents_in (true ∷ residents) (entry ∷ objects) zero contents = refl
contents_in (false ∷ residents) (entry ∷ objects) zero contents = refl
contents_in (true ∷ residents) (entry ∷ objects) (suc place) contents = ap (λ rest. entry ∷ rest) (contents_in residents objects place contents)
contents_in (false ∷ residents) (entry ∷ objects) (suc place) contents = ap (λ rest. None ∷ rest) (contents_in residents objects place contents)

pub contents_kept : (residents : List Bool) (objects : List (Option Object)) (serial : ℕ) (contents : List Content)
    → keep residents (with_contents_in objects serial contents) ≡ with_contents_in (keep residents objects) serial contents
contents_kept residents objects zero contents = refl
contents_kept residents objects (suc place) contents = contents_in residents objects place contents

length_in : (objects : List (Option Object)) (place : ℕ) (contents : List Content) → length (with_contents_in objects (suc place) contents) ≡ length objects
length_in [] place contents = refl
length_in (entry ∷ objects) zero contents = refl
length_in (entry ∷ objects) (suc place) contents = ap suc (length_in objects place contents)

pub length_changed : (objects : List (Option Object)) (serial : ℕ) (contents : List Content) → length (with_contents_in objects serial contents) ≡ length objects
length_changed objects zero contents = refl
length_changed objects (suc place) contents = length_in objects place contents

-- to keep some objects is unseen where nothing that is kept names one that isn't
pub keep_unseen : (residents : List Bool) (state : State) → IsKeeping residents state → IsUnseen (keep residents) (is_held (keep residents state.objects)) state
keep_unseen residents state keeping = record {
  count = length_kept residents state.objects keeping.count;
  contents = contents_kept residents;
  same = λ serial held. same_object residents state.objects serial (held_from (keep residents state.objects) serial held);
  roots = keeping.closed.roots;
  inside = λ serial word other object held there is.
      let kept = same_object residents state.objects serial (held_from (keep residents state.objects) serial held) ∙ there in
      passes_held (keep residents state.objects) other
      (reference_held (forget residents state) keeping.closed serial word other
      (content_of_object (keep residents state.objects) serial word object kept ∙ is));
}

pub keep_here : (residents : List Bool) (now : Now) → KeepsHere residents now → IsHere (keep residents) (is_held (keep residents now.state.objects)) now
keep_here residents now here = record { unseen = keep_unseen residents now.state here.keeping; frames = here.frames }
