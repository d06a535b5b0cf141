-- An exception that is wrapped into a new one.
use Rattle.std.proofs.Common.{◌≡◌, ◌∙◌, ap, refl, ℕ, ◌+◌, true, List, [], ◌∷◌, ◌++◌, length, Option, Some, slice_get, zero, suc, IsTrue}
use Rattle.cb_heap.proofs.Laws.{roots_again}
use Rattle.cb_heap.specs.Closed.{IsClosed}
use Rattle.cb_heap.specs.Kept.{is_held, is_kept, with_content}
use Rattle.cb_heap.specs.Reading.{View, read_roots, seen, serial_of}
use Rattle.cb_heap.specs.Shaped.{new_object}
use Rattle.cb_heap.specs.Store.{ReadsAsBefore}
use Rattle.cb_machine.specs.Sites.{exception_in_initializer}
use Rattle.cb_plain.specs.declared.shape.Shape.{Shape}
use Rattle.cb_plain.specs.declared.shape.Shape.TheVariants.{Fields}
use Rattle.cb_plain.specs.Roots.{with_pending}
use Rattle.cb_plain.specs.State.{Object, Reference, Roots}
use Rattle.cb_unwind.specs.Unwound.{cause_word, exception_size, wrapped}

-- what is kept is held
kept_held : (objects : List (Option Object)) (serial : ℕ) → IsTrue (is_kept objects serial) → IsTrue (is_held objects serial)
kept_held objects zero is = refl
kept_held objects (suc place) is = is

module _ (shapes : List Shape) (kind : ℕ) (shape : slice_get shapes kind ≡ Some (Fields (true ∷ true ∷ true ∷ []))) where
  abbrev pub new : Object
  new = new_object shapes exception_in_initializer kind exception_size

  module _ (objects : List (Option Object)) (before after : ℕ → ℕ) (held : Roots) (at : ℕ) (again : ReadsAsBefore objects before after)
      (serial : serial_of after at ≡ length objects + 1) (kept : IsTrue (is_kept objects (serial_of before held.pending))) where
    abbrev more : List (Option Object)
    more = objects ++ Some new ∷ []

    same_cause : serial_of after held.pending ≡ serial_of before held.pending
    same_cause = again held.pending (kept_held objects (serial_of before held.pending) kept)

    -- what is left is the wrapped exception
    pub wrapped_so : IsClosed (seen before objects held) → (kept : List (Option Object)) (index : ℕ → ℕ)
        → kept ≡ with_content more (serial_of after at) cause_word (Reference (serial_of after held.pending)) → index ≡ after
        → seen index kept (with_pending held at) ≡ wrapped shapes kind (seen before objects held)
    wrapped_so closed kept index put places =
        ap (λ (index : ℕ → ℕ). seen index kept (with_pending held at)) places
        ∙ ap (λ (kept : List (Option Object)). seen after kept (with_pending held at))
        (put
        ∙ ap (λ (serial : ℕ). with_content more serial cause_word (Reference (serial_of after held.pending))) serial
        ∙ ap (λ (cause : ℕ). with_content more (length objects + 1) cause_word (Reference cause)) same_cause)
        ∙ ap (λ (roots : Roots). as_view (with_pending roots (serial_of after at))) (roots_again objects before after again held closed.roots)
        ∙ ap (λ (serial : ℕ). as_view (with_pending (read_roots before held) serial)) serial
      where
        as_view : Roots → View
        as_view roots = record { roots = roots; objects = with_content more (length objects + 1) cause_word (Reference (serial_of before held.pending)) }
