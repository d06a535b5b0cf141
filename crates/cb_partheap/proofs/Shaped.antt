-- The shapes of kinds.
use Rattle.std.proofs.Common.{◌≡◌, ℕ, ◌<◌, IsTrue, Option, None, Some, is_some, List, length, slice_get, refl, arith, inl, inr}
use Rattle.std.proofs.lemmas.Bool.{cases_lt, eqb-true, false≢true}
use Rattle.std.proofs.lemmas.Option.{slice_get_past}
use Rattle.cb_plain.specs.declared.shape.Shape.{Shape}
use Rattle.cb_plain.specs.declared.shape.Shape.TheVariants as shapes
use Rattle.cb_heap.specs.Shaped.{has_size}
use Rattle.cb_partheap.specs.Heaps.{HasWord}

kind_if : (size i : ℕ) (all : List Shape) (kind : ℕ) (shape : Option Shape) → slice_get all kind ≡ shape → IsTrue (has_size all kind size) → IsTrue (is_some shape)
kind_if size i all kind None is sized = absurd (false≢true (rw is at sized))
kind_if size i all kind (Some shape) is sized = refl

pub known_kind : (all : List Shape) (kind size : ℕ) → IsTrue (has_size all kind size) → kind < length all
known_kind all kind size sized =
    elim (cases_lt kind (length all)) [
      | inl below ↦ below
      | inr past ↦ absurd (false≢true (kind_if size 0 all kind None (slice_get_past all kind past) sized))
    ]

pub word_in : (all : List Shape) (kind size i : ℕ) (shape : Shape) → IsTrue (has_size all kind size) → slice_get all kind ≡ Some shape → i < size → HasWord shape i
word_in all kind size i (shapes.Fields marks) sized is below = omega (arith, below, eqb-true (length marks) size (rw is at sized))
word_in all kind size i (shapes.Elements mark) sized is below = tt
