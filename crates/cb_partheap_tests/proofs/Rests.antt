-- A collection that lets nothing go.
use Rattle.std.proofs.Common.{◌≡◌, ℕ, List, [], ◌∷◌, Option, Some, None, refl, sym, ap, subst}
use Rattle.cb_plain.specs.State.{Object, Roots}
use Rattle.cb_heap.specs.Closed.{Collects, IsClosed}
use Rattle.cb_heap.specs.Kept.{keep, residents}
use Rattle.cb_heap.specs.Reading.{View, seen}

keep_all : (objects : List (Option Object)) → objects ≡ keep (residents objects) objects
keep_all [] = refl
keep_all (None ∷ entries) = ap (λ rest. None ∷ rest) (keep_all entries)
keep_all (Some object ∷ entries) = ap (λ rest. Some object ∷ rest) (keep_all entries)

pub rests : (view : View) → IsClosed view → Collects view view
rests view closed = record { roots = refl; objects = keep_all view.objects; count = refl; closed = closed }

pub rests_same : (index index' : ℕ → ℕ) (objects objects' : List (Option Object)) (roots : Roots) → objects' ≡ objects → index' ≡ index → IsClosed (seen index objects roots) → Collects (seen index objects roots) (seen index' objects' roots)
rests_same index index' objects objects' roots same read closed =
    subst (λ i. Collects (seen index objects roots) (seen i objects' roots)) (sym read) (subst (λ o. Collects (seen index objects roots) (seen index o roots)) (sym same) (rests (seen index objects roots) closed))
