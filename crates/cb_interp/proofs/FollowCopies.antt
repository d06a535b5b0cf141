-- References that follow what sites allow, in front of an object that was placed.
use Rattle.std.proofs.Common.{◌≡◌, ◌∙◌, ap, refl, sym, arith, ℕ, zero, suc, Bool, List, [], ◌∷◌, ◌++◌, Option, None, Some, IsTrue, is_some, slice_get}
use Rattle.std.specs.Prelude.{option_map}
use Rattle.std.proofs.lemmas.Bool.{false≢true}
use Rattle.std.proofs.lemmas.Option.{none-some, slice_get-get_or}
use Rattle.cb_heap.proofs.Laws.{all_in, held_from}
use Rattle.cb_heap.specs.Closed.{IsClosed, reference_in_word, references_in_entry}
use Rattle.cb_heap.specs.Follows.{Follows}
use Rattle.cb_heap.specs.Kept.{is_held}
use Rattle.cb_heap.specs.Store.{may_point}
use Rattle.cb_natives.proofs.Laws.{may_alike, site_in}
use Rattle.cb_plain.specs.Reach.{Points}
use Rattle.cb_plain.specs.State.{Object, Reference, Roots}
use Rattle.cb_plain.specs.Updates.{kept as kept_entry, object_in}

entry_there : (entry : Option (Option Object)) (object : Object) → kept_entry entry ≡ Some object → entry ≡ Some (Some object)
entry_there None object is = absurd (none-some object is)
entry_there (Some each) object is = ap Some is

module _ (front rest : List (Option Object)) where
  object_before : (place : ℕ) (object : Object) → object_in front (suc place) ≡ Some object → object_in (front ++ rest) (suc place) ≡ Some object
  object_before place object is = go front place is where
    go : (front : List (Option Object)) (place : ℕ) → object_in front (suc place) ≡ Some object → object_in (front ++ rest) (suc place) ≡ Some object
    go [] place is = absurd (none-some object is)
    go (entry ∷ front) zero is = is
    go (entry ∷ front) (suc place) is = go front place is

  there_before : (serial : ℕ) (object : Object) → object_in front serial ≡ Some object → object_in (front ++ rest) serial ≡ Some object
  there_before zero object is = absurd (none-some object is)
  there_before (suc place) object is = object_before place object is

  same_before : (serial : ℕ) → IsTrue (is_some (object_in front serial)) → object_in front serial ≡ object_in (front ++ rest) serial
  same_before serial there = go (object_in front serial) refl where
    go : (found : Option Object) → object_in front serial ≡ found → object_in front serial ≡ object_in (front ++ rest) serial
    go None is = absurd (false≢true (sym (ap is_some is) ∙ there))
    go (Some object) is = is ∙ sym (there_before serial object is)

  pub held_before : (roots : Roots) → IsClosed (record { roots = roots; objects = front }) → (one other : ℕ) → Points front one other → IsTrue (is_held front other)
  held_before roots closed zero other points = absurd (none-some points.object points.there)
  held_before roots closed (suc place) other points =
      held_from front other
      (all_in (is_held front) reference_in_word points.object.contents points.holds.0 (Reference other)
      (slice_get-get_or points.object.contents points.holds.0 (Reference other) points.holds.1 ∙ ap Some points.holds.2)
      (all_in (is_held front) references_in_entry front place (Some points.object) (entry_there (slice_get front place) points.object points.there) closed.objects))

  pub follows_front : (allows : ℕ → ℕ → Bool) (roots : Roots) → IsClosed (record { roots = roots; objects = front }) → Follows allows (front ++ rest) → Follows allows front
  follows_front allows roots closed follows = record { each = each } where
    own : (serial : ℕ) → IsTrue (is_some (object_in front serial)) → site_in front serial ≡ site_in (front ++ rest) serial
    own serial there = ap (option_map (λ (object : Object). object.site)) (same_before serial there)

    each : (one other : ℕ) → Points front one other → IsTrue (may_point allows front one other)
    each one zero points = absurd (omega (arith, points.is_some))
    each one (suc place) points =
        may_alike allows front (front ++ rest) one (suc place) (own one (ap is_some points.there)) (own (suc place) (held_before roots closed one (suc place) points))
        ∙ follows.each one (suc place) (record { object = points.object; there = there_before one points.object points.there; holds = points.holds; is_some = points.is_some })
