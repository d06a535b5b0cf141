-- What instructions that ask for the class of an object leave, by what stands on the stack.
use Rattle.std.proofs.Common.{◌≡◌, ◌∙◌, ap, refl, sym, subst, ℕ, ◌<◌, true, false, List, [], ◌∷◌, map, drop, length, Option, Some, None, zero, suc}
use Rattle.std.proofs.lemmas.Bool.{false≢true}
use Rattle.std.specs.Prelude.{is_some, option_map, slice_get}
use Rattle.cb_frames.specs.Tops.{top_stack}
use Rattle.cb_heap.specs.Reading.{read_roots, read_value, seen, serial_of}
use Rattle.cb_link.specs.Program.{Linked}
use Rattle.cb_link.specs.Subtypes.{instance}
use Rattle.cb_plain.specs.declared.value.Value.TheVariants as values
use Rattle.cb_plain.specs.Roots.{with_pending}
use Rattle.cb_plain.specs.State.{Frame, Initialising, Object, OfMethod, Roots}
use Rattle.cb_plain.specs.Updates.{object_in}
use Rattle.cb_act.specs.Classes.{HasKind, behind_cast, behind_instance, behind_throw, cast, cast_to, told_kind}
use Rattle.cb_act.specs.Effects.{stacked}
use Rattle.cb_act.specs.Objects.{Goes, on_stack, unless_null}
use Rattle.cb_act.proofs.FieldLaws.{object_so, on_top}

-- the same stack again
same_stack : (held : Roots) → stacked held (top_stack held) ≡ held
same_stack held = go held.frames where
  go : (frames : List Frame) →
      stacked (record { frames = frames; pending = held.pending; statics = held.statics; classes = held.classes; tables = held.tables; argument = held.argument })
      (top_stack (record { frames = frames; pending = held.pending; statics = held.statics; classes = held.classes; tables = held.tables; argument = held.argument }))
      ≡ record { frames = frames; pending = held.pending; statics = held.statics; classes = held.classes; tables = held.tables; argument = held.argument }
  go [] = refl
  go (OfMethod frame ∷ below) = refl
  go (Initialising class place ∷ below) = refl

pub kind_low : (objects : List (Option Object)) (serial kind count : ℕ) → option_map (λ (object : Object). object.kind) (object_in objects serial) ≡ Some kind
    → ((object : Object) → object_in objects serial ≡ Some object → object.kind < count) → kind < count
kind_low objects serial kind count is low = go (object_in objects serial) refl is where
  go : (found : Option Object) → object_in objects serial ≡ found → option_map (λ (object : Object). object.kind) found ≡ Some kind → kind < count
  go None there is = absurd (cc is)
  go (Some object) there is = let same : object.kind ≡ kind = cc is in subst (λ kind. kind < count) same (low object there)

module _ (program : Linked) (index : ℕ → ℕ) (objects : List (Option Object)) (held : Roots) where
  pub back_so : (place : ℕ) → slice_get (top_stack held) 0 ≡ Some (values.Ref place)
      → on_stack (seen index objects held) (values.Ref (serial_of index place) ∷ map (read_value index) (drop 1 (top_stack held))) ≡ seen index objects held
  back_so place is =
      ap (λ roots. record { roots = roots; objects = objects })
      (ap (stacked (read_roots index held)) (sym (on_top index objects held place is)) ∙ same_stack (read_roots index held))

  pub cast_so : (kind place : ℕ) → slice_get (top_stack held) 0 ≡ Some (values.Ref place)
      → behind_cast program kind (seen index objects held)
      ≡ cast program kind (seen index objects held) (values.Ref (serial_of index place) ∷ [], map (read_value index) (drop 1 (top_stack held)))
  cast_so kind place is = rw (on_top index objects held place is) refl

  pub cast_null : (kind place : ℕ) → slice_get (top_stack held) 0 ≡ Some (values.Ref place) → place ≡ 0
      → behind_cast program kind (seen index objects held) ≡ Some (Goes (seen index objects held))
  cast_null kind zero is null = cast_so kind 0 is ∙ ap (λ view. Some (Goes view)) (back_so 0 is)
  cast_null kind (suc place) is null = absurd (cc null)

  pub cast_kind : (kind own place : ℕ) → slice_get (top_stack held) 0 ≡ Some (values.Ref place) → ¬ (place ≡ 0)
      → option_map (λ (object : Object). object.kind) (object_in objects (serial_of index place)) ≡ Some own
      → behind_cast program kind (seen index objects held) ≡ Some (cast_to (seen index objects held) (instance program own kind))
  cast_kind kind own zero is some told = absurd (some refl)
  cast_kind kind own (suc place) is some told =
      cast_so kind (suc place) is ∙ go (object_in objects (serial_of index (suc place))) refl told
      ∙ ap (λ view. Some (cast_to view (instance program own kind))) (back_so (suc place) is) where
        go : (found : Option Object) → object_in objects (serial_of index (suc place)) ≡ found → option_map (λ (object : Object). object.kind) found ≡ Some own
            → cast program kind (seen index objects held) (values.Ref (serial_of index (suc place)) ∷ [], map (read_value index) (drop 1 (top_stack held)))
            ≡ Some (cast_to (on_stack (seen index objects held) (values.Ref (serial_of index (suc place)) ∷ map (read_value index) (drop 1 (top_stack held)))) (instance program own kind))
        go None there told = absurd (cc told)
        go (Some object) there told =
            let same : object.kind ≡ own = cc told in
            rw there (ap (λ own. Some (cast_to (on_stack (seen index objects held) (values.Ref (serial_of index (suc place)) ∷ map (read_value index) (drop 1 (top_stack held)))) (instance program own kind))) same)

  pub cast_there : (kind place : ℕ) → slice_get (top_stack held) 0 ≡ Some (values.Ref place) → ¬ (place ≡ 0)
      → is_some (behind_cast program kind (seen index objects held)) ≡ true → is_some (object_in objects (serial_of index place)) ≡ true
  cast_there kind zero is some all = absurd (some refl)
  cast_there kind (suc place) is some all = go (object_in objects (serial_of index (suc place))) refl where
    go : (found : Option Object) → object_in objects (serial_of index (suc place)) ≡ found → is_some found ≡ true
    go None there =
        let none : is_some (cast program kind (seen index objects held) (values.Ref (serial_of index (suc place)) ∷ [], map (read_value index) (drop 1 (top_stack held)))) ≡ false = rw there refl in
        absurd (false≢true (sym none ∙ ap is_some (sym (cast_so kind (suc place) is)) ∙ all))
    go (Some object) there = refl

  pub instance_there : (kind place : ℕ) → slice_get (top_stack held) 0 ≡ Some (values.Ref place) → ¬ (place ≡ 0)
      → is_some (behind_instance program kind (seen index objects held)) ≡ true → is_some (object_in objects (serial_of index place)) ≡ true
  instance_there kind zero is some all = absurd (some refl)
  instance_there kind (suc place) is some all = go (object_in objects (serial_of index (suc place))) refl where
    so : behind_instance program kind (seen index objects held)
        ≡ told_kind program kind (seen index objects held) (values.Ref (serial_of index (suc place)) ∷ [], map (read_value index) (drop 1 (top_stack held)))
    so = rw (on_top index objects held (suc place) is) refl

    go : (found : Option Object) → object_in objects (serial_of index (suc place)) ≡ found → is_some found ≡ true
    go None there =
        let none : is_some (told_kind program kind (seen index objects held) (values.Ref (serial_of index (suc place)) ∷ [], map (read_value index) (drop 1 (top_stack held)))) ≡ false = rw there refl in
        absurd (false≢true (sym none ∙ ap is_some (sym so) ∙ all))
    go (Some object) there = refl

  pub own_low : (place own : ℕ) → slice_get (top_stack held) 0 ≡ Some (values.Ref place) → option_map (λ (object : Object). object.kind) (object_in objects (serial_of index place)) ≡ Some own
      → HasKind program 0 (seen index objects held) → own < length program.kinds
  own_low place own is told has =
      kind_low objects (serial_of index place) own (length program.kinds) told
      (λ object there. has object (ap (object_in objects) (object_so index objects held 0 place is) ∙ there))

-- athrow
pub throw_so : (index : ℕ → ℕ) (objects : List (Option Object)) (held : Roots) (place : ℕ) → slice_get (top_stack held) 0 ≡ Some (values.Ref place)
    → behind_throw (seen index objects held)
    ≡ unless_null (serial_of index place) (option_map (λ (found : Object). Goes (seen index objects (with_pending held place))) (object_in objects (serial_of index place)))
throw_so index objects held place is = rw (on_top index objects held place is) refl

pub pending_so : (index : ℕ → ℕ) (objects : List (Option Object)) (held : Roots) (place : ℕ) → slice_get (top_stack held) 0 ≡ Some (values.Ref place) → ¬ (place ≡ 0)
    → is_some (behind_throw (seen index objects held)) ≡ true → behind_throw (seen index objects held) ≡ Some (Goes (seen index objects (with_pending held place)))
pending_so index objects held zero is some all = absurd (some refl)
pending_so index objects held (suc place) is some all = go (object_in objects (serial_of index (suc place))) refl where
  so : behind_throw (seen index objects held)
      ≡ option_map (λ (found : Object). Goes (seen index objects (with_pending held (suc place)))) (object_in objects (serial_of index (suc place)))
  so = throw_so index objects held (suc place) is

  go : (found : Option Object) → object_in objects (serial_of index (suc place)) ≡ found
      → behind_throw (seen index objects held) ≡ Some (Goes (seen index objects (with_pending held (suc place))))
  go None there =
      let none : is_some (behind_throw (seen index objects held)) ≡ false =
      ap is_some (so ∙ ap (option_map (λ (found : Object). Goes (seen index objects (with_pending held (suc place))))) there) in
      absurd (false≢true (sym none ∙ all))
  go (Some object) there = so ∙ ap (option_map (λ (found : Object). Goes (seen index objects (with_pending held (suc place))))) there
