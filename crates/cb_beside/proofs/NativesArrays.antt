-- Natives that give or fill arrays.
use Rattle.std.proofs.Common.{◌≡◌, ◌∙◌, ap, refl, ℕ, ◌+◌, List, [], ◌∷◌, length, Option, take, drop, ◌==◌, ◌&&◌, if◌then◌else◌}
use Rattle.cb_kinds.specs.declared.basic.Basic.{Basic}
use Rattle.cb_library.specs.declared.native.Native.{Native}
use Rattle.cb_library.specs.declared.native.Native.TheVariants as natives
use Rattle.cb_link.specs.Subtypes.{instance}
use Rattle.cb_machine.specs.Arrays.{element_of}
use Rattle.cb_machine.specs.Copying.{array_native, can_copy, copies_fitting, copies_range, fits, fitting, is_range, suppressed_by}
use Rattle.cb_machine.specs.Library.{cloneable}
use Rattle.cb_machine.specs.Performing.{array_words}
use Rattle.cb_machine.specs.Values.{natural}
use Rattle.cb_plain.specs.declared.value.Value.{Value}
use Rattle.cb_plain.specs.declared.value.Value.TheVariants as values
use Rattle.cb_plain.specs.State.{Content, Object}
use Rattle.cb_beside.proofs.NativesBasics.{Alike, Apart, and_same, branch_same, object_same, short_same, there}

module _ (it : Apart) where
  fitting_same : (element : Option Basic) (contents : List Content) → fitting (there it) element contents ≡ fitting it.own element contents
  fitting_same element [] = refl
  fitting_same element (content ∷ contents) = ap (λ (rest : List Content). if fits it.own element content then content ∷ rest else []) (fitting_same element contents)

  range_same : (serial : ℕ) (target : Object) (from : ℕ) (contents : List Content)
      → Alike it (copies_range (there it) serial target from contents) (copies_range it.own serial target from contents)
  range_same serial target from contents =
      ap (copies_fitting (there it) serial target from contents) (fitting_same (element_of it.own.machine.program target.kind) contents)
      ∙ branch_same it (length (fitting it.own (element_of it.own.machine.program target.kind) contents) == length contents) _ _ _ _ refl refl

  -- each of them
  pub array_same : (native : Native) (arguments : List Value) → Alike it (array_native (there it) native arguments) (array_native it.own native arguments)
  array_same natives.ObjectClone (values.Ref object ∷ []) =
      object_same it object _ _ (λ own. branch_same it (instance it.own.machine.program own.kind cloneable) _ _ _ _ refl refl)
  array_same natives.StringToCharArray (values.Ref string ∷ []) =
      object_same it string _ _ (λ own. and_same it _ _ (array_words it.own.state own) (λ contents. refl))
  array_same natives.SystemArraycopy (values.Ref source ∷ values.Int from ∷ values.Ref target ∷ values.Int to ∷ values.Int count ∷ []) =
      object_same it source _ _
      (λ one. object_same it target _ _
      (λ other. branch_same it (can_copy (element_of it.own.machine.program one.kind) (element_of it.own.machine.program other.kind)) _ _ _ _
      (branch_same it (is_range from count (length one.contents) && is_range to count (length other.contents)) _ _ _ _
      (range_same target other (natural to) (take (natural count) (drop (natural from) one.contents))) refl) refl))
  array_same natives.ThrowableAddSuppressed (values.Ref throwable ∷ values.Ref other ∷ []) =
      object_same it other _ _
      (λ added. branch_same it (throwable == other) _ _ _ _ refl
      (object_same it throwable _ _ (λ own. short_same it (length (suppressed_by it.own own) + 1) _ _ refl)))
  array_same natives.ThrowableGetSuppressed (values.Ref throwable ∷ []) = object_same it throwable _ _ (λ own. refl)
  array_same native arguments = refl
