use Rattle.std.proofs.Common.{◌∙◌, ◌<◌, ℕ, ap, length, subst, sym}
use Rattle.std.specs.Prelude.{slice_get}
use Rattle.std.specs.List.{Contains}
use Rattle.cb_hierarchy.specs.Classes.{superclass}
use Rattle.cb_link.proofs.FieldPlaces.{declared_low}
use Rattle.cb_link.proofs.NumbersLow.{super_low}
use Rattle.cb_link.proofs.field_tables.slots_of.Goals as goal

pub slots-requires-clause-parents : goal.slots-requires-clause-parents
slots-requires-clause-parents c =
    subst (λ classes. (class parent : ℕ) → Contains (superclass classes class) parent → parent < length classes) (sym c.hierarchy.ensures) (super_low c.args.resolver.now)

pub slots-requires-clause-declared : goal.slots-requires-clause-declared
slots-requires-clause-declared c = λ number field is.
    subst (λ classes. field.declared.class < length classes) (sym c.hierarchy.ensures)
    (declared_low c.args.resolver.now number field (ap (λ fields. slice_get fields number) (sym c.fields.ensures) ∙ is))
