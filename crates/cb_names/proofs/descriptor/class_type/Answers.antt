use Rattle.std.proofs.Common.{inl, inr, sym}
use Rattle.cb_names.proofs.TypeTexts.{array_no_class}
use Rattle.cb_names.proofs.descriptor.class_type.Goals as goal

pub returns-then-is_class_name-clause-exact : goal.returns-then-is_class_name-clause-exact
returns-then-is_class_name-clause-exact c = λ type names. elim names [
  | inl class ↦ sym class.1
  | inr array ↦ absurd (array_no_class _ type array.0 array.1 (c.is_class_name.ensures.0 c.if-is_class_name.true))
]
