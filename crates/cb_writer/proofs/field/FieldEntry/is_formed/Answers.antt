use Rattle.std.proofs.Common.{arith}
use Rattle.cb_writer.proofs.Members.{constant_of_field, field_has}
use Rattle.cb_writer.proofs.field.FieldEntry.is_formed.Goals as goal

pub returns-then-names_field : goal.returns-then-names_field
returns-then-names_field c =
    let named = rw c.constants.ensures at (c.names_field.ensures.0 c.if-names_field.true) in (
      λ is. field_has (omega arith) (omega arith) (omega arith) named (c.may_have_constant.ensures.0 is),
      λ has. c.may_have_constant.ensures.1 (constant_of_field has),
    )
