use Rattle.std.proofs.Common.{sym, ◌∙◌}
use Rattle.std.proofs.lemmas.Bool.{false≢true}
use Rattle.cb_classfile.proofs.Failing.{handed}
use Rattle.cb_classfile.proofs.MemberParts.{read_of, field_member, field_named, field_constant, field_found}
use Rattle.cb_classfile.proofs.field.FieldEntry.read.Goals as goal

pub returns-in_err-member : goal.returns-in_err-member
returns-in_err-member c = handed _ _ _ _ c.from_residual.ensures (λ field rest begins. c.in_err-member.ensures _ rest (field_member begins))

pub returns-then-not-names_field : goal.returns-then-not-names_field
returns-then-not-names_field c = λ field rest begins.
    absurd (false≢true (sym c.if-not-names_field.true ∙ c.names_field.ensures.1 (field_named (read_of c.in_ok-member.ensures) begins)))

pub returns-in_err-constant : goal.returns-in_err-constant
returns-in_err-constant c = handed _ _ _ _ c.from_residual-in_err-constant.ensures (field_constant (read_of c.in_ok-member.ensures) c.in_err-constant.ensures)

pub returns : goal.returns
returns c =
    field_found (read_of c.in_ok-member.ensures) (c.names_field.ensures.0 c.if-not-names_field.false) c.in_ok-constant.ensures
