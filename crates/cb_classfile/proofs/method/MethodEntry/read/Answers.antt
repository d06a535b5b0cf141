use Rattle.std.proofs.Common.{sym, ◌∙◌}
use Rattle.std.proofs.lemmas.Bool.{false≢true}
use Rattle.cb_classfile.proofs.Failing.{handed}
use Rattle.cb_classfile.proofs.MemberParts.{read_of, method_member, method_named, method_body, method_rules, method_found}
use Rattle.cb_classfile.proofs.method.MethodEntry.read.Goals as goal

pub returns-in_err-member : goal.returns-in_err-member
returns-in_err-member c = handed _ _ _ _ c.from_residual.ensures (λ method rest begins. c.in_err-member.ensures _ rest (method_member begins))

pub returns-then-not-names_method : goal.returns-then-not-names_method
returns-then-not-names_method c = λ method rest begins.
    absurd (false≢true (sym c.if-not-names_method.true ∙ c.names_method.ensures.1 (method_named (read_of c.in_ok-member.ensures) begins)))

pub returns-in_err-body : goal.returns-in_err-body
returns-in_err-body c = handed _ _ _ _ c.from_residual-in_err-body.ensures (method_body (read_of c.in_ok-member.ensures) c.in_err-body.ensures)

pub returns-then-not-is_method : goal.returns-then-not-is_method
returns-then-not-is_method c = λ method rest begins.
    absurd (false≢true (sym c.if-not-is_method.true ∙ c.is_method.ensures.1 (method_rules (read_of c.in_ok-member.ensures) c.in_ok-body.ensures begins)))

pub returns : goal.returns
returns c =
    method_found (read_of c.in_ok-member.ensures) (c.names_method.ensures.0 c.if-not-names_method.false) c.in_ok-body.ensures (c.is_method.ensures.0 c.if-not-is_method.false)
