use Rattle.std.proofs.Common.{sym, ◌∙◌, arith}
use Rattle.std.proofs.lemmas.Bool.{false≢true}
use Rattle.cb_writer.proofs.Members.{body_of_method, method_has}
use Rattle.cb_writer.proofs.method.MethodEntry.is_formed.Goals as goal
use Rattle.cb_writer.proofs.method.MethodEntry.is_formed.Goals.{then-names_method, else-names_method}

pub returns-then-is_method : goal.returns-then-is_method
returns-then-is_method c =
    elim c.if-names_method.branch [
      | then-names_method w ↦
          let named = rw c.constants-constants.ensures at (c.names_method.ensures.0 w.if-names_method.true) in
          let rules = rw c.constants-constants.ensures at (w.is_method.ensures.0 (sym w.value-is ∙ c.if-is_method.true)) in (
            λ is. method_has (omega arith) (omega arith) (omega arith) named rules (c.may_have_body.ensures.0 is),
            λ has. c.may_have_body.ensures.1 (body_of_method has),
          )
      | else-names_method w ↦ absurd (false≢true (sym w.if-names_method.false ∙ sym w.value-is ∙ c.if-is_method.true))
    ]
