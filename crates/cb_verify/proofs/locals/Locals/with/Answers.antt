use Rattle.std.proofs.Common.{ap, sym, subst, arith, ℕ, ◌+◌, ◌≤◌, List, length}
use Rattle.cb_verify.specs.declared.verification_type.VerificationType.{VerificationType}
use Rattle.cb_verify.specs.InnerLocals.{IsKnownTo}
use Rattle.cb_verify.proofs.Known.{known_more}
use Rattle.cb_verify.proofs.locals.Locals.with.Goals as goal
use Rattle.cb_verify.proofs.locals.Locals.with.Goals.{then-number-self, else-number-self}

pub overflow_add-known : goal.overflow_add-known
overflow_add-known c = omega (arith, c.requires)

pub invariant_of-result : goal.invariant_of-result
invariant_of-result c = elim c.if-number-self.branch [
  | then-number-self w ↦
      subst (λ known. IsKnownTo known c.in_ok-types.types) (sym w.known-is)
      (known_more locals c.in_ok-types.types before before c.args.number c.args.value c.self.invariant (omega arith) w.if-number-self.true c.self.invariant.0 c.in_ok-types.ensures)
  | else-number-self w ↦
      subst (λ known. IsKnownTo known c.in_ok-types.types) (sym w.known-is)
      (known_more locals c.in_ok-types.types before (c.args.number + 1) c.args.number c.args.value c.self.invariant (omega (arith, w.if-number-self.false)) (omega arith) room c.in_ok-types.ensures)
]
  where
    locals : List VerificationType
    locals = c.self.inside.types

    before : ℕ
    before = c.self.inside.known

    room : c.args.number + 1 ≤ length locals
    room = omega (arith, c.requires, ap length c.self.view_is)
