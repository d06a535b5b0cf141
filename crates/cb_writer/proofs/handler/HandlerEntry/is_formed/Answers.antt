use Rattle.std.proofs.Common.{inl, inr, arith, eq-eqb}
use Rattle.cb_writer.proofs.Bodies.{caught, handler_has}
use Rattle.cb_writer.proofs.handler.HandlerEntry.is_formed.Goals as goal

pub returns-then-self-eq0 : goal.returns-then-self-eq0
returns-then-self-eq0 c =
    (λ is. handler_has (omega arith) (omega arith) (omega arith) (omega arith) (inl c.if-self-eq0.true), λ has. eq-eqb _ _ c.if-self-eq0.true)

pub returns-else-self-eq0 : goal.returns-else-self-eq0
returns-else-self-eq0 c = (
  λ is. handler_has (omega arith) (omega arith) (omega arith) (omega arith) (inr (c.is_class.ensures.0 is)),
  λ has. c.is_class.ensures.1 (caught c.if-self-eq0.false has),
)
