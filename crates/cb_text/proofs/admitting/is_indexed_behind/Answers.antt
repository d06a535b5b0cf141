use Rattle.std.proofs.Common.{arith, length-append}
use Rattle.cb_text.specs.Pool.{with_gap}
use Rattle.cb_text.proofs.Adding.{indices_more, indices_front, no_handle, at_within, within_at}
use Rattle.cb_text.proofs.admitting.is_indexed_behind.Goals as goal

pub returns-in-MethodHandle : goal.returns-in-MethodHandle
returns-in-MethodHandle c = rw c.in-MethodHandle.is (
  λ is. let handle = c.is_handle.ensures.0 is in (handle.0, handle.1, at_within _ _ handle.2 (omega (arith, handle.3, c.requires, length-append c.args.constants.now))),
  λ has. let within = within_at _ _ has.2 in c.is_handle.ensures.1 (has.0, has.1, within.0, omega (arith, within.1, c.requires, length-append c.args.constants.now)),
)

pub returns-in_default : goal.returns-in_default
returns-in_default c =
    let front = c.args.constants.now in
    let constant = c.args.constant.now in
    let other = no_handle constant c.in_default.not-MethodHandle in
    (λ is. indices_more front (with_gap constant) constant (c.is_indexed.ensures.0 is), λ has. c.is_indexed.ensures.1 (indices_front front constant other has))
