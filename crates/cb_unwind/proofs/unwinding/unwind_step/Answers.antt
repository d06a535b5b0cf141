use Rattle.std.proofs.Common.{◌∙◌, ap, sym, Some}
use Rattle.cb_unwind.proofs.unwinding.unwind_step.Goals as goal

pub past_method-requires-clause-catches : goal.past_method-requires-clause-catches
past_method-requires-clause-catches g c = λ place is.
    c.requires.catches c.in-Some-Running.method c.in-Some-Running.pc c.pending_kind-kind.result place (ap Some (sym c.in-Some-Running.field-0-is) ∙ c.in-Some-Running.ensures) is
