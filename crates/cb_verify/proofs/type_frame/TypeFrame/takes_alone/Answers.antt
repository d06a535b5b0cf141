use Rattle.std.proofs.Common.{nat_eq, sym, subst, arith}
use Rattle.std.specs.Prelude.{◌≡◌, [], ◌∷◌}
use Rattle.cb_verify.specs.Frames.{stack_goes_to}
use Rattle.cb_verify.proofs.StackWords.{taken_alone}
use Rattle.cb_verify.proofs.type_frame.TypeFrame.takes_alone.Goals as goal

pub returns-in-Some : goal.returns-in-Some
returns-in-Some c =
    subst (λ depth. nat_eq c.in-Some.count depth ≡ stack_goes_to c.args.program.now (c.args.value ∷ []) c.args.self.now.stack) (sym c.depth.ensures)
    (taken_alone c.args.program.now c.args.value c.args.self.now.stack c.in-Some.count c.in-Some.ensures.taken (omega (arith, c.in-Some.ensures.within)))
