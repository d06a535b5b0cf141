use Rattle.std.proofs.Common.{arith, subst, Some, None, subst}
use Rattle.cb_dag.specs.Marks.{IsNextBit}
use Rattle.cb_dag.proofs.Unpacked.{next_far, next_found, next_none, next_past}
use Rattle.cb_dag.proofs.bits.Bits.next.Goals as goal

pub returns-then-from-self : goal.returns-then-from-self
returns-then-from-self c = next_past c.self.inside.len c.args.from c.self.inside.words.items c.args.self.now c.self.view_is c.if-from-self.true

pub returns-in-Some : goal.returns-in-Some
returns-in-Some c =
    next_found c.self.inside.len c.args.from c.self.inside.words.items c.args.self.now c.self.view_is c.in-Some.place (omega arith)
    (subst (λ words. IsNextBit words c.args.from (Some c.in-Some.place)) c.as_slice.ensures.value c.in-Some.ensures)

pub returns-in_default : goal.returns-in_default
returns-in_default c =
    next_far c.self.inside.len c.args.from c.self.inside.words.items c.args.self.now c.self.view_is c.in-Some.place (omega arith)
    (subst (λ words. IsNextBit words c.args.from (Some c.in-Some.place)) c.as_slice.ensures.value c.in-Some.ensures)

pub returns-in_default-2 : goal.returns-in_default-2
returns-in_default-2 c =
    next_none c.self.inside.len c.args.from c.self.inside.words.items c.args.self.now c.self.view_is (omega (arith, c.self.invariant))
    (subst (λ words. IsNextBit words c.args.from None) c.as_slice.ensures.value c.in_default.ensures)
