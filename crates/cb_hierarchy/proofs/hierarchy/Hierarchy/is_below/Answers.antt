use Rattle.std.proofs.Common.{◌≡◌, ◌∙◌, ◌==◌, ap, arith, false, length, subst, sym}
use Rattle.std.proofs.lemmas.Bool.Decides.{nat_tests}
use Rattle.cb_hierarchy.specs.Classes.{AreClasses}
use Rattle.cb_hierarchy.proofs.OrderLaws.{below_none, never_above, none_above}
use Rattle.cb_hierarchy.proofs.hierarchy.Hierarchy.is_below.Goals as goal

pub returns-then-number-len : goal.returns-then-number-len
returns-then-number-len c =
    let count : c.len.result ≡ length c.args.self.now = c.len.ensures ∙ ap length c.self.view_is in
    let apart : (c.args.number == c.args.other) ≡ false = grind (arith, nat_tests) in
    sym (below_none _ _ (none_above c.args.self.now c.args.number c.args.other (omega arith) apart))

pub returns-then-other-len : goal.returns-then-other-len
returns-then-other-len c =
    let count : c.len.result ≡ length c.args.self.now = c.len.ensures ∙ ap length c.self.view_is in
    let again : c.len-2.result ≡ length c.args.self.now = c.len-2.ensures ∙ ap length c.self.view_is in
    sym (below_none _ _ (never_above c.args.self.now c.args.number c.args.other (subst AreClasses c.self.view_is c.self.invariant.known) (omega arith) (omega arith)))
