use Rattle.std.proofs.Common.{arith, ◌∙◌, ap, sym, refl}
use Rattle.std.specs.List.{position}
use Rattle.cb_plain.proofs.Added.{is_at}
use Rattle.cb_plain.proofs.Spent.{enough_taken, spent_nowhere, spent_taken}
use Rattle.cb_plain.proofs.request.Request.spend.Goals as goal

pub overflow_sub-self : goal.overflow_sub-self
overflow_sub-self c =
    (enough_taken c.self.inside.wants c.args.self.now c.self.inside.count c.in-Some.place c.args.site c.args.words (record { site = 0; words = 0 }) c.self.view_is (omega (arith, c.self.invariant.0, c.self.invariant.1))
    (ap (position (is_at c.args.site)) (sym c.self.view_is) ∙ sym c.place_of.ensures ∙ c.in-Some.is) c.requires).0

pub returns-in-Some : goal.returns-in-Some
returns-in-Some c =
    spent_taken c.self.inside.wants c.args.self.now c.self.inside.count c.in-Some.place c.args.site c.args.words _ (record { site = 0; words = 0 }) c.self.view_is (omega (arith, c.self.invariant.0, c.self.invariant.1))
    (ap (position (is_at c.args.site)) (sym c.self.view_is) ∙ sym c.place_of.ensures ∙ c.in-Some.is) refl

pub returns-in_default : goal.returns-in_default
returns-in_default c =
    sym (spent_nowhere c.args.self.now c.args.site c.args.words (ap (position (is_at c.args.site)) (sym c.self.view_is) ∙ sym c.place_of.ensures ∙ c.in_default.is))
