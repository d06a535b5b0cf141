use Rattle.std.proofs.Common.{arith, ◌∙◌, sym, ap, length-set}
use Rattle.std.specs.List.{position}
use Rattle.cb_plain.proofs.Added.{added_taken, is_at, joined_taken, room_left}
use Rattle.cb_plain.proofs.request.Request.add.Goals as goal

pub bounds-self-inside-self-inside : goal.bounds-self-inside-self-inside
bounds-self-inside-self-inside c =
    room_left c.self.inside.wants c.args.self.now c.self.inside.count c.args.site 256 c.self.view_is (omega (arith, c.self.invariant.0, c.self.invariant.1))
    (ap (position (is_at c.args.site)) (sym c.self.view_is) ∙ sym c.place_of.ensures ∙ c.in-None.is) c.requires

pub invariant_of-self-in-None : goal.invariant_of-self-in-None
invariant_of-self-in-None c =
    let below = room_left c.self.inside.wants c.args.self.now c.self.inside.count c.args.site 256 c.self.view_is (omega (arith, c.self.invariant.0, c.self.invariant.1))
    (ap (position (is_at c.args.site)) (sym c.self.view_is) ∙ sym c.place_of.ensures ∙ c.in-None.is) c.requires in
    (omega (arith, below), length-set c.self.inside.wants c.self.inside.count _ ∙ c.self.invariant.1)

pub returns-in-Some : goal.returns-in-Some
returns-in-Some c =
    joined_taken c.self.inside.wants c.args.self.now c.self.inside.count c.in-Some.place c.args.site c.args.words c.min.result (record { site = 0; words = 0 }) c.self.view_is (omega (arith, c.self.invariant.0, c.self.invariant.1))
    (ap (position (is_at c.args.site)) (sym c.self.view_is) ∙ sym c.place_of.ensures ∙ c.in-Some.is) (omega (arith, c.min.ensures, c.saturating_add.ensures))

pub returns-in-None : goal.returns-in-None
returns-in-None c =
    let below = room_left c.self.inside.wants c.args.self.now c.self.inside.count c.args.site 256 c.self.view_is (omega (arith, c.self.invariant.0, c.self.invariant.1))
    (ap (position (is_at c.args.site)) (sym c.self.view_is) ∙ sym c.place_of.ensures ∙ c.in-None.is) c.requires in
    rw c.min-in-None.ensures (added_taken c.self.inside.wants c.args.self.now c.self.inside.count c.args.site c.args.words c.self.view_is (omega (arith, below, c.self.invariant.1))
    (ap (position (is_at c.args.site)) (sym c.self.view_is) ∙ sym c.place_of.ensures ∙ c.in-None.is))
