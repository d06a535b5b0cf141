use Rattle.std.proofs.Common.{◌∙◌, ap, length, subst, sym}
use Rattle.cb_link.specs.Calls.{IsOneOf}
use Rattle.cb_link.specs.Having.{IsWhole}
use Rattle.cb_link.specs.Special.{special_at}
use Rattle.cb_link.proofs.PlaceAnswers.{special_nowhere, special_there_is}
use Rattle.cb_link.proofs.SpecialLaws.{special_one_of}
use Rattle.cb_link.proofs.program.Program.special.Goals as goal

pub returns-in-Some : goal.returns-in-Some
returns-in-Some c =
    let found =
    c.selected.ensures ∙ special_there_is _ c.self.inside.tables.code.places c.self.invariant.whole c.self.invariant.of_places c.args.method c.args.pc c.in-Some.places.now (sym c.in-Some.ensures)
    ∙ ap (λ program. special_at program c.args.method c.args.pc) c.self.view_is in
    record { found = found; within = subst (IsOneOf (length c.args.self.now.methods)) (sym found) (special_one_of c.args.self.now (subst IsWhole c.self.view_is c.self.invariant.whole) c.args.method c.args.pc) }

pub returns-in-None : goal.returns-in-None
returns-in-None c =
    let found =
    special_nowhere _ c.self.inside.tables.code.places c.self.invariant.whole c.self.invariant.of_places c.args.method c.args.pc (sym c.in-None.ensures)
    ∙ ap (λ program. special_at program c.args.method c.args.pc) c.self.view_is in
    record { found = found; within = subst (IsOneOf (length c.args.self.now.methods)) (sym found) (special_one_of c.args.self.now (subst IsWhole c.self.view_is c.self.invariant.whole) c.args.method c.args.pc) }
