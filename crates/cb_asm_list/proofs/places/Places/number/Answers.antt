use Rattle.std.proofs.Common.{◌∙◌, ap, length, sym}
use Rattle.cb_asm_list.proofs.Placed.{found_at, found_nowhere}
use Rattle.cb_asm_list.proofs.places.Places.number.Goals as goal

pub returns-in-Some : goal.returns-in-Some
returns-in-Some c = found_at c.args.self.now c.args.place c.in-Some.number (sym c.in-Some.ensures)

pub returns-in-None : goal.returns-in-None
returns-in-None c =
    c.len.ensures ∙ c.self.inside.places.ok.0 ∙ ap length c.self.view_is ∙ found_nowhere c.args.self.now c.args.place (sym c.in-None.ensures)
