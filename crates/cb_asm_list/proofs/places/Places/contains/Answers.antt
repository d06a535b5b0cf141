use Rattle.std.proofs.Common.{◌∙◌, ap, is_some}
use Rattle.cb_asm_list.proofs.Placed.{among_found}
use Rattle.cb_asm_list.proofs.places.Places.contains.Goals as goal

pub returns : goal.returns
returns c = c.is_some.ensures ∙ ap is_some c.find.ensures ∙ among_found c.args.self.now c.args.place
