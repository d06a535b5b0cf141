use Rattle.std.proofs.Common.{◌∙◌, ap, sym, w32}
use Rattle.std.proofs.lemmas.Int.{to_z-of_z}
use Rattle.cb_machine.specs.Texts.{unit_of}
use Rattle.cb_natives.specs.MakingOwn.{place_in}
use Rattle.cb_natives.proofs.OwnNatives.{set_decided}
use Rattle.cb_natives.proofs.own_editing.set_char_at.Goals as goal

pub returns-in-Some : goal.returns-in-Some
returns-in-Some g c =
    let built = c.built_at-built.result in
    set_decided c.args.program.now (g.S.Store.storage c.args.store.now).kept (g.S.Store.storage c.args.store.now).index c.args.at built c.built_at-built.ensures c.args.place c.in-Some.from
    (ap (λ place. place_in place built.count) (sym (to_z-of_z w32 c.args.place c.ranges.place)) ∙ sym c.place_in.ensures ∙ c.in-Some.is)
    (unit_of c.args.unit) c.unit_text.result (rw (← (to_z-of_z w32 c.args.unit c.ranges.unit)) c.unit_text.ensures)
