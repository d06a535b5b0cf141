use Rattle.cb_heap.specs.Storage.{view_in}
use Rattle.std.proofs.Common.{◌∙◌, ap, sym}
use Rattle.cb_frames.specs.Limited.{Limited}
use Rattle.cb_link.specs.Named.{static_initial}
use Rattle.cb_interp.specs.TextStatics.{seen_to}
use Rattle.cb_interp.proofs.TurnsTextSet.{number_set}
use Rattle.cb_interp.proofs.TurnsTextSlots.{text_so}
use Rattle.cb_interp.proofs.text_statics.set_one.Goals as goal

pub set_text-requires-clause-may : goal.set_text-requires-clause-may
set_text-requires-clause-may g c =
    c.requires.may c.in-Some.text (text_so (static_initial c.args.program.now c.args.slot) c.in-Some.text (sym c.text_at.ensures ∙ c.in-Some.is))

pub returns-in-Some-clause-set : goal.returns-in-Some-clause-set
returns-in-Some-clause-set g c =
    c.set_text.ensures.set
    ∙ ap (seen_to c.args.program.now c.args.slot (view_in (g.S.Store.storage c.args.store.now) c.args.roots.now.roots))
    (sym (text_so (static_initial c.args.program.now c.args.slot) c.in-Some.text (sym c.text_at.ensures ∙ c.in-Some.is)))

pub returns-in-None-clause-set : goal.returns-in-None-clause-set
returns-in-None-clause-set g c =
    number_set c.args.program.now (g.S.Store.storage c.args.store.now).index (g.S.Store.storage c.args.store.now).kept c.args.roots.now.roots c.set_number.new.roots.roots c.args.slot
    (sym c.text_at.ensures ∙ c.in-None.is) (ap (λ (held : Limited). held.roots) c.set_number.ensures)
