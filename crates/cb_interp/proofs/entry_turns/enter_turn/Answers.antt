use Rattle.std.proofs.Common.{◌∙◌, ◌<◌, ap, length, sym, subst}
use Rattle.cb_frames.specs.Limited.{Limited}
use Rattle.cb_frames.specs.Tops.{entered, top_locals, with_local}
use Rattle.cb_plain.specs.Roots.{with_argument}
use Rattle.cb_plain.specs.declared.value.Value.TheVariants.{Ref}
use Rattle.cb_interp.proofs.TurnsEntered.{entered_locals, entered_turn, too_deep}
use Rattle.cb_interp.proofs.entry_turns.enter_turn.Goals as goal

pub set_local-requires : goal.set_local-requires
set_local-requires g c =
    subst (λ (held : Limited). 0 < length (top_locals held.roots)) (sym c.in-Ok.ensures.entered)
    (entered_locals c.args.roots.now.roots c.args.method c.args.body.now.max_locals c.args.body.now.max_stack c.requires.1.1.1)

pub returns-in-Ok-clause-made : goal.returns-in-Ok-clause-made
returns-in-Ok-clause-made g c =
    entered_turn c.args.program.now (g.S.Store.storage c.args.store.now).index (g.S.Store.storage c.args.store.now).kept c.args.roots.now g.outside c.args.method c.args.body.now g.S.Store.rules (g.S.Store.storage c.args.store.now).facts c.set_argument.new.self.roots
    c.in-Ok.ensures.deep c.requires.1.0 c.requires.1.1.1 c.requires.1.1.0
    (ap (λ (held : Limited). held.roots) c.set_argument.ensures
    ∙ ap (λ (held : Limited). with_argument held.roots 0) c.set_local.ensures
    ∙ ap (λ (held : Limited). with_argument (with_local held.roots 0 (Ref c.argument-argument.result)) 0) c.in-Ok.ensures.entered
    ∙ ap (λ place. with_argument (with_local (entered c.args.roots.now.roots c.args.method 0 c.args.body.now.max_locals c.args.body.now.max_stack) 0 (Ref place)) 0) c.argument-argument.ensures)

pub returns-in-Err-clause-deep : goal.returns-in-Err-clause-deep
returns-in-Err-clause-deep g c =
    too_deep c.args.program.now (g.S.Store.storage c.args.store.now).index (g.S.Store.storage c.args.store.now).kept c.args.roots.now g.outside c.args.method c.args.body.now c.in-Err.ensures.deep c.requires.1.0 c.requires.1.1.0
