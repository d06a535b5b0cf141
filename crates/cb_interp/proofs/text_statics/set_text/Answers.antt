use Rattle.std.proofs.Common.{◌≡◌, ap, ℕ}
use Rattle.cb_frames.specs.Limited.{Limited}
use Rattle.cb_interp.specs.TextStatics.{knows_if_new, spent_if_new}
use Rattle.cb_interp.proofs.TurnsTextSet.{by_new, statics_behind, text_set}
use Rattle.cb_interp.proofs.text_statics.set_text.Goals as goal

pub set_static-requires : goal.set_static-requires
set_static-requires g c =
    statics_behind c.args.program.now c.args.text (g.S.Store.storage c.args.store.now).index (g.S.Store.storage c.constant_string-at.new.store).index (g.S.Store.storage c.args.store.now).kept (g.S.Store.storage c.constant_string-at.new.store).kept c.args.roots.now.roots c.constant_string-at.new.roots.roots
    c.constant_string-at.result c.args.slot c.constant_string-at.ensures.behind c.requires.slot

pub returns-clause-set : goal.returns-clause-set
returns-clause-set g c =
    text_set c.args.program.now c.args.text (g.S.Store.storage c.args.store.now).index (g.S.Store.storage c.constant_string-at.new.store).index (g.S.Store.storage c.args.store.now).kept (g.S.Store.storage c.constant_string-at.new.store).kept c.args.roots.now.roots c.constant_string-at.new.roots.roots
    c.set_static.new.self.roots c.constant_string-at.result c.args.slot c.constant_string-at.ensures.behind
    (ap (λ (held : Limited). held.roots) c.set_static.ensures)

pub returns-clause-facts : goal.returns-clause-facts
returns-clause-facts g c =
    by_new (g.S.Store.storage c.args.store.now).index c.args.roots.now.roots c.args.text
    (λ (serial : ℕ). (g.S.Store.storage c.constant_string-at.new.store).facts ≡ knows_if_new g.S.Store.rules c.args.program.now (g.S.Store.storage c.args.store.now).facts c.args.text serial)
    c.constant_string-at.ensures.facts (λ place known. ap (λ store. (g.S.Store.storage store).facts) (c.constant_string-at.ensures.same known))

pub returns-clause-granted : goal.returns-clause-granted
returns-clause-granted g c =
    by_new (g.S.Store.storage c.args.store.now).index c.args.roots.now.roots c.args.text
    (λ (serial : ℕ). (g.S.Store.storage c.constant_string-at.new.store).granted ≡ spent_if_new c.args.program.now (g.S.Store.storage c.args.store.now).granted c.args.text serial)
    c.constant_string-at.ensures.granted (λ place known. ap (λ store. (g.S.Store.storage store).granted) (c.constant_string-at.ensures.same known))
