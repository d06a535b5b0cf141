use Rattle.std.proofs.Common.{◌∙◌, ap, length, ◌+◌}
use Rattle.cb_heap.proofs.Laws.{roots_again}
use Rattle.cb_heap.specs.Reading.{read_roots, seen, serial_of}
use Rattle.cb_plain.specs.Roots.{with_pending}
use Rattle.cb_act.proofs.placing.throw.Goals as goal

pub returns-clause-behind : goal.returns-clause-behind
returns-clause-behind g c =
    let before = (g.S.Store.storage c.args.store.now).index in
    let after = (g.S.Store.storage c.place-at.new.self).index in
    let objects = (g.S.Store.storage c.args.store.now).kept in
    let held = c.args.roots.now.roots in
    ap (λ roots. seen after (g.S.Store.storage c.place-at.new.self).kept roots.roots) c.set_pending.ensures
    ∙ ap (λ roots. record { roots = with_pending roots (serial_of after c.place-at.result); objects = (g.S.Store.storage c.place-at.new.self).kept })
    (roots_again objects before after c.place-at.ensures.places held c.requires.closed.roots)
    ∙ ap (λ serial. record { roots = with_pending (read_roots before held) serial; objects = (g.S.Store.storage c.place-at.new.self).kept }) c.place-at.ensures.serial
    ∙ ap (λ kept. record { roots = with_pending (read_roots before held) (length objects + 1); objects = kept }) c.place-at.ensures.kept
