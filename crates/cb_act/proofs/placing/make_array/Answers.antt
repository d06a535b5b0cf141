use Rattle.std.proofs.Common.{◌∙◌, ap, sym, ◌∷◌, drop, length, ◌+◌}
use Rattle.std.proofs.lemmas.List.{drop-map}
use Rattle.cb_frames.specs.Tops.{top_stack}
use Rattle.cb_heap.proofs.Laws.{reads_stack, roots_again}
use Rattle.cb_heap.specs.Reading.{read_roots, read_value, seen, serial_of}
use Rattle.cb_plain.specs.declared.value.Value.TheVariants.{Ref}
use Rattle.cb_act.specs.Effects.{stacked}
use Rattle.cb_act.proofs.Read.{stacked_read}
use Rattle.cb_act.proofs.placing.make_array.Goals as goal

pub returns-clause-behind : goal.returns-clause-behind
returns-clause-behind g c =
    let before = (g.S.Store.storage c.args.store.now).index in
    let after = (g.S.Store.storage c.place-at.new.self).index in
    let objects = (g.S.Store.storage c.args.store.now).kept in
    let held = c.args.roots.now.roots in
    ap (λ roots. seen after (g.S.Store.storage c.place-at.new.self).kept roots.roots) c.give_for_one.ensures
    ∙ ap (λ roots. record { roots = roots; objects = (g.S.Store.storage c.place-at.new.self).kept }) (stacked_read after held (Ref c.place-at.result ∷ drop 1 (top_stack held)))
    ∙ ap (λ below. record { roots = stacked (read_roots after held) (Ref (serial_of after c.place-at.result) ∷ below); objects = (g.S.Store.storage c.place-at.new.self).kept })
    (sym (drop-map (read_value after) 1 (top_stack held)) ∙ ap (drop 1) (sym (reads_stack after held)))
    ∙ ap (λ roots. record { roots = stacked roots (Ref (serial_of after c.place-at.result) ∷ drop 1 (top_stack roots)); objects = (g.S.Store.storage c.place-at.new.self).kept })
    (roots_again objects before after c.place-at.ensures.places held c.requires.closed.roots)
    ∙ ap (λ serial. record { roots = stacked (read_roots before held) (Ref serial ∷ drop 1 (top_stack (read_roots before held))); objects = (g.S.Store.storage c.place-at.new.self).kept }) c.place-at.ensures.serial
    ∙ ap (λ kept. record { roots = stacked (read_roots before held) (Ref (length objects + 1) ∷ drop 1 (top_stack (read_roots before held))); objects = kept }) c.place-at.ensures.kept
