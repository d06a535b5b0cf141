use Rattle.cb_heap.specs.Storage.{view_in}
use Rattle.std.proofs.Common.{◌∙◌, ap, subst, sym, map}
use Rattle.cb_heap.specs.Reading.{read_frame, read_value}
use Rattle.cb_natives.specs.Making.{Performs, given_back}
use Rattle.cb_plain.specs.State.{Roots}
use Rattle.cb_natives.proofs.making.run_native.Goals as goal

pub returns-then-makes_kept-clause-frames : goal.returns-then-makes_kept-clause-frames
returns-then-makes_kept-clause-frames g c =
    ap (map (read_frame (g.S.Store.storage c.run_kept.new.store).index)) c.run_kept.ensures.frames
    ∙ ap (λ (roots : Roots). roots.frames)
    (c.closes_again.ensures.reads (g.S.Store.storage c.args.store.now).kept (g.S.Store.storage c.args.store.now).index (g.S.Store.storage c.run_kept.new.store).index c.run_kept.ensures.places c.args.roots.now.roots
    c.requires.1.1.1.1.1.1.1.1.1.1.1.0.roots)

pub returns-else-makes_kept-clause-made : goal.returns-else-makes_kept-clause-made
returns-else-makes_kept-clause-made g c =
    let view = view_in (g.S.Store.storage c.args.store.now) c.args.roots.now.roots in
    subst (λ (roots : Roots). Performs g.S.Store.rules c.args.program.now c.args.native (map (read_value (g.S.Store.storage c.args.store.now).index) c.args.arguments.now) view
    (g.S.Store.storage c.args.store.now).facts (record { roots = roots; objects = (g.S.Store.storage c.run_beside.new.store).kept }) (g.S.Store.storage c.run_beside.new.store).facts
    (given_back (g.S.Store.storage c.run_beside.new.store).index c.run_beside.result))
    (sym (c.closes_again.ensures.reads (g.S.Store.storage c.args.store.now).kept (g.S.Store.storage c.args.store.now).index (g.S.Store.storage c.run_beside.new.store).index c.run_beside.ensures.places c.args.roots.now.roots
    c.requires.1.1.1.1.1.1.1.1.1.1.1.0.roots))
    (c.run_beside.ensures.made view.roots)

pub returns-else-makes_kept-clause-frames : goal.returns-else-makes_kept-clause-frames
returns-else-makes_kept-clause-frames g c =
    ap (λ (roots : Roots). roots.frames)
    (c.closes_again.ensures.reads (g.S.Store.storage c.args.store.now).kept (g.S.Store.storage c.args.store.now).index (g.S.Store.storage c.run_beside.new.store).index c.run_beside.ensures.places c.args.roots.now.roots
    c.requires.1.1.1.1.1.1.1.1.1.1.1.0.roots)
