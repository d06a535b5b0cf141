use Rattle.cb_heap.specs.Storage.{view_in}
use Rattle.std.proofs.Common.{◌∙◌, ap, sym, Some}
use Rattle.std.specs.Prelude.{slice_get}
use Rattle.cb_heap.specs.Reading.{seen}
use Rattle.cb_act.specs.Acting.{Does}
use Rattle.cb_act.proofs.FramesActed.{put_done, ready_so}
use Rattle.cb_act.proofs.SortLaws.{put_there, static_told}
use Rattle.cb_act.proofs.acting_frames.puts_static.Goals as goal

pub basic_of-requires-clause-there : goal.basic_of-requires-clause-there
basic_of-requires-clause-there g c =
    let view = view_in (g.S.Store.storage c.args.store.now) c.args.roots.now.roots in
    let ready = ready_so c.in-Static.class (slice_get c.args.roots.now.roots.classes c.in-Static.class) (c.unready.ensures ∙ ap Some c.in_default-unready.is) in
    static_told c.args.program.now c.args.decoded.now view c.in-Static.class c.in-Static.slot ready.0 c.in-Static.is ready.1 ready.2 c.requires.there

pub put_static-requires-clause-there : goal.put_static-requires-clause-there
put_static-requires-clause-there g c =
    let ready = ready_so c.in-Static.class (slice_get c.args.roots.now.roots.classes c.in-Static.class) (c.unready.ensures ∙ ap Some c.in_default-unready.is) in
    put_there (g.S.Store.storage c.args.store.now).index (g.S.Store.storage c.args.store.now).kept c.args.roots.now.roots c.args.program.now c.args.decoded.now c.in-Static.class c.in-Static.slot ready.0 c.basic_of.result
    c.in-Static.is ready.1 ready.2 (c.basic_of.ensures.static_ c.in-Static.class c.in-Static.slot c.in-Static.is) c.requires.there

pub returns-clause-deed : goal.returns-clause-deed
returns-clause-deed g c =
    let index = (g.S.Store.storage c.args.store.now).index in
    let objects = (g.S.Store.storage c.args.store.now).kept in
    let held = c.args.roots.now.roots in
    let ready = ready_so c.in-Static.class (slice_get held.classes c.in-Static.class) (c.unready.ensures ∙ ap Some c.in_default-unready.is) in
    put_done index objects held c.put_static.new.roots.roots c.args.program.now c.args.decoded.now c.in-Static.class c.in-Static.slot c.in-Some-next.next ready.0 c.basic_of.result
    c.in-Static.is ready.1 ready.2 (c.basic_of.ensures.static_ c.in-Static.class c.in-Static.slot c.in-Static.is) c.in-Some-next.is c.put_static.ensures.behind
    ∙ ap (λ roots. Some (Does (seen index objects roots.roots))) (sym c.set_place.ensures)
