use Rattle.std.proofs.Common.{◌∙◌, ap, List, ℕ, Option}
use Rattle.cb_heap.specs.Kept.{content_at, contents_at, is_number}
use Rattle.cb_heap.specs.Reading.{serial_of}
use Rattle.cb_natives.specs.MakingOwn.{closed_up, counting}
use Rattle.cb_natives.proofs.OwnLaws.{other_content}
use Rattle.cb_plain.specs.State.{Object}
use Rattle.cb_natives.proofs.own_placing.delete_char.Goals as goal

pub put_count-requires : goal.put_count-requires
put_count-requires g c =
    let objects = (g.S.Store.storage c.args.store.now).kept in
    let index = (g.S.Store.storage c.args.store.now).index in
    let array = serial_of index c.args.array in
    let serial = serial_of index c.args.at in
    ap (λ (index : ℕ → ℕ). is_number (content_at (g.S.Store.storage c.close_up.new.store).kept (serial_of index c.args.at) 1)) c.close_up.ensures.places
    ∙ ap (λ (kept : List (Option Object)). is_number (content_at kept serial 1)) c.close_up.ensures.kept
    ∙ ap is_number (other_content objects array serial 1 (closed_up (contents_at objects array) c.args.place c.args.count) c.requires.own.apart)
    ∙ c.requires.own.counts

pub returns-clause-kept : goal.returns-clause-kept
returns-clause-kept g c =
    c.put_count.ensures.kept
    ∙ ap (λ (index : ℕ → ℕ). counting (g.S.Store.storage c.close_up.new.store).kept (serial_of index c.args.at) c.args.count) c.close_up.ensures.places
    ∙ ap (λ (kept : List (Option Object)). counting kept (serial_of (g.S.Store.storage c.args.store.now).index c.args.at) c.args.count) c.close_up.ensures.kept
