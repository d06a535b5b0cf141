use Rattle.std.proofs.Common.{◌≡◌, ◌∙◌, ◌<◌, ap, arith, pos, w64}
use Rattle.std.proofs.lemmas.Int.{int_wrap_fits}
use Rattle.std.specs.Int.{int_wrap}
use Rattle.cb_heap.specs.Kept.{with_content}
use Rattle.cb_heap.specs.Reading.{serial_of}
use Rattle.cb_plain.specs.State.{Number}
use Rattle.cb_natives.proofs.own_placing.put_count.Goals as goal

pub returns-clause-kept : goal.returns-clause-kept
returns-clause-kept g c =
    let fits : c.args.count < 4294967296 = c.ranges.count.fits in
    let word : int_wrap w64 (pos c.from.result) ≡ pos c.args.count =
    ap (λ word. int_wrap w64 (pos word)) c.from.ensures ∙ int_wrap_fits w64 (pos c.args.count) (record { sfits = omega (arith, fits) }) in
    c.put.ensures.kept
    ∙ ap (λ content. with_content (g.S.Store.storage c.args.store.now).kept (serial_of (g.S.Store.storage c.args.store.now).index c.args.at) 1 (Number content)) word
