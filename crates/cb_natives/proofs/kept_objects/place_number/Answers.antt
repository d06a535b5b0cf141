use Rattle.std.proofs.Common.{◌∙◌, ap, ℤ, w64}
use Rattle.std.proofs.lemmas.Int.{to_z-of_z}
use Rattle.cb_heap.specs.Kept.{with_content}
use Rattle.cb_heap.specs.Reading.{serial_of}
use Rattle.cb_plain.specs.State.{Number}
use Rattle.cb_natives.proofs.KeptMade.{number_put}
use Rattle.cb_natives.proofs.kept_objects.place_number.Goals as goal

pub returns-clause-kept : goal.returns-clause-kept
returns-clause-kept g c =
    c.put.ensures.kept
    ∙ ap (λ (number : ℤ). with_content (g.S.Store.storage c.place-at.new.self).kept (serial_of (g.S.Store.storage c.place-at.new.self).index c.place-at.result) 0 (Number number))
    (c.word_of.ensures ∙ to_z-of_z w64 c.args.number c.ranges.number)
    ∙ number_put (g.S.Store.storage c.args.store.now).kept (g.S.Store.storage c.place-at.new.self).kept (g.S.Store.storage c.place-at.new.self).index c.place-at.result c.args.site c.args.kind
    (g.S.Store.storage c.args.store.now).settings.shapes c.requires.shape c.place-at.ensures.kept c.place-at.ensures.serial (Number c.args.number)
