use Rattle.std.proofs.Common.{◌∙◌, ap, sym, ◌==◌}
use Rattle.std.proofs.lemmas.List.{take_all}
use Rattle.cb_plain.specs.PlaceTable.{index_at}
use Rattle.cb_plain.specs.InnerPlaces.{entered}
use Rattle.cb_plain.proofs.PlaceRows.{answers_row, index_more}
use Rattle.cb_plain.proofs.place_table.PlaceTable.of.Goals as goal

pub loop-index-preserved : goal.loop-index-preserved
loop-index-preserved s c = λ place.
    let item = c.index-items-index.result in
    let index = c.loop-index.index in
    c.in_ok-enter.ensures place
    ∙ ap (λ found. entered found (item.0 == place) index) (c.loop-index.invariant place)
    ∙ sym (index_more c.args.items.now index place item c.loop-index-test.true c.index-items-index.is)

pub returns : goal.returns
returns s c = λ place.
    answers_row c.loop-index.row.items place ∙ c.loop-index.invariant place
    ∙ ap (λ items. index_at items place) (take_all c.loop-index.index c.args.items.now c.loop-index-test.false)
