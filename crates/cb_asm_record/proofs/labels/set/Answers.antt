use Rattle.std.proofs.Common.{◌∙◌, sym}
use Rattle.std.proofs.lemmas.Map.Text.{btree_map_updates_str}
use Rattle.cb_asm_record.proofs.Laying.{found_at, none_of, set_at}
use Rattle.cb_asm_record.proofs.labels.set.Goals as goal

pub returns : goal.returns
returns c = λ labels at.
    let text = c.as_slice.result in
    let places = c.args.places.now in
    let later = c.insert.new.self in
    let new = found_at labels text c.args.label.now places _ at c.as_slice.ensures c.in_ok-insert.ensures.old ∙ none_of _ (sym c.is_some.ensures ∙ c.if-is_some.false) in
    set_at labels text c.args.label.now c.args.pc places later at c.as_slice.ensures new (λ other. btree_map_updates_str text.now places later _ c.in_ok-insert.ensures.updates other)
