use Rattle.std.proofs.Common.{◌≡◌, ◌∙◌, ap, length, refl, rules, sym, w32, None, Some}
use Rattle.std.proofs.lemmas.Int.{to_z-of_z}
use Rattle.cb_heap.specs.Kept.{contents_at}
use Rattle.cb_heap.specs.Reading.{serial_of}
use Rattle.cb_natives.specs.MakingOwn.{range_in}
use Rattle.cb_natives.proofs.InputLaws.{bounds_stop, length_so, null_stops, range_holds, range_there}
use Rattle.cb_natives.proofs.input_natives.range_to_read.Goals as goal
use mir.Val.{SFits}

pub returns-then-at-eq0 : goal.returns-then-at-eq0
returns-then-at-eq0 g c =
    let asked = c.references_ints-at.result in
    null_stops (g.S.Store.storage c.args.store.now).kept (g.S.Store.storage c.args.store.now).index c.args.arguments.now asked.0 asked.1 asked.2 asked.3 c.references_ints-at.ensures c.if-at-eq0.true

pub returns-in-Some : goal.returns-in-Some
returns-in-Some g c =
    let objects = (g.S.Store.storage c.args.store.now).kept in
    let index = (g.S.Store.storage c.args.store.now).index in
    let asked = c.references_ints-at.result in
    let holds = range_holds objects index c.args.arguments.now asked.0 asked.1 asked.2 asked.3 c.references_ints-at.ensures c.requires.given c.if-at-eq0.false in
    let from : SFits w32 asked.2 = search rules in
    let count : SFits w32 asked.3 = search rules in
    let read = simp to_z-of_z at c.range_in.ensures in
    let is : range_in asked.2 asked.3 (length (contents_at objects (serial_of index asked.1))) ≡ Some c.in-Some.range =
    ap (range_in asked.2 asked.3) (sym (length_so objects (serial_of index asked.1) c.length.result c.length.ensures)) ∙ sym read ∙ c.in-Some.is in
    range_there objects index c.args.arguments.now asked.0 asked.1 asked.2 asked.3 c.references_ints-at.ensures holds c.in-Some.range is

pub returns-in-None : goal.returns-in-None
returns-in-None g c =
    let objects = (g.S.Store.storage c.args.store.now).kept in
    let index = (g.S.Store.storage c.args.store.now).index in
    let asked = c.references_ints-at.result in
    let holds = range_holds objects index c.args.arguments.now asked.0 asked.1 asked.2 asked.3 c.references_ints-at.ensures c.requires.given c.if-at-eq0.false in
    let from : SFits w32 asked.2 = search rules in
    let count : SFits w32 asked.3 = search rules in
    let read = simp to_z-of_z at c.range_in.ensures in
    let is : range_in asked.2 asked.3 (length (contents_at objects (serial_of index asked.1))) ≡ None =
    ap (range_in asked.2 asked.3) (sym (length_so objects (serial_of index asked.1) c.length.result c.length.ensures)) ∙ sym read ∙ c.in-None.is in
    bounds_stop objects index c.args.arguments.now asked.0 asked.1 asked.2 asked.3 c.references_ints-at.ensures (serial_of index asked.1) refl holds.there is
