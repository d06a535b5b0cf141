use Rattle.std.proofs.Common.{◌≡◌, ◌∙◌, ap, length, sym, w32, List, ℕ, Some}
use Rattle.std.proofs.lemmas.Int.{to_z-of_z}
use Rattle.cb_heap.specs.Reading.{serial_of}
use Rattle.cb_machine.specs.Builders.{sets_text}
use Rattle.cb_machine.specs.Performing.{on_object}
use Rattle.cb_natives.specs.Given.{units_in}
use Rattle.cb_natives.specs.MakingOwn.{call_of, range_in}
use Rattle.cb_natives.proofs.OwnHolding.{decided_as, kept_so}
use Rattle.cb_natives.proofs.OwnNatives.{range_so, serial_not}
use Rattle.cb_natives.proofs.own_building.new_string_range.Goals as goal
use mir.Val.{SFits}

pub returns-in-Some : goal.returns-in-Some
returns-in-Some g c =
    let program = c.args.program.now in
    let objects = (g.S.Store.storage c.args.store.now).kept in
    let index = (g.S.Store.storage c.args.store.now).index in
    let serial = serial_of index c.args.at in
    let array = serial_of index c.args.array in
    let from : SFits w32 c.args.from = c.ranges.from in
    let size : SFits w32 c.args.size = c.ranges.size in
    let read = simp to_z-of_z at c.range_in.ensures in
    let is : range_in c.args.from c.args.size (length (units_in objects array)) ≡ Some c.in-Some.range =
    ap (range_in c.args.from c.args.size) (sym c.count.ensures.count) ∙ sym read ∙ c.in-Some.is in
    decided_as c.set_text.ensures
    (λ frames beside.
    let call = call_of program objects frames beside in
    range_so call serial array c.args.from c.args.size c.in-Some.range (kept_so objects array (serial_not index c.args.array c.if-array-eq0.false) c.requires.array.held) is
    ∙ ap (λ (units : List ℕ). on_object call serial (sets_text call serial units)) (sym c.text_of.ensures.same))
