use Rattle.std.proofs.Common.{◌≡◌, ◌∙◌, sym, w32, Some, None, arith}
use Rattle.std.proofs.lemmas.Int.{to_z-of_z}
use Rattle.cb_natives.specs.MakingOwn.{range_in}
use Rattle.cb_natives.proofs.OwnNatives.{serial_not}
use Rattle.cb_natives.proofs.RangesDecided.{ranges_may, ranges_so, source_short, target_short}
use Rattle.cb_natives.proofs.array_ranges.ranges_of.Goals as goal
use mir.Val.{SFits}

pub returns-in_default-range_in : goal.returns-in_default-range_in
returns-in_default-range_in g c =
    let program = c.args.program.now in
    let objects = (g.S.Store.storage c.args.store.now).kept in
    let index = (g.S.Store.storage c.args.store.now).index in
    let from : SFits w32 c.args.from = c.ranges.from in
    let at : SFits w32 c.args.at = c.ranges.at in
    let count : SFits w32 c.args.count = c.ranges.count in
    let one = c.requires.source (serial_not index c.args.source c.if-source-eq0.false) in
    let other = c.requires.target (serial_not index c.args.to c.if-to-eq0.false) in
    let some = sym c.in-Some.is ∙ c.common_elements.ensures.is in
    let read = simp to_z-of_z at c.range_in.ensures in
    let none : None ≡ range_in c.args.from c.args.count c.length.result = sym c.in_default-range_in.is ∙ read in
    record {
      does = source_short program objects index c.args.source c.args.to c.args.from c.args.at c.args.count one other c.in-Some.element some c.length.result c.length.ensures none;
      may = tt;
      known = tt;
    }

pub returns-in_default-range_in-2 : goal.returns-in_default-range_in-2
returns-in_default-range_in-2 g c =
    let program = c.args.program.now in
    let objects = (g.S.Store.storage c.args.store.now).kept in
    let index = (g.S.Store.storage c.args.store.now).index in
    let from : SFits w32 c.args.from = c.ranges.from in
    let at : SFits w32 c.args.at = c.ranges.at in
    let count : SFits w32 c.args.count = c.ranges.count in
    let one = c.requires.source (serial_not index c.args.source c.if-source-eq0.false) in
    let other = c.requires.target (serial_not index c.args.to c.if-to-eq0.false) in
    let some = sym c.in-Some.is ∙ c.common_elements.ensures.is in
    let read = simp to_z-of_z at c.range_in-2.ensures in
    let none : None ≡ range_in c.args.at c.args.count c.length-2.result = sym c.in_default-range_in-2.is ∙ read in
    record {
      does = target_short program objects index c.args.source c.args.to c.args.from c.args.at c.args.count one other c.in-Some.element some c.length.result c.length-2.result c.length.ensures c.length-2.ensures none;
      may = tt;
      known = tt;
    }

pub returns : goal.returns
returns g c =
    let program = c.args.program.now in
    let objects = (g.S.Store.storage c.args.store.now).kept in
    let index = (g.S.Store.storage c.args.store.now).index in
    let from : SFits w32 c.args.from = c.ranges.from in
    let at : SFits w32 c.args.at = c.ranges.at in
    let count : SFits w32 c.args.count = c.ranges.count in
    let one = c.requires.source (serial_not index c.args.source c.if-source-eq0.false) in
    let other = c.requires.target (serial_not index c.args.to c.if-to-eq0.false) in
    let some = sym c.in-Some.is ∙ c.common_elements.ensures.is in
    let first = simp to_z-of_z at c.range_in.ensures in
    let second = simp to_z-of_z at c.range_in-2.ensures in
    let in_source : Some (c.in-Some-range_in.start, c.in-Some-range_in.size) ≡ range_in c.args.from c.args.count c.length.result = sym c.in-Some-range_in.is ∙ first in
    let in_target : Some (c.in-Some-range_in-2.place, c.in-Some-range_in-2.field-0-1) ≡ range_in c.args.at c.args.count c.length-2.result = sym c.in-Some-range_in-2.is ∙ second in
    record {
      does = ranges_so program objects index c.args.source c.args.to c.args.from c.args.at c.args.count one other c.in-Some.element some c.length.result c.length-2.result c.length.ensures c.length-2.ensures
          c.in-Some-range_in.start c.in-Some-range_in.size c.in-Some-range_in-2.place c.in-Some-range_in-2.field-0-1 in_source in_target;
      may = ranges_may program objects index c.args.source c.args.to c.args.from c.args.at c.args.count one other c.in-Some.element some c.length.result c.length-2.result c.length.ensures c.length-2.ensures
          c.in-Some-range_in.start c.in-Some-range_in.size c.in-Some-range_in-2.place c.in-Some-range_in-2.field-0-1 in_source in_target (omega arith) (omega arith);
      known = c.in-Some.ensures.within;
    }
