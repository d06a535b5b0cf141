use Rattle.std.proofs.Common.{List, map, subst, sym}
use Rattle.cb_heap.specs.Reading.{read_value}
use Rattle.cb_plain.specs.declared.want.Want.{Want}
use Rattle.cb_natives.specs.Making.{Asks}
use Rattle.cb_natives.proofs.BoxesSet.{some_asks}
use Rattle.cb_natives.proofs.number_boxes.plan_number.Goals as goal

pub returns-else-setting_of-eq0-clause-planned : goal.returns-else-setting_of-eq0-clause-planned
returns-else-setting_of-eq0-clause-planned g c = λ roots.
    let objects = (g.S.Store.storage c.args.store.now).kept in
    let arguments = map (read_value (g.S.Store.storage c.args.store.now).index) c.args.arguments.now in
    subst (λ (wants : List Want). Asks c.args.program.now (record { roots = roots; objects = objects }) c.args.native arguments wants) (sym c.clear.ensures)
    (some_asks objects (g.S.Store.storage c.args.store.now).index c.args.native arguments c.setting_of.result c.setting_of.ensures c.args.program.now c.if-setting_of-eq0.false roots)
