use Rattle.std.proofs.Common.{◌∙◌, map, pos, rules, w64}
use Rattle.std.proofs.lemmas.Int.{to_z-of_z}
use Rattle.std.specs.Int.{int_wrap}
use mir.Val.{SFits}
use Rattle.cb_heap.specs.Reading.{read_value}
use Rattle.cb_natives.proofs.BoxesSet.{asks_some, some_set}
use Rattle.cb_natives.proofs.number_boxes.run_number.Goals as goal

pub put-requires : goal.put-requires
put-requires g c =
    c.setting_of-setting.ensures.there
    (asks_some (g.S.Store.storage c.args.store.now).kept (g.S.Store.storage c.args.store.now).index c.args.native (map (read_value (g.S.Store.storage c.args.store.now).index) c.args.arguments.now) c.setting_of-setting.result
    c.setting_of-setting.ensures c.args.program.now g.asked.0 g.asked.1 c.requires.1.1.1.1.0)

pub returns-clause-made : goal.returns-clause-made
returns-clause-made g c =
    let objects = (g.S.Store.storage c.args.store.now).kept in
    let index = (g.S.Store.storage c.args.store.now).index in
    let arguments = map (read_value index) c.args.arguments.now in
    let fits : SFits w64 c.setting_of-setting.result.number = search rules in
    some_set objects index c.args.native arguments c.setting_of-setting.result c.setting_of-setting.ensures c.args.program.now
    (asks_some objects index c.args.native arguments c.setting_of-setting.result c.setting_of-setting.ensures c.args.program.now g.asked.0 g.asked.1 c.requires.1.1.1.1.0)
    g.S.Store.rules (g.S.Store.storage c.args.store.now).facts (g.S.Store.storage c.put.new.self).facts (g.S.Store.storage c.put.new.self).kept (int_wrap w64 (pos c.word_of.result))
    (c.word_of.ensures ∙ to_z-of_z w64 c.setting_of-setting.result.number fits) c.put.ensures.kept c.put.ensures.facts
