use Rattle.std.proofs.Common.{◌≡◌, ◌∙◌, ◌<◌, ◌≤◌, ◌+◌, ap, arith, length, map}
use Rattle.cb_heap.specs.Reading.{read_value}
use Rattle.cb_machine.specs.Performing.{most_elements}
use Rattle.cb_machine.specs.Sites.{made_characters, made_strings}
use Rattle.cb_plain.specs.Requests.{add_want}
use Rattle.cb_natives.specs.MakingTexts.{text_wants}
use Rattle.cb_natives.specs.Pieces.{text_units}
use Rattle.cb_natives.proofs.MakingLaws.{handed_plan, planned_err, planned_long, planned_ok}
use Rattle.cb_natives.proofs.text_making.plan_text.Goals as goal

pub returns-in_err-text-clause-planned : goal.returns-in_err-text-clause-planned
returns-in_err-text-clause-planned g c =
    let objects = (g.S.Store.storage c.args.store.now).kept in
    let index = (g.S.Store.storage c.args.store.now).index in
    let held = map (read_value index) c.args.arguments.now in
    λ roots.
    handed_plan c.args.program.now (record { roots = roots; objects = objects }) c.args.native held c.clear.new.self c.from_residual.result c.in_err-text.field-0.0 c.from_residual.ensures
    (planned_err c.args.program.now objects index c.args.native held c.requires.makes roots c.clear.new.self c.in_err-text.field-0.0 c.in_err-text.ensures.text)

pub text_size-size-requires : goal.text_size-size-requires
text_size-size-requires g c = c.in_ok-text.ensures.is c.args.program.now

pub returns-then-size-gt-MOST_UNITS-clause-planned : goal.returns-then-size-gt-MOST_UNITS-clause-planned
returns-then-size-gt-MOST_UNITS-clause-planned g c =
    let objects = (g.S.Store.storage c.args.store.now).kept in
    let index = (g.S.Store.storage c.args.store.now).index in
    let held = map (read_value index) c.args.arguments.now in
    let long : most_elements < length (text_units c.args.program.now objects index c.in_ok-text.text) = omega (arith, c.text_size-size.ensures, c.if-size-gt-MOST_UNITS.true) in
    λ roots. planned_long c.args.program.now objects index c.args.native held c.requires.makes roots c.clear.new.self c.in_ok-text.text c.in_ok-text.ensures.text long

pub returns-clause-planned : goal.returns-clause-planned
returns-clause-planned g c =
    let objects = (g.S.Store.storage c.args.store.now).kept in
    let index = (g.S.Store.storage c.args.store.now).index in
    let held = map (read_value index) c.args.arguments.now in
    let units = text_units c.args.program.now objects index c.in_ok-text.text in
    let short : length units ≤ most_elements = omega (arith, c.text_size-size.ensures, c.if-size-gt-MOST_UNITS.false) in
    let wants : c.add-2.new.self ≡ text_wants (length units) =
    c.add-2.ensures
    ∙ ap (λ wants. add_want wants (record { site = made_strings; words = 4 })) (c.add.ensures ∙ ap (λ wants. add_want wants (record { site = made_characters; words = 3 + c.text_size-size.result })) c.clear.ensures)
    ∙ ap text_wants c.text_size-size.ensures in
    λ roots. planned_ok c.args.program.now objects index c.args.native held c.requires.makes roots c.add-2.new.self c.in_ok-text.text c.in_ok-text.ensures.text short wants
