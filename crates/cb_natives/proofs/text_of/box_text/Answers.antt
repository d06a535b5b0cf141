use Rattle.cb_natives.proofs.text_of.box_text.Goals as goal

pub returns-in-IntegerTextOf-clause-is : goal.returns-in-IntegerTextOf-clause-is
returns-in-IntegerTextOf-clause-is g c = λ program. c.in_decimal.ensures.is program (g.S.Store.storage c.args.store.now).kept (g.S.Store.storage c.args.store.now).index

pub returns-in-IntegerToHexString-clause-is : goal.returns-in-IntegerToHexString-clause-is
returns-in-IntegerToHexString-clause-is g c = λ program. c.in_hex.ensures.is program (g.S.Store.storage c.args.store.now).kept (g.S.Store.storage c.args.store.now).index

pub returns-in-LongTextOf-clause-is : goal.returns-in-LongTextOf-clause-is
returns-in-LongTextOf-clause-is g c = λ program. c.in_decimal-in-LongTextOf.ensures.is program (g.S.Store.storage c.args.store.now).kept (g.S.Store.storage c.args.store.now).index

pub returns-in-CharacterTextOf-clause-is : goal.returns-in-CharacterTextOf-clause-is
returns-in-CharacterTextOf-clause-is g c = λ program. c.as_unit.ensures.is program (g.S.Store.storage c.args.store.now).kept (g.S.Store.storage c.args.store.now).index

pub returns-in-BooleanTextOf-clause-is : goal.returns-in-BooleanTextOf-clause-is
returns-in-BooleanTextOf-clause-is g c = λ program. c.as_truth.ensures.is program (g.S.Store.storage c.args.store.now).kept (g.S.Store.storage c.args.store.now).index
