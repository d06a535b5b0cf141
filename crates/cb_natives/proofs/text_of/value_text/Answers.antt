use Rattle.cb_natives.proofs.text_of.value_text.Goals as goal

pub returns-in-StringValueOfInt-clause-is : goal.returns-in-StringValueOfInt-clause-is
returns-in-StringValueOfInt-clause-is g c = λ program. c.in_decimal.ensures.is program (g.S.Store.storage c.args.store.now).kept (g.S.Store.storage c.args.store.now).index

pub returns-in-StringValueOfLong-clause-is : goal.returns-in-StringValueOfLong-clause-is
returns-in-StringValueOfLong-clause-is g c = λ program. c.in_decimal-in-StringValueOfLong.ensures.is program (g.S.Store.storage c.args.store.now).kept (g.S.Store.storage c.args.store.now).index

pub returns-in-StringValueOfChar-clause-is : goal.returns-in-StringValueOfChar-clause-is
returns-in-StringValueOfChar-clause-is g c = λ program. c.as_unit.ensures.is program (g.S.Store.storage c.args.store.now).kept (g.S.Store.storage c.args.store.now).index

pub returns-in-StringValueOfBoolean-clause-is : goal.returns-in-StringValueOfBoolean-clause-is
returns-in-StringValueOfBoolean-clause-is g c = λ program. c.as_truth.ensures.is program (g.S.Store.storage c.args.store.now).kept (g.S.Store.storage c.args.store.now).index
