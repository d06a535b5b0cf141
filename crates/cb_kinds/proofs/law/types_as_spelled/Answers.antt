use Rattle.cb_kinds.proofs.SpelledTypes.{field_types, method_parameters, method_result}
use Rattle.cb_kinds.proofs.law.types_as_spelled.Goals as goal

pub returns-clause-field : goal.returns-clause-field
returns-clause-field c = λ text type spells. field_types text type spells

pub returns-clause-parameters : goal.returns-clause-parameters
returns-clause-parameters c = λ text type spells. method_parameters text type spells

pub returns-clause-result : goal.returns-clause-result
returns-clause-result c = λ text type spells. method_result text type spells
