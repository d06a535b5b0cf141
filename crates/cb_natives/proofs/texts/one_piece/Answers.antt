use Rattle.cb_natives.proofs.texts.one_piece.Goals as goal

pub returns-clause-is : goal.returns-clause-is
returns-clause-is c = λ program objects index is. record { first = is; second = c.no_text.ensures.is program objects index; third = c.no_text-2.ensures.is program objects index }
