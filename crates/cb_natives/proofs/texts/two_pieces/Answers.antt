use Rattle.cb_natives.proofs.texts.two_pieces.Goals as goal

pub returns-clause-is : goal.returns-clause-is
returns-clause-is c = λ program objects index one two. record { first = one; second = two; third = c.no_text.ensures.is program objects index }
