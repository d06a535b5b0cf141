use Rattle.std.proofs.Common.{Some, ap}
use Rattle.cb_names.proofs.method.parameter_words.Goals as goal

pub returns-in_err-facts-clause-exact : goal.returns-in_err-facts-clause-exact
returns-in_err-facts-clause-exact c = λ words method. absurd (c.in_err-facts.ensures.exact words method)

pub returns-clause-exact : goal.returns-clause-exact
returns-clause-exact c = λ words method. ap Some (c.in_ok-facts.ensures.exact words method)
