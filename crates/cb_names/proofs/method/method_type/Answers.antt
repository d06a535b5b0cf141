use Rattle.cb_names.proofs.ParameterTypes.{method_is, no_method}
use Rattle.cb_names.proofs.method.method_type.Goals as goal

pub returns-in-Some-result_type-clause-exact : goal.returns-in-Some-result_type-clause-exact
returns-in-Some-result_type-clause-exact c = λ type spells.
    let front = rw c.in-Some-2.is at c.in_ok-parameters.ensures in
    method_is _ _ _ _ _ type c.in-Some.ensures front.0 c.in-Some-result_type.ensures spells

pub returns-clause-found : goal.returns-clause-found
returns-clause-found c = λ words method.
    let front = rw c.in-Some-2.is at c.in_ok-parameters.ensures in
    no_method _ _ _ _ method.type c.in-Some.ensures front.0 c.in-None.ensures method.spells

pub returns-clause-exact : goal.returns-clause-exact
returns-clause-exact c = λ type spells.
    let front = rw c.in-Some-2.is at c.in_ok-parameters.ensures in
    no_method _ _ _ _ type c.in-Some.ensures front.0 c.in-None.ensures spells
