use Rattle.std.proofs.Common.{ap, sym, ◌∙◌}
use Rattle.cb_names.specs.Types.{JavaMethodType, parameters_words, type_of}
use Rattle.std.specs.Option.{option_map}
use Rattle.cb_names.proofs.FloatingParts.{floating_of_both}
use Rattle.cb_names.proofs.ParameterTypes.{no_method, same_parameters, whole_method, whole_parameters}
use Rattle.cb_names.proofs.method.method_facts.Goals as goal

pub floating_given-requires : goal.floating_given-requires
floating_given-requires c = c.in-Some.ensures.is

pub returns-in-Some-clause-words : goal.returns-in-Some-clause-words
returns-in-Some-clause-words c =
    let read = c.in_ok-words.ensures in
    record {
      type = record { parameters = read.0; result = option_map type_of c.in-Some.given };
      spells = whole_method _ _ _ read.0 _ c.in_ok-parameters.ensures read.1 read.3 c.in-Some.ensures;
      counted = read.2;
    }

pub returns-in-Some-clause-exact : goal.returns-in-Some-clause-exact
returns-in-Some-clause-exact c = λ words method.
    let read = c.in_ok-words.ensures in
    let same = same_parameters _ read.0 method.type.parameters _ _ read.1 (whole_parameters _ _ method.type c.in_ok-parameters.ensures method.spells) in
    read.2 ∙ ap parameters_words same.0 ∙ sym method.counted

pub returns-in-Some-clause-floating : goal.returns-in-Some-clause-floating
returns-in-Some-clause-floating c =
    let read = c.in_ok-words.ensures in
    let type : JavaMethodType = record { parameters = read.0; result = option_map type_of c.in-Some.given } in
    floating_of_both _ type _ _ _ (whole_method _ _ _ read.0 _ c.in_ok-parameters.ensures read.1 read.3 c.in-Some.ensures) read.4 c.floating_given.ensures c.or.ensures

pub returns-in-None-clause-words : goal.returns-in-None-clause-words
returns-in-None-clause-words c = λ words method.
    no_method _ _ _ _ method.type c.in_ok-parameters.ensures c.in_ok-words.ensures.1 c.in-None.ensures method.spells

pub returns-in-None-clause-exact : goal.returns-in-None-clause-exact
returns-in-None-clause-exact c = λ words method.
    absurd (no_method _ _ _ _ method.type c.in_ok-parameters.ensures c.in_ok-words.ensures.1 c.in-None.ensures method.spells)
