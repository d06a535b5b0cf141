use Rattle.std.proofs.Common.{◌≡◌, [], ◌∷◌, ◌++◌, map, ◌∙◌, ap, arith}
use Rattle.std.proofs.lemmas.List.{map-append}
use Rattle.cb_names.specs.Types.{parameters_words, type_of}
use Rattle.cb_names.proofs.ParameterTypes.{none_left, read_more, read_none, read_whole, words_left, words_more}
use Rattle.cb_names.proofs.parameters.parameters_at.Goals as goal

pub loop-parameter-init : goal.loop-parameter-init
loop-parameter-init c = rw c.new-parameters.ensures.items (record { read = read_none _; counted = omega arith; few = omega arith })

pub returns-in_default-checked_add : goal.returns-in_default-checked_add
returns-in_default-checked_add c = λ types rest front few.
    let so_far = c.loop-parameter.invariant in
    c.in_default-checked_add.ensures (omega (arith, so_far.counted, c.words.ensures, words_left _ _ types _ _ _ rest so_far.read c.in-Some.ensures front))

pub loop-parameter-preserved : goal.loop-parameter-preserved
loop-parameter-preserved c =
    let so_far = c.loop-parameter.invariant in
    let type = type_of c.in-Some.parameter in
    let items = map type_of c.loop-parameter.parameters.items in
    let more : map type_of c.push.new.self.items ≡ items ++ type ∷ [] = ap (map type_of) c.in_ok-push.ensures.items ∙ map-append type_of c.loop-parameter.parameters.items (c.in-Some.parameter ∷ []) in
    let counted : c.in-Some-checked_add.more ≡ parameters_words (items ++ type ∷ []) = omega (arith, c.in-Some-checked_add.ensures.1, so_far.counted, c.words.ensures, words_more items type) in
    rw more (record { read = read_more _ _ _ _ _ so_far.read c.in-Some.ensures; counted = counted; few = omega (arith, c.in-Some-checked_add.ensures.0, c.in-Some-checked_add.ensures.1) })

pub returns-in-Some-behind_unit : goal.returns-in-Some-behind_unit
returns-in-Some-behind_unit c =
    let so_far = c.loop-parameter.invariant in
    (read_whole _ _ _ _ so_far.read c.in-Some-behind_unit.ensures, omega (arith, so_far.counted, so_far.few))

pub returns : goal.returns
returns c = λ types rest front few.
    c.in-None.ensures rest (none_left _ _ types _ rest c.loop-parameter.invariant.read c.in_default.ensures front)
