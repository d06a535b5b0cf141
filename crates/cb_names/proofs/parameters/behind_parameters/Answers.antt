use Rattle.std.proofs.Common.{[], ◌∷◌, ◌++◌, refl, arith}
use Rattle.cb_names.specs.Types.{type_of}
use Rattle.cb_names.proofs.FloatingParts.{floating_more}
use Rattle.cb_names.proofs.ParameterTypes.{none_left, read_more, read_none, read_whole, words_left, words_more}
use Rattle.cb_names.proofs.parameters.behind_parameters.Goals as goal

pub loop-parameter-init : goal.loop-parameter-init
loop-parameter-init c = ([], read_none _, omega arith, omega arith, refl)

pub returns-in_err-words : goal.returns-in_err-words
returns-in_err-words c =
    rw c.from_residual.ensures (λ types rest front few.
    let so_far = c.loop-parameter.invariant in
    c.in_err-words.ensures (omega (arith, so_far.2, c.words.ensures, words_left _ _ types _ _ _ rest so_far.1 c.in-Some.ensures front)))

pub loop-parameter-preserved : goal.loop-parameter-preserved
loop-parameter-preserved c =
    let so_far = c.loop-parameter.invariant in
    let type = type_of c.in-Some.parameter in
    (so_far.0 ++ type ∷ [], read_more _ _ _ _ _ so_far.1 c.in-Some.ensures, omega (arith, c.in_ok-words.ensures.1, so_far.2, c.words.ensures, words_more so_far.0 type), omega (arith, c.in_ok-words.ensures.0, c.in_ok-words.ensures.1), floating_more so_far.0 type _ _ _ so_far.4 c.floating.ensures c.or-floating.ensures)

pub returns-in_err-behind_unit : goal.returns-in_err-behind_unit
returns-in_err-behind_unit c =
    rw c.from_residual-in_err-behind_unit.ensures (λ types rest front few.
    c.in_err-behind_unit.ensures rest (none_left _ _ types _ rest c.loop-parameter.invariant.1 c.in_default.ensures front))

pub returns : goal.returns
returns c =
    let so_far = c.loop-parameter.invariant in
    (so_far.0, read_whole _ _ _ _ so_far.1 c.in_ok-behind_unit.ensures, so_far.2, omega (arith, so_far.2, so_far.3), so_far.4)
