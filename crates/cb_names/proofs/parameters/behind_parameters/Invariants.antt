use Rattle.std.proofs.Common.{◌≡◌, ◌≤◌, List, length}
use Rattle.cb_names.specs.FirstFloating.{first_floating}
use Rattle.cb_names.specs.Types.{JavaType, parameters_words}
use Rattle.cb_names.proofs.ParameterTypes.{IsRead}
use Rattle.cb_names.proofs.parameters.behind_parameters.Given as goal

abbrev pub invariant-loop-parameter : goal.invariant-loop-parameter
invariant-loop-parameter l =
    (read : List JavaType) × IsRead l.text read l.rest × (l.words ≡ parameters_words read) × (l.words ≤ 255) × (l.floating ≡ first_floating read)

abbrev pub decreases-loop-parameter : goal.decreases-loop-parameter
decreases-loop-parameter l = length l.rest
