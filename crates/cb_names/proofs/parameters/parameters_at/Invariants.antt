use Rattle.std.proofs.Common.{◌≡◌, ◌≤◌, length, map}
use Rattle.cb_names.specs.Types.{type_of, parameters_words}
use Rattle.cb_names.proofs.ParameterTypes.{IsRead}
use Rattle.cb_names.proofs.parameters.parameters_at.Given as goal

abbrev pub invariant-loop-parameter : goal.invariant-loop-parameter
invariant-loop-parameter l = record {
  read : IsRead l.text (map type_of l.parameters.items) l.rest;
  counted : l.words ≡ parameters_words (map type_of l.parameters.items);
  few : l.words ≤ 255;
}

abbrev pub decreases-loop-parameter : goal.decreases-loop-parameter
decreases-loop-parameter l = length l.rest
