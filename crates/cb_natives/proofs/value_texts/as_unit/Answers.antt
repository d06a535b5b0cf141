use Rattle.std.proofs.Common.{◌∙◌, ◌∷◌, [], ap, w32}
use Rattle.std.proofs.lemmas.Int.{to_z-of_z}
use Rattle.cb_machine.specs.Texts.{unit_of}
use Rattle.cb_natives.proofs.value_texts.as_unit.Goals as goal

pub returns : goal.returns
returns c = record {
  units = λ program objects index. c.one_piece.ensures.units program objects index ∙ c.unit_text.ensures.units program objects index ∙ ap (λ number. unit_of number ∷ []) (to_z-of_z w32 c.args.number c.ranges.number);
  is = λ program objects index. c.one_piece.ensures.is program objects index (c.unit_text.ensures.is program objects index);
}
