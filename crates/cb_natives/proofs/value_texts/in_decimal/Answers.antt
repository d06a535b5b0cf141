use Rattle.std.proofs.Common.{◌∙◌, ap, w64}
use Rattle.std.proofs.lemmas.Int.{to_z-of_z}
use Rattle.cb_machine.specs.Texts.{digits}
use Rattle.cb_natives.proofs.value_texts.in_decimal.Goals as goal

pub returns : goal.returns
returns c = record {
  units = λ program objects index. c.one_piece.ensures.units program objects index ∙ c.decimal_text.ensures.units program objects index ∙ ap (digits) (to_z-of_z w64 c.args.number c.ranges.number);
  is = λ program objects index. c.one_piece.ensures.is program objects index (c.decimal_text.ensures.is program objects index);
}
