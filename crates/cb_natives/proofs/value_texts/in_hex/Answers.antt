use Rattle.std.proofs.Common.{◌∙◌, ap, w32}
use Rattle.std.proofs.lemmas.Int.{to_z-of_z}
use Rattle.cb_machine.specs.Texts.{hex_digits}
use Rattle.cb_natives.proofs.value_texts.in_hex.Goals as goal

pub returns : goal.returns
returns c = record {
  units = λ program objects index. c.one_piece.ensures.units program objects index ∙ c.hex_text.ensures.units program objects index ∙ ap (hex_digits) (to_z-of_z w32 c.args.number c.ranges.number);
  is = λ program objects index. c.one_piece.ensures.is program objects index (c.hex_text.ensures.is program objects index);
}
