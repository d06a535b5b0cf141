use Rattle.std.proofs.Common.{◌∙◌, sym, w64}
use Rattle.std.proofs.lemmas.Int.{to_z-of_z}
use Rattle.cb_natives.proofs.Units.{word_signed}
use Rattle.cb_natives.proofs.wrapping.long_in.Goals as goal

pub returns : goal.returns
returns c = to_z-of_z w64 c.cast_signed.result (record { sfits = c.cast_signed.type_inv }) ∙ c.cast_signed.ensures ∙ sym (word_signed w64 c.args.word c.ranges.word.fits)
