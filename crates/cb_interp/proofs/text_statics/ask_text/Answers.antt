use Rattle.std.proofs.Common.{ap, arith, inr, length, List}
use Rattle.cb_plain.specs.declared.want.Want.{Want}
use Rattle.cb_interp.proofs.TurnsStartingRoom.{added_length}
use Rattle.cb_interp.proofs.TurnsTextAsks.{few_asked}
use Rattle.cb_interp.proofs.text_statics.ask_text.Goals as goal

pub add-requires : goal.add-requires
add-requires c =
    let few = few_asked c.args.request.now c.requires.asks in
    inr (omega (arith, few))

pub add-requires-2 : goal.add-requires-2
add-requires-2 c =
    let few = few_asked c.args.request.now c.requires.asks in
    let more = added_length c.args.request.now (record { site = 6; words = c.text_words-words.result }) in
    let same = ap (λ (wants : List Want). length wants) c.add.ensures in
    inr (omega (arith, few, more, same))
