use Rattle.std.proofs.Common.{arith}
use Rattle.cb_frames.proofs.SlotLists.{counted}
use Rattle.cb_frames.proofs.slot_list.SlotList.make.Goals as goal

pub returns : goal.returns
returns c =
    let kinds = c.in_ok-kinds.ensures.len in
    let words = c.in_ok-words.ensures.len in
    omega (arith, words, counted c.in_ok-kinds.kinds.items c.in_ok-words.words.items (omega (arith, kinds, words)))
