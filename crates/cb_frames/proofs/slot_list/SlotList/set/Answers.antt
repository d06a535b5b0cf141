use Rattle.std.proofs.Common.{◌∙◌, ◌<◌, ap, arith, length, slice_set, subst, sym}
use Rattle.cb_frames.proofs.SlotLists.{counted, put_with}
use Rattle.cb_frames.proofs.slot_list.SlotList.set.Goals as goal

pub index_mut-requires : goal.index_mut-requires
index_mut-requires c =
    let low = subst (λ slots. c.args.place < length slots) (sym c.self.view_is) c.requires in
    omega (arith, low, counted c.self.inside.kinds.items c.self.inside.words.items c.self.invariant, c.self.invariant)

pub index_mut-requires-2 : goal.index_mut-requires-2
index_mut-requires-2 c =
    let low = subst (λ slots. c.args.place < length slots) (sym c.self.view_is) c.requires in
    omega (arith, low, counted c.self.inside.kinds.items c.self.inside.words.items c.self.invariant)

pub returns : goal.returns
returns c =
    put_with c.self.inside.kinds.items c.self.inside.words.items c.args.place c.args.slot
    ∙ ap (λ slots. slice_set slots c.args.place c.args.slot) c.self.view_is
