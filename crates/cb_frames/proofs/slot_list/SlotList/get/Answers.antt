use Rattle.std.proofs.Common.{◌∙◌, ◌<◌, ap, arith, get_or, length, subst, sym}
use Rattle.cb_frames.specs.declared.slot.Slot.{Slot}
use Rattle.cb_frames.proofs.SlotLists.{counted, got_with}
use Rattle.cb_frames.proofs.slot_list.SlotList.get.Goals as goal

pub index-requires : goal.index-requires
index-requires c =
    let low = subst (λ slots. c.args.place < length slots) (sym c.self.view_is) c.requires in
    omega (arith, low, counted c.self.inside.kinds.items c.self.inside.words.items c.self.invariant, c.self.invariant)

pub index-requires-2 : goal.index-requires-2
index-requires-2 c =
    let low = subst (λ slots. c.args.place < length slots) (sym c.self.view_is) c.requires in
    omega (arith, low, counted c.self.inside.kinds.items c.self.inside.words.items c.self.invariant)

pub returns : goal.returns
returns c =
    let low = subst (λ slots. c.args.place < length slots) (sym c.self.view_is) c.requires in
    got_with c.self.inside.kinds.items c.self.inside.words.items c.args.place c.index.result.now c.index-2.result.now c.self.invariant
    (omega (arith, low, counted c.self.inside.kinds.items c.self.inside.words.items c.self.invariant)) c.index.ensures c.index-2.ensures
    ∙ ap (λ slots. get_or slots c.args.place (let one : Slot = record { kind = c.index.result.now; word = c.index-2.result.now } in one)) c.self.view_is
