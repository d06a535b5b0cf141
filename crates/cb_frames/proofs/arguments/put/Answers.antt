use Rattle.std.proofs.Common.{◌≡◌, ◌≤◌, ◌+◌, ◌∙◌, ◌∷◌, [], ap, sym, arith, length, length-set, map, slice_set}
use Rattle.std.proofs.lemmas.List.{length-map, map-set}
use Rattle.cb_plain.specs.Depth.{slots_of}
use Rattle.cb_frames.specs.declared.slot.Kind.TheVariants as kinds
use Rattle.cb_frames.specs.Inner.{blank, pasted}
use Rattle.cb_frames.specs.Slots.{blank_slot, value_in, value_of}
use Rattle.cb_frames.proofs.Moved.{one_put, one_slot, two_put}
use Rattle.cb_frames.proofs.arguments.put.Goals as goal

pub returns-in-Long-clause-slots : goal.returns-in-Long-clause-slots
returns-in-Long-clause-slots c =
    let fits : c.args.at + 2 ≤ length (map value_of c.args.slots.now) = omega (arith, ap (λ kind. length (slots_of (value_in kind c.args.word))) c.in-Long.is, length-map c.args.slots.now value_of) in
    ap (map value_of) (c.set-in-Long.ensures ∙ ap (λ slots. slice_set slots (c.args.at + 1) blank_slot) c.set.ensures)
    ∙ map-set value_of (slice_set c.args.slots.now c.args.at _) (c.args.at + 1) _
    ∙ ap (λ slots. slice_set slots (c.args.at + 1) blank) (map-set value_of c.args.slots.now c.args.at _)
    ∙ ap (λ kind. slice_set (slice_set (map value_of c.args.slots.now) c.args.at (value_in kind c.args.word)) (c.args.at + 1) blank) c.in-Long.is
    ∙ two_put (map value_of c.args.slots.now) c.args.at (value_in kinds.Long c.args.word) blank fits
    ∙ ap (λ kind. pasted (map value_of c.args.slots.now) c.args.at (slots_of (value_in kind c.args.word))) (sym c.in-Long.is)

pub returns-in-Int : goal.returns-in-Int
returns-in-Int c =
    let alone : slots_of (value_in c.args.kind c.args.word) ≡ value_in c.args.kind c.args.word ∷ [] = one_slot c.args.kind c.args.word c.in-Int.is in
    record {
      slots =
          ap (map value_of) c.set.ensures
          ∙ map-set value_of c.args.slots.now c.args.at _
          ∙ one_put (map value_of c.args.slots.now) c.args.at (value_in c.args.kind c.args.word) (omega (arith, ap length alone, length-map c.args.slots.now value_of))
          ∙ ap (pasted (map value_of c.args.slots.now) c.args.at) (sym alone);
      place = omega (arith, ap length alone);
      count = ap length c.set.ensures ∙ length-set c.args.slots.now c.args.at _;
    }

pub returns-in-Long-clause-count : goal.returns-in-Long-clause-count
returns-in-Long-clause-count c =
    ap length c.set-in-Long.ensures ∙ length-set c.set.new.self (c.args.at + 1) _ ∙ ap length c.set.ensures ∙ length-set c.args.slots.now c.args.at _
