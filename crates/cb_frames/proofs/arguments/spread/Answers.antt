use Rattle.std.proofs.Common.{◌≡◌, ◌+◌, ◌∙◌, ap, refl, sym, arith, length, map, slice_range}
use Rattle.std.specs.List.{flat_map}
use Rattle.cb_plain.specs.Depth.{slots_of}
use Rattle.cb_frames.specs.Inner.{blank, pasted}
use Rattle.cb_frames.specs.Slots.{value_of}
use Rattle.std.proofs.lemmas.List.{length-map}
use Rattle.cb_frames.proofs.Moved.{pasted_none, slot_read, slots_none, spread_fits, spread_more}
use Rattle.cb_frames.proofs.arguments.spread.Goals as goal

pub loop-i-init : goal.loop-i-init
loop-i-init c = (
  pasted_none (map value_of c.args.slots.now) c.args.to ∙ ap (pasted (map value_of c.args.slots.now) c.args.to) (sym (slots_none (map value_of c.args.slots.now) c.args.from)),
  omega (arith, ap length (slots_none (map value_of c.args.slots.now) c.args.from)),
  refl,
)

pub put-at-requires-clause-few : goal.put-at-requires-clause-few
put-at-requires-clause-few c = omega (arith, c.requires.few, c.loop-i.invariant.2)

pub put-at-requires-clause-fits : goal.put-at-requires-clause-fits
put-at-requires-clause-fits c =
    let size : length (map value_of c.args.slots.now) ≡ length c.args.slots.now = length-map c.args.slots.now value_of in
    let item = value_of c.get-slot.result in
    let fits = spread_fits (map value_of c.args.slots.now) (map value_of c.loop-i.slots) c.args.from c.args.to c.loop-i.i (c.args.from + c.args.count) c.loop-i.at item
    (omega arith) c.loop-i-test.true c.requires.before (omega (arith, c.requires.inside, size)) c.loop-i.invariant.0 c.loop-i.invariant.1
    (slot_read c.loop-i.slots c.loop-i.i c.get-slot.result blank (omega (arith, c.loop-i.invariant.2)) c.get-slot.ensures) in
    omega (arith, fits, c.loop-i.invariant.2, size)

pub loop-i-preserved : goal.loop-i-preserved
loop-i-preserved c =
    let size : length (map value_of c.args.slots.now) ≡ length c.args.slots.now = length-map c.args.slots.now value_of in
    let item = value_of c.get-slot.result in
    let more = spread_more (map value_of c.args.slots.now) (map value_of c.loop-i.slots) c.args.from c.args.to c.loop-i.i (c.args.from + c.args.count) c.loop-i.at item
    (omega arith) c.loop-i-test.true c.requires.before (omega (arith, c.requires.inside, size)) c.loop-i.invariant.0 c.loop-i.invariant.1
    (slot_read c.loop-i.slots c.loop-i.i c.get-slot.result blank (omega (arith, c.loop-i.invariant.2)) c.get-slot.ensures)
    (map value_of c.put-at.new.slots) c.put-at.result c.put-at.ensures.slots c.put-at.ensures.place in
    (more.0, more.1, c.put-at.ensures.count ∙ c.loop-i.invariant.2)

pub returns-clause-slots : goal.returns-clause-slots
returns-clause-slots c =
    c.loop-i.invariant.0
    ∙ ap (λ end. pasted (map value_of c.args.slots.now) c.args.to (flat_map slots_of (slice_range (map value_of c.args.slots.now) c.args.from end)))
    (let e : c.loop-i.i ≡ c.args.from + c.args.count = omega arith in e)

pub returns-clause-place : goal.returns-clause-place
returns-clause-place c =
    c.loop-i.invariant.1
    ∙ ap (λ end. c.args.to + length (flat_map slots_of (slice_range (map value_of c.args.slots.now) c.args.from end)))
    (let e : c.loop-i.i ≡ c.args.from + c.args.count = omega arith in e)
