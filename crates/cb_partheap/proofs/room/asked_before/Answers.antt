use Rattle.std.proofs.Common.{◌∙◌, arith, sym}
use Rattle.std.proofs.lemmas.Option.{get_or_from_slice_get}
use Rattle.cb_partheap.specs.Heaps.{part_of}
use Rattle.cb_partheap.proofs.Rooms.{asked_elsewhere, asked_here}
use Rattle.cb_partheap.proofs.room.asked_before.Goals as goal
use Rattle.cb_partheap.proofs.room.asked_before.Goals.{then-get-part, else-get-part}

pub loop-i-preserved : goal.loop-i-preserved
loop-i-preserved c =
    let here = get_or_from_slice_get c.args.site_parts.now c.at-want.result.site c.get.result.now 0 c.get.ensures in
    elim c.if-get-part.branch [
      | then-get-part w ↦
          let more = asked_here (part_of c.args.site_parts.now) c.args.request.now c.loop-i.i c.at-want.result c.args.part c.at-want.ensures (here ∙ w.if-get-part.true) in
          (omega (arith, more, w.words-is, c.loop-i.invariant.0), omega (arith, w.words-is, c.loop-i.invariant.1, c.at-want.type_inv))
      | else-get-part w ↦
          let same = asked_elsewhere (part_of c.args.site_parts.now) c.args.request.now c.loop-i.i c.at-want.result c.args.part c.at-want.ensures (λ equal. w.if-get-part.false (sym here ∙ equal)) in
          (omega (arith, same, w.words-is, c.loop-i.invariant.0), omega (arith, w.words-is, c.loop-i.invariant.1))
    ]
