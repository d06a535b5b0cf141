use Rattle.std.proofs.Common.{◌≡◌, ◌∙◌, ◌+◌, ◌<◌, length, ap, arith, take}
use Rattle.std.proofs.lemmas.Option.{get_or_from_slice_get}
use Rattle.cb_plain.specs.declared.want.Want.{Want}
use Rattle.cb_heap.specs.Occupancy.{wanted}
use Rattle.cb_blocks.specs.Parted.{blocks_for}
use Rattle.cb_blocks.specs.Rows.{row}
use Rattle.cb_partheap.specs.Heaps.{part_of}
use Rattle.cb_partheap.proofs.Rooms.{at_all, blocks_step, nothing_asked}
use Rattle.cb_partheap.proofs.room.blocks_more.Goals as goal

pub loop-i-init : goal.loop-i-init
loop-i-init c = (omega (arith, nothing_asked c.args.words.now.words c.args.site_parts.now), omega arith)

pub get-part-requires : goal.get-part-requires
get-part-requires c = at_all (λ (want : Want). want.site < length c.args.site_parts.now) c.args.request.now c.loop-i.i c.at-want.result c.requires.known c.at-want.ensures

pub used-requires : goal.used-requires
used-requires c = at_all (λ part. part < length c.args.words.now.words) c.args.site_parts.now c.at-want.result.site c.get-part.result.now c.requires.within c.get-part.ensures

pub loop-i-preserved : goal.loop-i-preserved
loop-i-preserved c =
    let below = at_all (λ part. part < length c.args.words.now.words) c.args.site_parts.now c.at-want.result.site c.get-part.result.now c.requires.within c.get-part.ensures in
    let here = get_or_from_slice_get c.args.site_parts.now c.at-want.result.site c.get-part.result.now 0 c.get-part.ensures in
    let step = blocks_step c.args.words.now c.args.site_parts.now c.args.request.now c.loop-i.i c.at-want.result c.get-part.result.now c.at-want.ensures here below in
    let before : c.used.result + c.asked_before.result ≡ length (row c.args.words.now.words c.get-part.result.now) + wanted (part_of c.args.site_parts.now) (take c.loop-i.i c.args.request.now) c.get-part.result.now = omega (arith, c.used.ensures, c.asked_before.ensures.words) in
    let now = c.count_blocks.ensures ∙ ap (λ n. blocks_for (n + c.at-want.result.words)) before in
    let was = c.count_blocks-in-loop-i.ensures ∙ ap blocks_for before in
    (omega (arith, step, now, was, c.loop-i.invariant.0), omega (arith, c.count_blocks.ensures, c.count_blocks-in-loop-i.ensures, c.loop-i.invariant.1, c.at-want.type_inv))
