use Rattle.std.proofs.Common.{◌∙◌, ap}
use Rattle.cb_blocks.specs.Parted.{empty_parts}
use Rattle.cb_partheap.proofs.MadeHeap.{is_made, made_heap, making}
use Rattle.cb_partheap.proofs.part_heap.PartHeap.make.Goals as goal

pub invariant_of-result : goal.invariant_of-result
invariant_of-result c =
    made_heap c.args.shapes
    (making c.args.dag.now c.requires.sites c.requires.parts c.parts.ensures.graph (c.in_ok-words.ensures ∙ ap (empty_parts c.args.blocks) c.parts.ensures.parts) c.blocks_free-sound.ensures.sound c.in_ok-edges.ensures c.new.ensures c.in_ok-grey.ensures)

pub returns : goal.returns
returns c =
    is_made c.args.shapes
    (making c.args.dag.now c.requires.sites c.requires.parts c.parts.ensures.graph (c.in_ok-words.ensures ∙ ap (empty_parts c.args.blocks) c.parts.ensures.parts) c.blocks_free-sound.ensures.sound c.in_ok-edges.ensures c.new.ensures c.in_ok-grey.ensures)
