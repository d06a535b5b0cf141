use Rattle.std.proofs.Common.{◌++◌, ◌∙◌, ap}
use Rattle.cb_classfile.specs.FrameMap.{frame_bytes}
use Rattle.cb_classfile.specs.Tables.{table_bytes}
use Rattle.cb_writer.proofs.Blocks.{attribute_ended, short}
use Rattle.cb_writer.proofs.Bodies.{frames_alone, of_frames}
use Rattle.cb_writer.proofs.Spelling.{filled}
use Rattle.cb_writer.proofs.body.push_frames.Goals as goal

pub push_table-requires : goal.push_table-requires
push_table-requires c = (of_frames c.args.frames.now (filled c.args.frames.now c.if-is_empty.ensures) c.requires).0

pub end_block-requires-clause-short : goal.end_block-requires-clause-short
end_block-requires-clause-short c =
    short c.begin_only_attribute.new.bytes.items (table_bytes frame_bytes c.args.frames.now) _ _ c.in_ok-push_table.ensures c.in_ok-begin.ensures.1 (of_frames c.args.frames.now (filled c.args.frames.now c.if-is_empty.ensures) c.requires).1.short

pub returns : goal.returns
returns c =
    let frames = c.args.frames.now in
    attribute_ended c.args.bytes.now.items (table_bytes frame_bytes frames) _ _ _ _ _ c.in_ok-begin.ensures.0 c.in_ok-begin.ensures.1 c.in_ok-push_table.ensures c.end_block.ensures ∙ ap (λ attributes. c.args.bytes.now.items ++ attributes) (frames_alone c.args.names.now frames (filled frames c.if-is_empty.ensures))
