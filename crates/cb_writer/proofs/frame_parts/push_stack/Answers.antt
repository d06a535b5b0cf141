use Rattle.cb_writer.proofs.FrameParts.{one_item}
use Rattle.cb_writer.proofs.frame_parts.push_stack.Goals as goal

pub push_entries-requires : goal.push_entries-requires
push_entries-requires c = one_item c.args.names.now c.in-SameOneItem.is c.requires
