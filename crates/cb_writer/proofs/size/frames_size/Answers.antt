use Rattle.std.proofs.Common.{sym, subst}
use Rattle.cb_classfile.specs.FrameMap.{SpellsFrame}
use Rattle.cb_writer.specs.Formed.{HasSpelling}
use Rattle.cb_writer.proofs.Spelling.{at_place, of_table}
use Rattle.cb_writer.proofs.size.frames_size.Goals as goal

pub frame_size-size-requires : goal.frame_size-size-requires
frame_size-size-requires c =
    subst (HasSpelling (SpellsFrame c.args.names.now)) (sym c.frame-item.is) (at_place (HasSpelling (SpellsFrame c.args.names.now)) c.args.frames.now c.loop-frame.frame-index c.frame-item.result (of_table c.requires) c.loop-frame-test.true)
