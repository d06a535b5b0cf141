use Rattle.std.proofs.Common.{◌∙◌, arith, sym}
use Rattle.cb_partheap.proofs.Calls.{header_read, header_word}
use Rattle.cb_partheap.proofs.part_heap.PartHeap.serial.Goals as goal

pub word_at-requires : goal.word_at-requires
word_at-requires c = header_word c.args.at 1 (omega arith) c.self.invariant c.self.view_is c.requires

pub returns : goal.returns
returns c =
    let read = header_read c.args.at 1 c.word_at.result (omega arith) c.self.invariant c.self.view_is c.requires c.word_at.ensures in
    sym (read.found.serial ∙ read.word_is)
