use Rattle.std.proofs.Common.{refl}
use Rattle.cb_heap.specs.Kept.{is_number}
use Rattle.cb_partheap.proofs.Calls.{content_read, content_word, number_read}
use Rattle.cb_partheap.proofs.part_heap.PartHeap.get.Goals as goal

pub word_at-requires : goal.word_at-requires
word_at-requires c = content_word is_number refl c.args.at c.args.i c.self.invariant c.self.view_is c.requires

pub returns : goal.returns
returns c = number_read c.args.self.now c.args.at c.args.i c.word_at.result (content_read is_number refl c.args.at c.args.i c.word_at.result c.self.invariant c.self.view_is c.requires c.word_at.ensures)
