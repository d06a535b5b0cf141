use Rattle.std.proofs.Common.{◌∙◌, ◌%◌, ◌^◌, ap, arith, option_map, Some}
use Rattle.cb_partheap.proofs.Calls.{header_read, header_word}
use Rattle.cb_partheap.proofs.part_heap.PartHeap.site.Goals as goal

pub word_at-requires : goal.word_at-requires
word_at-requires c = header_word c.args.at 2 (omega arith) c.self.invariant c.self.view_is c.requires

pub returns : goal.returns
returns c =
    let read = header_read c.args.at 2 c.word_at.result (omega arith) c.self.invariant c.self.view_is c.requires c.word_at.ensures in
    let word = read.word_is in
    ap (option_map (λ object. object.site)) read.found.object ∙ ap (λ word. Some (word % 2 ^ 14)) word
