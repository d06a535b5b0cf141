use Rattle.std.proofs.Common.{◌∙◌, ◌+◌, ◌/◌, ◌^◌, ◌≡◌, length, ap, arith, get_or, option_map, Some}
use Rattle.cb_partheap.specs.Spots.{words_by}
use Rattle.cb_partheap.proofs.Calls.{header_read, header_word, object_length}
use Rattle.cb_partheap.proofs.part_heap.PartHeap.length.Goals as goal

pub word_at-requires : goal.word_at-requires
word_at-requires c = header_word c.args.at 0 (omega arith) c.self.invariant c.self.view_is c.requires

pub returns : goal.returns
returns c =
    let read = header_read c.args.at 0 c.word_at.result (omega arith) c.self.invariant c.self.view_is c.requires c.word_at.ensures in
    let word = let same : read.found.spot.start ≡ read.found.spot.start + 0 = omega arith in ap (λ i. get_or (words_by c.args.self.now.memory read.found.spot) i 0) same ∙ read.word_is in
    ap (option_map (λ object. length object.contents)) read.found.object ∙ ap Some (object_length c.args.self.now read.found.spot) ∙ ap (λ word. Some (word / 2 ^ 32)) word
