use Rattle.cb_partheap_tests.proofs.Kept.{shaped_there, told_word, word_there}
use Rattle.cb_partheap_tests.proofs.tried.word_mark.Goals as goal

pub holds_reference-requires : goal.holds_reference-requires
holds_reference-requires c =
    let word = word_there c.args.at c.args.i c.length.result c.heap.invariant c.heap.view_is c.requires c.length.ensures c.if-i-length.true in
    (word.found.spot, shaped_there c.args.at c.args.i c.heap.invariant word)

pub returns-then-i-length : goal.returns-then-i-length
returns-then-i-length c =
    let word = word_there c.args.at c.args.i c.length.result c.heap.invariant c.heap.view_is c.requires c.length.ensures c.if-i-length.true in
    told_word c.args.at c.args.i c.holds_reference.result c.heap.invariant c.heap.view_is word (c.holds_reference.ensures word.found.spot (shaped_there c.args.at c.args.i c.heap.invariant word))
