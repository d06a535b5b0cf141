use Rattle.std.proofs.Common.{◌≡◌, ◌+◌, ◌<◌, [], ◌∷◌, ◌++◌, length, get_or, take, sym, ◌∙◌, ap, append_assoc, arith}
use Rattle.std.proofs.lemmas.List.{take_more, take_more_set}
use Rattle.std.proofs.Math.ListN.{set}
use Rattle.cb_io.proofs.utf8.put.Goals as goal

pub loop-index-preserved : goal.loop-index-preserved
loop-index-preserved c =
    let byte = get_or c.args.bytes.now c.loop-index.index 0 in
    let place = c.args.filled + c.loop-index.index in
    let within : place < length c.loop-index.piece = omega (arith, c.requires) in
    let next : c.args.filled + (c.loop-index.index + 1) ≡ place + 1 = omega arith in
    ap (λ n. take n (set c.loop-index.piece place byte)) next
    ∙ take_more_set c.loop-index.piece place byte within
    ∙ ap (λ front. front ++ byte ∷ []) c.loop-index.invariant
    ∙ append_assoc (take c.args.filled c.args.piece.now) (take c.loop-index.index c.args.bytes.now) (byte ∷ [])
    ∙ ap (λ back. take c.args.filled c.args.piece.now ++ back) (sym (take_more c.args.bytes.now c.loop-index.index 0 c.loop-index-test.true))
