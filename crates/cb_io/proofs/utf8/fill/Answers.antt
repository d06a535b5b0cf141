use Rattle.std.proofs.Common.{◌++◌, take, sym, ◌∙◌, ap, append_assoc, arith}
use Rattle.cb_io.specs.Utf8.{utf8}
use Rattle.cb_io.proofs.utf8.fill.Goals as goal

pub loop-filled-preserved : goal.loop-filled-preserved
loop-filled-preserved c =
    let so_far = c.loop-filled.invariant in
    let front = take c.loop-filled.filled c.loop-filled.piece in
    let written = (rw c.as_bytes.ensures.value at c.put.ensures) ∙ ap (λ text. front ++ text) c.encode_utf8-text.ensures.value in
    record {
      few = omega (arith, c.encode_utf8-text.ensures.upper_bound);
      read = so_far.read ∙ ap (λ back. front ++ back) c.in-Some.ensures.read ∙ sym (append_assoc front _ (utf8 c.in-Some.behind.now)) ∙ ap (λ front. front ++ utf8 c.in-Some.behind.now) (sym written);
      shorter = λ _. omega (arith, c.in-Some.ensures.shorter, so_far.short);
      short = omega (arith, c.in-Some.ensures.shorter, so_far.short);
    }
