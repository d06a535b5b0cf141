use Rattle.std.proofs.Common.{◌≡◌, ◌+◌, ◌-◌, ℕ, List, ◌++◌, length, take, drop, sym, ap, ◌∙◌, arith, take-append-drop, length-take, length-drop, length-append}
use Rattle.std.proofs.lemmas.List.{take_at, drop-drop}
use Rattle.std.proofs.Math.ListN.{drop_of_length-le}
use Rattle.cb_io.proofs.sure_source.SureSourceSource.read.Goals as goal

-- what is left begins with the part that was copied
consumed : (bytes part rest : List ℕ) (at count : ℕ) → part ≡ take (at + count - at) (drop at bytes) → length part ≡ count → drop at bytes ≡ take count (part ++ rest) ++ drop (at + count) bytes
consumed bytes part rest at count is size =
    let same : at + count - at ≡ count = omega arith in
    sym (take-append-drop count (drop at bytes))
    ∙ ap (λ p. p ++ drop count (drop at bytes)) (ap (λ n. take n (drop at bytes)) (sym same) ∙ sym is ∙ sym (take_at part rest count size))
    ∙ ap (λ r. take count (part ++ rest) ++ r) (drop-drop count at bytes)

pub returns-clause-moved : goal.returns-clause-moved
returns-clause-moved c =
    let bytes = c.self.inside.bytes.items in
    let at = c.self.inside.at in
    let count = c.min-count.result in
    let part = c.copy_from_slice.new.self in
    let rest = drop count c.args.buf.now in
    let size : length part ≡ count = c.copy_from_slice.ensures.len ∙ length-take count c.args.buf.now ∙ omega arith in (
      sym c.self.view_is ∙ consumed bytes part rest at count (c.copy_from_slice.ensures.after ∙ ap (λ xs. take (at + count - at) (drop at xs)) c.deref.ensures.value) size,
      λ none room. drop_of_length-le bytes (omega (arith, length-append part rest, length-drop count c.args.buf.now)),
    )
