use Rattle.std.proofs.Common.{arith, ◌≡◌, ◌<◌, ◌∙◌, ap, sym, below_more, length, map, Some, []}
use Rattle.std.proofs.lemmas.List.{length-map}
use Rattle.std.proofs.lemmas.Option.{slice_get_within}
use Rattle.cb_asm_line.proofs.Places.{name_at}
use Rattle.cb_asm_line.proofs.mnemonic.place_in.Goals as goal

pub returns-then-is_same : goal.returns-then-is_same
returns-then-is_same c =
    let within : c.loop-place.place < length c.args.names.now = omega arith in
    name_at c.args.names.now c.loop-place.place _ within ∙ ap Some (c.is_same.ensures.0 c.if-is_same.true)

pub loop-place-preserved : goal.loop-place-preserved
loop-place-preserved c =
    let within : c.loop-place.place < length c.args.names.now = omega arith in
    below_more _ _ c.loop-place.invariant (λ is.
    let found = sym (name_at c.args.names.now c.loop-place.place (record { ref_ptr = (0, 0); now = [] }) within) ∙ is in
    grind (arith, found, c.is_same.ensures, c.if-is_same.false))

pub returns : goal.returns
returns c = λ place is.
    let within : place < length (map (λ name. name.now) c.args.names.now) = slice_get_within _ place _ is in
    let same : length (map (λ name. name.now) c.args.names.now) ≡ length c.args.names.now = length-map c.args.names.now _ in
    c.loop-place.invariant place (omega (arith, within, same)) is
