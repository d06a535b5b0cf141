use Rattle.std.proofs.Common.{◌∙◌, ◌+◌, ap, arith, length, pos, sym, Some}
use Rattle.cb_frames.specs.Limited.{Limited}
use Rattle.cb_frames.specs.Tops.{top_locals, with_local}
use Rattle.cb_plain.specs.declared.value.Value.TheVariants.{Int}
use Rattle.cb_act.proofs.PlainLaws.{is_stored, long_slots, same_locals, stored_both, stored_one}
use Rattle.cb_act.proofs.moving.store.Goals as goal

pub set_local-requires : goal.set_local-requires
set_local-requires c =
    let roots = c.args.roots.now.roots in
    let stored = is_stored roots c.args.sort c.args.local c.requires.there in
    let left = ap (λ (held : Limited). length (top_locals held.roots)) (c.pop_into.ensures.value stored.value stored.top) in
    let same = same_locals roots c.args.local stored.value in
    let two = long_slots roots c.args.local stored.value (sym (c.pop_into.ensures.long stored.value stored.top) ∙ c.if-pop_into.true) in
    let low = stored.low in
    omega (arith, left, same, two, low)

pub returns-then-pop_into-clause-behind : goal.returns-then-pop_into-clause-behind
returns-then-pop_into-clause-behind c =
    let roots = c.args.roots.now.roots in
    let stored = is_stored roots c.args.sort c.args.local c.requires.there in
    stored.left ∙ ap Some (sym (
    ap (λ (held : Limited). held.roots) c.set_local.ensures
    ∙ ap (λ (held : Limited). with_local held.roots (c.args.local + 1) (Int (pos 0))) (c.pop_into.ensures.value stored.value stored.top)
    ∙ stored_both roots c.args.local stored.value (sym (c.pop_into.ensures.long stored.value stored.top) ∙ c.if-pop_into.true)))

pub returns-else-pop_into-clause-behind : goal.returns-else-pop_into-clause-behind
returns-else-pop_into-clause-behind c =
    let roots = c.args.roots.now.roots in
    let stored = is_stored roots c.args.sort c.args.local c.requires.there in
    stored.left ∙ ap Some (sym (
    ap (λ (held : Limited). held.roots) (c.pop_into.ensures.value stored.value stored.top)
    ∙ stored_one roots c.args.local stored.value (sym (c.pop_into.ensures.long stored.value stored.top) ∙ c.if-pop_into.false)))
