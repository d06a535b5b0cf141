use Rattle.std.proofs.Common.{◌≡◌, ◌<◌, ◌∙◌, ◌∷◌, ◌+◌, ap, arith, drop, length, subst, sym, ℕ}
use Rattle.cb_frames.specs.Limited.{Limited, with_roots}
use Rattle.cb_frames.specs.Tops.{top_stack, without}
use Rattle.cb_act.specs.Effects.{stacked}
use Rattle.cb_act.proofs.TurnsNestedStack.{taken_last, taken_left, taken_next, taken_none}
use Rattle.cb_act.proofs.operands.give_for.Goals as goal

pub loop-init : goal.loop-init
loop-init c =
    let there = c.requires.there in
    record { left = ap (with_roots c.args.roots.now) (taken_none c.args.roots.now.roots (omega (arith, there))) }

pub pop-requires : goal.pop-requires
pop-requires c =
    let there = c.requires.there in
    let low = c.loop-test.true in
    subst (λ (held : Limited). 0 < length (top_stack held.roots)) (sym c.loop.invariant.left)
    (taken_left c.args.roots.now.roots (omega (arith, there)) c.loop.counter (omega (arith, low, there)))

pub loop-preserved : goal.loop-preserved
loop-preserved c =
    let there = c.requires.there in
    record {
      left = c.pop.ensures.rest ∙ ap (λ (held : Limited). with_roots held (without held.roots 1)) c.loop.invariant.left
          ∙ ap (with_roots c.args.roots.now) (taken_next c.args.roots.now.roots (omega (arith, there)) c.loop.counter);
    }

pub give_for_one-requires : goal.give_for_one-requires
give_for_one-requires c =
    let there = c.requires.there in
    let end : c.loop.counter ≡ c.args.last = omega arith in
    subst (λ (held : Limited). 0 < length (top_stack held.roots)) (sym c.loop.invariant.left)
    (taken_left c.args.roots.now.roots (omega (arith, there)) c.loop.counter (omega (arith, end, there)))

pub returns : goal.returns
returns c =
    let there = c.requires.there in
    let end : c.loop.counter ≡ c.args.last = omega arith in
    c.give_for_one.ensures
    ∙ ap (λ (held : Limited). with_roots held (stacked held.roots (c.args.value ∷ drop 1 (top_stack held.roots)))) c.loop.invariant.left
    ∙ ap (with_roots c.args.roots.now) (taken_last c.args.roots.now.roots (omega (arith, there)) c.loop.counter c.args.value)
    ∙ ap (λ (count : ℕ). with_roots c.args.roots.now (stacked c.args.roots.now.roots (c.args.value ∷ drop (count + 1) (top_stack c.args.roots.now.roots)))) end
