use Rattle.cb_heap.specs.Storage.{view_in}
use Rattle.std.proofs.Common.{◌∙◌, ap, refl, sym, List, ℕ}
use Rattle.cb_machine.specs.Enums.{constant_named, gives_static}
use Rattle.cb_natives.proofs.EnumLaws.{beside, static_is}
use Rattle.cb_natives.specs.Enums.{call_in}
use Rattle.cb_natives.specs.Making.{machine_in}
use Rattle.cb_natives.proofs.enums.ready_constant.Goals as goal

pub returns-in_default-clause-found : goal.returns-in_default-clause-found
returns-in_default-clause-found g c =
    λ frames input printed.
    let call = call_in c.args.program.now (view_in (g.S.Store.storage c.args.store.now) c.args.roots.now.roots) frames input printed in
    c.in_default.ensures.text (machine_in c.args.program.now frames) (beside (g.S.Store.storage c.args.store.now).index c.args.roots.now.roots input printed)
    (λ (units : List ℕ). gives_static call (constant_named c.args.program.now c.args.class units))

pub returns-in-Some-constant_at-clause-found : goal.returns-in-Some-constant_at-clause-found
returns-in-Some-constant_at-clause-found g c =
    λ frames input printed.
    let call = call_in c.args.program.now (view_in (g.S.Store.storage c.args.store.now) c.args.roots.now.roots) frames input printed in
    c.in-Some.ensures.text (machine_in c.args.program.now frames) (beside (g.S.Store.storage c.args.store.now).index c.args.roots.now.roots input printed)
    (λ (units : List ℕ). gives_static call (constant_named c.args.program.now c.args.class units))
    ∙ ap (gives_static call) (sym c.in-Some-constant_at.ensures.found)
    ∙ static_is (g.S.Store.storage c.args.store.now).index call c.args.roots.now.roots.statics c.in-Some-constant_at.slot c.static_value.result refl c.static_value.ensures

pub returns-in-None-clause-found : goal.returns-in-None-clause-found
returns-in-None-clause-found g c =
    λ frames input printed.
    let call = call_in c.args.program.now (view_in (g.S.Store.storage c.args.store.now) c.args.roots.now.roots) frames input printed in
    c.in-Some.ensures.text (machine_in c.args.program.now frames) (beside (g.S.Store.storage c.args.store.now).index c.args.roots.now.roots input printed)
    (λ (units : List ℕ). gives_static call (constant_named c.args.program.now c.args.class units))
    ∙ ap (gives_static call) (sym c.in-None.ensures.found)
