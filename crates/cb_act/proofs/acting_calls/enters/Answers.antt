use Rattle.cb_heap.specs.Storage.{view_in}
use Rattle.std.proofs.Common.{◌∙◌, ap, sym, subst, false, true, ◌≤◌, Some}
use Rattle.cb_act.specs.Acting.{Does}
use Rattle.cb_act.proofs.CallLaws.{arguments_read, deep_so, entered_so, entering_so, marked_so, native_so, numbered_so}
use Rattle.cb_act.proofs.acting_calls.enters.Goals as goal

pub returns-then-contains-clause-deed : goal.returns-then-contains-clause-deed
returns-then-contains-clause-deed g c =
    native_so c.args.program.now c.args.method c.method-called.result.now c.method-called.ensures c.args.roots.now.limit c.args.count
    (view_in (g.S.Store.storage c.args.store.now) c.args.roots.now.roots) c.in_default.is true
    (marked_so c.args.program.now c.args.method c.method-called.result.now c.method-called.ensures c.requires.natives c.in_default.is ∙ sym (c.contains.ensures tt) ∙ c.if-contains.true)

pub returns-in_default-clause-deed : goal.returns-in_default-clause-deed
returns-in_default-clause-deed g c =
    native_so c.args.program.now c.args.method c.method-called.result.now c.method-called.ensures c.args.roots.now.limit c.args.count
    (view_in (g.S.Store.storage c.args.store.now) c.args.roots.now.roots) c.in_default.is false
    (marked_so c.args.program.now c.args.method c.method-called.result.now c.method-called.ensures c.requires.natives c.in_default.is ∙ sym (c.contains.ensures tt) ∙ c.if-contains.false)

pub enter-requires-clause-fits : goal.enter-requires-clause-fits
enter-requires-clause-fits g c =
    subst (λ count. count ≤ c.in-Some.body.max_locals) (arguments_read (g.S.Store.storage c.args.store.now).index c.args.roots.now.roots c.args.count)
    (numbered_so c.args.program.now c.args.method c.method-called.result.now c.method-called.ensures (λ numbered there same.
    c.requires.fit c.args.method c.args.count numbered c.in-Some.body c.requires.low there (ap (λ member. member.body) same ∙ c.in-Some.is)
    (λ limit. entering_so c.args.program.now c.args.method c.method-called.result.now c.method-called.ensures limit c.args.count
    (view_in (g.S.Store.storage c.args.store.now) c.args.roots.now.roots) c.in-Some.body c.in-Some.is)))

pub returns-in-Ok-clause-deed : goal.returns-in-Ok-clause-deed
returns-in-Ok-clause-deed g c =
    entering_so c.args.program.now c.args.method c.method-called.result.now c.method-called.ensures c.args.roots.now.limit c.args.count
    (view_in (g.S.Store.storage c.args.store.now) c.args.roots.now.roots) c.in-Some.body c.in-Some.is
    ∙ ap Some (entered_so (g.S.Store.storage c.args.store.now).index (g.S.Store.storage c.args.store.now).kept c.args.roots.now.roots c.args.roots.now.limit c.args.method c.args.count c.in-Some.body c.in-Ok.ensures.deep)
    ∙ ap (λ roots. Some (Does (view_in (g.S.Store.storage c.args.store.now) roots.roots))) (sym c.in-Ok.ensures.entered)

pub returns-in-Err-clause-deed : goal.returns-in-Err-clause-deed
returns-in-Err-clause-deed g c =
    entering_so c.args.program.now c.args.method c.method-called.result.now c.method-called.ensures c.args.roots.now.limit c.args.count
    (view_in (g.S.Store.storage c.args.store.now) c.args.roots.now.roots) c.in-Some.body c.in-Some.is
    ∙ ap Some (deep_so (g.S.Store.storage c.args.store.now).index (g.S.Store.storage c.args.store.now).kept c.args.roots.now.roots c.args.roots.now.limit c.args.method c.args.count c.in-Some.body c.in-Err.ensures.deep)
