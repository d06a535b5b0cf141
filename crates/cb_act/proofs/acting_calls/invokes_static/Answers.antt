use Rattle.cb_heap.specs.Storage.{view_in}
use Rattle.std.proofs.Common.{◌≡◌, ◌∙◌, ap, sym, Some, true}
use Rattle.std.specs.Prelude.{is_some}
use Rattle.cb_frames.specs.Tops.{top_stack}
use Rattle.cb_heap.specs.Reading.{read_roots}
use Rattle.cb_machine.specs.Calling.{asked_sorts}
use Rattle.cb_machine.specs.Standing.{taken}
use Rattle.cb_act.specs.Acting.{on_method, static_deed}
use Rattle.cb_act.proofs.CallLaws.{static_count, static_so, static_taken}
use Rattle.cb_act.proofs.acting_calls.invokes_static.Goals as goal

pub calls-requires-clause-few : goal.calls-requires-clause-few
calls-requires-clause-few g c =
    let program = c.args.program.now in
    let method = c.in-Method.method in
    let ready = c.unready.ensures ∙ ap Some c.in_default-unready.is in
    let is : is_some (taken (asked_sorts program method) (top_stack (read_roots (g.S.Store.storage c.args.store.now).index c.args.roots.now.roots))) ≡ true =
    static_taken program method c.class_of.result (g.S.Store.storage c.args.store.now).index (g.S.Store.storage c.args.store.now).kept c.args.roots.now.roots c.class_of.ensures.declares ready c.args.roots.now.limit
    (ap (λ named. is_some (on_method (static_deed program c.args.roots.now.limit (view_in (g.S.Store.storage c.args.store.now) c.args.roots.now.roots)) named)) (sym c.in-Method.is) ∙ c.requires.there) in
    static_count program method c.class_of.result (g.S.Store.storage c.args.store.now).index (g.S.Store.storage c.args.store.now).kept c.args.roots.now.roots c.class_of.ensures.declares ready is c.parameter_count-count.result c.parameter_count-count.ensures

pub calls-requires-clause-fit : goal.calls-requires-clause-fit
calls-requires-clause-fit g c = λ called count numbered body low there has each.
    let program = c.args.program.now in
    let method = c.in-Method.method in
    let ready = c.unready.ensures ∙ ap Some c.in_default-unready.is in
    let is : is_some (taken (asked_sorts program method) (top_stack (read_roots (g.S.Store.storage c.args.store.now).index c.args.roots.now.roots))) ≡ true =
    static_taken program method c.class_of.result (g.S.Store.storage c.args.store.now).index (g.S.Store.storage c.args.store.now).kept c.args.roots.now.roots c.class_of.ensures.declares ready c.args.roots.now.limit
    (ap (λ named. is_some (on_method (static_deed program c.args.roots.now.limit (view_in (g.S.Store.storage c.args.store.now) c.args.roots.now.roots)) named)) (sym c.in-Method.is) ∙ c.requires.there) in
    c.requires.fit called count numbered body low there has
    (λ limit. ap (on_method (static_deed program limit (view_in (g.S.Store.storage c.args.store.now) c.args.roots.now.roots))) c.in-Method.is
    ∙ static_so program method c.class_of.result (g.S.Store.storage c.args.store.now).index (g.S.Store.storage c.args.store.now).kept c.args.roots.now.roots c.class_of.ensures.declares ready is c.parameter_count-count.result c.parameter_count-count.ensures limit
    ∙ each limit)

pub returns-clause-deed : goal.returns-clause-deed
returns-clause-deed g c =
    let program = c.args.program.now in
    let method = c.in-Method.method in
    let ready = c.unready.ensures ∙ ap Some c.in_default-unready.is in
    let is : is_some (taken (asked_sorts program method) (top_stack (read_roots (g.S.Store.storage c.args.store.now).index c.args.roots.now.roots))) ≡ true =
    static_taken program method c.class_of.result (g.S.Store.storage c.args.store.now).index (g.S.Store.storage c.args.store.now).kept c.args.roots.now.roots c.class_of.ensures.declares ready c.args.roots.now.limit
    (ap (λ named. is_some (on_method (static_deed program c.args.roots.now.limit (view_in (g.S.Store.storage c.args.store.now) c.args.roots.now.roots)) named)) (sym c.in-Method.is) ∙ c.requires.there) in
    ap (on_method (static_deed program c.args.roots.now.limit (view_in (g.S.Store.storage c.args.store.now) c.args.roots.now.roots))) c.in-Method.is
    ∙ static_so program method c.class_of.result (g.S.Store.storage c.args.store.now).index (g.S.Store.storage c.args.store.now).kept c.args.roots.now.roots c.class_of.ensures.declares ready is c.parameter_count-count.result c.parameter_count-count.ensures c.args.roots.now.limit
    ∙ c.calls.ensures.deed
