use Rattle.cb_heap.specs.Storage.{view_in}
use Rattle.std.proofs.Common.{◌∙◌, ap, sym, ◌+◌}
use Rattle.std.specs.Prelude.{is_some}
use Rattle.cb_act.specs.Acting.{call_deed, on_method, receiver_deed}
use Rattle.cb_link.specs.Calls.{select}
use Rattle.cb_act.proofs.CallLaws.{kind_receiver, null_receiver, receiver_count, receiver_kept, receiver_sort, receiver_taken}
use Rattle.cb_act.proofs.acting_calls.invokes_virtual.Goals as goal

pub reference_at-at-requires : goal.reference_at-at-requires
reference_at-at-requires g c =
    let program = c.args.program.now in
    let method = c.in-Method.method in
    let count = c.parameter_count-count.result in
    let is =
    receiver_taken program method (g.S.Store.storage c.args.store.now).index (g.S.Store.storage c.args.store.now).kept c.args.roots.now.roots count c.parameter_count-count.ensures c.args.roots.now.limit (λ kind. select program kind method)
    (ap (λ named. is_some (on_method (λ method. receiver_deed program c.args.roots.now.limit (view_in (g.S.Store.storage c.args.store.now) c.args.roots.now.roots) (λ kind. select program kind method) method) named)) (sym c.in-Method.is) ∙ c.requires.there) in
    receiver_sort program method (g.S.Store.storage c.args.store.now).index (g.S.Store.storage c.args.store.now).kept c.args.roots.now.roots count c.parameter_count-count.ensures is

pub returns-then-at-eq0-clause-deed : goal.returns-then-at-eq0-clause-deed
returns-then-at-eq0-clause-deed g c =
    let program = c.args.program.now in
    let method = c.in-Method.method in
    let count = c.parameter_count-count.result in
    let is =
    receiver_taken program method (g.S.Store.storage c.args.store.now).index (g.S.Store.storage c.args.store.now).kept c.args.roots.now.roots count c.parameter_count-count.ensures c.args.roots.now.limit (λ kind. select program kind method)
    (ap (λ named. is_some (on_method (λ method. receiver_deed program c.args.roots.now.limit (view_in (g.S.Store.storage c.args.store.now) c.args.roots.now.roots) (λ kind. select program kind method) method) named)) (sym c.in-Method.is) ∙ c.requires.there) in
    ap (on_method (λ method. receiver_deed program c.args.roots.now.limit (view_in (g.S.Store.storage c.args.store.now) c.args.roots.now.roots) (λ kind. select program kind method) method)) c.in-Method.is
    ∙ null_receiver program method (g.S.Store.storage c.args.store.now).index (g.S.Store.storage c.args.store.now).kept c.args.roots.now.roots count c.parameter_count-count.ensures is c.reference_at-at.result c.reference_at-at.ensures c.if-at-eq0.true c.args.roots.now.limit (λ kind. select program kind method)

pub kind-requires : goal.kind-requires
kind-requires g c =
    let program = c.args.program.now in
    let method = c.in-Method.method in
    let count = c.parameter_count-count.result in
    let is =
    receiver_taken program method (g.S.Store.storage c.args.store.now).index (g.S.Store.storage c.args.store.now).kept c.args.roots.now.roots count c.parameter_count-count.ensures c.args.roots.now.limit (λ kind. select program kind method)
    (ap (λ named. is_some (on_method (λ method. receiver_deed program c.args.roots.now.limit (view_in (g.S.Store.storage c.args.store.now) c.args.roots.now.roots) (λ kind. select program kind method) method) named)) (sym c.in-Method.is) ∙ c.requires.there) in
    receiver_kept program method (g.S.Store.storage c.args.store.now).index (g.S.Store.storage c.args.store.now).kept c.args.roots.now.roots count c.parameter_count-count.ensures is c.reference_at-at.result c.reference_at-at.ensures c.requires.held c.if-at-eq0.false

pub calls-requires-clause-there : goal.calls-requires-clause-there
calls-requires-clause-there g c =
    let program = c.args.program.now in
    let method = c.in-Method.method in
    let count = c.parameter_count-count.result in
    let is =
    receiver_taken program method (g.S.Store.storage c.args.store.now).index (g.S.Store.storage c.args.store.now).kept c.args.roots.now.roots count c.parameter_count-count.ensures c.args.roots.now.limit (λ kind. select program kind method)
    (ap (λ named. is_some (on_method (λ method. receiver_deed program c.args.roots.now.limit (view_in (g.S.Store.storage c.args.store.now) c.args.roots.now.roots) (λ kind. select program kind method) method) named)) (sym c.in-Method.is) ∙ c.requires.there) in
    ap is_some (sym (ap (on_method (λ method. receiver_deed program c.args.roots.now.limit (view_in (g.S.Store.storage c.args.store.now) c.args.roots.now.roots) (λ kind. select program kind method) method)) c.in-Method.is
    ∙ kind_receiver program method (g.S.Store.storage c.args.store.now).index (g.S.Store.storage c.args.store.now).kept c.args.roots.now.roots count c.parameter_count-count.ensures is c.reference_at-at.result c.reference_at-at.ensures c.if-at-eq0.false c.kind.result c.kind.ensures c.args.roots.now.limit (λ kind. select program kind method)
    ∙ ap (call_deed program c.args.roots.now.limit (view_in (g.S.Store.storage c.args.store.now) c.args.roots.now.roots) (count + 1)) (sym c.select-selected.ensures.found)))
    ∙ c.requires.there

pub calls-requires-clause-few : goal.calls-requires-clause-few
calls-requires-clause-few g c =
    let program = c.args.program.now in
    let method = c.in-Method.method in
    let count = c.parameter_count-count.result in
    let is =
    receiver_taken program method (g.S.Store.storage c.args.store.now).index (g.S.Store.storage c.args.store.now).kept c.args.roots.now.roots count c.parameter_count-count.ensures c.args.roots.now.limit (λ kind. select program kind method)
    (ap (λ named. is_some (on_method (λ method. receiver_deed program c.args.roots.now.limit (view_in (g.S.Store.storage c.args.store.now) c.args.roots.now.roots) (λ kind. select program kind method) method) named)) (sym c.in-Method.is) ∙ c.requires.there) in
    receiver_count program method (g.S.Store.storage c.args.store.now).index (g.S.Store.storage c.args.store.now).kept c.args.roots.now.roots count c.parameter_count-count.ensures is

pub calls-requires-clause-fit : goal.calls-requires-clause-fit
calls-requires-clause-fit g c = λ called number numbered body low there has each.
    let program = c.args.program.now in
    let method = c.in-Method.method in
    let count = c.parameter_count-count.result in
    let is =
    receiver_taken program method (g.S.Store.storage c.args.store.now).index (g.S.Store.storage c.args.store.now).kept c.args.roots.now.roots count c.parameter_count-count.ensures c.args.roots.now.limit (λ kind. select program kind method)
    (ap (λ named. is_some (on_method (λ method. receiver_deed program c.args.roots.now.limit (view_in (g.S.Store.storage c.args.store.now) c.args.roots.now.roots) (λ kind. select program kind method) method) named)) (sym c.in-Method.is) ∙ c.requires.there) in
    c.requires.fit called number numbered body low there has
    (λ limit. ap (on_method (λ method. receiver_deed program limit (view_in (g.S.Store.storage c.args.store.now) c.args.roots.now.roots) (λ kind. select program kind method) method)) c.in-Method.is
    ∙ kind_receiver program method (g.S.Store.storage c.args.store.now).index (g.S.Store.storage c.args.store.now).kept c.args.roots.now.roots count c.parameter_count-count.ensures is c.reference_at-at.result c.reference_at-at.ensures c.if-at-eq0.false c.kind.result c.kind.ensures limit (λ kind. select program kind method)
    ∙ ap (call_deed program limit (view_in (g.S.Store.storage c.args.store.now) c.args.roots.now.roots) (count + 1)) (sym c.select-selected.ensures.found)
    ∙ each limit)

pub returns-clause-deed : goal.returns-clause-deed
returns-clause-deed g c =
    let program = c.args.program.now in
    let method = c.in-Method.method in
    let count = c.parameter_count-count.result in
    let is =
    receiver_taken program method (g.S.Store.storage c.args.store.now).index (g.S.Store.storage c.args.store.now).kept c.args.roots.now.roots count c.parameter_count-count.ensures c.args.roots.now.limit (λ kind. select program kind method)
    (ap (λ named. is_some (on_method (λ method. receiver_deed program c.args.roots.now.limit (view_in (g.S.Store.storage c.args.store.now) c.args.roots.now.roots) (λ kind. select program kind method) method) named)) (sym c.in-Method.is) ∙ c.requires.there) in
    ap (on_method (λ method. receiver_deed program c.args.roots.now.limit (view_in (g.S.Store.storage c.args.store.now) c.args.roots.now.roots) (λ kind. select program kind method) method)) c.in-Method.is
    ∙ kind_receiver program method (g.S.Store.storage c.args.store.now).index (g.S.Store.storage c.args.store.now).kept c.args.roots.now.roots count c.parameter_count-count.ensures is c.reference_at-at.result c.reference_at-at.ensures c.if-at-eq0.false c.kind.result c.kind.ensures c.args.roots.now.limit (λ kind. select program kind method)
    ∙ ap (call_deed program c.args.roots.now.limit (view_in (g.S.Store.storage c.args.store.now) c.args.roots.now.roots) (count + 1)) (sym c.select-selected.ensures.found)
    ∙ c.calls.ensures.deed
