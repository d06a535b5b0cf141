use Rattle.cb_heap.specs.Storage.{view_in}
use Rattle.std.proofs.Common.{◌∙◌, ap, sym}
use Rattle.std.specs.Prelude.{is_some}
use Rattle.cb_act.specs.Acting.{on_method, receiver_deed}
use Rattle.cb_act.proofs.CallLaws.{null_receiver, receiver_count, receiver_sort, receiver_taken, special_receiver}
use Rattle.cb_act.proofs.acting_calls.invokes_special.Goals as goal

pub reference_at-requires : goal.reference_at-requires
reference_at-requires g c =
    let program = c.args.program.now in
    let method = c.in-Method.method in
    let count = c.parameter_count-count.result in
    let is =
    receiver_taken program method (g.S.Store.storage c.args.store.now).index (g.S.Store.storage c.args.store.now).kept c.args.roots.now.roots count c.parameter_count-count.ensures c.args.roots.now.limit (λ kind. c.args.special)
    (ap (λ named. is_some (on_method (receiver_deed program c.args.roots.now.limit (view_in (g.S.Store.storage c.args.store.now) c.args.roots.now.roots) (λ kind. c.args.special)) named)) (sym c.in-Method.is) ∙ c.requires.there) in
    receiver_sort program method (g.S.Store.storage c.args.store.now).index (g.S.Store.storage c.args.store.now).kept c.args.roots.now.roots count c.parameter_count-count.ensures is

pub returns-then-reference_at-eq0-clause-deed : goal.returns-then-reference_at-eq0-clause-deed
returns-then-reference_at-eq0-clause-deed g c =
    let program = c.args.program.now in
    let method = c.in-Method.method in
    let count = c.parameter_count-count.result in
    let is =
    receiver_taken program method (g.S.Store.storage c.args.store.now).index (g.S.Store.storage c.args.store.now).kept c.args.roots.now.roots count c.parameter_count-count.ensures c.args.roots.now.limit (λ kind. c.args.special)
    (ap (λ named. is_some (on_method (receiver_deed program c.args.roots.now.limit (view_in (g.S.Store.storage c.args.store.now) c.args.roots.now.roots) (λ kind. c.args.special)) named)) (sym c.in-Method.is) ∙ c.requires.there) in
    ap (on_method (receiver_deed program c.args.roots.now.limit (view_in (g.S.Store.storage c.args.store.now) c.args.roots.now.roots) (λ kind. c.args.special))) c.in-Method.is
    ∙ null_receiver program method (g.S.Store.storage c.args.store.now).index (g.S.Store.storage c.args.store.now).kept c.args.roots.now.roots count c.parameter_count-count.ensures is c.reference_at.result c.reference_at.ensures c.if-reference_at-eq0.true c.args.roots.now.limit (λ kind. c.args.special)

pub calls-requires-clause-there : goal.calls-requires-clause-there
calls-requires-clause-there g c =
    let program = c.args.program.now in
    let method = c.in-Method.method in
    let count = c.parameter_count-count.result in
    let is =
    receiver_taken program method (g.S.Store.storage c.args.store.now).index (g.S.Store.storage c.args.store.now).kept c.args.roots.now.roots count c.parameter_count-count.ensures c.args.roots.now.limit (λ kind. c.args.special)
    (ap (λ named. is_some (on_method (receiver_deed program c.args.roots.now.limit (view_in (g.S.Store.storage c.args.store.now) c.args.roots.now.roots) (λ kind. c.args.special)) named)) (sym c.in-Method.is) ∙ c.requires.there) in
    ap is_some (sym (ap (on_method (receiver_deed program c.args.roots.now.limit (view_in (g.S.Store.storage c.args.store.now) c.args.roots.now.roots) (λ kind. c.args.special))) c.in-Method.is
    ∙ special_receiver program method (g.S.Store.storage c.args.store.now).index (g.S.Store.storage c.args.store.now).kept c.args.roots.now.roots count c.parameter_count-count.ensures is c.reference_at.result c.reference_at.ensures c.requires.held c.if-reference_at-eq0.false c.args.special c.args.roots.now.limit))
    ∙ c.requires.there

pub calls-requires-clause-few : goal.calls-requires-clause-few
calls-requires-clause-few g c =
    let program = c.args.program.now in
    let method = c.in-Method.method in
    let count = c.parameter_count-count.result in
    let is =
    receiver_taken program method (g.S.Store.storage c.args.store.now).index (g.S.Store.storage c.args.store.now).kept c.args.roots.now.roots count c.parameter_count-count.ensures c.args.roots.now.limit (λ kind. c.args.special)
    (ap (λ named. is_some (on_method (receiver_deed program c.args.roots.now.limit (view_in (g.S.Store.storage c.args.store.now) c.args.roots.now.roots) (λ kind. c.args.special)) named)) (sym c.in-Method.is) ∙ c.requires.there) in
    receiver_count program method (g.S.Store.storage c.args.store.now).index (g.S.Store.storage c.args.store.now).kept c.args.roots.now.roots count c.parameter_count-count.ensures is

pub calls-requires-clause-fit : goal.calls-requires-clause-fit
calls-requires-clause-fit g c = λ called number numbered body low there has each.
    let program = c.args.program.now in
    let method = c.in-Method.method in
    let count = c.parameter_count-count.result in
    let is =
    receiver_taken program method (g.S.Store.storage c.args.store.now).index (g.S.Store.storage c.args.store.now).kept c.args.roots.now.roots count c.parameter_count-count.ensures c.args.roots.now.limit (λ kind. c.args.special)
    (ap (λ named. is_some (on_method (receiver_deed program c.args.roots.now.limit (view_in (g.S.Store.storage c.args.store.now) c.args.roots.now.roots) (λ kind. c.args.special)) named)) (sym c.in-Method.is) ∙ c.requires.there) in
    c.requires.fit called number numbered body low there has
    (λ limit. ap (on_method (receiver_deed program limit (view_in (g.S.Store.storage c.args.store.now) c.args.roots.now.roots) (λ kind. c.args.special))) c.in-Method.is
    ∙ special_receiver program method (g.S.Store.storage c.args.store.now).index (g.S.Store.storage c.args.store.now).kept c.args.roots.now.roots count c.parameter_count-count.ensures is c.reference_at.result c.reference_at.ensures c.requires.held c.if-reference_at-eq0.false c.args.special limit
    ∙ each limit)

pub returns-clause-deed : goal.returns-clause-deed
returns-clause-deed g c =
    let program = c.args.program.now in
    let method = c.in-Method.method in
    let count = c.parameter_count-count.result in
    let is =
    receiver_taken program method (g.S.Store.storage c.args.store.now).index (g.S.Store.storage c.args.store.now).kept c.args.roots.now.roots count c.parameter_count-count.ensures c.args.roots.now.limit (λ kind. c.args.special)
    (ap (λ named. is_some (on_method (receiver_deed program c.args.roots.now.limit (view_in (g.S.Store.storage c.args.store.now) c.args.roots.now.roots) (λ kind. c.args.special)) named)) (sym c.in-Method.is) ∙ c.requires.there) in
    ap (on_method (receiver_deed program c.args.roots.now.limit (view_in (g.S.Store.storage c.args.store.now) c.args.roots.now.roots) (λ kind. c.args.special))) c.in-Method.is
    ∙ special_receiver program method (g.S.Store.storage c.args.store.now).index (g.S.Store.storage c.args.store.now).kept c.args.roots.now.roots count c.parameter_count-count.ensures is c.reference_at.result c.reference_at.ensures c.requires.held c.if-reference_at-eq0.false c.args.special c.args.roots.now.limit
    ∙ c.calls.ensures.deed
