use Rattle.std.proofs.Common.{◌≡◌, ◌<◌, ◌+◌, ◌∙◌, arith, ap, subst, sym, refl, get_or, length}
use Rattle.std.proofs.lemmas.List.{get_or_read}
use Rattle.std.proofs.lemmas.List.Sums.{get_or-le-sum_by}
use Rattle.std.proofs.lemmas.Option.{get_or_from_slice_get}
use Rattle.cb_plain.specs.Amounts.{Amounts}
use Rattle.cb_plain.specs.Flows.{with_source}
use Rattle.cb_flow.specs.Visits.{CanCarry, IsMoving, carried, no_visit, parent_of, visit_at}
use Rattle.cb_flow.specs.declared.visit.Visit.{Visit}
use Rattle.cb_flow.proofs.Moved.{arrived, can_carry, first_move, flows_little, moved, no_parent, small_amount, some_amount}
use Rattle.cb_flow.proofs.Visiting.{count_room}
use Rattle.cb_flow.proofs.moving.flow_along.Goals as goal

pub loop-parent-init : goal.loop-parent-init
loop-parent-init c =
    let low : c.args.at < length c.args.search.now.visits.items = omega (arith, c.requires.visit.low, count_room c.args.search.now.seen.items _ c.requires.visit.search.counted, c.requires.visit.search.seen_each, c.requires.visit.search.visit_each) in
    let is = get_or_read c.args.search.now.visits.items c.args.at c.index-visit.result.now low c.index-visit.ensures no_visit in
    first_move c.args.gains.now c.args.graph.now.edges c.args.flow.now c.args.search.now.visits.items c.args.search.now.count c.args.search.now.seen.items c.args.at c.requires.visit c.requires.held c.args.graph.now.parts c.requires.gains c.index-visit.result.now is
    c.sink-flows.result c.negative_part.result c.min-amount.result c.sink-flows.ensures c.negative_part.ensures c.min-amount.ensures c.set_sink.new.self c.set_sink.ensures

pub carry-requires : goal.carry-requires
carry-requires c =
    let most = count_room c.args.search.now.seen.items _ c.requires.visit.search.counted in
    let low : c.args.at < length c.args.search.now.visits.items = omega (arith, c.requires.visit.low, most, c.requires.visit.search.seen_each, c.requires.visit.search.visit_each) in
    let was = get_or_read c.args.search.now.visits.items c.args.at c.index-visit.result.now low c.index-visit.ensures no_visit in
    let at : c.loop-parent.at < length c.args.search.now.visits.items = omega (arith, c.loop-parent.invariant.low, most, c.requires.visit.search.seen_each, c.requires.visit.search.visit_each) in
    let is = get_or_read c.args.search.now.visits.items c.loop-parent.at c.index.result.now at c.index.ensures no_visit in
    let small = small_amount c.args.gains.now c.args.graph.now.edges c.args.flow.now c.args.search.now.visits.items c.args.search.now.count c.args.search.now.seen.items c.args.at c.requires.visit c.requires.held c.args.graph.now.parts c.requires.gains c.index-visit.result.now was
    c.sink-flows.result c.negative_part.result c.min-amount.result c.sink-flows.ensures c.negative_part.ensures c.min-amount.ensures in
    subst (λ (v : Visit). CanCarry v.way v c.min-amount.result c.loop-parent.flow) (sym is)
    (can_carry c.args.gains.now c.args.graph.now.edges c.args.flow.now c.args.search.now.visits.items c.args.search.now.count c.args.search.now.seen.items c.requires.visit.search c.loop-parent.flow c.loop-parent.at c.min-amount.result c.loop-parent.invariant (visit_at c.args.search.now.visits.items c.loop-parent.at).way refl
    (flows_little c.args.gains.now c.args.graph.now.edges c.args.flow.now c.args.graph.now.parts c.min-amount.result c.requires.gains c.parts-parts.ensures.few_parts c.requires.held.is_flow small))

pub loop-parent-preserved : goal.loop-parent-preserved
loop-parent-preserved c =
    let most = count_room c.args.search.now.seen.items _ c.requires.visit.search.counted in
    let at : c.loop-parent.at < length c.args.search.now.visits.items = omega (arith, c.loop-parent.invariant.low, most, c.requires.visit.search.seen_each, c.requires.visit.search.visit_each) in
    let is = get_or_read c.args.search.now.visits.items c.loop-parent.at c.index.result.now at c.index.ensures no_visit in
    subst (λ (f : Amounts). IsMoving c.args.gains.now c.args.graph.now.edges c.args.flow.now f c.args.search.now.visits.items c.args.search.now.count c.in-Some.parent c.min-amount.result)
    (sym (c.carry.ensures.flow ∙ ap (λ (v : Visit). carried v.way v c.min-amount.result c.loop-parent.flow) is))
    (moved c.args.gains.now c.args.graph.now.edges c.args.flow.now c.args.search.now.visits.items c.args.search.now.count c.args.search.now.seen.items c.requires.visit.search c.loop-parent.flow c.loop-parent.at c.min-amount.result c.loop-parent.invariant (visit_at c.args.search.now.visits.items c.loop-parent.at).way c.in-Some.parent refl
    (sym (c.in-Some.ensures.parent ∙ ap (λ (v : Visit). parent_of v.way v) is)))

pub overflow_add-source : goal.overflow_add-source
overflow_add-source c =
    let most = count_room c.args.search.now.seen.items _ c.requires.visit.search.counted in
    let low : c.args.at < length c.args.search.now.visits.items = omega (arith, c.requires.visit.low, most, c.requires.visit.search.seen_each, c.requires.visit.search.visit_each) in
    let was = get_or_read c.args.search.now.visits.items c.args.at c.index-visit.result.now low c.index-visit.ensures no_visit in
    let at : c.loop-parent.at < length c.args.search.now.visits.items = omega (arith, c.loop-parent.invariant.low, most, c.requires.visit.search.seen_each, c.requires.visit.search.visit_each) in
    let is = get_or_read c.args.search.now.visits.items c.loop-parent.at c.index.result.now at c.index.ensures no_visit in
    let last = get_or_read c.args.search.now.visits.items c.loop-parent.at c.index-2.result.now at c.index-2.ensures no_visit in
    let source = no_parent (visit_at c.args.search.now.visits.items c.loop-parent.at).way (visit_at c.args.search.now.visits.items c.loop-parent.at)
    (c.in_default.ensures.parent ∙ ap (λ (v : Visit). parent_of v.way v) is) in
    let same : c.carry.new.flow ≡ c.loop-parent.flow =
    c.carry.ensures.flow ∙ ap (λ (v : Visit). carried v.way v c.min-amount.result c.loop-parent.flow) is
    ∙ ap (λ way. carried way (visit_at c.args.search.now.visits.items c.loop-parent.at) c.min-amount.result c.loop-parent.flow) source in
    let part = ap (λ (v : Visit). v.part) last in
    let read : get_or c.args.flow.now.sources (visit_at c.args.search.now.visits.items c.loop-parent.at).part 0 ≡ c.source.result =
    ap (λ all. get_or all (visit_at c.args.search.now.visits.items c.loop-parent.at).part 0) (sym (ap (λ (f : Amounts). f.sources) same ∙ c.loop-parent.invariant.sources))
    ∙ ap (λ n. get_or c.carry.new.flow.sources n 0) (sym part)
    ∙ get_or_from_slice_get c.carry.new.flow.sources c.index-2.result.now.part c.source.result 0 c.source.ensures in
    let small = small_amount c.args.gains.now c.args.graph.now.edges c.args.flow.now c.args.search.now.visits.items c.args.search.now.count c.args.search.now.seen.items c.args.at c.requires.visit c.requires.held c.args.graph.now.parts c.requires.gains c.index-visit.result.now was
    c.sink-flows.result c.negative_part.result c.min-amount.result c.sink-flows.ensures c.negative_part.ensures c.min-amount.ensures in
    let little = flows_little c.args.gains.now c.args.graph.now.edges c.args.flow.now c.args.graph.now.parts c.min-amount.result c.requires.gains c.parts-parts.ensures.few_parts c.requires.held.is_flow small in
    let within = (c.requires.visit.search.are c.loop-parent.at c.loop-parent.invariant.low).within in
    let below = get_or-le-sum_by (λ x. x) c.args.flow.now.sources (visit_at c.args.search.now.visits.items c.loop-parent.at).part 0 (omega (arith, within, c.requires.held.is_flow.source_each)) in
    omega (arith, read, little, below)

pub returns : goal.returns
returns c =
    let most = count_room c.args.search.now.seen.items _ c.requires.visit.search.counted in
    let low : c.args.at < length c.args.search.now.visits.items = omega (arith, c.requires.visit.low, most, c.requires.visit.search.seen_each, c.requires.visit.search.visit_each) in
    let was = get_or_read c.args.search.now.visits.items c.args.at c.index-visit.result.now low c.index-visit.ensures no_visit in
    let at : c.loop-parent.at < length c.args.search.now.visits.items = omega (arith, c.loop-parent.invariant.low, most, c.requires.visit.search.seen_each, c.requires.visit.search.visit_each) in
    let is = get_or_read c.args.search.now.visits.items c.loop-parent.at c.index.result.now at c.index.ensures no_visit in
    let last = get_or_read c.args.search.now.visits.items c.loop-parent.at c.index-2.result.now at c.index-2.ensures no_visit in
    let source = no_parent (visit_at c.args.search.now.visits.items c.loop-parent.at).way (visit_at c.args.search.now.visits.items c.loop-parent.at)
    (c.in_default.ensures.parent ∙ ap (λ (v : Visit). parent_of v.way v) is) in
    let same : c.carry.new.flow ≡ c.loop-parent.flow =
    c.carry.ensures.flow ∙ ap (λ (v : Visit). carried v.way v c.min-amount.result c.loop-parent.flow) is
    ∙ ap (λ way. carried way (visit_at c.args.search.now.visits.items c.loop-parent.at) c.min-amount.result c.loop-parent.flow) source in
    let part = ap (λ (v : Visit). v.part) last in
    let read : get_or c.args.flow.now.sources (visit_at c.args.search.now.visits.items c.loop-parent.at).part 0 ≡ c.source.result =
    ap (λ all. get_or all (visit_at c.args.search.now.visits.items c.loop-parent.at).part 0) (sym (ap (λ (f : Amounts). f.sources) same ∙ c.loop-parent.invariant.sources))
    ∙ ap (λ n. get_or c.carry.new.flow.sources n 0) (sym part)
    ∙ get_or_from_slice_get c.carry.new.flow.sources c.index-2.result.now.part c.source.result 0 c.source.ensures in
    arrived c.args.gains.now c.args.graph.now.edges c.args.flow.now c.args.search.now.visits.items c.args.search.now.count c.args.search.now.seen.items c.requires.visit.search c.loop-parent.flow c.loop-parent.at c.min-amount.result c.loop-parent.invariant c.requires.held.is_flow source
    (some_amount c.args.gains.now c.args.graph.now.edges c.args.flow.now c.args.search.now.visits.items c.args.search.now.count c.args.search.now.seen.items c.args.at c.requires.visit c.requires.held c.args.graph.now.parts c.requires.gains c.index-visit.result.now was
    c.sink-flows.result c.negative_part.result c.min-amount.result c.sink-flows.ensures c.negative_part.ensures c.min-amount.ensures)
    c.set_source.new.self
    (c.set_source.ensures
    ∙ ap (λ (f : Amounts). with_source f c.index-2.result.now.part (c.source.result + c.min-amount.result)) same
    ∙ ap (λ n. with_source c.loop-parent.flow n (c.source.result + c.min-amount.result)) part
    ∙ ap (λ n. with_source c.loop-parent.flow (visit_at c.args.search.now.visits.items c.loop-parent.at).part (n + c.min-amount.result)) (sym read))
