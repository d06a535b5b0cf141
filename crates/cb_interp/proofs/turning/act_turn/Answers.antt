use Rattle.cb_heap.specs.Storage.{view_in}
use Rattle.std.proofs.Common.{ap}
use Rattle.std.specs.Prelude.{is_some}
use Rattle.cb_act.specs.Turning.{machine_of, state_of}
use Rattle.cb_interp.proofs.LinkedFew.{lists_methods}
use Rattle.cb_interp.proofs.TurnsActed.{acted_need, acted_turn}
use Rattle.cb_interp.proofs.TypedActs.{may_do, typed_acts, typed_suits}
use Rattle.cb_interp.proofs.turning.act_turn.Goals as goal

pub act-requires-clause-there : goal.act-requires-clause-there
act-requires-clause-there g c =
    let machine = machine_of c.args.program.now c.args.roots.now.limit in
    let state = state_of (view_in (g.S.Store.storage c.args.store.now) c.args.roots.now.roots) g.outside in
    ap is_some (typed_acts machine state c.args.decoded.now c.requires.1.0 c.requires.1.1.0 c.requires.1.1.1.0 c.requires.1.1.1.1.0).done

pub act-requires-clause-listed : goal.act-requires-clause-listed
act-requires-clause-listed g c = lists_methods c.args.program.now c.requires.1.1.0

pub act-requires-clause-suited : goal.act-requires-clause-suited
act-requires-clause-suited g c =
    let machine = machine_of c.args.program.now c.args.roots.now.limit in
    let state = state_of (view_in (g.S.Store.storage c.args.store.now) c.args.roots.now.roots) g.outside in
    typed_suits machine state c.args.decoded.now c.requires.1.0 c.requires.1.1.0 c.requires.1.1.1.0 c.requires.1.1.1.1.0

pub act-requires-clause-follows : goal.act-requires-clause-follows
act-requires-clause-follows g c =
    let machine = machine_of c.args.program.now c.args.roots.now.limit in
    let state = state_of (view_in (g.S.Store.storage c.args.store.now) c.args.roots.now.roots) g.outside in
    may_do machine state c.args.decoded.now c.requires.1.0 c.requires.1.1.0 c.requires.1.1.1.0 c.requires.1.1.1.1.0 (g.S.Store.storage c.args.store.now).settings.allows c.requires.1.1.1.1.1.0

pub returns-clause-made : goal.returns-clause-made
returns-clause-made g c =
    let machine = machine_of c.args.program.now c.args.roots.now.limit in
    let view = view_in (g.S.Store.storage c.args.store.now) c.args.roots.now.roots in
    let after = view_in (g.S.Store.storage c.act.new.store) c.act.new.roots.roots in
    let acts = typed_acts machine (state_of view g.outside) c.args.decoded.now c.requires.1.0 c.requires.1.1.0 c.requires.1.1.1.0 c.requires.1.1.1.1.0 in
    acted_turn machine view after g.outside c.args.decoded.now c.requires.1.0 acts c.act.result c.act.ensures.deed g.S.Store.rules (g.S.Store.storage c.args.store.now).facts (g.S.Store.storage c.act.new.store).facts c.act.ensures.facts

pub returns-clause-needs : goal.returns-clause-needs
returns-clause-needs g c =
    let machine = machine_of c.args.program.now c.args.roots.now.limit in
    let view = view_in (g.S.Store.storage c.args.store.now) c.args.roots.now.roots in
    let after = view_in (g.S.Store.storage c.act.new.store) c.act.new.roots.roots in
    let acts = typed_acts machine (state_of view g.outside) c.args.decoded.now c.requires.1.0 c.requires.1.1.0 c.requires.1.1.1.0 c.requires.1.1.1.1.0 in
    acted_need machine view after g.outside c.args.decoded.now c.requires.1.0 acts c.act.result c.act.ensures.deed
