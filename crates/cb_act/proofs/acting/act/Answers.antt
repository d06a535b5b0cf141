use Rattle.std.proofs.Common.{subst}
use Rattle.std.specs.Prelude.{option_and_then}
use Rattle.cb_heap.specs.Storage.{view_in}
use Rattle.cb_act.specs.Acting.{acted_as}
use Rattle.cb_act.specs.Suited.{MayDo}
use Rattle.cb_act.proofs.acting.act.Goals as goal

pub act_on_data-requires-clause-follows : goal.act_on_data-requires-clause-follows
act_on_data-requires-clause-follows g c =
    let view = view_in (g.S.Store.storage c.args.store.now) c.args.roots.now.roots in
    subst (λ found. MayDo (g.S.Store.storage c.args.store.now).settings.allows (option_and_then (acted_as c.args.program.now c.args.roots.now.limit c.args.decoded.now view) found)) c.in-Some.is c.requires.follows
