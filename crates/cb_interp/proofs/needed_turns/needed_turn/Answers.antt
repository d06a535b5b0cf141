use Rattle.std.proofs.Common.{◌∙◌, ap, sym, rules, Some}
use Rattle.cb_act.specs.Acting.{Asks}
use Rattle.cb_act.specs.Turning.{machine_of, state_of}
use Rattle.cb_heap.specs.Storage.{view_in}
use Rattle.cb_interp.proofs.NativeTurns.{never_none}
use Rattle.cb_interp.proofs.RunSteps.{silent_ends}
use Rattle.cb_interp.proofs.Sweeps.{need_still}
use Rattle.cb_interp.proofs.TurnsNativeSaid.{native_low}
use Rattle.cb_interp.proofs.needed_turns.needed_turn.Goals as goal

pub returns-in_default : goal.returns-in_default
returns-in_default g c =
    silent_ends g.I.Source.left g.I.Source.gave g.S.Store.rules c.args.program.now g.outside (g.S.Store.storage c.args.store.now) (g.S.Store.storage c.need_turn.new.store) c.args.roots.now c.need_turn.new.roots c.args.input.now (g.I.Source.faults c.args.input.now) (g.O.Sink.taken c.args.out.now) (g.O.Sink.faults c.args.out.now) c.need_turn.result
    (need_still (machine_of c.args.program.now c.args.roots.now.limit) (state_of (view_in (g.S.Store.storage c.args.store.now) c.args.roots.now.roots) g.outside) c.args.decoded.now c.requires.1.1.1.1.0 c.args.need c.requires.1.1.1.1.1.0 c.in_default.not-Performs)
    c.need_turn.ensures

pub native_of-requires : goal.native_of-requires
native_of-requires g c =
    native_low c.args.program.now (g.S.Store.storage c.args.store.now).index (g.S.Store.storage c.args.store.now).kept c.args.roots.now.limit c.args.roots.now.roots g.outside c.args.decoded.now c.in-Performs.method
    c.requires.1.1.1.1.0 (c.requires.1.1.1.1.1.0 ∙ ap (λ need. Some (Asks need)) c.in-Performs.is)

pub unreachable-requires : goal.unreachable-requires
unreachable-requires g c =
    never_none (machine_of c.args.program.now c.args.roots.now.limit) (state_of (view_in (g.S.Store.storage c.args.store.now) c.args.roots.now.roots) g.outside) c.args.decoded.now c.requires.1.1.1.1.0 c.in-Performs.method
    (c.requires.1.1.1.1.1.0 ∙ ap (λ need. Some (Asks need)) c.in-Performs.is) (sym c.native_of.ensures ∙ c.in_default-native_of.is)

pub performed_turn-requires : goal.performed_turn-requires
performed_turn-requires g c κs within =
    (search rules, (search rules, (search rules, (c.requires.1.1.1.0, (c.requires.1.1.1.1.0, record { method = c.in-Performs.method; asked = c.requires.1.1.1.1.1.0 ∙ ap (λ need. Some (Asks need)) c.in-Performs.is; is = sym c.native_of.ensures ∙ c.in-Some.is })))))
