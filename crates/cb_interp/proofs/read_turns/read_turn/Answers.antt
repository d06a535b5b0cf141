use Rattle.cb_heap.specs.Storage.{view_in}
use Rattle.std.proofs.Common.{refl, rules}
use Rattle.cb_act.specs.Turning.{machine_of, moment_of, state_of}
use Rattle.cb_interp.proofs.NativeTurns.{asks_same}
use Rattle.cb_interp.proofs.RunCounts.{counts_as, counts_none}
use Rattle.cb_interp.proofs.RunReads.{fails_read, never_room}
use Rattle.cb_interp.proofs.TurnsNativeRead.{reads_other}
use Rattle.cb_interp.proofs.read_turns.read_turn.Goals as goal

pub range_turn-requires : goal.range_turn-requires
range_turn-requires g c κs within =
    (search rules, (search rules, (c.requires.1.1.0, (c.requires.1.1.1.0, asks_same (reads_other c.args.native c.requires.1.1.1.1.1 c.in_default.not-ReadByte) c.requires.1.1.1.1.0))))

pub returns-in-ReadByte-clause-stopped : goal.returns-in-ReadByte-clause-stopped
returns-in-ReadByte-clause-stopped g c =
    fails_read g.S.Store.rules (machine_of c.args.program.now c.args.roots.now.limit)
    (moment_of (view_in (g.S.Store.storage c.args.store.now) c.args.roots.now.roots) g.outside (g.S.Store.storage c.args.store.now).facts)
    (moment_of (view_in (g.S.Store.storage c.args.store.now) c.byte_turn.new.roots.roots) g.outside (g.S.Store.storage c.args.store.now).facts)
    refl c.byte_turn.result c.byte_turn.ensures.fails

pub returns-in-ReadByte-clause-counted : goal.returns-in-ReadByte-clause-counted
returns-in-ReadByte-clause-counted g c =
    counts_as (g.S.Store.storage c.args.store.now).faults (g.S.Store.storage c.args.store.now).faults (λ never. absurd never)
    (never_room (machine_of c.args.program.now c.args.roots.now.limit) (state_of (view_in (g.S.Store.storage c.args.store.now) c.args.roots.now.roots) g.outside) c.byte_turn.result c.byte_turn.ensures.fails)
    (counts_none (g.S.Store.storage c.args.store.now).faults)
