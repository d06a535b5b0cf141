use Rattle.cb_heap.specs.Reading.{serial_of}
use Rattle.cb_natives.specs.MakingOwn.{call_of}
use Rattle.cb_natives.specs.Pieces.{piece_units}
use Rattle.cb_natives.proofs.OwnHolding.{decided_as}
use Rattle.cb_natives.proofs.OwnNatives.{appends_held}
use Rattle.cb_natives.proofs.own_appending.append.Goals as goal

pub hold-requires-clause-may : goal.hold-requires-clause-may
hold-requires-clause-may g c = c.requires.may.may (serial_of (g.S.Store.storage c.args.store.now).index c.built_at-built.result.array) c.built_at-built.result.count

pub returns : goal.returns
returns g c =
    let program = c.args.program.now in
    let objects = (g.S.Store.storage c.args.store.now).kept in
    let index = (g.S.Store.storage c.args.store.now).index in
    decided_as c.hold.ensures
    (λ frames beside. appends_held (call_of program objects frames beside) index (serial_of index c.args.at) c.built_at-built.result (piece_units program objects index c.args.piece.now) c.built_at-built.ensures)
