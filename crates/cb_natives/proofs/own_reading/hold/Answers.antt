use Rattle.std.proofs.Common.{◌≡◌, ◌+◌, ◌<◌, ◌^◌, arith, length}
use Rattle.cb_natives.specs.Pieces.{piece_units}
use Rattle.cb_natives.proofs.OwnHolding.{held_long, held_so}
use Rattle.cb_natives.proofs.own_reading.hold.Goals as goal

pub returns-then-count-from : goal.returns-then-count-from
returns-then-count-from g c =
    let program = c.args.program.now in
    let objects = (g.S.Store.storage c.args.store.now).kept in
    let index = (g.S.Store.storage c.args.store.now).index in
    let count = c.from.result + c.piece_size.result in
    let from = c.from.ensures in
    let size = c.piece_size.ensures.is in
    let same : c.args.kept + length (piece_units program objects index c.args.piece.now) ≡ count = omega (arith, from, size) in
    held_long program objects index c.args.at c.args.gives c.args.built.now c.requires.built c.args.kept c.requires.within c.args.piece.now c.requires.piece c.requires.may count same
    (let most = c.from-2.ensures in let long = c.if-count-from.true in omega (arith, most, long))

pub returns : goal.returns
returns g c =
    let program = c.args.program.now in
    let objects = (g.S.Store.storage c.args.store.now).kept in
    let index = (g.S.Store.storage c.args.store.now).index in
    let count = c.from.result + c.piece_size.result in
    let from = c.from.ensures in
    let size = c.piece_size.ensures.is in
    let same : c.args.kept + length (piece_units program objects index c.args.piece.now) ≡ count = omega (arith, from, size) in
    let few : count < 2 ^ 31 = (let most = c.from-2.ensures in let short = c.if-count-from.false in omega (arith, most, short)) in
    rw (c.rebuilt.ensures)
    (held_so program objects index c.args.at c.args.gives c.args.built.now c.requires.built c.args.kept c.requires.within c.args.piece.now c.requires.piece c.requires.may count same few)
