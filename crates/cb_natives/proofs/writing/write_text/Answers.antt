use Rattle.std.proofs.Common.{◌++◌}
use Rattle.cb_heap.specs.Reading.{serial_of}
use Rattle.cb_natives.specs.Pieces.{piece_units}
use Rattle.cb_natives.proofs.Writes.{IsTarget}
use Rattle.cb_natives.proofs.WritesOn.{Wrote, second_can, second_wrote, third_can, third_wrote}
use Rattle.cb_natives.proofs.writing.write_text.Goals as goal

pub write_piece-third-requires-clause-there : goal.write_piece-third-requires-clause-there
write_piece-third-requires-clause-there g c =
    let program = c.args.program.now in
    let objects = (g.S.Store.storage c.args.store.now).kept in
    let index = (g.S.Store.storage c.args.store.now).index in
    let text = c.args.text.now in
    let one = piece_units program objects index text.first in
    let two = piece_units program objects index text.second in
    let target : IsTarget objects (serial_of index c.args.to) = record { there = c.requires.there; numbers = c.requires.numbers; few = c.requires.few } in
    let first : Wrote objects index c.args.to c.args.from one (g.S.Store.storage c.write_piece-second.new.store).kept (g.S.Store.storage c.write_piece-second.new.store).index c.write_piece-second.result =
    record { kept = c.write_piece-second.ensures.kept; places = c.write_piece-second.ensures.places; ends = c.write_piece-second.ensures.end } in
    (second_can program objects index c.args.to c.args.from text target c.requires.text c.requires.apart c.requires.room (g.S.Store.storage c.write_piece-second.new.store).kept (g.S.Store.storage c.write_piece-second.new.store).index c.write_piece-second.result first).target.there

pub write_piece-third-requires-clause-numbers : goal.write_piece-third-requires-clause-numbers
write_piece-third-requires-clause-numbers g c =
    let program = c.args.program.now in
    let objects = (g.S.Store.storage c.args.store.now).kept in
    let index = (g.S.Store.storage c.args.store.now).index in
    let text = c.args.text.now in
    let one = piece_units program objects index text.first in
    let two = piece_units program objects index text.second in
    let target : IsTarget objects (serial_of index c.args.to) = record { there = c.requires.there; numbers = c.requires.numbers; few = c.requires.few } in
    let first : Wrote objects index c.args.to c.args.from one (g.S.Store.storage c.write_piece-second.new.store).kept (g.S.Store.storage c.write_piece-second.new.store).index c.write_piece-second.result =
    record { kept = c.write_piece-second.ensures.kept; places = c.write_piece-second.ensures.places; ends = c.write_piece-second.ensures.end } in
    (second_can program objects index c.args.to c.args.from text target c.requires.text c.requires.apart c.requires.room (g.S.Store.storage c.write_piece-second.new.store).kept (g.S.Store.storage c.write_piece-second.new.store).index c.write_piece-second.result first).target.numbers

pub write_piece-third-requires-clause-piece : goal.write_piece-third-requires-clause-piece
write_piece-third-requires-clause-piece g c =
    let program = c.args.program.now in
    let objects = (g.S.Store.storage c.args.store.now).kept in
    let index = (g.S.Store.storage c.args.store.now).index in
    let text = c.args.text.now in
    let one = piece_units program objects index text.first in
    let two = piece_units program objects index text.second in
    let target : IsTarget objects (serial_of index c.args.to) = record { there = c.requires.there; numbers = c.requires.numbers; few = c.requires.few } in
    let first : Wrote objects index c.args.to c.args.from one (g.S.Store.storage c.write_piece-second.new.store).kept (g.S.Store.storage c.write_piece-second.new.store).index c.write_piece-second.result =
    record { kept = c.write_piece-second.ensures.kept; places = c.write_piece-second.ensures.places; ends = c.write_piece-second.ensures.end } in
    (second_can program objects index c.args.to c.args.from text target c.requires.text c.requires.apart c.requires.room (g.S.Store.storage c.write_piece-second.new.store).kept (g.S.Store.storage c.write_piece-second.new.store).index c.write_piece-second.result first).is

pub write_piece-third-requires-clause-may : goal.write_piece-third-requires-clause-may
write_piece-third-requires-clause-may g c =
    let program = c.args.program.now in
    let objects = (g.S.Store.storage c.args.store.now).kept in
    let index = (g.S.Store.storage c.args.store.now).index in
    let text = c.args.text.now in
    let one = piece_units program objects index text.first in
    let two = piece_units program objects index text.second in
    let target : IsTarget objects (serial_of index c.args.to) = record { there = c.requires.there; numbers = c.requires.numbers; few = c.requires.few } in
    let first : Wrote objects index c.args.to c.args.from one (g.S.Store.storage c.write_piece-second.new.store).kept (g.S.Store.storage c.write_piece-second.new.store).index c.write_piece-second.result =
    record { kept = c.write_piece-second.ensures.kept; places = c.write_piece-second.ensures.places; ends = c.write_piece-second.ensures.end } in
    (second_can program objects index c.args.to c.args.from text target c.requires.text c.requires.apart c.requires.room (g.S.Store.storage c.write_piece-second.new.store).kept (g.S.Store.storage c.write_piece-second.new.store).index c.write_piece-second.result first).may

pub write_piece-third-requires-clause-room : goal.write_piece-third-requires-clause-room
write_piece-third-requires-clause-room g c =
    let program = c.args.program.now in
    let objects = (g.S.Store.storage c.args.store.now).kept in
    let index = (g.S.Store.storage c.args.store.now).index in
    let text = c.args.text.now in
    let one = piece_units program objects index text.first in
    let two = piece_units program objects index text.second in
    let target : IsTarget objects (serial_of index c.args.to) = record { there = c.requires.there; numbers = c.requires.numbers; few = c.requires.few } in
    let first : Wrote objects index c.args.to c.args.from one (g.S.Store.storage c.write_piece-second.new.store).kept (g.S.Store.storage c.write_piece-second.new.store).index c.write_piece-second.result =
    record { kept = c.write_piece-second.ensures.kept; places = c.write_piece-second.ensures.places; ends = c.write_piece-second.ensures.end } in
    (second_can program objects index c.args.to c.args.from text target c.requires.text c.requires.apart c.requires.room (g.S.Store.storage c.write_piece-second.new.store).kept (g.S.Store.storage c.write_piece-second.new.store).index c.write_piece-second.result first).room

pub write_piece-third-requires-clause-few : goal.write_piece-third-requires-clause-few
write_piece-third-requires-clause-few g c =
    let program = c.args.program.now in
    let objects = (g.S.Store.storage c.args.store.now).kept in
    let index = (g.S.Store.storage c.args.store.now).index in
    let text = c.args.text.now in
    let one = piece_units program objects index text.first in
    let two = piece_units program objects index text.second in
    let target : IsTarget objects (serial_of index c.args.to) = record { there = c.requires.there; numbers = c.requires.numbers; few = c.requires.few } in
    let first : Wrote objects index c.args.to c.args.from one (g.S.Store.storage c.write_piece-second.new.store).kept (g.S.Store.storage c.write_piece-second.new.store).index c.write_piece-second.result =
    record { kept = c.write_piece-second.ensures.kept; places = c.write_piece-second.ensures.places; ends = c.write_piece-second.ensures.end } in
    (second_can program objects index c.args.to c.args.from text target c.requires.text c.requires.apart c.requires.room (g.S.Store.storage c.write_piece-second.new.store).kept (g.S.Store.storage c.write_piece-second.new.store).index c.write_piece-second.result first).target.few

pub write_piece-requires-clause-there : goal.write_piece-requires-clause-there
write_piece-requires-clause-there g c =
    let program = c.args.program.now in
    let objects = (g.S.Store.storage c.args.store.now).kept in
    let index = (g.S.Store.storage c.args.store.now).index in
    let text = c.args.text.now in
    let one = piece_units program objects index text.first in
    let two = piece_units program objects index text.second in
    let target : IsTarget objects (serial_of index c.args.to) = record { there = c.requires.there; numbers = c.requires.numbers; few = c.requires.few } in
    let first : Wrote objects index c.args.to c.args.from one (g.S.Store.storage c.write_piece-second.new.store).kept (g.S.Store.storage c.write_piece-second.new.store).index c.write_piece-second.result =
    record { kept = c.write_piece-second.ensures.kept; places = c.write_piece-second.ensures.places; ends = c.write_piece-second.ensures.end } in
    let second : Wrote objects index c.args.to c.args.from (one ++ two) (g.S.Store.storage c.write_piece-third.new.store).kept (g.S.Store.storage c.write_piece-third.new.store).index c.write_piece-third.result =
    second_wrote program objects index c.args.to c.args.from text target c.requires.text c.requires.apart c.requires.room (g.S.Store.storage c.write_piece-second.new.store).kept (g.S.Store.storage c.write_piece-second.new.store).index c.write_piece-second.result
    (g.S.Store.storage c.write_piece-third.new.store).kept (g.S.Store.storage c.write_piece-third.new.store).index c.write_piece-third.result first c.write_piece-third.ensures.kept c.write_piece-third.ensures.places c.write_piece-third.ensures.end in
    (third_can program objects index c.args.to c.args.from text target c.requires.text c.requires.apart c.requires.room (g.S.Store.storage c.write_piece-third.new.store).kept (g.S.Store.storage c.write_piece-third.new.store).index c.write_piece-third.result second).target.there

pub write_piece-requires-clause-numbers : goal.write_piece-requires-clause-numbers
write_piece-requires-clause-numbers g c =
    let program = c.args.program.now in
    let objects = (g.S.Store.storage c.args.store.now).kept in
    let index = (g.S.Store.storage c.args.store.now).index in
    let text = c.args.text.now in
    let one = piece_units program objects index text.first in
    let two = piece_units program objects index text.second in
    let target : IsTarget objects (serial_of index c.args.to) = record { there = c.requires.there; numbers = c.requires.numbers; few = c.requires.few } in
    let first : Wrote objects index c.args.to c.args.from one (g.S.Store.storage c.write_piece-second.new.store).kept (g.S.Store.storage c.write_piece-second.new.store).index c.write_piece-second.result =
    record { kept = c.write_piece-second.ensures.kept; places = c.write_piece-second.ensures.places; ends = c.write_piece-second.ensures.end } in
    let second : Wrote objects index c.args.to c.args.from (one ++ two) (g.S.Store.storage c.write_piece-third.new.store).kept (g.S.Store.storage c.write_piece-third.new.store).index c.write_piece-third.result =
    second_wrote program objects index c.args.to c.args.from text target c.requires.text c.requires.apart c.requires.room (g.S.Store.storage c.write_piece-second.new.store).kept (g.S.Store.storage c.write_piece-second.new.store).index c.write_piece-second.result
    (g.S.Store.storage c.write_piece-third.new.store).kept (g.S.Store.storage c.write_piece-third.new.store).index c.write_piece-third.result first c.write_piece-third.ensures.kept c.write_piece-third.ensures.places c.write_piece-third.ensures.end in
    (third_can program objects index c.args.to c.args.from text target c.requires.text c.requires.apart c.requires.room (g.S.Store.storage c.write_piece-third.new.store).kept (g.S.Store.storage c.write_piece-third.new.store).index c.write_piece-third.result second).target.numbers

pub write_piece-requires-clause-piece : goal.write_piece-requires-clause-piece
write_piece-requires-clause-piece g c =
    let program = c.args.program.now in
    let objects = (g.S.Store.storage c.args.store.now).kept in
    let index = (g.S.Store.storage c.args.store.now).index in
    let text = c.args.text.now in
    let one = piece_units program objects index text.first in
    let two = piece_units program objects index text.second in
    let target : IsTarget objects (serial_of index c.args.to) = record { there = c.requires.there; numbers = c.requires.numbers; few = c.requires.few } in
    let first : Wrote objects index c.args.to c.args.from one (g.S.Store.storage c.write_piece-second.new.store).kept (g.S.Store.storage c.write_piece-second.new.store).index c.write_piece-second.result =
    record { kept = c.write_piece-second.ensures.kept; places = c.write_piece-second.ensures.places; ends = c.write_piece-second.ensures.end } in
    let second : Wrote objects index c.args.to c.args.from (one ++ two) (g.S.Store.storage c.write_piece-third.new.store).kept (g.S.Store.storage c.write_piece-third.new.store).index c.write_piece-third.result =
    second_wrote program objects index c.args.to c.args.from text target c.requires.text c.requires.apart c.requires.room (g.S.Store.storage c.write_piece-second.new.store).kept (g.S.Store.storage c.write_piece-second.new.store).index c.write_piece-second.result
    (g.S.Store.storage c.write_piece-third.new.store).kept (g.S.Store.storage c.write_piece-third.new.store).index c.write_piece-third.result first c.write_piece-third.ensures.kept c.write_piece-third.ensures.places c.write_piece-third.ensures.end in
    (third_can program objects index c.args.to c.args.from text target c.requires.text c.requires.apart c.requires.room (g.S.Store.storage c.write_piece-third.new.store).kept (g.S.Store.storage c.write_piece-third.new.store).index c.write_piece-third.result second).is

pub write_piece-requires-clause-may : goal.write_piece-requires-clause-may
write_piece-requires-clause-may g c =
    let program = c.args.program.now in
    let objects = (g.S.Store.storage c.args.store.now).kept in
    let index = (g.S.Store.storage c.args.store.now).index in
    let text = c.args.text.now in
    let one = piece_units program objects index text.first in
    let two = piece_units program objects index text.second in
    let target : IsTarget objects (serial_of index c.args.to) = record { there = c.requires.there; numbers = c.requires.numbers; few = c.requires.few } in
    let first : Wrote objects index c.args.to c.args.from one (g.S.Store.storage c.write_piece-second.new.store).kept (g.S.Store.storage c.write_piece-second.new.store).index c.write_piece-second.result =
    record { kept = c.write_piece-second.ensures.kept; places = c.write_piece-second.ensures.places; ends = c.write_piece-second.ensures.end } in
    let second : Wrote objects index c.args.to c.args.from (one ++ two) (g.S.Store.storage c.write_piece-third.new.store).kept (g.S.Store.storage c.write_piece-third.new.store).index c.write_piece-third.result =
    second_wrote program objects index c.args.to c.args.from text target c.requires.text c.requires.apart c.requires.room (g.S.Store.storage c.write_piece-second.new.store).kept (g.S.Store.storage c.write_piece-second.new.store).index c.write_piece-second.result
    (g.S.Store.storage c.write_piece-third.new.store).kept (g.S.Store.storage c.write_piece-third.new.store).index c.write_piece-third.result first c.write_piece-third.ensures.kept c.write_piece-third.ensures.places c.write_piece-third.ensures.end in
    (third_can program objects index c.args.to c.args.from text target c.requires.text c.requires.apart c.requires.room (g.S.Store.storage c.write_piece-third.new.store).kept (g.S.Store.storage c.write_piece-third.new.store).index c.write_piece-third.result second).may

pub write_piece-requires-clause-room : goal.write_piece-requires-clause-room
write_piece-requires-clause-room g c =
    let program = c.args.program.now in
    let objects = (g.S.Store.storage c.args.store.now).kept in
    let index = (g.S.Store.storage c.args.store.now).index in
    let text = c.args.text.now in
    let one = piece_units program objects index text.first in
    let two = piece_units program objects index text.second in
    let target : IsTarget objects (serial_of index c.args.to) = record { there = c.requires.there; numbers = c.requires.numbers; few = c.requires.few } in
    let first : Wrote objects index c.args.to c.args.from one (g.S.Store.storage c.write_piece-second.new.store).kept (g.S.Store.storage c.write_piece-second.new.store).index c.write_piece-second.result =
    record { kept = c.write_piece-second.ensures.kept; places = c.write_piece-second.ensures.places; ends = c.write_piece-second.ensures.end } in
    let second : Wrote objects index c.args.to c.args.from (one ++ two) (g.S.Store.storage c.write_piece-third.new.store).kept (g.S.Store.storage c.write_piece-third.new.store).index c.write_piece-third.result =
    second_wrote program objects index c.args.to c.args.from text target c.requires.text c.requires.apart c.requires.room (g.S.Store.storage c.write_piece-second.new.store).kept (g.S.Store.storage c.write_piece-second.new.store).index c.write_piece-second.result
    (g.S.Store.storage c.write_piece-third.new.store).kept (g.S.Store.storage c.write_piece-third.new.store).index c.write_piece-third.result first c.write_piece-third.ensures.kept c.write_piece-third.ensures.places c.write_piece-third.ensures.end in
    (third_can program objects index c.args.to c.args.from text target c.requires.text c.requires.apart c.requires.room (g.S.Store.storage c.write_piece-third.new.store).kept (g.S.Store.storage c.write_piece-third.new.store).index c.write_piece-third.result second).room

pub write_piece-requires-clause-few : goal.write_piece-requires-clause-few
write_piece-requires-clause-few g c =
    let program = c.args.program.now in
    let objects = (g.S.Store.storage c.args.store.now).kept in
    let index = (g.S.Store.storage c.args.store.now).index in
    let text = c.args.text.now in
    let one = piece_units program objects index text.first in
    let two = piece_units program objects index text.second in
    let target : IsTarget objects (serial_of index c.args.to) = record { there = c.requires.there; numbers = c.requires.numbers; few = c.requires.few } in
    let first : Wrote objects index c.args.to c.args.from one (g.S.Store.storage c.write_piece-second.new.store).kept (g.S.Store.storage c.write_piece-second.new.store).index c.write_piece-second.result =
    record { kept = c.write_piece-second.ensures.kept; places = c.write_piece-second.ensures.places; ends = c.write_piece-second.ensures.end } in
    let second : Wrote objects index c.args.to c.args.from (one ++ two) (g.S.Store.storage c.write_piece-third.new.store).kept (g.S.Store.storage c.write_piece-third.new.store).index c.write_piece-third.result =
    second_wrote program objects index c.args.to c.args.from text target c.requires.text c.requires.apart c.requires.room (g.S.Store.storage c.write_piece-second.new.store).kept (g.S.Store.storage c.write_piece-second.new.store).index c.write_piece-second.result
    (g.S.Store.storage c.write_piece-third.new.store).kept (g.S.Store.storage c.write_piece-third.new.store).index c.write_piece-third.result first c.write_piece-third.ensures.kept c.write_piece-third.ensures.places c.write_piece-third.ensures.end in
    (third_can program objects index c.args.to c.args.from text target c.requires.text c.requires.apart c.requires.room (g.S.Store.storage c.write_piece-third.new.store).kept (g.S.Store.storage c.write_piece-third.new.store).index c.write_piece-third.result second).target.few

pub returns-clause-kept : goal.returns-clause-kept
returns-clause-kept g c =
    let program = c.args.program.now in
    let objects = (g.S.Store.storage c.args.store.now).kept in
    let index = (g.S.Store.storage c.args.store.now).index in
    let text = c.args.text.now in
    let one = piece_units program objects index text.first in
    let two = piece_units program objects index text.second in
    let target : IsTarget objects (serial_of index c.args.to) = record { there = c.requires.there; numbers = c.requires.numbers; few = c.requires.few } in
    let first : Wrote objects index c.args.to c.args.from one (g.S.Store.storage c.write_piece-second.new.store).kept (g.S.Store.storage c.write_piece-second.new.store).index c.write_piece-second.result =
    record { kept = c.write_piece-second.ensures.kept; places = c.write_piece-second.ensures.places; ends = c.write_piece-second.ensures.end } in
    let second : Wrote objects index c.args.to c.args.from (one ++ two) (g.S.Store.storage c.write_piece-third.new.store).kept (g.S.Store.storage c.write_piece-third.new.store).index c.write_piece-third.result =
    second_wrote program objects index c.args.to c.args.from text target c.requires.text c.requires.apart c.requires.room (g.S.Store.storage c.write_piece-second.new.store).kept (g.S.Store.storage c.write_piece-second.new.store).index c.write_piece-second.result
    (g.S.Store.storage c.write_piece-third.new.store).kept (g.S.Store.storage c.write_piece-third.new.store).index c.write_piece-third.result first c.write_piece-third.ensures.kept c.write_piece-third.ensures.places c.write_piece-third.ensures.end in
    let third = third_wrote program objects index c.args.to c.args.from text target c.requires.text c.requires.apart c.requires.room (g.S.Store.storage c.write_piece-third.new.store).kept (g.S.Store.storage c.write_piece-third.new.store).index c.write_piece-third.result
    (g.S.Store.storage c.write_piece.new.store).kept (g.S.Store.storage c.write_piece.new.store).index c.write_piece.result second c.write_piece.ensures.kept c.write_piece.ensures.places c.write_piece.ensures.end in
    third.kept

pub returns-clause-end : goal.returns-clause-end
returns-clause-end g c =
    let program = c.args.program.now in
    let objects = (g.S.Store.storage c.args.store.now).kept in
    let index = (g.S.Store.storage c.args.store.now).index in
    let text = c.args.text.now in
    let one = piece_units program objects index text.first in
    let two = piece_units program objects index text.second in
    let target : IsTarget objects (serial_of index c.args.to) = record { there = c.requires.there; numbers = c.requires.numbers; few = c.requires.few } in
    let first : Wrote objects index c.args.to c.args.from one (g.S.Store.storage c.write_piece-second.new.store).kept (g.S.Store.storage c.write_piece-second.new.store).index c.write_piece-second.result =
    record { kept = c.write_piece-second.ensures.kept; places = c.write_piece-second.ensures.places; ends = c.write_piece-second.ensures.end } in
    let second : Wrote objects index c.args.to c.args.from (one ++ two) (g.S.Store.storage c.write_piece-third.new.store).kept (g.S.Store.storage c.write_piece-third.new.store).index c.write_piece-third.result =
    second_wrote program objects index c.args.to c.args.from text target c.requires.text c.requires.apart c.requires.room (g.S.Store.storage c.write_piece-second.new.store).kept (g.S.Store.storage c.write_piece-second.new.store).index c.write_piece-second.result
    (g.S.Store.storage c.write_piece-third.new.store).kept (g.S.Store.storage c.write_piece-third.new.store).index c.write_piece-third.result first c.write_piece-third.ensures.kept c.write_piece-third.ensures.places c.write_piece-third.ensures.end in
    let third = third_wrote program objects index c.args.to c.args.from text target c.requires.text c.requires.apart c.requires.room (g.S.Store.storage c.write_piece-third.new.store).kept (g.S.Store.storage c.write_piece-third.new.store).index c.write_piece-third.result
    (g.S.Store.storage c.write_piece.new.store).kept (g.S.Store.storage c.write_piece.new.store).index c.write_piece.result second c.write_piece.ensures.kept c.write_piece.ensures.places c.write_piece.ensures.end in
    third.ends
