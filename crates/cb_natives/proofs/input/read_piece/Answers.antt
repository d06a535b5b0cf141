use Rattle.std.proofs.Common.{◌≡◌, take}
use Rattle.cb_heap.specs.Reading.{serial_of}
use Rattle.cb_natives.specs.Input.{with_bytes}
use Rattle.cb_natives.proofs.input.read_piece.Goals as goal

pub returns-clause-moved : goal.returns-clause-moved
returns-clause-moved g c =
    let objects = (g.S.Store.storage c.args.store.now).kept in
    let array = serial_of (g.S.Store.storage c.args.store.now).index c.args.at in
    let bytes = take c.in_ok-moved.moved c.read_front.new.buffer in
    let kept : (g.S.Store.storage c.write_bytes.new.store).kept ≡ with_bytes objects array c.args.from bytes = c.write_bytes.ensures.kept in
    let read = c.in_ok-moved.ensures.moved in
    record {
      moves = record { bytes = bytes; known = c.in_ok-moved.ensures.given; low = read.low; size = read.size; consumes = read.consumes; stand = kept };
      few = read.few;
      end = read.end;
    }
