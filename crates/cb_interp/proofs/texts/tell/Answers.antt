use Rattle.std.proofs.Common.{◌++◌, map, subst, List, ℕ}
use Rattle.std.specs.Prelude.{codes}
use Rattle.cb_heap.specs.Reading.{serial_of}
use Rattle.cb_io.specs.Utf8.{utf8}
use Rattle.cb_interp.specs.Texts.{Writes, dotted, message_text}
use Rattle.cb_interp.proofs.TextReading.{failed_cut, message_of, message_there, told, told_bytes, writes_then}
use Rattle.cb_interp.proofs.texts.tell.Goals as goal

pub returns-in_err-write_name-clause-told : goal.returns-in_err-write_name-clause-told
returns-in_err-write_name-clause-told g c =
    let objects = (g.S.Store.storage c.args.store.now).kept in
    let serial = serial_of (g.S.Store.storage c.args.store.now).index c.args.at in
    let old = g.O.Sink.taken c.args.out.now in
    let new = g.O.Sink.taken c.write_name.new.out in
    let name = c.kind_name.result.now in
    let message = message_of objects serial in (
      map dotted name ++ message_text objects message,
      told c.args.program.now objects serial c.kind-kind.result message name c.requires c.kind-kind.ensures c.kind_name.ensures (message_there objects serial c.requires.word),
      subst (λ (bytes : List ℕ). Writes old new bytes c.from_residual.result) (told_bytes name objects message)
          (failed_cut old new (utf8 (map dotted name)) (utf8 (message_text objects message) ++ codes "\n") c.from_residual.result c.in_err-write_name.field-0.0 c.from_residual.ensures
          c.in_err-write_name.ensures.written.part),
    )

pub returns-clause-told : goal.returns-clause-told
returns-clause-told g c =
    let objects = (g.S.Store.storage c.args.store.now).kept in
    let index = (g.S.Store.storage c.args.store.now).index in
    let old = g.O.Sink.taken c.args.out.now in
    let mid = g.O.Sink.taken c.write_name.new.out in
    let new = g.O.Sink.taken c.write_message.new.out in
    let name = c.kind_name.result.now in
    let message = serial_of index c.get_ref-message.result in (
      map dotted name ++ message_text objects message,
      told c.args.program.now objects (serial_of index c.args.at) c.kind-kind.result message name c.requires c.kind-kind.ensures c.kind_name.ensures c.get_ref-message.ensures,
      subst (λ (bytes : List ℕ). Writes old new bytes c.write_message.result) (told_bytes name objects message)
          (writes_then old mid new (utf8 (map dotted name)) (utf8 (message_text objects message) ++ codes "\n") c.write_message.result c.in_ok-write_name.ensures.written.all c.write_message.ensures.written),
    )
