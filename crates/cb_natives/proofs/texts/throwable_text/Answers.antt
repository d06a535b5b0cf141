use Rattle.std.proofs.Common.{◌∙◌, ◌++◌, ap, codes, sym, ℕ}
use Rattle.cb_heap.specs.Reading.{serial_of}
use Rattle.cb_machine.specs.Performing.{gives_text, on_text}
use Rattle.cb_machine.specs.Texts.{class_name, with_message}
use Rattle.cb_natives.specs.Answers.{call_on}
use Rattle.cb_natives.proofs.TextLaws.{message_so, there_so}
use Rattle.cb_natives.proofs.texts.throwable_text.Goals as goal

pub returns-then-message-eq0-clause-text : goal.returns-then-message-eq0-clause-text
returns-then-message-eq0-clause-text g c =
    let objects = (g.S.Store.storage c.args.store.now).kept in
    let index = (g.S.Store.storage c.args.store.now).index in
    λ machine beside.
    let call = call_on machine objects beside in
    let there = there_so machine beside objects index c.args.at c.kind-kind.result c.if-at-eq0.false c.kind-kind.ensures in
    there.2 (λ throwable. with_message call throwable (serial_of index c.args.message))
    ∙ ap (λ (message : ℕ). with_message call there.0 (serial_of index message)) c.if-message-eq0.true
    ∙ ap (λ (kind : ℕ). gives_text call (class_name machine.program kind)) there.1
    ∙ sym (ap (gives_text call) (c.one_piece.ensures.units machine.program objects index))

pub returns-then-message-eq0-clause-is : goal.returns-then-message-eq0-clause-is
returns-then-message-eq0-clause-is g c = λ program. c.one_piece.ensures.is program (g.S.Store.storage c.args.store.now).kept (g.S.Store.storage c.args.store.now).index tt

pub returns-clause-text : goal.returns-clause-text
returns-clause-text g c =
    let objects = (g.S.Store.storage c.args.store.now).kept in
    let index = (g.S.Store.storage c.args.store.now).index in
    λ machine beside.
    let call = call_on machine objects beside in
    let there = there_so machine beside objects index c.args.at c.kind-kind.result c.if-at-eq0.false c.kind-kind.ensures in
    there.2 (λ throwable. with_message call throwable (serial_of index c.args.message))
    ∙ message_so call index there.0 c.args.message c.if-message-eq0.false
    ∙ ap (λ (kind : ℕ). on_text call (serial_of index c.args.message) (λ units. gives_text call (class_name machine.program kind ++ codes ": " ++ units))) there.1
    ∙ c.message_text.ensures.text machine beside
