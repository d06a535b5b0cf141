use Rattle.std.proofs.Common.{◌∙◌, ◌∷◌, [], ap, sym}
use Rattle.cb_heap.specs.Reading.{serial_of}
use Rattle.cb_library.specs.declared.native.Native.TheVariants as natives
use Rattle.cb_machine.specs.Builders.{appends, own_native}
use Rattle.cb_plain.specs.declared.value.Value.TheVariants as values
use Rattle.cb_natives.specs.Making.{machine_in}
use Rattle.cb_natives.specs.MakingOwn.{call_of}
use Rattle.cb_natives.specs.declared.answers.Exception.TheVariants as exceptions
use Rattle.cb_natives.proofs.OwnHolding.{decided_as, decided_err}
use Rattle.cb_natives.proofs.OwnNatives.{string_so}
use Rattle.cb_natives.proofs.own_appending.append_string.Goals as goal

pub append-requires-clause-may : goal.append-requires-clause-may
append-requires-clause-may g c =
    record { is = c.ascii_text.ensures.is c.args.program.now (g.S.Store.storage c.args.store.now).kept (g.S.Store.storage c.args.store.now).index; may = c.ascii_text.ensures.may (g.S.Store.storage c.args.store.now).index }

pub returns-in-Some : goal.returns-in-Some
returns-in-Some g c =
    let program = c.args.program.now in
    let objects = (g.S.Store.storage c.args.store.now).kept in
    let index = (g.S.Store.storage c.args.store.now).index in
    let serial = serial_of index c.args.at in
    decided_as c.append-in-Some.ensures
    (λ frames beside.
    let call = call_of program objects frames beside in
    string_so call index serial c.args.string c.if-string-eq0.false
    ∙ c.in-Some.ensures.text (machine_in program frames) beside (appends call serial)
    ∙ ap (appends call serial) (sym c.whole.ensures.units))

pub returns-in-None : goal.returns-in-None
returns-in-None g c =
    let program = c.args.program.now in
    let objects = (g.S.Store.storage c.args.store.now).kept in
    let index = (g.S.Store.storage c.args.store.now).index in
    let serial = serial_of index c.args.at in
    decided_err program objects index (λ call. own_native call natives.StringBuilderAppendString (values.Ref serial ∷ values.Ref (serial_of index c.args.string) ∷ [])) exceptions.NullPointer
    (λ frames beside.
    let call = call_of program objects frames beside in
    string_so call index serial c.args.string c.if-string-eq0.false
    ∙ c.in-None.ensures.text (machine_in program frames) beside (appends call serial))
