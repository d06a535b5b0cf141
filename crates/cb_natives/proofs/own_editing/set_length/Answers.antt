use Rattle.std.proofs.Common.{◌∙◌, ◌∷◌, [], ◌++◌, ◌-◌, ap, false, replicate, sym, take, w32, ℕ}
use Rattle.std.proofs.lemmas.Int.{to_z-of_z}
use Rattle.cb_heap.specs.Reading.{serial_of}
use Rattle.cb_library.specs.declared.native.Native.TheVariants as natives
use Rattle.cb_machine.specs.Builders.{own_native}
use Rattle.cb_plain.specs.declared.value.Value.TheVariants as values
use Rattle.cb_natives.specs.Given.{units_in}
use Rattle.cb_natives.specs.MakingOwn.{call_of, held_by, natural_in}
use Rattle.cb_natives.specs.declared.answers.Exception.TheVariants as exceptions
use Rattle.cb_natives.proofs.OwnHolding.{decided_as, decided_err}
use Rattle.cb_natives.proofs.OwnNatives.{cut_held, cut_not}
use Rattle.cb_natives.proofs.own_editing.set_length.Goals as goal

pub returns-in-Some : goal.returns-in-Some
returns-in-Some g c =
    let program = c.args.program.now in
    let objects = (g.S.Store.storage c.args.store.now).kept in
    let index = (g.S.Store.storage c.args.store.now).index in
    let serial = serial_of index c.args.at in
    let built = c.built_at-built.result in
    decided_as c.hold.ensures
    (λ frames beside.
    let call = call_of program objects frames beside in
    cut_held call index serial built c.args.length c.in-Some.length c.built_at-built.ensures
    (ap natural_in (sym (to_z-of_z w32 c.args.length c.ranges.length)) ∙ sym c.natural_in.ensures.is ∙ c.in-Some.is) c.in-Some.ensures.few
    ∙ ap (λ (kept : ℕ). held_by call serial false (take kept (units_in objects (serial_of index built.array)) ++ replicate (c.in-Some.length - kept) 0)) (sym c.min-kept.ensures))

pub returns-in-None : goal.returns-in-None
returns-in-None g c =
    let program = c.args.program.now in
    let objects = (g.S.Store.storage c.args.store.now).kept in
    let index = (g.S.Store.storage c.args.store.now).index in
    let serial = serial_of index c.args.at in
    decided_err program objects index (λ call. own_native call natives.StringBuilderSetLength (values.Ref serial ∷ values.Int c.args.length ∷ [])) exceptions.StringIndexOutOfBounds
    (λ frames beside. cut_not (call_of program objects frames beside) index serial c.built_at-built.result c.args.length c.built_at-built.ensures (ap natural_in (sym (to_z-of_z w32 c.args.length c.ranges.length)) ∙ sym c.natural_in.ensures.is ∙ c.in-None.is))
