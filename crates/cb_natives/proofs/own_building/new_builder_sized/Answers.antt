use Rattle.std.proofs.Common.{◌∙◌, ◌∷◌, [], ap, sym, w32, List, ℕ}
use Rattle.std.proofs.lemmas.Int.{to_z-of_z}
use Rattle.cb_heap.specs.Reading.{serial_of}
use Rattle.cb_library.specs.declared.native.Native.TheVariants as natives
use Rattle.cb_machine.specs.Builders.{builds, own_native}
use Rattle.cb_machine.specs.Performing.{on_object}
use Rattle.cb_plain.specs.declared.value.Value.TheVariants as values
use Rattle.cb_natives.specs.MakingOwn.{call_of, natural_in}
use Rattle.cb_natives.specs.declared.answers.Exception.TheVariants as exceptions
use Rattle.cb_natives.proofs.OwnHolding.{decided_as, decided_err}
use Rattle.cb_natives.proofs.OwnNatives.{serial_not, sized_not, sized_so}
use Rattle.cb_natives.proofs.own_building.new_builder_sized.Goals as goal

pub returns-in-Some : goal.returns-in-Some
returns-in-Some g c =
    let program = c.args.program.now in
    let objects = (g.S.Store.storage c.args.store.now).kept in
    let index = (g.S.Store.storage c.args.store.now).index in
    let serial = serial_of index c.args.at in
    decided_as c.build.ensures
    (λ frames beside.
    let call = call_of program objects frames beside in
    sized_so call serial c.args.room c.in-Some.room (ap natural_in (sym (to_z-of_z w32 c.args.room c.ranges.room)) ∙ sym c.natural_in.ensures.is ∙ c.in-Some.is)
    ∙ ap (λ (units : List ℕ). on_object call serial (builds call serial units c.in-Some.room)) (sym c.text_of.ensures.same))

pub returns-in-None : goal.returns-in-None
returns-in-None g c =
    let program = c.args.program.now in
    let objects = (g.S.Store.storage c.args.store.now).kept in
    let index = (g.S.Store.storage c.args.store.now).index in
    let serial = serial_of index c.args.at in
    decided_err program objects index (λ call. own_native call natives.StringBuilderNewCapacity (values.Ref serial ∷ values.Int c.args.room ∷ [])) exceptions.NegativeArraySize
    (λ frames beside. sized_not (call_of program objects frames beside) serial c.args.room (c.requires.there (serial_not index c.args.at c.if-at-eq0.false)) (ap natural_in (sym (to_z-of_z w32 c.args.room c.ranges.room)) ∙ sym c.natural_in.ensures.is ∙ c.in-None.is))
