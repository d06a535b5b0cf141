use Rattle.std.proofs.Common.{◌∙◌, ap, subst, List, None, Some, map}
use Rattle.cb_heap.specs.Reading.{read_value, seen, serial_of}
use Rattle.cb_library.specs.declared.native.Native.TheVariants as natives
use Rattle.cb_machine.specs.Enums.{finds_constant}
use Rattle.cb_plain.specs.State.{Number}
use Rattle.cb_plain.specs.declared.value.Value.{Value}
use Rattle.cb_natives.proofs.EnumLaws.{beside, class_object}
use Rattle.cb_natives.proofs.OwnNatives.{serial_not}
use Rattle.cb_natives.specs.Enums.{call_in}
use Rattle.cb_natives.specs.Given.{AreGiven, roles}
use Rattle.cb_natives.specs.Making.{machine_in}
use Rattle.cb_natives.proofs.enums.find_constant.Goals as goal

pub returns-in-Some-clause-found : goal.returns-in-Some-clause-found
returns-in-Some-clause-found g c =
    λ frames input printed.
    let index = (g.S.Store.storage c.args.store.now).index in
    let call = call_in c.args.program.now (seen index (g.S.Store.storage c.args.store.now).kept c.args.roots.now.roots) frames input printed in
    let given =
    subst (λ (arguments : List Value). AreGiven (g.S.Store.storage c.args.store.now).kept (roles natives.EnumValueOf) (map (read_value index) arguments)) c.references-at.ensures c.requires.given in
    let holds = given.0.there (serial_not index c.references-at.result.0 c.if-at-eq0.false) in
    ap (λ (arguments : List Value). finds_constant call (map (read_value index) arguments)) c.references-at.ensures
    ∙ class_object call index c.references-at.result.0 (serial_of index c.references-at.result.1) (Number holds.number) (Some c.in-Some.class) c.if-at-eq0.false holds.is c.in-Some.ensures.class
    ∙ c.constant_of.ensures.found frames input printed

pub returns-in-None-clause-found : goal.returns-in-None-clause-found
returns-in-None-clause-found g c =
    λ frames input printed.
    let index = (g.S.Store.storage c.args.store.now).index in
    let call = call_in c.args.program.now (seen index (g.S.Store.storage c.args.store.now).kept c.args.roots.now.roots) frames input printed in
    let given =
    subst (λ (arguments : List Value). AreGiven (g.S.Store.storage c.args.store.now).kept (roles natives.EnumValueOf) (map (read_value index) arguments)) c.references-at.ensures c.requires.given in
    let holds = given.0.there (serial_not index c.references-at.result.0 c.if-at-eq0.false) in
    ap (λ (arguments : List Value). finds_constant call (map (read_value index) arguments)) c.references-at.ensures
    ∙ class_object call index c.references-at.result.0 (serial_of index c.references-at.result.1) (Number holds.number) None c.if-at-eq0.false holds.is c.in-None.ensures.class
    ∙ c.no_constant.ensures (machine_in c.args.program.now frames) (beside index c.args.roots.now.roots input printed)
