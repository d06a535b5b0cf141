use Rattle.std.proofs.Common.{◌∙◌, arith, sym}
use Rattle.cb_heap.specs.Reading.{serial_of}
use Rattle.cb_link.specs.Slots.{enum_statics, static_at}
use Rattle.cb_machine.specs.Enums.{has_name}
use Rattle.cb_natives.proofs.EnumLaws.{constants_few, first_further, first_here, name_tested, none_behind, none_more}
use Rattle.cb_natives.specs.Given.{units_in}
use Rattle.cb_natives.proofs.enums.constant_at.Goals as goal

pub returns-in_default-clause-found : goal.returns-in_default-clause-found
returns-in_default-clause-found g c =
    let units = units_in (g.S.Store.storage c.args.store.now).kept (serial_of (g.S.Store.storage c.args.store.now).index c.args.array) in
    sym (c.loop-place.invariant ∙ none_more (λ slot. has_name units (static_at c.args.program.now slot)) (enum_statics c.args.program.now.classes c.args.class) c.loop-place.place (sym c.in_default.ensures.found))

pub returns-then-same_name-clause-found : goal.returns-then-same_name-clause-found
returns-then-same_name-clause-found g c =
    let units = units_in (g.S.Store.storage c.args.store.now).kept (serial_of (g.S.Store.storage c.args.store.now).index c.args.array) in
    sym (c.loop-place.invariant ∙ first_here (λ slot. has_name units (static_at c.args.program.now slot)) (enum_statics c.args.program.now.classes c.args.class) c.loop-place.place c.in-Some.slot
    (sym c.in-Some.ensures.found) (name_tested c.static_name.result.now units (static_at c.args.program.now c.in-Some.slot) c.static_name.ensures ∙ sym c.same_name.ensures ∙ c.if-same_name.true))

pub loop-place-preserved : goal.loop-place-preserved
loop-place-preserved g c =
    let units = units_in (g.S.Store.storage c.args.store.now).kept (serial_of (g.S.Store.storage c.args.store.now).index c.args.array) in
    c.loop-place.invariant ∙ first_further (λ slot. has_name units (static_at c.args.program.now slot)) (enum_statics c.args.program.now.classes c.args.class) c.loop-place.place c.in-Some.slot
    (sym c.in-Some.ensures.found) (name_tested c.static_name.result.now units (static_at c.args.program.now c.in-Some.slot) c.static_name.ensures ∙ sym c.same_name.ensures ∙ c.if-same_name.false)

pub returns-clause-found : goal.returns-clause-found
returns-clause-found g c =
    let units = units_in (g.S.Store.storage c.args.store.now).kept (serial_of (g.S.Store.storage c.args.store.now).index c.args.array) in
    let few = constants_few c.args.program.now.classes c.args.class in
    let count = c.static_count-place-end.ensures in
    let over = c.loop-place-test.false in
    sym (c.loop-place.invariant ∙ none_behind (λ slot. has_name units (static_at c.args.program.now slot)) (enum_statics c.args.program.now.classes c.args.class) c.loop-place.place (omega (arith, few, count, over)))
