use Rattle.std.proofs.Common.{drop, false, refl, subst, sym, true, None, ◌∙◌}
use Rattle.cb_heap.specs.Reading.{serial_of}
use Rattle.cb_natives.specs.Given.{units_in}
use Rattle.cb_machine.specs.Answering.{read_some}
use Rattle.cb_natives.specs.Parsing.{SameInRange, with_sign}
use Rattle.cb_natives.proofs.NumberLaws.{number_bare, number_minus, number_none, number_plus, sign_so}
use Rattle.cb_natives.proofs.parsing.number_in_units.Goals as goal

pub returns-then-count-eq0 : goal.returns-then-count-eq0
returns-then-count-eq0 g c =
    let none = number_none (units_in (g.S.Store.storage c.args.store.now).kept (serial_of (g.S.Store.storage c.args.store.now).index c.args.array)) (sym c.count.ensures.count ∙ c.if-count-eq0.true) in
    subst (λ number. SameInRange number None) (sym none) (record { ints = refl; longs = refl })

pub returns-then-first-eq-MINUS : goal.returns-then-first-eq-MINUS
returns-then-first-eq-MINUS g c =
    let units = (units_in (g.S.Store.storage c.args.store.now).kept (serial_of (g.S.Store.storage c.args.store.now).index c.args.array)) in
    let number = number_minus units (drop 1 units) c.unit_at-first.result c.unit_at-first.ensures c.if-first-eq-MINUS.true in
    subst (λ number. SameInRange number c.signed.result) (sym number)
    (subst (SameInRange (with_sign true (read_some (drop 1 units)))) (sym c.signed.ensures) (sign_so true (read_some (drop 1 units)) c.size_at.result c.size_at.ensures))

pub returns-then-first-eq-PLUS : goal.returns-then-first-eq-PLUS
returns-then-first-eq-PLUS g c =
    let units = (units_in (g.S.Store.storage c.args.store.now).kept (serial_of (g.S.Store.storage c.args.store.now).index c.args.array)) in
    let number = number_plus units (drop 1 units) c.unit_at-first.result c.unit_at-first.ensures c.if-first-eq-MINUS.false c.if-first-eq-PLUS.true in
    subst (λ number. SameInRange number c.signed-then-first-eq-PLUS.result) (sym number)
    (subst (SameInRange (with_sign false (read_some (drop 1 units)))) (sym c.signed-then-first-eq-PLUS.ensures) (sign_so false (read_some (drop 1 units)) c.size_at-then-first-eq-PLUS.result c.size_at-then-first-eq-PLUS.ensures))

pub returns : goal.returns
returns g c =
    let units = (units_in (g.S.Store.storage c.args.store.now).kept (serial_of (g.S.Store.storage c.args.store.now).index c.args.array)) in
    let number = number_bare units (drop 1 units) c.unit_at-first.result c.unit_at-first.ensures c.if-first-eq-MINUS.false c.if-first-eq-PLUS.false in
    subst (λ number. SameInRange number c.signed-2.result) (sym number)
    (subst (SameInRange (with_sign false (read_some units))) (sym c.signed-2.ensures) (sign_so false (read_some units) c.size_at-2.result c.size_at-2.ensures))
