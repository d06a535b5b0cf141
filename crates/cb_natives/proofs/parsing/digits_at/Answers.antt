use Rattle.std.proofs.Common.{◌∙◌, ◌+◌, ◌*◌, ap, arith, drop, sym}
use Rattle.std.proofs.lemmas.List.{length-drop}
use Rattle.cb_heap.specs.Reading.{serial_of}
use Rattle.cb_natives.specs.Given.{units_in}
use Rattle.cb_natives.specs.Parsing.{at_most}
use Rattle.cb_natives.proofs.NumberLaws.{digits_more, digits_over, some_read}
use Rattle.cb_natives.proofs.parsing.digits_at.Goals as goal

pub loop-place-init : goal.loop-place-init
loop-place-init g c =
    let low = c.requires.low in
    let long = length-drop c.args.start (units_in (g.S.Store.storage c.args.store.now).kept (serial_of (g.S.Store.storage c.args.store.now).index c.args.array)) in
    (omega arith, ap at_most (some_read (drop c.args.start (units_in (g.S.Store.storage c.args.store.now).kept (serial_of (g.S.Store.storage c.args.store.now).index c.args.array))) (omega (arith, low, long))))

pub returns-in-None : goal.returns-in-None
returns-in-None g c =
    let rest = drop (c.loop-place.place + 1) (units_in (g.S.Store.storage c.args.store.now).kept (serial_of (g.S.Store.storage c.args.store.now).index c.args.array)) in
    sym (c.loop-place.invariant.1
    ∙ ap at_most (digits_more c.loop-place.sum (drop c.loop-place.place (units_in (g.S.Store.storage c.args.store.now).kept (serial_of (g.S.Store.storage c.args.store.now).index c.args.array))) rest c.unit_at.result c.in_ok-digit.digit c.unit_at.ensures (sym c.digit_of.ensures.value ∙ c.in_ok-digit.was))
    ∙ digits_over rest (c.loop-place.sum * 10 + c.in_ok-digit.digit) (c.with_digit.ensures.beyond c.in-None.is))
