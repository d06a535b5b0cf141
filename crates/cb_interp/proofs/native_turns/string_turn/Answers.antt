use Rattle.std.proofs.Common.{◌∙◌, ap, sym, Some}
use Rattle.cb_interp.proofs.NativeTurns.{prints_one, text_as}
use Rattle.cb_interp.proofs.TurnsNativeSaid.{of_err, of_ok}
use Rattle.cb_interp.proofs.TurnsNativeString.{string_goes, string_here, string_part, string_turn, text_here, two_here, units_here}
use Rattle.cb_interp.proofs.native_turns.string_turn.Goals as goal

pub reference_at-at-requires : goal.reference_at-at-requires
reference_at-at-requires g c =
    string_here c.args.program.now (g.S.Store.storage c.args.store.now).index (g.S.Store.storage c.args.store.now).kept c.args.roots.now.limit c.args.roots.now.roots g.outside c.args.decoded.now c.requires.1.1.1.1.0.method
    c.requires.1.1.1.0 c.requires.1.1.1.1.0.asked g.S.Store.rules.fixed (g.S.Store.storage c.args.store.now).settings c.requires.1.1.0
    c.in-Some.line (c.requires.1.1.1.1.0.is ∙ ap Some (text_as c.args.native c.in-Some.line (sym c.line_of.ensures ∙ c.in-Some.is)))

pub chars_of-array-requires-clause-text : goal.chars_of-array-requires-clause-text
chars_of-array-requires-clause-text g c =
    text_here c.args.program.now (g.S.Store.storage c.args.store.now).index (g.S.Store.storage c.args.store.now).kept c.args.roots.now.limit c.args.roots.now.roots g.outside c.args.decoded.now c.requires.1.1.1.1.0.method
    c.requires.1.1.1.0 c.requires.1.1.1.1.0.asked g.S.Store.rules.fixed (g.S.Store.storage c.args.store.now).settings c.requires.1.1.0
    c.in-Some.line (c.requires.1.1.1.1.0.is ∙ ap Some (text_as c.args.native c.in-Some.line (sym c.line_of.ensures ∙ c.in-Some.is))) c.reference_at-at.result c.reference_at-at.ensures

pub chars_of-array-requires-clause-units : goal.chars_of-array-requires-clause-units
chars_of-array-requires-clause-units g c =
    units_here c.args.program.now (g.S.Store.storage c.args.store.now).index (g.S.Store.storage c.args.store.now).kept c.args.roots.now.limit c.args.roots.now.roots g.outside c.args.decoded.now c.requires.1.1.1.1.0.method
    c.requires.1.1.1.0 c.requires.1.1.1.1.0.asked g.S.Store.rules.fixed (g.S.Store.storage c.args.store.now).settings c.requires.1.1.0
    c.in-Some.line (c.requires.1.1.1.1.0.is ∙ ap Some (text_as c.args.native c.in-Some.line (sym c.line_of.ensures ∙ c.in-Some.is))) c.reference_at-at.result c.reference_at-at.ensures

pub leave_two-requires : goal.leave_two-requires
leave_two-requires g c =
    two_here c.args.program.now (g.S.Store.storage c.args.store.now).index (g.S.Store.storage c.args.store.now).kept c.args.roots.now.limit c.args.roots.now.roots g.outside c.args.decoded.now c.requires.1.1.1.1.0.method
    c.requires.1.1.1.0 c.requires.1.1.1.1.0.asked g.S.Store.rules.fixed (g.S.Store.storage c.args.store.now).settings c.requires.1.1.0
    c.in-Some.line (c.requires.1.1.1.1.0.is ∙ ap Some (text_as c.args.native c.in-Some.line (sym c.line_of.ensures ∙ c.in-Some.is)))

pub returns-then-is_err-clause-left : goal.returns-then-is_err-clause-left
returns-then-is_err-clause-left g c =
    string_part c.args.program.now (g.S.Store.storage c.args.store.now).index (g.S.Store.storage c.args.store.now).kept c.args.roots.now.limit c.args.roots.now.roots g.outside c.args.decoded.now c.requires.1.1.1.1.0.method
    c.requires.1.1.1.0 c.requires.1.1.1.1.0.asked g.S.Store.rules.fixed (g.S.Store.storage c.args.store.now).settings c.requires.1.1.0
    c.in-Some.line (c.requires.1.1.1.1.0.is ∙ ap Some (text_as c.args.native c.in-Some.line (sym c.line_of.ensures ∙ c.in-Some.is))) c.reference_at-at.result c.reference_at-at.ensures c.in-Some-next.next
    (g.O.Sink.taken c.args.out.now) (g.O.Sink.taken c.write_string.new.out) c.in-Some-next.is
    (of_err _ c.write_string.result (sym c.is_err.ensures.value ∙ c.if-is_err.true) c.write_string.ensures.part)

pub returns-clause-made : goal.returns-clause-made
returns-clause-made g c =
    string_turn c.args.program.now (g.S.Store.storage c.args.store.now).index (g.S.Store.storage c.args.store.now).kept c.args.roots.now.limit c.args.roots.now.roots g.outside c.args.decoded.now c.requires.1.1.1.1.0.method
    c.requires.1.1.1.0 c.requires.1.1.1.1.0.asked g.S.Store.rules.fixed (g.S.Store.storage c.args.store.now).settings c.requires.1.1.0
    c.in-Some.line (c.requires.1.1.1.1.0.is ∙ ap Some (text_as c.args.native c.in-Some.line (sym c.line_of.ensures ∙ c.in-Some.is))) c.reference_at-at.result c.reference_at-at.ensures g.S.Store.rules (g.S.Store.storage c.args.store.now).facts c.leave_two.new.roots.roots c.in-Some-next.next
    (g.O.Sink.taken c.args.out.now) (g.O.Sink.taken c.write_string.new.out) c.in-Some-next.is (ap (λ held. held.roots) c.leave_two.ensures)
    (of_ok _ c.write_string.result (sym c.is_err.ensures.value ∙ c.if-is_err.false) c.write_string.ensures.all)

pub unreachable-requires-in_default-next : goal.unreachable-requires-in_default-next
unreachable-requires-in_default-next g c =
    string_goes c.args.program.now (g.S.Store.storage c.args.store.now).index (g.S.Store.storage c.args.store.now).kept c.args.roots.now.limit c.args.roots.now.roots g.outside c.args.decoded.now c.requires.1.1.1.1.0.method
    c.requires.1.1.1.0 c.requires.1.1.1.1.0.asked g.S.Store.rules.fixed (g.S.Store.storage c.args.store.now).settings c.requires.1.1.0
    c.in-Some.line (c.requires.1.1.1.1.0.is ∙ ap Some (text_as c.args.native c.in-Some.line (sym c.line_of.ensures ∙ c.in-Some.is))) c.in_default-next.is

pub unreachable-requires : goal.unreachable-requires
unreachable-requires g c = prints_one c.args.native c.requires.1.1.1.1.1.1 c.requires.1.1.1.1.1.0 (sym c.line_of.ensures ∙ c.in_default.is)
