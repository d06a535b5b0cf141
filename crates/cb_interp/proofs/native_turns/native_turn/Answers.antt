use Rattle.std.proofs.Common.{◌∙◌, ap, rules, sym, Some}
use Rattle.cb_interp.proofs.NativeTurns.{printed_as}
use Rattle.cb_interp.proofs.TurnsNativePrint.{enough_here, goes_here, print_part, print_turn, suits_here}
use Rattle.cb_interp.proofs.TurnsNativeSaid.{of_err, of_ok}
use Rattle.cb_interp.proofs.native_turns.native_turn.Goals as goal

pub write_print-requires : goal.write_print-requires
write_print-requires g c =
    suits_here c.args.program.now (g.S.Store.storage c.args.store.now).index (g.S.Store.storage c.args.store.now).kept c.args.roots.now.limit c.args.roots.now.roots g.outside c.args.decoded.now c.requires.1.1.1.1.0.method
    c.requires.1.1.1.0 c.requires.1.1.1.1.0.asked g.S.Store.rules.fixed (g.S.Store.storage c.args.store.now).settings c.requires.1.1.0
    c.in-Some.print (c.requires.1.1.1.1.0.is ∙ ap Some (printed_as c.args.native c.in-Some.print (sym c.print_of.ensures ∙ c.in-Some.is)))

pub leave_print-requires : goal.leave_print-requires
leave_print-requires g c =
    enough_here c.args.program.now (g.S.Store.storage c.args.store.now).index (g.S.Store.storage c.args.store.now).kept c.args.roots.now.limit c.args.roots.now.roots g.outside c.args.decoded.now c.requires.1.1.1.1.0.method
    c.requires.1.1.1.0 c.requires.1.1.1.1.0.asked g.S.Store.rules.fixed (g.S.Store.storage c.args.store.now).settings c.requires.1.1.0
    c.in-Some.print (c.requires.1.1.1.1.0.is ∙ ap Some (printed_as c.args.native c.in-Some.print (sym c.print_of.ensures ∙ c.in-Some.is)))

pub returns-then-is_err-clause-left : goal.returns-then-is_err-clause-left
returns-then-is_err-clause-left g c =
    print_part c.args.program.now (g.S.Store.storage c.args.store.now).index (g.S.Store.storage c.args.store.now).kept c.args.roots.now.limit c.args.roots.now.roots g.outside c.args.decoded.now c.requires.1.1.1.1.0.method
    c.requires.1.1.1.0 c.requires.1.1.1.1.0.asked g.S.Store.rules.fixed (g.S.Store.storage c.args.store.now).settings c.requires.1.1.0
    c.in-Some.print (c.requires.1.1.1.1.0.is ∙ ap Some (printed_as c.args.native c.in-Some.print (sym c.print_of.ensures ∙ c.in-Some.is))) c.in-Some-next.next (g.O.Sink.taken c.args.out.now) (g.O.Sink.taken c.write_print.new.out) c.in-Some-next.is
    (of_err _ c.write_print.result (sym c.is_err.ensures.value ∙ c.if-is_err.true) c.write_print.ensures.part)

pub returns-clause-made : goal.returns-clause-made
returns-clause-made g c =
    print_turn c.args.program.now (g.S.Store.storage c.args.store.now).index (g.S.Store.storage c.args.store.now).kept c.args.roots.now.limit c.args.roots.now.roots g.outside c.args.decoded.now c.requires.1.1.1.1.0.method
    c.requires.1.1.1.0 c.requires.1.1.1.1.0.asked g.S.Store.rules.fixed (g.S.Store.storage c.args.store.now).settings c.requires.1.1.0
    c.in-Some.print (c.requires.1.1.1.1.0.is ∙ ap Some (printed_as c.args.native c.in-Some.print (sym c.print_of.ensures ∙ c.in-Some.is))) g.S.Store.rules (g.S.Store.storage c.args.store.now).facts c.leave_print.new.roots.roots c.in-Some-next.next
    (g.O.Sink.taken c.args.out.now) (g.O.Sink.taken c.write_print.new.out) c.in-Some-next.is (ap (λ held. held.roots) c.leave_print.ensures)
    (of_ok _ c.write_print.result (sym c.is_err.ensures.value ∙ c.if-is_err.false) c.write_print.ensures.all)

pub unreachable-requires : goal.unreachable-requires
unreachable-requires g c =
    goes_here c.args.program.now (g.S.Store.storage c.args.store.now).index (g.S.Store.storage c.args.store.now).kept c.args.roots.now.limit c.args.roots.now.roots g.outside c.args.decoded.now c.requires.1.1.1.1.0.method
    c.requires.1.1.1.0 c.requires.1.1.1.1.0.asked g.S.Store.rules.fixed (g.S.Store.storage c.args.store.now).settings c.requires.1.1.0
    c.in-Some.print (c.requires.1.1.1.1.0.is ∙ ap Some (printed_as c.args.native c.in-Some.print (sym c.print_of.ensures ∙ c.in-Some.is))) c.in_default-next.is

pub string_turn-requires : goal.string_turn-requires
string_turn-requires g c = λ κs within.
    (search rules, (search rules, (c.requires.1.1.0, (c.requires.1.1.1.0, (c.requires.1.1.1.1.0, (sym c.print_of.ensures ∙ c.in_default.is, c.requires.1.1.1.1.1))))))
