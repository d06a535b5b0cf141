use Rattle.cb_asm.proofs.Fronts.{one_found, place_of}
use Rattle.cb_asm.proofs.bad_line.line_ends.Goals as goal

pub lines-preserved : goal.lines-preserved
lines-preserved c =
    one_found c.args.text.now c.lines.rest.now c.lines.ends.items c.push.new.self.items c.in-Some.field-0-0.now c.in-Some.behind.now _ c.lines.invariant c.in-Some.ensures.cut.0 c.in-Some.ensures.cut.1 (place_of c.args.text.now c.lines.rest.now c.lines.ends.items c.in-Some.field-0-0.now c.in-Some.behind.now c.lines.invariant c.in-Some.ensures.cut.1) c.in_ok-push.ensures.items
