use Rattle.std.proofs.Common.{◌+◌, Ok, length, subst}
use Rattle.cb_runner.specs.Asm.{AssemblesText, text_limit}
use Rattle.cb_runner.specs.Inner.{Makes, Reads}
use Rattle.cb_runner.specs.Messages.{TooLarge}
use Rattle.cb_link.specs.declared.refusal.Quantity.TheVariants.{AssemblyBytes}
use Rattle.cb_runner.proofs.Assembling.{cut_input, long_input, unread_tells, whole_text}
use Rattle.cb_runner.proofs.Endings.{Appends-nothing, printed_so, refusal_tells, stops_tell}
use Rattle.cb_runner.proofs.asm.assemble_input.Goals as goal

pub returns-in-Ok-Whole-clause-ends : goal.returns-in-Ok-Whole-clause-ends
returns-in-Ok-Whole-clause-ends g c =
    let (printed, appends, prints) = c.print_made.ensures.printed in
    whole_text g.S.Source.left g.S.Source.gave c.args.input.now c.read_input.new.input (g.O.Sink.taken c.args.out.now) (g.O.Sink.taken c.print_made.new.out) c.in-Ok-Whole.text c.file_of.result c.print_made.result printed (subst (λ input. Reads g.S.Source.left g.S.Source.gave text_limit c.args.input.now c.read_input.new.input (Ok input)) c.in-Ok-Whole.field-0-is c.in-Ok-Whole.ensures.read) (subst (λ text. Makes (AssemblesText text) (length text) c.file_of.result) c.as_slice.ensures.value c.file_of.ensures) appends prints

pub returns-in-Ok-TooLong-clause-ends : goal.returns-in-Ok-TooLong-clause-ends
returns-in-Ok-TooLong-clause-ends g c =
    long_input g.S.Source.left g.S.Source.gave c.args.input.now c.read_input.new.input (g.O.Sink.taken c.args.out.now) c.refused.result (Appends-nothing (g.O.Sink.taken c.args.out.now)) (subst (λ input. Reads g.S.Source.left g.S.Source.gave text_limit c.args.input.now c.read_input.new.input (Ok input)) c.in-Ok-TooLong.field-0-is c.in-Ok-TooLong.ensures.read) c.refused.ensures

pub returns-in-Err-clause-ends : goal.returns-in-Err-clause-ends
returns-in-Err-clause-ends g c =
    cut_input g.S.Source.left g.S.Source.gave c.args.input.now c.read_input.new.input (g.O.Sink.taken c.args.out.now) c.in-Err.stop (Appends-nothing (g.O.Sink.taken c.args.out.now)) c.in-Err.ensures.read

pub returns-in-Ok-Whole-clause-tells : goal.returns-in-Ok-Whole-clause-tells
returns-in-Ok-Whole-clause-tells g c =
    let (printed, appends, prints) = c.print_made.ensures.printed in
    let text = c.as_slice.result.now in
    stops_tell (AssemblesText text) (length text) c.print_made.result printed (printed_so (AssemblesText text) (length text) c.file_of.result c.print_made.result printed c.file_of.ensures prints)

pub returns-in-Ok-TooLong-clause-tells : goal.returns-in-Ok-TooLong-clause-tells
returns-in-Ok-TooLong-clause-tells g c = refusal_tells (TooLarge AssemblyBytes (text_limit + 1) text_limit) c.refused.result c.refused.ensures

pub returns-in-Err-clause-tells : goal.returns-in-Err-clause-tells
returns-in-Err-clause-tells g c = unread_tells g.S.Source.left g.S.Source.gave text_limit c.args.input.now c.read_input.new.input c.in-Err.stop c.in-Err.ensures.read
