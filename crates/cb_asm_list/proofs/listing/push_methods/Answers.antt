use Rattle.std.proofs.Common.{arith, length, string_bytes, ◌<◌}
use Rattle.cb_asm_line.specs.Lines.{lines_text}
use Rattle.cb_asm_line.specs.Spelling.{method_lines}
use Rattle.cb_asm_list.specs.Listing.{method_text}
use Rattle.cb_asm_list.proofs.Texts.{one_more}
use Rattle.cb_asm_list.proofs.listing.push_methods.Goals as goal

pub loop-method-preserved : goal.loop-method-preserved
loop-method-preserved c =
    let within : c.loop-method.method-index < length c.as_slice-method-items.result.now = omega arith in
    one_more (λ method. lines_text (method_lines (method_text c.args.class.now method))) c.args.class.now.methods c.loop-method.method-index c.method-item.result
    (string_bytes c.args.text.now) (string_bytes c.loop-method.text) (string_bytes c.push_method.new.text) (rw c.as_slice-method-items.ensures at within) (rw c.as_slice-method-items.ensures at c.method-item.is)
    c.loop-method.invariant c.in_ok-push_method.ensures
