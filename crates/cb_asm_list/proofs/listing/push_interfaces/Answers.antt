use Rattle.std.proofs.Common.{arith, string_bytes}
use Rattle.cb_asm_line.specs.Lines.{line_text}
use Rattle.cb_asm_line.specs.Spelling.{implements_line}
use Rattle.cb_asm_list.specs.Expansion.{class_named}
use Rattle.cb_asm_list.proofs.Texts.{one_more_number}
use Rattle.cb_asm_list.proofs.listing.push_interfaces.Goals as goal

pub loop-index-preserved : goal.loop-index-preserved
loop-index-preserved c =
    one_more_number (λ index. line_text (implements_line (class_named c.args.class.now index))) c.args.class.now.interfaces c.loop-index.index-index c.as_slice-index-items.result.now
    (string_bytes c.args.text.now) (string_bytes c.loop-index.text) (string_bytes c.push_interface.new.text) c.as_slice-index-items.ensures (omega arith) c.loop-index.invariant c.in_ok-push_interface.ensures
