use Rattle.std.proofs.Common.{◌≡◌, ◌++◌, OnOk, List, ℕ, arith, length, string_bytes, subst, sym}
use Rattle.std.proofs.lemmas.Grind.{common_steps}
use Rattle.cb_insn.specs.Writing.{code_bytes}
use Rattle.cb_asm_list.specs.Listing.{label_line}
use Rattle.cb_asm_list.proofs.Lines.{code_text}
use Rattle.cb_asm_list.proofs.code.push_code.Goals as goal

pub returns : goal.returns
returns c =
    subst (λ (lines : List ℕ). OnOk c.push_label_line.result (string_bytes c.push_label_line.new.text ≡ string_bytes c.args.text.now ++ lines))
    (sym (code_text c.args.class.now c.args.labels.now c.args.body.now.code (label_line c.args.labels.now (length (code_bytes c.args.body.now.code)))))
    (grind (arith, common_steps))
