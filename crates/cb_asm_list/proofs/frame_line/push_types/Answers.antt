use Rattle.std.proofs.Common.{◌≡◌, ◌++◌, OnOk, List, ℕ, arith, string_bytes, subst, sym}
use Rattle.std.proofs.lemmas.Grind.{common_steps}
use Rattle.cb_asm_list.proofs.Lines.{types_joined}
use Rattle.cb_asm_list.proofs.frame_line.push_types.Goals as goal

pub returns-in_ok-push_type-in-len1-up : goal.returns-in_ok-push_type-in-len1-up
returns-in_ok-push_type-in-len1-up c =
    subst (λ (word : List ℕ). OnOk c.push_more_types.result (string_bytes c.push_more_types.new.text ≡ string_bytes c.args.text.now ++ word))
    (sym (types_joined c.args.labels.now c.args.types.now c.first-item.result c.in-len1-up.len_at_least c.first-item.is))
    (grind (arith, common_steps))
