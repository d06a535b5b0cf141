use Rattle.std.proofs.Common.{◌≡◌, ◌++◌, List, ℕ, OnOk, string_bytes, subst}
use Rattle.cb_asm_line.proofs.Table.{of_method}
use Rattle.cb_asm_line.specs.Flags.{flags_word}
use Rattle.cb_asm_line.proofs.flag.push_method_flags.Goals as goal

pub returns : goal.returns
returns c =
    let Is : List (List ℕ) → Type 0 = λ words. OnOk c.push_flags.result (string_bytes c.push_flags.new.text ≡ string_bytes c.args.text.now ++ flags_word words c.args.flags) in
    subst Is of_method c.push_flags.ensures
