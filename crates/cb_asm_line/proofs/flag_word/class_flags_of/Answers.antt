use Rattle.std.proofs.Common.{◌≡◌, ◌≢◌, ◌<◌, ◌^◌, List, ℕ, MatchOption, subst}
use Rattle.cb_asm_line.proofs.Table.{of_class}
use Rattle.cb_asm_line.specs.Flags.{flags_word}
use Rattle.cb_asm_line.proofs.flag_word.class_flags_of.Goals as goal

pub returns : goal.returns
returns c =
    let Is : List (List ℕ) → Type 0 = λ words. MatchOption c.flags_in.result ((flags : ℕ) → flags < 2 ^ 16 → c.args.word.now ≢ flags_word words flags) (λ flags. c.args.word.now ≡ flags_word words flags) in
    subst Is of_class c.flags_in.ensures
