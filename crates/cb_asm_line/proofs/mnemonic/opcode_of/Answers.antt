use Rattle.std.proofs.Common.{◌≡◌, ◌≢◌, ◌∙◌, ap, List, ℕ, map, subst, slice_get, Some, MatchOption}
use Rattle.cb_asm_line.proofs.Table.{table}
use Rattle.cb_asm_line.proofs.mnemonic.opcode_of.Goals as goal

pub returns : goal.returns
returns c =
    let Is : List (List ℕ) → Type 0 = λ names. MatchOption c.place_in.result ((place : ℕ) → slice_get names place ≢ Some c.args.name.now) (λ place. slice_get names place ≡ Some c.args.name.now) in
    subst Is (ap (map (λ name. name.now)) c.as_slice.ensures ∙ table) c.place_in.ensures
