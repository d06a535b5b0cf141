use Rattle.std.proofs.Common.{◌≡◌, ◌≢◌, ◌∙◌, ap, List, ℕ, map, subst, slice_get, Some, MatchOption}
use Rattle.cb_asm_line.proofs.Table.{of_array}
use Rattle.cb_asm_line.proofs.mnemonic.array_place.Goals as goal

pub returns : goal.returns
returns c =
    let Is : List (List ℕ) → Type 0 = λ names. MatchOption c.place_in.result ((place : ℕ) → slice_get names place ≢ Some c.args.name.now) (λ place. slice_get names place ≡ Some c.args.name.now) in
    subst Is (ap (map (λ name. name.now)) c.as_slice.ensures ∙ of_array) c.place_in.ensures
