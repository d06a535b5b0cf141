-- Zeros laid over words of which those behind a place are zeros.
use Rattle.std.proofs.Common.{◌≡◌, ℕ, ◌+◌, ◌-◌, ◌≤◌, List, ◌++◌, length, replicate, min, arith, rules}
use Rattle.std.proofs.lemmas.List.{places, same_lists}
use Rattle.cb_raw.specs.Words.{zeroed}

pub zeroed_in_front : (words : List ℕ) (behind from count : ℕ) → from + count ≤ length words + behind
    → zeroed words (min from (length words)) (min (from + count) (length words) - min from (length words)) ++ replicate behind 0 ≡ zeroed (words ++ replicate behind 0) from count
zeroed_in_front words behind from count fits =
    same_lists _ _ (search (rules, places)) (λ k d h. grind (arith, places))
