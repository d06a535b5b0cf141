-- Bounds of what is granted.
use Rattle.std.specs.Prelude.{ℕ, ◌+◌, ◌/◌, ◌^◌, ◌<◌, ◌≤◌, ◌≡◌, Bool, true, false, List, Some, slice_get}
use Rattle.std.specs.List.{sum_by}
use Rattle.cb_plain.specs.declared.want.Want.{Want}
use Rattle.cb_plain.specs.Requests.{most_words}

-- all words that it has
abbrev pub words_granted : List Want → ℕ
words_granted wants = sum_by (λ want. want.words) wants

-- bounds of what is granted: no entry has reached the limit of what is counted; over a store of fixed size there are at most 2^28 words, and
-- over any other the serials of all objects that they have room for, each of three words at least, are below 2^63
pub record IsBounded (fixed : Bool) (objects : ℕ) (wants : List Want) : Type 0 where
  pub each : (want : Want) → (place : ℕ) → slice_get wants place ≡ Some want → want.words < most_words
  pub words : fixed ≡ true → words_granted wants ≤ 2 ^ 28
  pub serials : fixed ≡ false → objects + 1 + words_granted wants / 3 < 2 ^ 63
