-- Texts and pairs of texts, by the numbers of these texts.
use Rattle.std.specs.Prelude.{ℕ, ◌<◌, List, [], length, slice_index_or}
use Rattle.std.specs.List.{AllByRecursion}
use Rattle.cb_kinds.specs.Texts.{EachOnce}

abbrev pub text_of : List (List ℕ) → ℕ → List ℕ
text_of texts number = slice_index_or texts number []

abbrev pub pair_of : List (List ℕ) → ℕ × ℕ → List ℕ × List ℕ
pair_of texts pair = (text_of texts pair.0, text_of texts pair.1)

abbrev pub IsNumber : List (List ℕ) → ℕ → Type 0
IsNumber texts number = number < length texts

abbrev pub IsPair : List (List ℕ) → ℕ × ℕ → Type 0
IsPair texts pair = IsNumber texts pair.0 × IsNumber texts pair.1

-- what is kept has numbers of texts that stand once
pub record AreNumbered {A : Type 0} (Is : List (List ℕ) → A → Type 0) (texts : List (List ℕ)) (items : List A) : Type 0 where
  pub once : EachOnce texts
  pub are : AllByRecursion (Is texts) items
