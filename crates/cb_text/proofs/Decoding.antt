-- Decoding from left to right.
use Rattle.std.proofs.Common.{◌≡◌, ◌≢◌, ℕ, List, [], ◌∷◌, ◌++◌, refl, sym, ◌∙◌, ap}
use Rattle.std.proofs.lemmas.List.{append-nil}
use Rattle.cb_text.specs.Fronts.{BeginsWith}
use Rattle.cb_text.specs.Reading.{SpellsUnit}
use Rattle.cb_text.specs.Text.{unit_bytes, text_bytes, AreUnits}
use Rattle.cb_text.proofs.Spelling.{text_front}

-- the bytes spell these units, and then comes the rest
pub record Decoded (bytes units rest : List ℕ) : Type 0 where
  pub fit : AreUnits units
  pub spelled : bytes ≡ text_bytes units ++ rest

-- at the end the bytes spell these units
pub decoded_all : (bytes units rest : List ℕ) → Decoded bytes units rest → rest ≡ [] → AreUnits units × (bytes ≡ text_bytes units)
decoded_all bytes units rest so_far none = (so_far.fit, so_far.spelled ∙ ap (λ back. text_bytes units ++ back) none ∙ append-nil (text_bytes units))

-- where no unit stands in front of the rest, the bytes spell no units
pub stops : (bytes units rest : List ℕ) → Decoded bytes units rest → rest ≢ [] → ((unit : ℕ) (after : List ℕ) → ¬ BeginsWith SpellsUnit rest unit after) → (all : List ℕ) → AreUnits all → bytes ≢ text_bytes all
stops bytes units rest so_far some none all fit spelled =
    let behind = text_front units all rest so_far.fit fit (sym spelled ∙ so_far.spelled) in
    go behind.0 behind.1 behind.3
  where
    go : (tail : List ℕ) → AreUnits tail → rest ≢ text_bytes tail
    go [] tail_fits is = some is
    go (unit ∷ tail) tail_fits is = none unit (text_bytes tail) (unit_bytes unit, (tail_fits.0, refl), is)
