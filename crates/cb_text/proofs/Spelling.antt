-- The spelling of a unit and of a text at the front of some bytes.
use Rattle.std.proofs.Common.{◌≡◌, ℕ, suc, ◌^◌, ◌<◌, List, [], ◌∷◌, ◌++◌, length, get_or, refl, sym, ◌∙◌, ap, arith, append_assoc, length-append}
use Rattle.std.proofs.lemmas.List.{append-nil}
use Rattle.cb_text.specs.Text.{unit_bytes, text_bytes, AreUnits}

-- the unit at the front and what stands behind it are determined
pub unit_same : (one other : ℕ) (rest behind : List ℕ) → one < 2 ^ 16 → other < 2 ^ 16 → unit_bytes one ++ rest ≡ unit_bytes other ++ behind → (one ≡ other) × (rest ≡ behind)
unit_same one other rest behind one_fits other_fits same = grind arith

-- a unit has at least one byte
pub unit_length : (unit : ℕ) → 0 < length (unit_bytes unit)
unit_length unit = grind arith

-- where the bytes of a text are a front of those of another, the text is a front of the other, and what is left of
-- the other is spelled behind it
pub text_front : (units other rest : List ℕ) → AreUnits units → AreUnits other → text_bytes other ≡ text_bytes units ++ rest → (tail : List ℕ) × AreUnits tail × (other ≡ units ++ tail) × (rest ≡ text_bytes tail)
text_front [] other rest fit others_fit same = (other, others_fit, refl, sym same)
text_front (unit ∷ units) [] rest fit others_fit same =
    absurd (omega (arith, unit_length unit, ap length same, length-append (unit_bytes unit) (text_bytes units), length-append (text_bytes (unit ∷ units)) rest))
text_front (unit ∷ units) (first ∷ other) rest fit others_fit same =
    let alike = unit_same first unit (text_bytes other) (text_bytes units ++ rest) others_fit.0 fit.0 (same ∙ append_assoc (unit_bytes unit) (text_bytes units) rest) in
    let behind = text_front units other rest fit.1 others_fit.1 alike.1 in
    (behind.0, behind.1, cc (alike.0, behind.2), behind.3)

-- no bytes spell no unit
pub no_text : (units : List ℕ) → [] ≡ text_bytes units → units ≡ []
no_text [] same = refl
no_text (unit ∷ units) same =
    absurd (omega (arith, unit_length unit, ap length same, length-append (unit_bytes unit) (text_bytes units)))

-- the units of a text are determined by its bytes
pub text_same : (one other : List ℕ) → AreUnits one → AreUnits other → text_bytes one ≡ text_bytes other → one ≡ other
text_same one other fit others_fit same =
    let behind = text_front one other [] fit others_fit (sym same ∙ sym (append-nil (text_bytes one))) in
    sym (behind.2 ∙ ap (λ tail. one ++ tail) (no_text behind.0 behind.3) ∙ append-nil one)

-- numbers below 65536 at each place are units
pub are_units : (units : List ℕ) → ((i : ℕ) → get_or units i 0 < 2 ^ 16) → AreUnits units
are_units [] below = tt
are_units (unit ∷ units) below = (below 0, are_units units (λ i. below (suc i)))
