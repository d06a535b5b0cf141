use Rattle.std.proofs.Common.{◌≡◌, ◌≤◌, ◌+◌, ℕ, List, ◌∷◌, ◌++◌, length, take, drop, rules}
use Rattle.std.proofs.lemmas.List.{take-append-drop}
use Rattle.cb_text.specs.declared.constant.Constant.TheVariants.{Utf8}
use Rattle.cb_text.specs.Pool.{u2}
use Rattle.cb_text.proofs.OneConstant.{front_constant}
use Rattle.cb_text.proofs.next_constant.text_of.Goals as goal

-- the bytes are cut into the length, the text and what stands behind it
text_parts : {bytes rest text after spelled : List ℕ} {number end : ℕ} → bytes ≡ u2 number ++ rest → end ≡ number → (end ≤ length rest) × (text ≡ take end rest) × (after ≡ drop end rest) × (length text ≡ end) × (length after + end ≡ length rest) → text ≡ spelled → 1 ∷ bytes ≡ (1 ∷ u2 (length spelled) ++ spelled) ++ after
text_parts {bytes} {rest} {text} {after} {spelled} {number} {end} split same cut is = cc (take-append-drop end rest)

pub returns : goal.returns
returns c =
    let units = c.in_ok-units.ensures.units in
    front_constant (Utf8 c.in_ok-units.units) _ _ tt (units.0, search rules)
    (text_parts c.in-Some.ensures c.from.ensures c.in-Some-split_at_checked.ensures.cases units.1)
