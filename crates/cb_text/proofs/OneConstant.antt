-- At most one constant stands at the front of some bytes.
use Rattle.std.proofs.Common.{◌≡◌, ℕ, List, ◌++◌, length, take, sym, ◌∙◌, ap, rules}
use Rattle.std.proofs.Math.Seq.{take-append_seam}
use Rattle.std.proofs.lemmas.List.{append_cancel_left}
use Rattle.cb_text.specs.declared.constant.Constant.{Constant}
use Rattle.cb_text.specs.declared.constant.Constant.TheVariants.{Utf8, Gap}
use Rattle.cb_text.specs.Fronts.{IsFront}
use Rattle.cb_text.specs.Pool.{Fits, constant_bytes}
use Rattle.cb_text.specs.Reading.{HasBytes, SpellsConstant}
use Rattle.cb_text.specs.Text.{AreUnits, text_bytes}
use Rattle.cb_text.proofs.Spelling.{text_same}

one_text : (one other rest behind : List ℕ) → AreUnits one → AreUnits other → length (text_bytes one) ≡ length (text_bytes other) → text_bytes one ++ rest ≡ text_bytes other ++ behind → (one ≡ other) × (rest ≡ behind)
one_text one other rest behind fit others_fit long same =
    let text = sym (take-append_seam (text_bytes one) rest) ∙ ap (take (length (text_bytes one))) same ∙ ap (λ n. take n (text_bytes other ++ behind)) long ∙ take-append_seam (text_bytes other) behind in
    (text_same one other fit others_fit text, append_cancel_left (text_bytes other) rest behind (ap (λ bytes. bytes ++ rest) (sym text) ∙ same))

-- what stands there with the bytes of a constant is that constant, and no other
pub front_constant : (one : Constant) (bytes rest : List ℕ) → HasBytes one → Fits one → bytes ≡ constant_bytes one ++ rest → IsFront SpellsConstant bytes one rest
front_constant Gap bytes rest has fits split = absurd has
front_constant (Utf8 units) bytes rest has fits split = search (rules, one_text)
front_constant one bytes rest has fits split = search rules
