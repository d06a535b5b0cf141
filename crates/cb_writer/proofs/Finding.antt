-- The least index of a name.
use Rattle.std.proofs.Common.{◌≡◌, ◌↔◌, ℕ, suc, ◌<◌, true, false, IsTrue, ltb, List, length, drop, get_or, refl, ◌∙◌, ap, arith, if◌then◌else◌}
use Rattle.std.proofs.lemmas.Bool.Decides.{Decides-ltb}
use Rattle.std.specs.Prelude.{option_and_then}
use Rattle.std.proofs.lemmas.Option.{slice_get_read}
use Rattle.cb_text.specs.Naming.{units_of}
use Rattle.cb_text.specs.declared.constant.Constant.{Constant}
use Rattle.cb_classfile.specs.Attributes.{index_from, is_text}
use Rattle.cb_classfile.proofs.Laws.{index_next}

-- a test of two numbers in other words
pub tested : {P : Type 0} (index size least count : ℕ) → index ≡ least → size ≡ count → (least < count) ↔ P → IsTrue (ltb index size) ↔ P
tested index size least count same same_size exactly = (
  λ is. exactly.0 (let below = (Decides-ltb index size).0 is in omega (arith, same, same_size, below)),
  λ holds. (Decides-ltb index size).1 (let below = exactly.1 holds in omega (arith, same, same_size, below)),
)

-- the text stands at a place
pub found_here : (constants : List Constant) (name : List ℕ) (place index : ℕ) (constant : Constant) → place < length constants → constant ≡ get_or constants place constant → is_text name (units_of constant) ≡ true → index_from index name (drop place constants) ≡ index
found_here constants name place index constant within is named =
    let here = slice_get_read constants (length constants) place constant refl within is in
    index_next constants name index place within ∙ ap (λ here. if here then index else index_from (suc index) name (drop (suc place) constants)) (ap (λ found. is_text name (option_and_then units_of found)) here ∙ named)

-- or another does, and it is looked for from the next one on
pub found_next : (constants : List Constant) (name : List ℕ) (place index next after : ℕ) (constant : Constant) → place < length constants → constant ≡ get_or constants place constant → is_text name (units_of constant) ≡ false → next ≡ suc index → after ≡ suc place → index_from index name (drop place constants) ≡ index_from next name (drop after constants)
found_next constants name place index next after constant within is other is_next is_after =
    let here = slice_get_read constants (length constants) place constant refl within is in
    rw (is_next, is_after) (index_next constants name index place within ∙ ap (λ here. if here then index else index_from (suc index) name (drop (suc place) constants)) (ap (λ found. is_text name (option_and_then units_of found)) here ∙ other))
