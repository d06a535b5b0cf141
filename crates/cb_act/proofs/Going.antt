-- Of instructions that go on at the next place.
use Rattle.std.proofs.Common.{◌≡◌, ◌∙◌, refl, sym, ℕ, true, false, Option, Some, None}
use Rattle.std.proofs.lemmas.Bool.{false≢true}
use Rattle.std.specs.Prelude.{is_some}
use Rattle.cb_link.specs.declared.decoded.Decoded.{Decoded}
use Rattle.cb_act.specs.Acting.{going_on}
use Rattle.cb_act.specs.Objects.{Left}

-- what goes on is there
pub going_there : (decoded : Decoded) (left : Option Left) → is_some (going_on decoded left) ≡ true → is_some left ≡ true
going_there decoded left is = go decoded.next refl left is where
  go : (next : Option ℕ) → decoded.next ≡ next → (left : Option Left) → is_some (going_on decoded left) ≡ true → is_some left ≡ true
  go next same (Some left) is = refl
  go None same None is = let gone : is_some (going_on decoded None) ≡ false = rw same refl in absurd (false≢true (sym gone ∙ is))
  go (Some pc) same None is = let gone : is_some (going_on decoded None) ≡ false = rw same refl in absurd (false≢true (sym gone ∙ is))
