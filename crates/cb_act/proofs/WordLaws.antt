-- Numbers in the words of objects.
use Rattle.std.proofs.Common.{◌≡◌, ap, refl, subst, ℕ, ℤ, pos, ◌<◌, ◌^◌, Option, Some, mod-eq_of_lt, w32, w64}
use mir.Val.{bits}
use Rattle.std.specs.Prelude.{FitsSigned, option_map}
use Rattle.std.specs.Int.{cast_signed, int_wrap}
use Rattle.cb_act.specs.Objects.{Suits}
use Rattle.cb_kinds.specs.declared.basic.Basic.{Basic}
use Rattle.cb_kinds.specs.declared.basic.Basic.TheVariants as basics
use Rattle.cb_machine.specs.Values.{sort_of_basic, value_in}
use Rattle.cb_plain.specs.declared.value.Value.TheVariants as values
use Rattle.cb_plain.specs.State.{Content, Number}
use Rattle.cb_shapes.specs.declared.sort.Sort.TheVariants as sorts

-- a word of 64 bits is read with its sign
pub word_signed : (n : ℕ) → n < 2 ^ bits w64 → int_wrap w64 (pos n) ≡ cast_signed w64 n
unfolding int_wrap
word_signed n h = ap (cast_signed w64) (mod-eq_of_lt h)

-- what is read of a word that suits a type
pub long_read : (basic : Basic) (content : Option Content) (number : ℤ) → sort_of_basic basic ≡ sorts.Long → content ≡ Some (Number number)
    → option_map (value_in basic) content ≡ Some (values.Long number)
long_read basics.Boolean content number sort is = absurd (cc sort)
long_read basics.Byte content number sort is = absurd (cc sort)
long_read basics.Char content number sort is = absurd (cc sort)
long_read basics.Short content number sort is = absurd (cc sort)
long_read basics.Int content number sort is = absurd (cc sort)
long_read basics.Long content number sort is = rw is refl
long_read (basics.Reference kind) content number sort is = absurd (cc sort)

pub int_read : (basic : Basic) (content : Option Content) (number : ℤ) → sort_of_basic basic ≡ sorts.Int → content ≡ Some (Number number)
    → option_map (value_in basic) content ≡ Some (values.Int number)
int_read basics.Boolean content number sort is = rw is refl
int_read basics.Byte content number sort is = rw is refl
int_read basics.Char content number sort is = rw is refl
int_read basics.Short content number sort is = rw is refl
int_read basics.Int content number sort is = rw is refl
int_read basics.Long content number sort is = absurd (cc sort)
int_read (basics.Reference kind) content number sort is = absurd (cc sort)

pub int_suits : (basic : Basic) (content : Option Content) (number : ℤ) → sort_of_basic basic ≡ sorts.Int → content ≡ Some (Number number)
    → Suits basic content → FitsSigned w32 number
int_suits basic content number sort is suits = go basic sort (subst (Suits basic) is suits) where
  go : (basic : Basic) → sort_of_basic basic ≡ sorts.Int → Suits basic (Some (Number number)) → FitsSigned w32 number
  go basics.Boolean sort suits = suits
  go basics.Byte sort suits = suits
  go basics.Char sort suits = suits
  go basics.Short sort suits = suits
  go basics.Int sort suits = suits
  go basics.Long sort suits = absurd (cc sort)
  go (basics.Reference kind) sort suits = absurd (cc sort)
