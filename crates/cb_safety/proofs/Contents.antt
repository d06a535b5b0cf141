-- What a field or an element gives and takes.
use Rattle.std.proofs.Common.{◌≡◌, ap, arith, sym, refl, lt_of_lt_of_le, ℕ, ℤ, pos, FitsSigned, ◌+ℤ◌, ◌*ℤ◌, ◌^◌}
use Rattle.std.specs.Int.{w8, w16, w32, int_wrap}
use Rattle.std.proofs.lemmas.Int.{SFits-int_wrap, int_wrap_fits, ints}
use Rattle.cb_arith.specs.Bits.{low_bits}
use Rattle.cb_arith.specs.declared.narrower.Narrow.TheVariants as narrower
use Rattle.cb_arith.proofs.Laws.{low_bits-lt, low_bits_only, narrow_fits}
use Rattle.cb_kinds.specs.declared.basic.Basic.{Basic}
use Rattle.cb_kinds.specs.declared.basic.Basic.TheVariants as basics
use Rattle.cb_link.specs.Program.{Linked}
use Rattle.cb_machine.specs.Values.{content_of, kept_int, kept_value, sort_of_basic, value_in}
use Rattle.cb_plain.specs.State.{Content, Number}
use Rattle.cb_plain.specs.declared.value.Value.{Value}
use Rattle.cb_shapes.specs.declared.sort.Sort.TheVariants as sorts
use Rattle.cb_verify.specs.Types.{type_of}
use Rattle.cb_verify.specs.Within.{Within}
use Rattle.cb_safety.specs.Held.{HasContent, HasType}
use Rattle.cb_safety.specs.Kinds.{Kinds}

-- ---- read

int_read : (method : Within) (kinds : Kinds) (basic : Basic) (number : ℤ) → sort_of_basic basic ≡ sorts.Int → FitsSigned w32 number
    → HasType method kinds (type_of basic) (value_in basic (Number number))
int_read method kinds (basics.Reference kind) number is fits = absurd (cc is)
int_read method kinds basics.Long number is fits = absurd (cc is)
int_read method kinds other number is fits = HasType.AnInt number fits

pub read_typed : (method : Within) (kinds : Kinds) (basic : Basic) (content : Content) → HasContent method.program kinds basic content → HasType method kinds (type_of basic) (value_in basic content)
read_typed method kinds basic content (HasContent.AReference kind serial refers) = HasType.AReference kind serial refers
read_typed method kinds basic content (HasContent.ALong number fits) = HasType.ALong number fits
read_typed method kinds basic content (HasContent.AnInt own number is fits kept) = int_read method kinds own number is fits

-- ---- written

low_again : (count : ℕ) (number : ℤ) → low_bits count (pos (low_bits count number)) ≡ low_bits count number
low_again count number =
    sym (low_bits_only count (pos (low_bits count number)) (low_bits count number) (low_bits-lt count number) (pos 0, same (low_bits count number) (2 ^ count)))
  where
    same : (low power : ℕ) → pos low ≡ pos low +ℤ pos 0 *ℤ pos power
    same low power = omega (arith, ints)

kept_again : (basic : Basic) (number : ℤ) → kept_int basic (kept_int basic number) ≡ kept_int basic number
kept_again basics.Boolean number = ap pos (low_again 1 number)
kept_again basics.Byte number = int_wrap_fits w8 (int_wrap w8 number) (SFits-int_wrap w8 number)
kept_again basics.Char number = ap pos (low_again 16 number)
kept_again basics.Short number = int_wrap_fits w16 (int_wrap w16 number) (SFits-int_wrap w16 number)
kept_again other number = refl

kept_fits : (basic : Basic) (number : ℤ) → FitsSigned w32 number → FitsSigned w32 (kept_int basic number)
kept_fits basics.Boolean number fits = record { sfits = lt_of_lt_of_le (low_bits-lt 1 number) (omega arith) }
kept_fits basics.Byte number fits = narrow_fits narrower.Byte number
kept_fits basics.Char number fits = narrow_fits narrower.Char number
kept_fits basics.Short number fits = narrow_fits narrower.Short number
kept_fits other number fits = fits

pub int_kept : (program : Linked) (kinds : Kinds) (basic : Basic) (number : ℤ) → sort_of_basic basic ≡ sorts.Int → FitsSigned w32 number
    → HasContent program kinds basic (Number (kept_int basic number))
int_kept program kinds basic number is fits = HasContent.AnInt basic (kept_int basic number) is (kept_fits basic number fits) (kept_again basic number)

pub kept_typed : (method : Within) (kinds : Kinds) (basic : Basic) (value : Value) → HasType method kinds (type_of basic) value
    → HasContent method.program kinds basic (content_of (kept_value basic value))
kept_typed method kinds (basics.Reference kind) value (HasType.AReference own serial refers) = HasContent.AReference kind serial refers
kept_typed method kinds basics.Long value (HasType.ALong number fits) = HasContent.ALong number fits
kept_typed method kinds basics.Boolean value (HasType.AnInt number fits) = int_kept method.program kinds basics.Boolean number refl fits
kept_typed method kinds basics.Byte value (HasType.AnInt number fits) = int_kept method.program kinds basics.Byte number refl fits
kept_typed method kinds basics.Char value (HasType.AnInt number fits) = int_kept method.program kinds basics.Char number refl fits
kept_typed method kinds basics.Short value (HasType.AnInt number fits) = int_kept method.program kinds basics.Short number refl fits
kept_typed method kinds basics.Int value (HasType.AnInt number fits) = int_kept method.program kinds basics.Int number refl fits
