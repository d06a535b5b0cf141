-- Values that were taken by their sorts.
use Rattle.std.proofs.Common.{◌≡◌, ℕ, ℤ, true, FitsSigned, List, [], ◌∷◌}
use Rattle.std.specs.Int.{w32, w64}
use Rattle.std.specs.Cmp.Lexicographic.{pointwise}
use Rattle.std.proofs.lemmas.Bool.{and_parts, false≢true}
use Rattle.cb_plain.specs.declared.value.Value.{Value}
use Rattle.cb_plain.specs.declared.value.Value.TheVariants as values
use Rattle.cb_shapes.specs.declared.sort.Sort.{Sort}
use Rattle.cb_shapes.specs.declared.sort.Sort.TheVariants as sorts
use Rattle.cb_verify.specs.declared.verification_type.VerificationType.{VerificationType}
use Rattle.cb_verify.specs.Types.{is_of}
use Rattle.cb_verify.specs.Within.{Within}
use Rattle.cb_safety.specs.Held.{HasType, HaveTypes}
use Rattle.cb_safety.specs.Kinds.{Kinds}

pub data AreOf : List Sort → List Value → Type 0 where
  NoneAre : AreOf [] []
  AnInt : (number : ℤ) → FitsSigned w32 number → (asked : List Sort) → (held : List Value) → AreOf asked held → AreOf (sorts.Int ∷ asked) (values.Int number ∷ held)
  ALong : (number : ℤ) → FitsSigned w64 number → (asked : List Sort) → (held : List Value) → AreOf asked held → AreOf (sorts.Long ∷ asked) (values.Long number ∷ held)
  AReference : (serial : ℕ) → (asked : List Sort) → (held : List Value) → AreOf asked held → AreOf (sorts.Reference ∷ asked) (values.Ref serial ∷ held)

one_of : (method : Within) (kinds : Kinds) (sort : Sort) (asked : List Sort) (type : VerificationType) (value : Value) (held : List Value)
    → HasType method kinds type value → is_of sort type ≡ true → AreOf asked held → AreOf (sort ∷ asked) (value ∷ held)
one_of method kinds sorts.Int asked type value held (HasType.AnInt number fits) is are = AreOf.AnInt number fits asked held are
one_of method kinds sorts.Long asked type value held (HasType.ALong number fits) is are = AreOf.ALong number fits asked held are
one_of method kinds sorts.Reference asked type value held HasType.ItsNull is are = AreOf.AReference 0 asked held are
one_of method kinds sorts.Reference asked type value held (HasType.AReference kind serial refers) is are = AreOf.AReference serial asked held are
one_of method kinds sorts.Reference asked type value held (HasType.ItsThis serial own) is are = AreOf.AReference serial asked held are
one_of method kinds sorts.Reference asked type value held (HasType.ANew place serial kind made there) is are = AreOf.AReference serial asked held are
one_of method kinds sort asked type value held has is are = absurd (false≢true is)

pub are_of : (method : Within) (kinds : Kinds) (asked : List Sort) (types : List VerificationType) (held : List Value)
    → HaveTypes method kinds types held → pointwise is_of asked types ≡ true → AreOf asked held
are_of method kinds [] types held HaveTypes.NoMore are = AreOf.NoneAre
are_of method kinds (sort ∷ asked) types held (HaveTypes.And type value others more has have) are =
    let both = and_parts (is_of sort type) (pointwise is_of asked others) are in
    one_of method kinds sort asked type value more has both.0 (are_of method kinds asked others more have both.1)
are_of method kinds asked types held have are = absurd (false≢true are)
