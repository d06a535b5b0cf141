-- The parts of a frame.
use Rattle.std.proofs.Common.{◌≡◌, ◌≢◌, ◌↔◌, ℕ, List, [], ◌∷◌, ◌++◌, refl, ◌∙◌, ap, arith}
use Rattle.cb_text.specs.declared.constant.Constant.{Constant}
use Rattle.cb_classfile.specs.declared.frame_map.MapFrame.{MapFrame}
use Rattle.cb_classfile.specs.FrameMap.{SpellsDelta, SpellsType, type_bytes}
use Rattle.cb_classfile.specs.declared.map_type.MapType.{MapType}
use Rattle.cb_classfile.specs.declared.map_type.MapType.TheVariants.{Top, Integer, Float, Double, Long, Null, UninitializedThis, Object, Uninitialized}
use Rattle.cb_classfile.specs.declared.frame_form.FrameForm.{FrameForm}
use Rattle.cb_classfile.specs.declared.frame_form.FrameForm.TheVariants as forms
use Rattle.cb_classfile.specs.Reading.{IsFront}
use Rattle.cb_classfile.specs.Tables.{BeginsWith, SpellsU1, SpellsU2, u2}

-- a frame is its parts
pub frame_same : (kind delta : ℕ) (locals stack : List MapType) (other : MapFrame) → kind ≡ other.kind → delta ≡ other.delta → locals ≡ other.locals → stack ≡ other.stack → record { kind = kind; delta = delta; locals = locals; stack = stack } ≡ other
frame_same kind delta locals stack other same_kind same_delta same_locals same_stack = rw (same_kind, same_delta, same_locals, same_stack) refl

-- the delta stands behind the kind in all other forms than these
pub delta_stands : (form : FrameForm) (kind : ℕ) (bytes : List ℕ) (delta : ℕ) → form ≢ forms.Same → form ≢ forms.SameOneItem → form ≢ forms.Reserved → SpellsDelta form kind bytes delta ↔ SpellsU2 bytes delta
delta_stands forms.Same kind bytes delta same item reserved = absurd (same refl)
delta_stands forms.SameOneItem kind bytes delta same item reserved = absurd (item refl)
delta_stands forms.Reserved kind bytes delta same item reserved = absurd (reserved refl)
delta_stands form kind bytes delta same item reserved = (λ stands. stands, λ stands. stands)

-- the tag of a type
unfoldable pub tag_of : MapType → ℕ
tag_of Top = 0
tag_of Integer = 1
tag_of Float = 2
tag_of Double = 3
tag_of Long = 4
tag_of Null = 5
tag_of UninitializedThis = 6
tag_of (Object class) = 7
tag_of (Uninitialized place) = 8

-- the bytes behind the tag
unfoldable pub behind_tag : MapType → List ℕ
behind_tag (Object class) = u2 class
behind_tag (Uninitialized place) = u2 place
behind_tag other = []

-- the bytes of a type are these
tagged : (type : MapType) → type_bytes type ≡ tag_of type ∷ behind_tag type
unfolding tag_of behind_tag
tagged (Object class) = refl
tagged (Uninitialized place) = refl
tagged Top = refl
tagged Integer = refl
tagged Float = refl
tagged Double = refl
tagged Long = refl
tagged Null = refl
tagged UninitializedThis = refl

pub type_spelled : (pool : List Constant) (bytes : List ℕ) (type : MapType) → SpellsType pool bytes type → bytes ≡ tag_of type ∷ behind_tag type
type_spelled pool bytes type spelled = spelled.spelled ∙ tagged type

-- the tag at the front of a type
pub tag_stands : (pool : List Constant) {bytes rest : List ℕ} (type : MapType) → BeginsWith (SpellsType pool) bytes type rest → BeginsWith SpellsU1 bytes (tag_of type) (behind_tag type ++ rest)
tag_stands pool {bytes} {rest} type (first, spelled, split) =
    (tag_of type ∷ [], refl, split ∙ ap (λ first. first ++ rest) (type_spelled pool first type spelled))

-- behind the tag of a class stands its index, and behind that of an object that isn't initialised a place
pub object_behind : {P : Type 0} (pool : List Constant) {bytes middle : List ℕ} {tag : ℕ} → tag ≡ 7 → IsFront SpellsU1 bytes tag middle → ((index : ℕ) (rest : List ℕ) → BeginsWith SpellsU2 middle index rest → P) → (type : MapType) (rest : List ℕ) → BeginsWith (SpellsType pool) bytes type rest → P
unfolding tag_of behind_tag
object_behind pool is here next (Object class) rest begins =
    next class rest (u2 class, (begins.1.allowed.1, refl), (here.only _ _ (tag_stands pool (Object class) begins)).1)
object_behind pool is here next type rest begins = absurd (omega (arith, is, (here.only _ _ (tag_stands pool type begins)).0))

pub uninitialized_behind : {P : Type 0} (pool : List Constant) {bytes middle : List ℕ} {tag : ℕ} → tag ≡ 8 → IsFront SpellsU1 bytes tag middle → ((place : ℕ) (rest : List ℕ) → BeginsWith SpellsU2 middle place rest → P) → (type : MapType) (rest : List ℕ) → BeginsWith (SpellsType pool) bytes type rest → P
unfolding tag_of behind_tag
uninitialized_behind pool is here next (Uninitialized place) rest begins =
    next place rest (u2 place, (begins.1.allowed, refl), (here.only _ _ (tag_stands pool (Uninitialized place) begins)).1)
uninitialized_behind pool is here next type rest begins = absurd (omega (arith, is, (here.only _ _ (tag_stands pool type begins)).0))
