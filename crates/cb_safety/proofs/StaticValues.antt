-- The values of static fields, and fields of which one is set.
use Rattle.std.proofs.Common.{◌≡◌, ◌∙◌, ap, refl, sym, subst, ℕ, ℤ, zero, suc, Bool, true, false, List, [], ◌∷◌, Some, slice_get, slice_set}
use Rattle.std.specs.Prelude.{◌==◌}
use Rattle.std.proofs.lemmas.Bool.{eqb-true, eq-eqb, false≢true}
use Rattle.std.proofs.lemmas.Option.{same_Some}
use Rattle.cb_kinds.specs.declared.basic.Basic.{Basic}
use Rattle.cb_kinds.specs.declared.basic.Basic.TheVariants as basics
use Rattle.cb_link.specs.Program.{Linked}
use Rattle.cb_link.specs.Slots.{static_basic}
use Rattle.cb_machine.specs.Values.{kept_int, kept_value, sort_of_basic}
use Rattle.cb_plain.specs.Roots as plain_roots
use Rattle.cb_plain.specs.State.{Number, Roots}
use Rattle.cb_plain.specs.declared.value.Value.{Value}
use Rattle.cb_plain.specs.declared.value.Value.TheVariants as values
use Rattle.cb_shapes.specs.declared.sort.Sort.TheVariants as sorts
use Rattle.cb_verify.specs.Types.{type_of}
use Rattle.cb_verify.specs.Within.{Within}
use Rattle.cb_safety.specs.Held.{HasBasic, HasContent, HasType}
use Rattle.cb_safety.specs.Kinds.{IsKnown, Kinds}
use Rattle.cb_safety.specs.States.{AreRoots, AreStatics, HasStatic}
use Rattle.cb_safety.proofs.Known.{all_set}
use Rattle.cb_safety.proofs.Assigned.{never}
use Rattle.cb_safety.proofs.Contents.{kept_typed}

-- ---- values of static fields

int_given : (method : Within) (kinds : Kinds) (basic : Basic) (number : ℤ) → sort_of_basic basic ≡ sorts.Int → HasType method kinds (type_of basics.Int) (values.Int number)
    → HasType method kinds (type_of basic) (values.Int number)
int_given method kinds (basics.Reference kind) number is has = absurd (cc is)
int_given method kinds basics.Long number is has = absurd (cc is)
int_given method kinds other number is has = has

pub basic_typed : (method : Within) (kinds : Kinds) (basic : Basic) (value : Value) → HasBasic method.program kinds basic value → HasType method kinds (type_of basic) value
basic_typed method kinds basic value (HasBasic.AReference kind serial refers) = HasType.AReference kind serial refers
basic_typed method kinds basic value (HasBasic.ALong number fits) = HasType.ALong number fits
basic_typed method kinds basic value (HasBasic.AnInt own number is fits kept) = int_given method kinds own number is (HasType.AnInt number fits)

pub int_basic : (program : Linked) (kinds : Kinds) (basic : Basic) (number : ℤ) → sort_of_basic basic ≡ sorts.Int → HasContent program kinds basic (Number number)
    → HasBasic program kinds basic (values.Int number)
int_basic program kinds basic number is (HasContent.ALong own fits) = absurd (cc is)
int_basic program kinds basic number is (HasContent.AnInt own other sort fits kept) = HasBasic.AnInt own other sort fits kept

pub kept_basic : (method : Within) (kinds : Kinds) (basic : Basic) (value : Value) → HasType method kinds (type_of basic) value
    → HasBasic method.program kinds basic (kept_value basic value)
kept_basic method kinds (basics.Reference kind) value (HasType.AReference own serial refers) = HasBasic.AReference kind serial refers
kept_basic method kinds basics.Long value (HasType.ALong number fits) = HasBasic.ALong number fits
kept_basic method kinds basics.Boolean value (HasType.AnInt number fits) =
    int_basic method.program kinds basics.Boolean (kept_int basics.Boolean number) refl (kept_typed method kinds basics.Boolean (values.Int number) (HasType.AnInt number fits))
kept_basic method kinds basics.Byte value (HasType.AnInt number fits) =
    int_basic method.program kinds basics.Byte (kept_int basics.Byte number) refl (kept_typed method kinds basics.Byte (values.Int number) (HasType.AnInt number fits))
kept_basic method kinds basics.Char value (HasType.AnInt number fits) =
    int_basic method.program kinds basics.Char (kept_int basics.Char number) refl (kept_typed method kinds basics.Char (values.Int number) (HasType.AnInt number fits))
kept_basic method kinds basics.Short value (HasType.AnInt number fits) =
    int_basic method.program kinds basics.Short (kept_int basics.Short number) refl (kept_typed method kinds basics.Short (values.Int number) (HasType.AnInt number fits))
kept_basic method kinds basics.Int value (HasType.AnInt number fits) =
    int_basic method.program kinds basics.Int (kept_int basics.Int number) refl (kept_typed method kinds basics.Int (values.Int number) (HasType.AnInt number fits))

-- ---- static fields of which one is set

pub set_here : {Item : Type 0} (items : List Item) (slot : ℕ) (item old : Item) → slice_get items slot ≡ Some old → slice_get (slice_set items slot item) slot ≡ Some item
set_here [] slot item old is = never is
set_here (first ∷ items) zero item old is = refl
set_here (first ∷ items) (suc slot) item old is = set_here items slot item old is

set_other : {Item : Type 0} (items : List Item) (slot other : ℕ) (item : Item) → ¬ (slot ≡ other) → slice_get (slice_set items slot item) other ≡ slice_get items other
set_other [] slot other item apart = refl
set_other (first ∷ items) zero zero item apart = absurd (apart refl)
set_other (first ∷ items) zero (suc other) item apart = refl
set_other (first ∷ items) (suc slot) zero item apart = refl
set_other (first ∷ items) (suc slot) (suc other) item apart = set_other items slot other item (λ same. apart (ap suc same))

statics_set : (program : Linked) (kinds : Kinds) (held : List Value) (slot : ℕ) (value : Value) → AreStatics program kinds held → IsKnown kinds value
    → ((basic : Basic) → static_basic program slot ≡ Some basic → HasBasic program kinds basic value) → AreStatics program kinds (slice_set held slot value)
statics_set program kinds held slot value are known fits =
    record { each = λ other own is. by other own is (slot == other) refl; known = all_set (IsKnown kinds) held slot value are.known known }
  where
    by : (other : ℕ) (own : Basic) → static_basic program other ≡ Some own → (test : Bool) → (slot == other) ≡ test → HasStatic program kinds (slice_set held slot value) other own
    by other own is false apart =
        let old = are.each other own is in
        record { value = old.value; there = set_other held slot other value (λ same. false≢true (sym apart ∙ eq-eqb slot other same)) ∙ old.there; fits = old.fits }
    by other own is true same =
        let one : slot ≡ other = eqb-true slot other same in
        let declared : static_basic program slot ≡ Some own = ap (static_basic program) one ∙ is in
        let old = are.each slot own declared in
        record {
          value = value;
          there = ap (slice_get (slice_set held slot value)) (sym one) ∙ set_here held slot value old.value old.there;
          fits = fits own declared;
        }

pub roots_set : (program : Linked) (kinds : Kinds) (roots : Roots) (slot : ℕ) (value : Value) → AreRoots program kinds roots → IsKnown kinds value
    → ((basic : Basic) → static_basic program slot ≡ Some basic → HasBasic program kinds basic value) → AreRoots program kinds (plain_roots.with_static roots slot value)
roots_set program kinds roots slot value are known fits = record {
  frames = are.frames;
  statics = statics_set program kinds roots.statics slot value are.statics known fits;
  classes = are.classes;
  tables = are.tables;
  argument = are.argument;
}

-- where it has this type alone
pub of_type : (program : Linked) (kinds : Kinds) (slot : ℕ) (basic : Basic) (value : Value) → static_basic program slot ≡ Some basic → HasBasic program kinds basic value
    → (own : Basic) → static_basic program slot ≡ Some own → HasBasic program kinds own value
of_type program kinds slot basic value declared fits own is = subst (λ (basic : Basic). HasBasic program kinds basic value) (same_Some basic own (sym declared ∙ is)) fits
