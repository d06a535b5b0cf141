-- The object on which a method is called.
use Rattle.std.proofs.Common.{◌≡◌, ◌∙◌, ap, arith, refl, sym, subst, ℕ, zero, suc, ◌<◌, ◌==◌, Bool, true, false, ◌||◌, ◌&&◌, List, [], ◌∷◌, ◌++◌, length, map, nat_lt, reverse, Option, Some, None, slice_get, inl, inr, if◌then◌else◌}
use Rattle.std.proofs.lemmas.Bool.{and_parts, eqb-true, false≢true, ltb-true, or_cases}
use Rattle.std.proofs.lemmas.List.{length-append, length-map, length-reverse, reverse-append, reverse-reverse}
use Rattle.std.proofs.lemmas.Option.{same_Some}
use Rattle.cb_kinds.specs.declared.basic.Basic.{Basic}
use Rattle.cb_link.specs.Program.{Linked}
use Rattle.cb_link.specs.Subtypes.{type_of_kind}
use Rattle.cb_machine.specs.Values.{sort_of_basic}
use Rattle.cb_plain.specs.State.{MethodFrame, Object as StateObject, State}
use Rattle.cb_plain.specs.Updates.{kept, object_in}
use Rattle.cb_plain.specs.declared.value.Value.{Value}
use Rattle.cb_plain.specs.declared.value.Value.TheVariants as values
use Rattle.cb_shapes.specs.declared.sort.Sort.TheVariants as sorts
use Rattle.cb_verify.specs.declared.verification_type.VerificationType.{VerificationType}
use Rattle.cb_verify.specs.declared.verification_type.VerificationType.TheVariants.{Object, This}
use Rattle.cb_verify.specs.Expansion.{this_types}
use Rattle.cb_verify.specs.Leaving.{finished, superclass_of}
use Rattle.cb_verify.specs.Types.{is_of, kind_goes_to}
use Rattle.cb_verify.specs.Within.{Within}
use Rattle.cb_safety.specs.Advancing.{HoldsOn, HoldsOwn}
use Rattle.cb_safety.specs.Heap.{IsHeap}
use Rattle.cb_safety.specs.Held.{HasType, HaveTypes, IsStack}
use Rattle.cb_safety.specs.Kinds.{IsOfKind, Kinds, Refers, holds_kind, is_held_as, kind_in, kinds_of, known}
use Rattle.cb_safety.proofs.Assigned.{never, of_kind_assigned, when}
use Rattle.cb_safety.proofs.Entering.{AreTold, have_reversed}
use Rattle.cb_safety.proofs.Taken.{Taken, taken_front, taken_typed}
use Rattle.cb_safety.proofs.Variables.{new_finished}

-- ---- objects by their kinds

pub record HasObject (objects : List (Option StateObject)) (serial own : ℕ) : Type 0 where
  pub object : StateObject
  pub place : ℕ
  pub is : serial ≡ suc place
  pub there : object_in objects serial ≡ Some object
  pub of : object.kind ≡ own

object_there : (objects : List (Option StateObject)) (place own : ℕ) → known (slice_get (kinds_of objects) place) ≡ Some own
    → (object : StateObject) × (kept (slice_get objects place) ≡ Some object) × (object.kind ≡ own)
object_there [] place own is = never is
object_there (None ∷ objects) zero own is = never is
object_there (Some object ∷ objects) zero own is = (object, refl, same_Some object.kind own is)
object_there (entry ∷ objects) (suc place) own is = object_there objects place own is

pub has_object : (objects : List (Option StateObject)) (serial own : ℕ) → kind_in (kinds_of objects) serial ≡ Some own → HasObject objects serial own
has_object objects zero own is = never is
has_object objects (suc place) own is =
    let (object, there, of) = object_there objects place own is in
    record { object = object; place = place; is = refl; there = there; of = of }

-- the kind of an object that is there
pub own_kind : (objects : List (Option StateObject)) (serial own : ℕ) (object : StateObject) → kind_in (kinds_of objects) serial ≡ Some own
    → object_in objects serial ≡ Some object → own ≡ object.kind
own_kind objects serial own object is there =
    let has : HasObject objects serial own = has_object objects serial own is in
    sym has.of ∙ ap (λ (object : StateObject). object.kind) (same_Some has.object object (sym has.there ∙ there))

kind_there_low : (program : Linked) (objects : List (Option StateObject)) (serial own : ℕ) → IsHeap program objects → kind_in (kinds_of objects) serial ≡ Some own
    → own < length program.kinds
kind_there_low program objects serial own heap is =
    let has = has_object objects serial own is in
    subst (λ (kind : ℕ). kind < length program.kinds) has.of (heap.each serial has.object has.there).kind

-- what is held as a kind is so as a kind of the program
pub held_low : (program : Linked) (own kind : ℕ) → holds_kind program own kind ≡ true → kind < length program.kinds
held_low program own kind holds =
    let (both, held) = and_parts (nat_lt own (length program.kinds) && nat_lt kind (length program.kinds)) (is_held_as program.classes (type_of_kind program own) (type_of_kind program kind)) holds in
    ltb-true kind (length program.kinds) (and_parts (nat_lt own (length program.kinds)) (nat_lt kind (length program.kinds)) both).1

-- ---- an object that a constructor of a class may finish is one of the class

pub record Receiver (program : Linked) (kinds : Kinds) (kind : ℕ) (object : VerificationType) (value : Value) : Type 0 where
  pub serial : ℕ
  pub is : value ≡ values.Ref serial
  pub of : IsOfKind program kinds kind serial
  pub reference : is_of sorts.Reference object ≡ true

abbrev is_found : ℕ → Option ℕ → Bool
is_found kind None = false
is_found kind (Some other) = kind == other

this_of_kind : (method : Within) → HoldsOn method.program → ((above : ℕ) → superclass_of method ≡ Some above → kind_goes_to method.program method.class above ≡ true)
    → (kinds : Kinds) (kind serial : ℕ) → ((kind == method.class) || is_found kind (superclass_of method)) ≡ true
    → IsOfKind method.program kinds method.class serial → IsOfKind method.program kinds kind serial
this_of_kind method holds up kinds kind serial either is = elim (or_cases (kind == method.class) (is_found kind (superclass_of method)) either) [
  | inl same ↦ subst (λ (own : ℕ). IsOfKind method.program kinds own serial) (sym (eqb-true kind method.class same)) is
  | inr above ↦ go (superclass_of method) refl above
]
  where
    go : (found : Option ℕ) → superclass_of method ≡ found → is_found kind found ≡ true → IsOfKind method.program kinds kind serial
    go None there so = absurd (false≢true so)
    go (Some other) there so =
        subst (λ (own : ℕ). IsOfKind method.program kinds own serial) (sym (eqb-true kind other so))
        (of_kind_assigned method.program holds kinds method.class other serial (up other there) is)

pub received : (method : Within) (objects : List (Option StateObject)) (kind : ℕ) (object type : VerificationType) (value : Value)
    → HoldsOn method.program → HoldsOwn method.program → IsHeap method.program objects
    → ((above : ℕ) → superclass_of method ≡ Some above → kind_goes_to method.program method.class above ≡ true)
    → finished method kind object ≡ Some type → HasType method (kinds_of objects) object value → Receiver method.program (kinds_of objects) kind object value
received method objects kind object type value holds owns heap up is (HasType.ItsThis serial of) = record {
  serial = serial;
  is = refl;
  of = this_of_kind method holds up (kinds_of objects) kind serial
      (when ((kind == method.class) || is_found kind (superclass_of method)) (Some (Object method.class)) type is).0 of;
  reference = refl;
}
received method objects kind object type value holds owns heap up is (HasType.ANew place serial own makes there) =
    let made = (new_finished method kind place type is).1 in
    let same : own ≡ kind = same_Some own kind (sym makes ∙ made) in
    let found : kind_in (kinds_of objects) serial ≡ Some kind = there ∙ ap {B = Option ℕ} Some same in
    record {
      serial = serial;
      is = refl;
      of = record { own = kind; there = found; goes = owns kind (kind_there_low method.program objects serial kind heap found) };
      reference = refl;
    }
received method objects kind object type value holds owns heap up is has = never is

-- ---- it is taken behind the arguments

pub object_taken : (method : Within) (kinds : Kinds) (object : VerificationType) (rest : List VerificationType) (stack : List Value) → is_of sorts.Reference object ≡ true
    → IsStack method kinds (object ∷ rest) stack → Taken method kinds (sorts.Reference ∷ []) stack (object ∷ []) rest
object_taken method kinds object rest stack reference is =
    taken_typed method kinds (sorts.Reference ∷ []) (object ∷ rest) stack (object ∷ []) rest is
    (ap (λ (test : Bool). if test then Some (object ∷ [], rest) else None) reference)

-- and stands in front of them where they are in order
pub record InFront (method : Within) (kinds : Kinds) (object : VerificationType) (types : List VerificationType) (held : List Value) : Type 0 where
  pub value : Value
  pub arguments : List Value
  pub is : held ≡ value ∷ arguments
  pub has : HasType method kinds object value
  pub have : HaveTypes method kinds types arguments

in_front : (method : Within) (kinds : Kinds) (object : VerificationType) (types : List VerificationType) (held : List Value) → HaveTypes method kinds (object ∷ types) held
    → InFront method kinds object types held
in_front method kinds object types held (HaveTypes.And type value others rest has have) = record { value = value; arguments = rest; is = refl; has = has; have = have }

pub object_in_front : (method : Within) (kinds : Kinds) (object : VerificationType) (types : List VerificationType) (held : List Value)
    → HaveTypes method kinds (types ++ object ∷ []) held → InFront method kinds object (reverse types) (reverse held)
object_in_front method kinds object types held have =
    in_front method kinds object (reverse types) (reverse held)
    (subst (λ (own : List VerificationType). HaveTypes method kinds own (reverse held)) (reverse-append types (object ∷ []))
    (have_reversed method kinds (types ++ object ∷ []) held have))

-- ---- a call on an object that is there

-- the arguments are the object and so many others, and stand on the stack of the frame
pub record OnObject (state : State) (frame : MethodFrame) (count : ℕ) (arguments : List Value) : Type 0 where
  pub rest : List Value
  pub stack : frame.stack ≡ reverse arguments ++ rest
  pub place : ℕ
  pub object : StateObject
  pub others : List Value
  pub are : arguments ≡ values.Ref (suc place) ∷ others
  pub so_many : length others ≡ count
  pub there : object_in state.objects (suc place) ≡ Some object

-- so they are what is taken, in order
pub in_order : (method : Within) (kinds : Kinds) (state : State) (frame : MethodFrame) (wanted : List Basic) (types rest : List VerificationType)
    (took : Taken method kinds (map sort_of_basic (reverse wanted) ++ sorts.Reference ∷ []) frame.stack types rest) (count : ℕ) (arguments : List Value)
    → count ≡ length wanted → OnObject state frame count arguments → reverse took.values ≡ arguments
in_order method kinds state frame wanted types rest took count arguments same on =
    ap (λ (held : List Value). reverse held)
    (taken_front method kinds (map sort_of_basic (reverse wanted) ++ sorts.Reference ∷ []) frame.stack types rest took (reverse arguments) on.rest on.stack as_many)
    ∙ reverse-reverse arguments
  where
    as_many : length (reverse arguments) ≡ length (map sort_of_basic (reverse wanted) ++ sorts.Reference ∷ [])
    as_many =
        let more : length arguments ≡ suc (length on.others) = ap (λ (held : List Value). length held) on.are in
        omega (
          arith,
          more,
          on.so_many,
          same,
          length-reverse arguments,
          length-append (map sort_of_basic (reverse wanted)) (sorts.Reference ∷ []),
          length-map (reverse wanted) sort_of_basic,
          length-reverse wanted,
        )

pub same_serial : (one other : ℕ) (value : Value) (others arguments : List Value) → values.Ref one ∷ others ≡ value ∷ arguments → value ≡ values.Ref other → one ≡ other
same_serial one other value others arguments are is = cc

-- ---- the object of a method that is entered

abbrev this_of : Bool → Bool → ℕ → List VerificationType
this_of static constructor class = if static then [] else if constructor then This ∷ [] else Object class ∷ []

pub record IsThis (method : Within) (kinds : Kinds) (serial : ℕ) : Type 0 where
  pub have : HaveTypes method kinds (this_types method) (values.Ref serial ∷ [])
  pub told : AreTold (this_types method)

pub this_typed : (method : Within) (kinds : Kinds) (serial : ℕ) → method.is_static ≡ false → IsOfKind method.program kinds method.class serial → IsThis method kinds serial
this_typed method kinds serial is of = record { have = (go method.is_static method.is_constructor is).0; told = (go method.is_static method.is_constructor is).1 } where
  go : (static constructor : Bool) → static ≡ false → HaveTypes method kinds (this_of static constructor method.class) (values.Ref serial ∷ [])
      × AreTold (this_of static constructor method.class)
  go true constructor is = absurd (false≢true (sym is))
  go false true is = (HaveTypes.And This (values.Ref serial) [] [] (HasType.ItsThis serial of) HaveTypes.NoMore, (refl, tt))
  go false false is =
      (HaveTypes.And (Object method.class) (values.Ref serial) [] [] (HasType.AReference method.class serial (Refers.To serial of)) HaveTypes.NoMore, (refl, tt))
