-- Arrays on the stack, and what is read from them.
use Rattle.std.proofs.Common.{◌≡◌, ◌∙◌, arith, refl, sym, ℕ, ℤ, pos, ◌<◌, ◌≤◌, FitsSigned, Bool, true, false, Option, Some, None}
use Rattle.std.specs.Int.{w32}
use Rattle.std.proofs.lemmas.Bool.{false≢true, ltb-true}
use Rattle.std.proofs.lemmas.Option.{none-some, same_Some}
use Rattle.cb_kinds.specs.Basics.{is_reference}
use Rattle.cb_kinds.specs.declared.basic.Basic.{Basic}
use Rattle.cb_kinds.specs.declared.basic.Basic.TheVariants as basics
use Rattle.cb_link.specs.Program.{Linked}
use Rattle.cb_machine.specs.Arrays.{element_of, is_index}
use Rattle.cb_machine.specs.Performing.{most_elements}
use Rattle.cb_machine.specs.Values.{natural, value_in}
use Rattle.cb_plain.specs.State.{Content}
use Rattle.cb_plain.specs.declared.value.Value.{Value}
use Rattle.cb_plain.specs.declared.value.Value.TheVariants as values
use Rattle.cb_shapes.specs.Sorts.{sort_of_elements}
use Rattle.cb_shapes.specs.declared.elements.Elements.{Elements}
use Rattle.cb_shapes.specs.declared.elements.Elements.TheVariants as elements
use Rattle.cb_shapes.specs.declared.sort.Sort.TheVariants as sorts
use Rattle.cb_verify.specs.declared.verification_type.VerificationType.{VerificationType}
use Rattle.cb_verify.specs.declared.verification_type.VerificationType.TheVariants as types
use Rattle.cb_verify.specs.Members.{are_numbers, are_references, is_array_of}
use Rattle.cb_verify.specs.Types.{is_of, number_type, type_of}
use Rattle.cb_verify.specs.Within.{Within}
use Rattle.cb_safety.specs.Advancing.{HoldsThrough}
use Rattle.cb_safety.specs.Held.{HasContent, HasType}
use Rattle.cb_safety.specs.Kinds.{Kinds, Refers, holds_kind}
use Rattle.cb_safety.specs.Naming.{Components, HasElements}
use Rattle.cb_safety.proofs.Changed.{MayHold}
use Rattle.cb_safety.proofs.Contents.{read_typed}

-- ---- what is taken

pub int_is : (method : Within) (kinds : Kinds) (type : VerificationType) (value : Value) → HasType method kinds type value → is_of sorts.Int type ≡ true
    → (number : ℤ) × (value ≡ values.Int number)
int_is method kinds type value (HasType.AnInt number fits) is = (number, refl)
int_is method kinds type value has is = absurd (false≢true is)

-- an array of components of which something is so, or null
pub data AnArray (program : Linked) (kinds : Kinds) (Suits : Basic → Type 0) : Value → Type 0 where
  NoArray : AnArray program kinds Suits (values.Ref 0)
  Array : (kind serial : ℕ) → (basic : Basic) → element_of program kind ≡ Some basic → Suits basic → Refers program kinds kind serial → AnArray program kinds Suits (values.Ref serial)

abbrev pub Suiting : (Basic → Type 0) → Option Basic → Type 0
Suiting Suits None = ⊥
Suiting Suits (Some basic) = Suits basic

pub component_there : (program : Linked) (kinds : Kinds) (Suits : Basic → Type 0) (kind serial : ℕ) → Refers program kinds kind serial → (found : Option Basic) → element_of program kind ≡ found
    → Suiting Suits found → AnArray program kinds Suits (values.Ref serial)
component_there program kinds Suits kind serial refers None is suits = absurd suits
component_there program kinds Suits kind serial refers (Some basic) is suits = AnArray.Array kind serial basic is suits refers

pub array_is : (method : Within) (kinds : Kinds) (Suits : Basic → Type 0) (test : Option Basic → Bool) → ((found : Option Basic) → test found ≡ true → Suiting Suits found)
    → (type : VerificationType) (value : Value) → HasType method kinds type value → is_array_of method.program test type ≡ true → AnArray method.program kinds Suits value
array_is method kinds Suits test suits type value HasType.ItsNull is = AnArray.NoArray
array_is method kinds Suits test suits type value (HasType.AReference kind serial refers) is =
    component_there method.program kinds Suits kind serial refers (element_of method.program kind) refl (suits (element_of method.program kind) is)
array_is method kinds Suits test suits type value (HasType.Unknown own known) is = absurd (suits None is)
array_is method kinds Suits test suits type value (HasType.AnInt number fits) is = absurd (suits None is)
array_is method kinds Suits test suits type value (HasType.ALong number fits) is = absurd (suits None is)
array_is method kinds Suits test suits type value (HasType.ItsThis serial own) is = absurd (suits None is)
array_is method kinds Suits test suits type value (HasType.ANew place serial kind made there) is = absurd (suits None is)

-- what is so of arrays of numbers
pub record IsNumber (form : Elements) (basic : Basic) : Type 0 where
  pub type : type_of basic ≡ number_type (sort_of_elements form)
  pub no_reference : is_reference basic ≡ false

pub number_is : (form : Elements) (found : Option Basic) → are_numbers form found ≡ true → Suiting (IsNumber form) found
number_is elements.BooleansOrBytes (Some basics.Boolean) is = record { type = refl; no_reference = refl }
number_is elements.BooleansOrBytes (Some basics.Byte) is = record { type = refl; no_reference = refl }
number_is elements.Chars (Some basics.Char) is = record { type = refl; no_reference = refl }
number_is elements.Shorts (Some basics.Short) is = record { type = refl; no_reference = refl }
number_is elements.Ints (Some basics.Int) is = record { type = refl; no_reference = refl }
number_is elements.Longs (Some basics.Long) is = record { type = refl; no_reference = refl }
number_is form other is = absurd (false≢true is)

pub number_typed : (method : Within) (kinds : Kinds) (form : Elements) (type : VerificationType) (value : Value) → HasType method kinds type value
    → is_of (sort_of_elements form) type ≡ true → HasType method kinds (number_type (sort_of_elements form)) value
number_typed method kinds elements.Longs type value (HasType.ALong number fits) is = HasType.ALong number fits
number_typed method kinds elements.BooleansOrBytes type value (HasType.AnInt number fits) is = HasType.AnInt number fits
number_typed method kinds elements.Chars type value (HasType.AnInt number fits) is = HasType.AnInt number fits
number_typed method kinds elements.Shorts type value (HasType.AnInt number fits) is = HasType.AnInt number fits
number_typed method kinds elements.Ints type value (HasType.AnInt number fits) is = HasType.AnInt number fits
number_typed method kinds form type value has is = absurd (false≢true is)

-- and of arrays of references
pub data IsReference : Basic → Type 0 where
  AReference : (kind : ℕ) → IsReference (basics.Reference kind)

pub reference_is : (found : Option Basic) → are_references found ≡ true → Suiting IsReference found
reference_is (Some (basics.Reference kind)) is = IsReference.AReference kind
reference_is other is = absurd (false≢true is)

-- ---- what is read

refers_through : (program : Linked) → HoldsThrough program → (kinds : Kinds) (kind other serial : ℕ) → holds_kind program kind other ≡ true → Refers program kinds kind serial
    → Refers program kinds other serial
refers_through program through kinds kind other serial goes Refers.ToNull = Refers.ToNull
refers_through program through kinds kind other serial goes (Refers.To own is) =
    Refers.To own (record { own = is.own; there = is.there; goes = through is.own kind other is.goes goes })

reference_read : (method : Within) → HoldsThrough method.program → (kinds : Kinds) (kind other : ℕ) (content : Content) → holds_kind method.program kind other ≡ true
    → HasContent method.program kinds (basics.Reference kind) content → HasType method kinds (types.Object other) (value_in (basics.Reference kind) content)
reference_read method through kinds kind other content goes (HasContent.AReference own serial refers) =
    HasType.AReference other serial (refers_through method.program through kinds kind other serial goes refers)
reference_read method through kinds kind other content goes (HasContent.AnInt own number is fits kept) = absurd (cc is)

pub element_read : (method : Within) → HoldsThrough method.program → (kinds : Kinds) (element basic : Basic) (content : Content) → Components method.program element basic
    → HasContent method.program kinds element content → HasType method kinds (type_of basic) (value_in element content)
element_read method through kinds element basic content (Components.Alike own none) has = read_typed method kinds own content has
element_read method through kinds element basic content (Components.References kind other goes) has = reference_read method through kinds kind other content goes has

-- ---- places and lengths

pub record IsPlace (index : ℤ) (count : ℕ) : Type 0 where
  pub low : natural index < count

pub is_place : (index : ℤ) (count : ℕ) → is_index index count ≡ true → IsPlace index count
is_place (pos index) count is = record { low = ltb-true index count is }
is_place other count is = absurd (false≢true is)

pub length_fits : (count : ℕ) → count ≤ most_elements → FitsSigned w32 (pos count)
length_fits count few = record { sfits = omega (arith, few) }

pub may_hold_element : (program : Linked) (kind place : ℕ) (basic : Basic) (has : HasElements program kind basic) → MayHold program kind place has.element
may_hold_element program kind place basic has = record {
  fields = λ class own classed declared. absurd (none-some class (sym has.no_class ∙ classed));
  elements = λ own other. same_Some own has.element (sym other ∙ has.is);
}
