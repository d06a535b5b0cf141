-- What a program has to say of the library's natives.
use Rattle.std.specs.Prelude.{◌≡◌, ◌<◌, ◌^◌, ℕ, true, List, [], ◌∷◌, ◌++◌, map, None, Some, slice_get}
use Rattle.std.specs.List.{AllByRecursion, Contains}
use Rattle.cb_classfile.specs.Flags.{acc_static}
use Rattle.cb_classfile.specs.declared.method.Method.{Method}
use Rattle.cb_kinds.specs.declared.basic.Basic.{Basic}
use Rattle.cb_kinds.specs.declared.basic.Basic.TheVariants as basics
use Rattle.cb_library.specs.declared.native.Native.{Native}
use Rattle.cb_link.specs.Calls.{class_of_kind}
use Rattle.cb_link.specs.Numbers.{Numbered, has_flag}
use Rattle.cb_link.specs.Program.{Linked}
use Rattle.cb_link.specs.declared.linked.LinkedMethod.{LinkedMethod}
use Rattle.cb_machine.specs.Arrays.{element_of}
use Rattle.cb_machine.specs.Library as library
use Rattle.cb_machine.specs.Machine.{kind_of_site, method_numbered}
use Rattle.cb_machine.specs.Natives.{native_of}
use Rattle.cb_link.specs.Slots.{enum_statics, field_basic, static_basic}
use Rattle.cb_machine.specs.Sites as sites
use Rattle.cb_machine.specs.Sites.{arithmetic, array_index, array_store, builder_characters, clone_not_supported, illegal_argument, index_out_of_bounds, made_characters, made_strings, negative_size, no_class_definition, null_pointer, number_format, string_index}
use Rattle.cb_verify.specs.Types.{type_of}
use Rattle.cb_verify.specs.Within.{kind_of_class, kind_of_string, kind_of_throwable}
use Rattle.cb_safety.specs.Advancing.{HoldsOwn, HoldsThrough}
use Rattle.cb_safety.specs.Constants.{HasClassObjects}
use Rattle.cb_safety.specs.Kinds.{holds_kind}
use Rattle.cb_safety.specs.Naming.{HasField, HoldsElements}
use Rattle.cb_safety.specs.Natives.{receiver_types}
use Rattle.cb_safety.specs.Placed.{IsSited, IsSized}
use Rattle.cb_safety.specs.Signatures.{builder, bytes, characters, enum, gives_of, takes_of, throwables}
use Rattle.cb_safety.specs.Strings.{AreStrings}
use Rattle.cb_safety.specs.Throwing.{IsThrown}

-- a native has the parameters and the result that the library says
pub record HasSignature (program : Linked) (native : Native) (linked : LinkedMethod) (numbered : Numbered Method) : Type 0 where
  pub takes : receiver_types (has_flag acc_static numbered.member.flags.0) linked.class ++ map type_of linked.parameters ≡ takes_of program native
  pub gives : linked.result ≡ gives_of program native

abbrev pub HaveSignatures : Linked → Type 0
HaveSignatures program = (number : ℕ) (native : Native) (linked : LinkedMethod) (numbered : Numbered Method) → native_of program number ≡ Some native
    → slice_get program.methods number ≡ Some linked → method_numbered program number ≡ Some numbered → HasSignature program native linked numbered

-- each object that may be held as a kind has a field of this type at a slot
abbrev pub HaveField : Linked → ℕ → ℕ → Basic → Type 0
HaveField program kind slot basic = (own : ℕ) → holds_kind program own kind ≡ true → HasField program own slot basic

-- the fields of the library's classes that natives read and write, and the elements of their arrays
pub record HasCore (program : Linked) : Type 0 where
  pub elements : HoldsElements program
  pub char_elements : element_of program (characters program) ≡ Some basics.Char
  pub byte_elements : element_of program (bytes program) ≡ Some basics.Byte
  pub strings : HaveField program kind_of_string 0 (basics.Reference (characters program))
  pub builders : HaveField program builder 0 (basics.Reference (characters program))
  pub counts : HaveField program builder 1 basics.Int
  pub integers : HaveField program library.integer 0 basics.Int
  pub longs : HaveField program library.long 0 basics.Long
  pub chars : HaveField program library.character 0 basics.Char
  pub booleans : HaveField program library.boolean 0 basics.Boolean
  pub ordinals : HaveField program enum 1 basics.Int
  pub numbers : HaveField program kind_of_class 0 basics.Int
  pub throwable_elements : element_of program (throwables program) ≡ Some (basics.Reference kind_of_throwable)
  pub messages : HaveField program kind_of_throwable 0 (basics.Reference kind_of_string)
  pub suppressed_fields : HaveField program kind_of_throwable 2 (basics.Reference (throwables program))
  pub through : HoldsThrough program
  pub own : HoldsOwn program

-- the sites of the exceptions that natives throw
abbrev pub native_sites : List ℕ
native_sites =
    null_pointer ∷ arithmetic ∷ array_index ∷ negative_size ∷ array_store ∷ string_index ∷ number_format ∷ illegal_argument ∷ clone_not_supported
    ∷ index_out_of_bounds ∷ no_class_definition ∷ []

-- objects of a kind are boxes that may be held as another kind: their only field is the first, of this type
pub record AreBoxes (program : Linked) (kind own : ℕ) (basic : Basic) : Type 0 where
  pub box : holds_kind program kind own ≡ true
  pub fields : (class slot : ℕ) → (declared : Basic) → class_of_kind program kind ≡ Some class → field_basic program class slot ≡ Some declared →
      (slot ≡ 0) × (declared ≡ basic)
  pub no_elements : element_of program kind ≡ None
  pub sited : IsSited program kind
  pub sized : IsSized program kind 1

-- objects of a kind are arrays of such elements that may be held as another kind
pub record AreArrays (program : Linked) (kind own : ℕ) (basic : Basic) : Type 0 where
  pub array : holds_kind program kind own ≡ true
  pub no_class : class_of_kind program kind ≡ None
  pub elements : element_of program kind ≡ Some basic
  pub sited : IsSited program kind

-- a constant of an enum is a static field of a kind whose objects may be held as Enum (JLS §8.9.3)
pub record IsConstant (program : Linked) (slot : ℕ) : Type 0 where
  pub kind : ℕ
  pub declared : static_basic program slot ≡ Some (basics.Reference kind)
  pub goes : holds_kind program kind enum ≡ true

-- what natives are, the strings that they make, and the names of kinds, of which they make some, are of units of two bytes
pub record HasNatives (program : Linked) : Type 0 where
  pub signatures : HaveSignatures program
  pub core : HasCore program
  pub thrown : (site : ℕ) → Contains native_sites site → IsThrown program (kind_of_site program site)
  pub texts : AreStrings program (kind_of_site program made_strings) (kind_of_site program made_characters)
  pub made : AreArrays program (kind_of_site program made_characters) (characters program) basics.Char
  pub built : AreArrays program (kind_of_site program builder_characters) (characters program) basics.Char
  pub suppressed : AreArrays program (kind_of_site program sites.suppressed) (throwables program) (basics.Reference kind_of_throwable)
  pub class_objects : HasClassObjects program
  pub int_boxes : AreBoxes program (kind_of_site program sites.integers) library.integer basics.Int
  pub long_boxes : AreBoxes program (kind_of_site program sites.longs) library.long basics.Long
  pub char_boxes : AreBoxes program (kind_of_site program sites.characters) library.character basics.Char
  pub boolean_boxes : AreBoxes program (kind_of_site program sites.booleans) library.boolean basics.Boolean
  pub constants : (class slot : ℕ) → Contains (enum_statics program.classes class) slot → IsConstant program slot
  pub names : (kind : ℕ) (name : List ℕ) → slice_get program.kinds kind ≡ Some name → AllByRecursion (λ unit. unit < 2 ^ 16) name
