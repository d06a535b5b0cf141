-- What a program has to say of the objects that are there at the start (JLS §12.1.4; the streams of System).
use Rattle.std.specs.Prelude.{◌≡◌, ◌<◌, ℕ, true, [], ◌∷◌, Some, None, length}
use Rattle.cb_kinds.specs.declared.basic.Basic.{Basic}
use Rattle.cb_kinds.specs.declared.basic.Basic.TheVariants as basics
use Rattle.cb_link.specs.Calls.{class_of_kind}
use Rattle.cb_link.specs.Program.{Linked}
use Rattle.cb_link.specs.Slots.{field_basic, static_basic}
use Rattle.cb_machine.specs.Arrays.{element_of}
use Rattle.cb_machine.specs.Initialising.{own_statics}
use Rattle.cb_machine.specs.Library as library
use Rattle.cb_machine.specs.Machine.{kind_of_site}
use Rattle.cb_machine.specs.Sites.{argument_characters, argument_strings, arguments, system_in, system_out}
use Rattle.cb_verify.specs.Within.{kind_of_string}
use Rattle.cb_safety.specs.Kinds.{holds_kind}
use Rattle.cb_safety.specs.Placed.{IsSited, IsSized}
use Rattle.cb_safety.specs.Strings.{AreStrings}

-- objects of a kind are arrays of strings
pub record AreArguments (program : Linked) (kind : ℕ) : Type 0 where
  pub low : kind < length program.kinds
  pub own : holds_kind program kind kind ≡ true
  pub elements : element_of program kind ≡ Some (basics.Reference kind_of_string)
  pub no_class : class_of_kind program kind ≡ None
  pub sited : IsSited program kind

-- objects of a kind have no fields
pub record AreEmpty (program : Linked) (kind : ℕ) : Type 0 where
  pub low : kind < length program.kinds
  pub no_fields : (class slot : ℕ) → (basic : Basic) → class_of_kind program kind ≡ Some class → ¬ (field_basic program class slot ≡ Some basic)
  pub no_elements : element_of program kind ≡ None
  pub sited : IsSited program kind
  pub sized : IsSized program kind 0

-- a static field may hold objects of a kind
pub record HoldsObjects (program : Linked) (own : ℕ) (basic : Basic) : Type 0 where
  pub kind : ℕ
  pub is : basic ≡ basics.Reference kind
  pub goes : holds_kind program own kind ≡ true

-- the array of arguments, its strings, and the two streams, which stand in the two static fields of System
pub record HasStart (program : Linked) : Type 0 where
  pub array : AreArguments program (kind_of_site program arguments)
  pub strings : AreStrings program (kind_of_site program argument_strings) (kind_of_site program argument_characters)
  pub out : AreEmpty program (kind_of_site program system_out)
  pub input : AreEmpty program (kind_of_site program system_in)
  pub first : ℕ
  pub second : ℕ
  pub slots : own_statics program library.system ≡ first ∷ second ∷ []
  pub holds_out : (basic : Basic) → static_basic program first ≡ Some basic → HoldsObjects program (kind_of_site program system_out) basic
  pub holds_in : (basic : Basic) → static_basic program second ≡ Some basic → HoldsObjects program (kind_of_site program system_in) basic
