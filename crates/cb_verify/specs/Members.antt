-- What the member that an instruction names takes from the operand stack and gives, and what arrays hold (JVMS §4.3, §4.10.1.2).
use Rattle.std.specs.Prelude.{ℕ, Bool, true, false, List, [], map, Option, Some, None, reverse, slice_get}
use Rattle.cb_hierarchy.specs.Classes.{listed}
use Rattle.cb_kinds.specs.declared.basic.Basic.{Basic}
use Rattle.cb_kinds.specs.declared.basic.Basic.TheVariants as basics
use Rattle.cb_kinds.specs.Basics.{component_of}
use Rattle.cb_link.specs.declared.linked.LinkedMethod.{LinkedMethod}
use Rattle.cb_link.specs.declared.named.Named.{Named}
use Rattle.cb_link.specs.declared.named.Named.TheVariants as meanings
use Rattle.cb_link.specs.Named.{named}
use Rattle.cb_link.specs.Numbers.{or_none}
use Rattle.cb_link.specs.Program.{Linked}
use Rattle.cb_link.specs.Slots.{field_basic, static_basic}
use Rattle.cb_shapes.specs.declared.elements.Elements.{Elements}
use Rattle.cb_shapes.specs.declared.elements.Elements.TheVariants.{BooleansOrBytes, Chars, Shorts, Ints, Longs}
use Rattle.cb_verify.specs.declared.verification_type.VerificationType.{VerificationType}
use Rattle.cb_verify.specs.declared.verification_type.VerificationType.TheVariants.{Null, Object}
use Rattle.cb_verify.specs.Types.{type_of}
use Rattle.cb_verify.specs.Within.{Within}

-- a field takes a value and gives one; a method takes its arguments, the last one on top, and gives its result, if it has one
pub record Member : Type 0 where
  pub takes : List Basic
  pub gives : Option Basic

abbrev of_field : Option Basic → Member
of_field basic = record { takes = listed basic; gives = basic }

abbrev of_method : Option LinkedMethod → Member
of_method None = record { takes = []; gives = None }
of_method (Some method) = record { takes = reverse method.parameters; gives = method.result }

abbrev pub member_of : Linked → Named → Member
member_of program (meanings.Static class slot) = of_field (static_basic program slot)
member_of program (meanings.Field class slot) = of_field (field_basic program class slot)
member_of program (meanings.Method method) = of_method (slice_get program.methods method)
member_of program other = of_method None

abbrev pub member_at : Within → ℕ → Member
member_at method pc = member_of method.program (named method.program method.number pc)

-- the types of what it takes and gives
abbrev pub taken_types : Member → List VerificationType
taken_types member = map type_of member.takes

abbrev pub given_types : Member → List VerificationType
given_types member = map type_of (listed member.gives)

-- what the components of an array are, none of what is no array
abbrev pub component : Linked → VerificationType → Option Basic
component program (Object kind) = component_of program.kinds (or_none (slice_get program.kinds kind))
component program other = None

-- arrays of numbers, by the instructions on their elements, and arrays of references
abbrev pub are_numbers : Elements → Option Basic → Bool
are_numbers BooleansOrBytes (Some basics.Boolean) = true
are_numbers BooleansOrBytes (Some basics.Byte) = true
are_numbers Chars (Some basics.Char) = true
are_numbers Shorts (Some basics.Short) = true
are_numbers Ints (Some basics.Int) = true
are_numbers Longs (Some basics.Long) = true
are_numbers elements other = false

abbrev pub are_references : Option Basic → Bool
are_references (Some (basics.Reference kind)) = true
are_references other = false

abbrev pub are_any : Option Basic → Bool
are_any None = false
are_any (Some basic) = true

-- null, or an array with such components
abbrev pub is_array_of : Linked → (Option Basic → Bool) → VerificationType → Bool
is_array_of program suits Null = true
is_array_of program suits type = suits (component program type)

-- what is loaded from an array of references: null from null
abbrev loaded_from : Option Basic → Option VerificationType
loaded_from (Some (basics.Reference kind)) = Some (Object kind)
loaded_from other = None

abbrev pub element_type : Linked → VerificationType → Option VerificationType
element_type program Null = Some Null
element_type program type = loaded_from (component program type)
