-- Instructions by their places, and what the constants that they name are in a program (JVMS §6.5).
use Rattle.std.specs.Prelude.{◌≡◌, ℕ, ◌+◌, ◌<◌, List, [], length, Option, Some, None, option_and_then, option_map, slice_get, ◌==◌, if◌then◌else◌}
use Rattle.std.specs.List.{position}
use Rattle.std.specs.Option.{option_or}
use Rattle.cb_text.specs.declared.constant.Constant.{Constant}
use Rattle.cb_text.specs.declared.naming.MemberKind.{MemberKind}
use Rattle.cb_text.specs.declared.naming.MemberKind.TheVariants as members
use Rattle.cb_text.specs.Naming.{MemberNames, class_at, int_at, long_at, member_at, string_at}
use Rattle.cb_insn.specs.declared.insn.Insn.{Insn}
use Rattle.cb_plain.specs.declared.value.Value.TheVariants as values
use Rattle.cb_classfile.specs.declared.body.Body.{Body}
use Rattle.cb_classfile.specs.declared.class.ClassFile.{ClassFile}
use Rattle.cb_classfile.specs.declared.field.Field.{Field}
use Rattle.cb_classfile.specs.declared.handler.Handler.{Handler}
use Rattle.cb_classfile.specs.declared.method.Method.{Method}
use Rattle.cb_classfile.specs.Needed.{index_in}
use Rattle.cb_hierarchy.specs.declared.member.Field.{Field as RankedField}
use Rattle.cb_kinds.specs.Basics.{kind_number}
use Rattle.cb_kinds.specs.Texts.{number_of}
use Rattle.cb_link.specs.declared.linked.Site.{Site}
use Rattle.cb_link.specs.declared.named.Named.{Named}
use Rattle.cb_link.specs.declared.named.Named.TheVariants as meanings
use Rattle.cb_link.specs.Making.{made_by}
use Rattle.cb_link.specs.Numbers.{Numbered, methods_of, ranked_fields}
use Rattle.cb_link.specs.Program.{Linked}
use Rattle.cb_link.specs.Resolving.{found_field, found_method}
use Rattle.cb_link.specs.Slots.{object_fields, slot_of, static_at, statics}

-- a field that was found, static or not, with the class that declares it and its slot
abbrev field_with : List ClassFile → ℕ → Option RankedField → Named
field_with classes number None = meanings.Nothing
field_with classes number (Some field) =
    if field.is_static then meanings.Static field.declared.class (slot_of classes number) else meanings.Field field.declared.class (slot_of classes number)

abbrev pub field_named : List ClassFile → ℕ → Named
field_named classes number = field_with classes number (slice_get (ranked_fields classes) number)

-- what is found of a member
abbrev found_as : List ClassFile → MemberNames → MemberKind → Option Named
found_as classes member members.Field = option_map (field_named classes) (found_field classes member)
found_as classes member other = option_map meanings.Method (found_method classes member)

abbrev pub member_named : List ClassFile → MemberNames → Option Named
member_named classes member = found_as classes member member.kind

-- what the constant at an index is: a number, a text, a kind, or a member that is found
abbrev pub constant_named : List ClassFile → List (List ℕ) → List (List ℕ) → List Constant → ℕ → Option Named
constant_named classes kinds texts pool index =
    option_or (option_map (λ number. meanings.Whole (values.Int number)) (int_at pool index))
    (option_or (option_map (λ number. meanings.Whole (values.Long number)) (long_at pool index))
    (option_or (option_map meanings.Text (option_and_then (number_of texts) (string_at pool index)))
    (option_or (option_map meanings.Kind (option_and_then (number_of kinds) (class_at pool index)))
    (option_and_then (member_named classes) (member_at pool index)))))

-- or nothing
abbrev pub or_nothing : Option Named → Named
or_nothing None = meanings.Nothing
or_nothing (Some other) = other

abbrev pub named_at : Linked → List Constant → Option ℕ → Named
named_at program pool index = or_nothing (option_and_then (constant_named program.classes program.kinds program.constants pool) index)

-- what is named is there: each number is below the count of its kind
abbrev pub IsThere : Linked → Named → Type 0
IsThere program (meanings.Kind kind) = kind < length program.kinds
IsThere program (meanings.Static class slot) = (class < length program.classes) × (slot < length (statics program.classes))
IsThere program (meanings.Field class slot) = (class < length program.classes) × (slot < length (object_fields program.classes class))
IsThere program (meanings.Method method) = method < length program.methods
IsThere program (meanings.Text text) = text < length program.constants
IsThere program other = Unit {0}

-- the kind that the constant at an index of a class names
abbrev pub kind_in : List (List ℕ) → List Constant → ℕ → Option ℕ
kind_in kinds pool index = option_and_then (number_of kinds) (class_at pool index)

abbrev pub kind_at : Linked → ℕ → ℕ → Option ℕ
kind_at program class index = option_and_then (λ declaring. kind_in program.kinds declaring.pool index) (slice_get program.classes class)

-- the code of a method
abbrev pub code_in : Option Body → List (ℕ × Insn)
code_in None = []
code_in (Some body) = body.code

abbrev pub code_of : Option (Numbered Method) → List (ℕ × Insn)
code_of None = []
code_of (Some method) = code_in method.member.body

abbrev pub code_at : Linked → ℕ → List (ℕ × Insn)
code_at program method = code_of (slice_get (methods_of program.classes) method)

-- which instruction of code stands at a place, counted from 0; the instruction; and the place of the next one
abbrev pub turn_at : List (ℕ × Insn) → ℕ → Option ℕ
turn_at code pc = position (λ placed. placed.0 == pc) code

abbrev pub insn_in : List (ℕ × Insn) → ℕ → Option Insn
insn_in code pc = option_map (λ placed. placed.1) (option_and_then (slice_get code) (turn_at code pc))

abbrev pub behind_in : List (ℕ × Insn) → ℕ → Option ℕ
behind_in code pc = option_map (λ placed. placed.0) (option_and_then (λ turn. slice_get code (turn + 1)) (turn_at code pc))

-- what the instruction at a place of a method names, and which kinds of objects it makes
abbrev insn_named : Linked → Option (Numbered Method) → ℕ → Named
insn_named program None pc = meanings.Nothing
insn_named program (Some method) pc = named_at program method.pool (option_and_then (λ insn. index_in insn.operand) (insn_in (code_in method.member.body) pc))

abbrev pub named : Linked → ℕ → ℕ → Named
named program method pc = insn_named program (slice_get (methods_of program.classes) method) pc

abbrev made_of : Option (Numbered Method) → ℕ → List (List ℕ)
made_of None pc = []
made_of (Some method) pc = made_with (insn_in (code_in method.member.body) pc) where
  made_with : Option Insn → List (List ℕ)
  made_with None = []
  made_with (Some insn) = made_by method.pool insn

abbrev pub made_at : Linked → ℕ → ℕ → List (List ℕ)
made_at program method pc = made_of (slice_get (methods_of program.classes) method) pc

-- the site of a dimension of the objects that an instruction makes
abbrev pub site_of : Linked → ℕ → ℕ → ℕ → List ℕ → Site
site_of program method pc dimension kind = record { method = method; place = pc; dimension = dimension; kind = kind_number program.kinds kind }

pub record IsSite (program : Linked) (method pc dimension number : ℕ) : Type 0 where
  pub kind : List ℕ
  pub place : ℕ
  pub makes : slice_get (made_at program method pc) dimension ≡ Some kind
  pub behind : number ≡ length program.fixed + place
  pub there : slice_get program.sites place ≡ Some (site_of program method pc dimension kind)

-- the kind that a handler of a method takes, none where it takes all
abbrev handler_kind : List (List ℕ) → Numbered Method → Option Handler → Option ℕ
handler_kind kinds method None = None
handler_kind kinds method (Some handler) = kind_in kinds method.pool handler.catch_type

abbrev pub handlers_in : Option Body → List Handler
handlers_in None = []
handlers_in (Some body) = body.handlers

abbrev pub handlers_at : Linked → ℕ → List Handler
handlers_at program method = handlers_of (slice_get (methods_of program.classes) method) where
  handlers_of : Option (Numbered Method) → List Handler
  handlers_of None = []
  handlers_of (Some numbered) = handlers_in numbered.member.body

abbrev pub catch_kind : Linked → ℕ → ℕ → Option ℕ
catch_kind program method place =
    option_and_then (λ numbered. handler_kind program.kinds numbered (slice_get (handlers_in numbered.member.body) place)) (slice_get (methods_of program.classes) method)

-- what a static field has before its class is initialised (JVMS §4.7.2)
abbrev initial_of : Linked → Option (Numbered Field) → Named
initial_of program None = meanings.Nothing
initial_of program (Some field) = named_at program field.pool field.member.constant

abbrev pub static_initial : Linked → ℕ → Named
static_initial program slot = initial_of program (static_at program slot)
