-- Constants by what they say, the names themselves where a constant of the pool has indices (JVMS §4.4).
use Rattle.std.specs.Prelude.{ℕ, ℤ, Bool, true, false, List, [], ◌∷◌, ◌&&◌}
use Rattle.std.specs.Ordering.{int_eq}
use Rattle.cb_text.specs.declared.naming.MemberKind.{MemberKind}
use Rattle.cb_text.specs.declared.naming.MemberKind.TheVariants as kinds
use Rattle.cb_text.specs.Naming.{MemberNames}
use Rattle.cb_asm_line.specs.declared.operand.Value.TheVariants as values
use Rattle.cb_asm_line.specs.Lines.{same_text}
use Rattle.cb_asm_line.specs.declared.operand.MemberText.{MemberText}
use Rattle.cb_asm_line.specs.declared.operand.Value.{Value}

pub data Entry : Type 0 where
  Text : List ℕ → Entry
  Int : ℤ → Entry
  Long : ℤ → Entry
  Class : List ℕ → Entry
  String : List ℕ → Entry
  NameAndType : List ℕ → List ℕ → Entry
  Member : MemberNames → Entry

-- the constant that a program writes, and that of a field or method
abbrev pub value_entry : Value → Entry
value_entry (values.Int number) = Int number
value_entry (values.Long number) = Long number
value_entry (values.Text text) = String text
value_entry (values.Class name) = Class name

abbrev pub member_entry : MemberText → Entry
member_entry member =
    Member (record { kind = member.kind; class = member.class; name = member.name; descriptor = member.descriptor })

-- a constant with its parts, which stand before it
abbrev pub with_parts : Entry → List Entry
with_parts (Class name) = Text name ∷ Class name ∷ []
with_parts (String text) = Text text ∷ String text ∷ []
with_parts (NameAndType name descriptor) = Text name ∷ Text descriptor ∷ NameAndType name descriptor ∷ []
with_parts (Member member) =
    Text member.class ∷ Class member.class ∷ Text member.name ∷ Text member.descriptor ∷ NameAndType member.name member.descriptor ∷ Member member ∷ []
with_parts entry = entry ∷ []

abbrev pub same_kind : MemberKind → MemberKind → Bool
same_kind kinds.Field kinds.Field = true
same_kind kinds.Method kinds.Method = true
same_kind kinds.InterfaceMethod kinds.InterfaceMethod = true
same_kind one other = false

abbrev pub same_member : MemberNames → MemberNames → Bool
same_member one other =
    same_kind one.kind other.kind && same_text one.class other.class && same_text one.name other.name && same_text one.descriptor other.descriptor

-- whether two are one
abbrev pub same : Entry → Entry → Bool
same (Text one) (Text other) = same_text one other
same (Int one) (Int other) = int_eq one other
same (Long one) (Long other) = int_eq one other
same (Class one) (Class other) = same_text one other
same (String one) (String other) = same_text one other
same (NameAndType one type) (NameAndType other kind) = same_text one other && same_text type kind
same (Member one) (Member other) = same_member one other
same one other = false
