-- Each instruction of a record's code: how it is spelled, and what holds of it.
use Rattle.std.proofs.Common.{◌≡◌, ◌⊎◌, inl, inr, ℕ, ◌+◌, ◌^◌, ◌<◌, List, [], ◌∷◌, length, slice_get, Option, Some, None, IsSomeAnd, Contains, FitsSigned, w16, refl, sym, ap, subst, arith}
use Rattle.std.specs.List.{AllByRecursion}
use Rattle.std.proofs.lemmas.Option.{slice_get_within, get_or_from_slice_get}
use Rattle.std.proofs.lemmas.Int.{ints}
use Rattle.cb_text.specs.declared.constant.Constant.{Constant}
use Rattle.cb_text.specs.Pool.{IsPool}
use Rattle.cb_text.specs.declared.naming.MemberKind.TheVariants as members
use Rattle.cb_insn.specs.declared.form.Form.{Form}
use Rattle.cb_insn.specs.declared.form.Form.TheVariants as forms
use Rattle.cb_insn.specs.declared.insn.Insn.{Insn}
use Rattle.cb_insn.specs.declared.insn.Operand.{Operand}
use Rattle.cb_insn.specs.declared.insn.Operand.TheVariants as operands
use Rattle.cb_insn.specs.declared.opcode.TheConstants as opcodes
use Rattle.cb_insn.specs.Forms.{form_of}
use Rattle.cb_insn.specs.Grammar.{SpellsIn, SpellsInsn, SpellsOperand, offset, targets_of}
use Rattle.cb_insn.specs.Writing.{bytes_in, insn_bytes, operand_bytes}
use Rattle.cb_library.specs.Rows.{Instruction, Plain, Branch, LoadText, OfClass, OfField, OfMethod}
use Rattle.cb_classfile.specs.declared.needed.ConstantKind.{ConstantKind}
use Rattle.cb_classfile.specs.declared.needed.ConstantKind.TheVariants as kinds
use Rattle.cb_classfile.specs.declared.feature.Feature.{Feature}
use Rattle.cb_classfile.specs.Library.{SaysInsn, with_operand}
use Rattle.cb_classfile.specs.Needed.{HasConstant, StandsAt, kind_needed}
use Rattle.cb_classfile.specs.Profile.{first_of, insn_item, opcode_item}
use Rattle.cb_core.specs.Built.{size_of}
use Rattle.cb_core.specs.Sound.{IsSoundInsn}
use Rattle.cb_core.proofs.Growing.{some_and}
use Rattle.cb_core.proofs.LawPool.{any_method_stands, class_fits, class_method_stands, class_stands, field_stands, member_fits, string_fits, string_stands}

-- an instruction that its bytes spell, of this size
pub record IsSpelledAt (pc : ℕ) (size : ℕ) (insn : Insn) : Type 0 where
  pub spelled : SpellsInsn pc insn (insn_bytes pc insn)
  pub long : length (insn_bytes pc insn) ≡ size

spelled_at : (pc opcode : ℕ) (form : Form) (operand : Operand) (size : ℕ) → form_of opcode ≡ Some form → SpellsOperand pc form operand (operand_bytes pc form operand) → 1 + length (operand_bytes pc form operand) ≡ size → IsSpelledAt pc size (with_operand opcode operand)
spelled_at pc opcode form operand size has spells long = record {
  spelled = (bytes_in pc (form_of opcode) operand, refl, subst (λ f. SpellsIn pc f operand (bytes_in pc f operand)) (sym has) spells);
  long = omega (arith, long, ap (λ f. length (bytes_in pc f operand)) has);
}

pool_spelled : (pc opcode index size : ℕ) (insn : Insn) → form_of opcode ≡ Some forms.Pool → insn ≡ with_operand opcode (operands.Pool index) → index < 2 ^ 16 → size ≡ 3 → IsSpelledAt pc size insn
pool_spelled pc opcode index size insn has is fits three =
    subst (IsSpelledAt pc size) (sym is) (spelled_at pc opcode forms.Pool (operands.Pool index) size has (fits, refl) (omega (arith, three)))

branch_fits : (pc target : ℕ) → pc < 2 ^ 15 → target < 2 ^ 15 → FitsSigned w16 (offset pc target)
branch_fits pc target near near_too = grind (arith, ints)

pub insn_spelled : (pool : List Constant) (places : List ℕ) (pc count : ℕ) (row : Instruction) (insn : Insn) → IsPool pool → pc < 2 ^ 15 → ((number place : ℕ) → slice_get places number ≡ Some place → place < 2 ^ 15) → IsSoundInsn count row → SaysInsn pool places row insn → IsSpelledAt pc (size_of row) insn
insn_spelled pool places pc count (Plain opcode) insn is near all_near sound says =
    subst (IsSpelledAt pc 1) (sym says) (spelled_at pc opcode forms.Plain operands.Nothing 1 sound.0 refl refl)
insn_spelled pool places pc count (Branch opcode target) insn is near all_near sound says =
    let found = some_and (λ place. insn ≡ with_operand opcode (operands.Branch place)) (slice_get places target) says in
    subst (IsSpelledAt pc 3) (sym found.2) (spelled_at pc opcode forms.Branch (operands.Branch found.0) 3 sound.0 (branch_fits pc found.0 near (all_near target found.0 found.1), refl) refl)
insn_spelled pool places pc count (LoadText text) insn is near all_near sound (index, says, names) = pool_spelled pc opcodes.LDC_W index 3 insn refl says (string_fits pool index text is names) refl
insn_spelled pool places pc count (OfClass opcode class) insn is near all_near sound (index, says, names) = pool_spelled pc opcode index 3 insn sound.0 says (class_fits pool index class is names) refl
insn_spelled pool places pc count (OfField opcode class name descriptor) insn is near all_near sound (index, says, names) =
    pool_spelled pc opcode index 3 insn sound.0 says (member_fits pool index (record { kind = members.Field; class = class; name = name; descriptor = descriptor }) is names) refl
insn_spelled pool places pc count (OfMethod opcode class name descriptor) insn is near all_near sound (index, says, names) =
    pool_spelled pc opcode index 3 insn sound.0 says (member_fits pool index (record { kind = members.Method; class = class; name = name; descriptor = descriptor }) is names) refl

-- what a list has at a place is in it
at_place : (items : List ℕ) (number item : ℕ) → slice_get items number ≡ Some item → Contains items item
at_place items number item is = (number, slice_get_within items number item is, get_or_from_slice_get items number item item is)

-- what holds of an instruction: its constant, its targets, and that it isn't left out
pub record IsFineInsn (pool : List Constant) (places : List ℕ) (insn : Insn) : Type 0 where
  pub constant : HasConstant pool insn
  pub reached : AllByRecursion (Contains places) (targets_of insn.operand)
  pub item : insn_item insn ≡ None

first_none : (one : Option Feature) → one ≡ None → first_of (one ∷ None ∷ []) ≡ None
first_none None is = refl
first_none (Some item) is = is

pool_fine : (pool : List Constant) (places : List ℕ) (opcode index : ℕ) (kind : ConstantKind) (insn : Insn) → opcode_item opcode ≡ None → kind_needed opcode ≡ Some kind → StandsAt pool index kind → insn ≡ with_operand opcode (operands.Pool index) → IsFineInsn pool places insn
pool_fine pool places opcode index kind insn item needed stands is =
    subst (IsFineInsn pool places) (sym is) (record {
      constant = subst (λ needs. IsSomeAnd needs (StandsAt pool index)) (sym needed) stands;
      reached = tt;
      item = first_none (opcode_item opcode) item;
    })

pub insn_fine : (pool : List Constant) (places : List ℕ) (count : ℕ) (row : Instruction) (insn : Insn) → IsSoundInsn count row → SaysInsn pool places row insn → IsFineInsn pool places insn
insn_fine pool places count (Plain opcode) insn sound says =
    subst (IsFineInsn pool places) (sym says) (record { constant = tt; reached = tt; item = first_none (opcode_item opcode) sound.1 })
insn_fine pool places count (Branch opcode target) insn sound says =
    let found = some_and (λ place. insn ≡ with_operand opcode (operands.Branch place)) (slice_get places target) says in
    subst (IsFineInsn pool places) (sym found.2) (record { constant = tt; reached = (at_place places target found.0 found.1, tt); item = first_none (opcode_item opcode) sound.1 })
insn_fine pool places count (LoadText text) insn sound (index, says, names) = pool_fine pool places opcodes.LDC_W index kinds.Loadable insn refl refl (string_stands pool index text names) says
insn_fine pool places count (OfClass opcode class) insn sound (index, says, names) = pool_fine pool places opcode index kinds.Class insn sound.1 sound.2 (class_stands pool index class names) says
insn_fine pool places count (OfField opcode class name descriptor) insn sound (index, says, names) =
    pool_fine pool places opcode index kinds.Field insn sound.1 sound.2 (field_stands pool index (record { kind = members.Field; class = class; name = name; descriptor = descriptor }) refl names) says
insn_fine pool places count (OfMethod opcode class name descriptor) insn sound (index, says, names) = by_kind sound.2 where
  by_kind : (kind_needed opcode ≡ Some kinds.ClassMethod) ⊎ (kind_needed opcode ≡ Some kinds.AnyMethod) → IsFineInsn pool places insn
  by_kind (inl needed) = pool_fine pool places opcode index kinds.ClassMethod insn sound.1 needed (class_method_stands pool index (record { kind = members.Method; class = class; name = name; descriptor = descriptor }) refl names) says
  by_kind (inr needed) = pool_fine pool places opcode index kinds.AnyMethod insn sound.1 needed (any_method_stands pool index (record { kind = members.Method; class = class; name = name; descriptor = descriptor }) refl names) says
