-- What is spelled is spelled too with padding 0.
use Rattle.std.proofs.Common.{◌≡◌, ℕ, ◌+◌, ◌<◌, Bool, true, false, List, [], ◌∷◌, ◌++◌, length, replicate, Option, Some, None, refl, sym, ◌∙◌, ap, subst, arith, length-append}
use Rattle.std.specs.List.{All, AllByRecursion}
use Rattle.std.proofs.lemmas.List.Elements.{All-from_recursion}
use Rattle.cb_insn.specs.declared.form.Form.{Form}
use Rattle.cb_insn.specs.declared.form.Form.TheVariants as forms
use Rattle.cb_insn.specs.declared.insn.Insn.{Insn}
use Rattle.cb_insn.specs.declared.insn.Operand.{Operand}
use Rattle.cb_insn.specs.declared.insn.Operand.TheVariants.{Nothing, Number, Pool, Local, Increase, Branch, ArrayCode, Dimensions, Interface, Table, Lookup}
use Rattle.cb_insn.specs.Forms.{head_bytes, head_form}
use Rattle.cb_insn.specs.Grammar.{SpellsOperand, SpellsIn, SpellsInsn, SpellsFrom, SpellsCode, IsPadding, table_bytes, lookup_bytes}
use Rattle.cb_insn.specs.Faults.{padding_length}
use Rattle.cb_insn.specs.Writing.{operand_bytes, bytes_in, insn_bytes, code_bytes}
use Rattle.cb_insn.proofs.Spelling.{padding_is, zeros, zeros_before}

padded_length : (pc : ℕ) (padding switch : List ℕ) → IsPadding pc padding → length (padding ++ switch) ≡ length (replicate (padding_length pc) 0 ++ switch)
padded_length pc padding switch is = omega (arith, length-append padding switch, padding_is pc padding is, zeros_before pc switch)

-- an operand is spelled by its bytes with zeros for padding, which are as many
operand_written : (pc : ℕ) (form : Form) (operand : Operand) (bytes : List ℕ) → SpellsOperand pc form operand bytes → SpellsOperand pc form operand (operand_bytes pc form operand) × (length bytes ≡ length (operand_bytes pc form operand))
operand_written pc forms.Plain Nothing bytes is = (refl, ap length is)
operand_written pc forms.Byte (Number number) bytes (fits, is) = ((fits, refl), ap length is)
operand_written pc forms.Short (Number number) bytes (fits, is) = ((fits, refl), ap length is)
operand_written pc forms.PoolByte (Pool index) bytes (fits, is) = ((fits, refl), ap length is)
operand_written pc forms.Pool (Pool index) bytes (fits, is) = ((fits, refl), ap length is)
operand_written pc forms.Local (Local local) bytes (fits, is) = ((fits, refl), ap length is)
operand_written pc forms.WideLocal (Local local) bytes (fits, is) = ((fits, refl), ap length is)
operand_written pc forms.Increase (Increase local by) bytes (fits, by_fits, is) = ((fits, by_fits, refl), ap length is)
operand_written pc forms.WideIncrease (Increase local by) bytes (fits, by_fits, is) = ((fits, by_fits, refl), ap length is)
operand_written pc forms.Branch (Branch target) bytes (fits, is) = ((fits, refl), ap length is)
operand_written pc forms.LongBranch (Branch target) bytes (fits, is) = ((fits, refl), ap length is)
operand_written pc forms.ArrayCode (ArrayCode code) bytes (low, high, is) = ((low, high, refl), ap length is)
operand_written pc forms.Dimensions (Dimensions pool dimensions) bytes (fits, some, short, is) = ((fits, some, short, refl), ap length is)
operand_written pc forms.Interface (Interface pool count) bytes (fits, some, short, is) = ((fits, some, short, refl), ap length is)
operand_written pc forms.Dynamic (Pool index) bytes (fits, is) = ((fits, refl), ap length is)
operand_written pc forms.Table (Table default low targets) bytes (padding, is_padded, is, some, low_fits, high_fits, default_fits, fit) =
    ((replicate (padding_length pc) 0, zeros pc, refl, some, low_fits, high_fits, default_fits, fit), ap length is ∙ padded_length pc padding (table_bytes pc default low targets) is_padded)
operand_written pc forms.Lookup (Lookup default pairs) bytes (padding, is_padded, is, few, rise, keys, default_fits, fit) =
    ((replicate (padding_length pc) 0, zeros pc, refl, few, rise, keys, default_fits, fit), ap length is ∙ padded_length pc padding (lookup_bytes pc default pairs) is_padded)
operand_written pc form operand bytes spells = absurd spells

in_written : (pc : ℕ) (form : Option Form) (operand : Operand) (bytes : List ℕ) → SpellsIn pc form operand bytes → SpellsIn pc form operand (bytes_in pc form operand) × (length bytes ≡ length (bytes_in pc form operand))
in_written pc None operand bytes spells = absurd spells
in_written pc (Some form) operand bytes spells = operand_written pc form operand bytes spells

pub insn_written : (pc : ℕ) (insn : Insn) (bytes : List ℕ) → SpellsInsn pc insn bytes → SpellsInsn pc insn (insn_bytes pc insn) × (length bytes ≡ length (insn_bytes pc insn))
insn_written pc insn bytes (behind, is, spells) =
    let head = head_bytes insn.wide insn.opcode in
    let written = bytes_in pc (head_form insn.wide insn.opcode) insn.operand in
    let parts = in_written pc (head_form insn.wide insn.opcode) insn.operand behind spells in
    ((written, refl, parts.0), omega (arith, ap length is, length-append head behind, length-append head written, parts.1))

from_written : (pc : ℕ) (code : List (ℕ × Insn)) (bytes : List ℕ) → SpellsFrom pc code bytes → SpellsFrom pc code (code_bytes code) × (length bytes ≡ length (code_bytes code))
from_written pc [] bytes none = (refl, ap length none)
from_written pc ((at, insn) ∷ code) bytes (first, rest, is_at, spells, is, more) =
    let parts = insn_written pc insn first spells in
    let others = from_written (pc + length first) code rest more in
    let same : insn_bytes pc insn ≡ insn_bytes at insn = ap (λ p. insn_bytes p insn) (sym is_at) in (
      (insn_bytes pc insn, code_bytes code, is_at, parts.0, ap (λ b. b ++ code_bytes code) (sym same), subst (λ n. SpellsFrom (pc + n) code (code_bytes code)) parts.1 others.0),
      omega (arith, ap length is, length-append first rest, parts.1, others.1, ap length same, length-append (insn_bytes at insn) (code_bytes code)),
    )

-- an instruction has at least one byte
pub insn_some : (pc : ℕ) (insn : Insn) (bytes : List ℕ) → SpellsInsn pc insn bytes → 0 < length bytes
insn_some pc insn bytes (behind, is, spells) = omega (arith, ap length is, length-append (head_bytes insn.wide insn.opcode) behind, head_some insn.wide) where
  head_some : (wide : Bool) → 0 < length (head_bytes wide insn.opcode)
  head_some false = omega arith
  head_some true = omega arith

-- and so is code
pub code_written : (code : List (ℕ × Insn)) (bytes : List ℕ) → SpellsCode code bytes → SpellsCode code (code_bytes code) × (length bytes ≡ length (code_bytes code))
code_written code bytes spells =
    let parts = from_written 0 code bytes spells.spelled in
    (record { spelled = parts.0; short = omega (arith, spells.short, parts.1); reached = spells.reached }, parts.1)

-- the operand of an instruction that is spelled
pub operand_spelled : (pc : ℕ) (insn : Insn) (form : Form) → (spelled : List ℕ) × SpellsInsn pc insn spelled → head_form insn.wide insn.opcode ≡ Some form → (spelled : List ℕ) × SpellsOperand pc form insn.operand spelled
operand_spelled pc insn form (bytes, (behind, is, spells)) has = (behind, subst (λ f. SpellsIn pc f insn.operand behind) has spells)

abbrev pub IsSpelled : (ℕ × Insn) → Type 0
IsSpelled placed = (spelled : List ℕ) × SpellsInsn placed.0 placed.1 spelled

-- each instruction of spelled code is spelled at its place
each_from : (pc : ℕ) (code : List (ℕ × Insn)) (bytes : List ℕ) → SpellsFrom pc code bytes → AllByRecursion IsSpelled code
each_from pc [] bytes none = tt
each_from pc ((at, insn) ∷ code) bytes (first, rest, is_at, spells, is, more) = ((first, subst (λ p. SpellsInsn p insn first) (sym is_at) spells), each_from (pc + length first) code rest more)

pub each_spelled : (code : List (ℕ × Insn)) → (bytes : List ℕ) × SpellsCode code bytes → All IsSpelled code
each_spelled code (bytes, spells) = All-from_recursion IsSpelled code (each_from 0 code bytes spells.spelled)
