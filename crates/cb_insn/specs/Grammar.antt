-- The bytes of instructions and of code (JVMS §4.7.3, §4.9.1, chapter 6).
use Rattle.std.specs.Prelude.{◌≡◌, ℕ, ◌+◌, ◌%◌, ◌^◌, ◌<◌, ◌≤◌, ℤ, pos, ◌+ℤ◌, ◌-ℤ◌, ◌<ℤ◌, FitsSigned, List, [], ◌∷◌, ◌++◌, length, map, Option, Some, None, Contains}
use Rattle.std.specs.Int.{w8, w16, w32, to_be_bytes, cast_unsigned}
use Rattle.std.specs.List.{AllByRecursion, flat_map}
use Rattle.cb_insn.specs.declared.form.Form.{Form}
use Rattle.cb_insn.specs.declared.form.Form.TheVariants as forms
use Rattle.cb_insn.specs.declared.insn.Insn.{Insn}
use Rattle.cb_insn.specs.declared.insn.Pair.{Pair}
use Rattle.cb_insn.specs.declared.insn.Operand.{Operand}
use Rattle.cb_insn.specs.declared.insn.Operand.TheVariants.{Nothing, Number, Pool, Local, Increase, Branch, ArrayCode, Dimensions, Interface, Table, Lookup}
use Rattle.cb_insn.specs.Forms.{head_bytes, head_form}
use Rattle.cb_insn.specs.Places.{places}

-- the bytes of numbers without and with a sign, the high ones first
abbrev pub u2 : ℕ → List ℕ
u2 number = to_be_bytes w16 number

abbrev pub s2 : ℤ → List ℕ
s2 number = to_be_bytes w16 (cast_unsigned w16 number)

abbrev pub s4 : ℤ → List ℕ
s4 number = to_be_bytes w32 (cast_unsigned w32 number)

-- the offset from a place to a target
abbrev pub offset : ℕ → ℕ → ℤ
offset pc target = pos target -ℤ pos pc

-- the bytes of a switch behind its padding. Each offset is from the opcode's place
abbrev pub table_bytes : ℕ → ℕ → ℤ → List ℕ → List ℕ
table_bytes pc default low targets =
    s4 (offset pc default) ++ s4 low ++ s4 ((low +ℤ pos (length targets)) -ℤ pos 1) ++ flat_map (λ target. s4 (offset pc target)) targets

abbrev pub lookup_bytes : ℕ → ℕ → List Pair → List ℕ
lookup_bytes pc default pairs =
    s4 (offset pc default) ++ s4 (pos (length pairs)) ++ flat_map (λ pair. s4 pair.key ++ s4 (offset pc pair.target)) pairs

-- each key is above the one before it
abbrev pub KeysRise : List Pair → Type 0
KeysRise [] = Unit {0}
KeysRise (one ∷ []) = Unit {0}
KeysRise (one ∷ next ∷ pairs) = (one.key <ℤ next.key) × KeysRise (next ∷ pairs)

-- the bytes, whatever they are, from behind an opcode at this place to the next multiple of four
pub record IsPadding (pc : ℕ) (padding : List ℕ) : Type 0 where
  pub short : length padding < 4
  pub aligned : (pc + 1 + length padding) % 4 ≡ 0

-- these bytes spell the operand of an instruction at a place. None do where the form has another kind of operand
abbrev pub SpellsOperand : ℕ → Form → Operand → List ℕ → Type 0
SpellsOperand pc forms.Plain Nothing bytes = bytes ≡ []
SpellsOperand pc forms.Byte (Number number) bytes = FitsSigned w8 number × (bytes ≡ cast_unsigned w8 number ∷ [])
SpellsOperand pc forms.Short (Number number) bytes = FitsSigned w16 number × (bytes ≡ s2 number)
SpellsOperand pc forms.PoolByte (Pool index) bytes = (index < 2 ^ 8) × (bytes ≡ index ∷ [])
SpellsOperand pc forms.Pool (Pool index) bytes = (index < 2 ^ 16) × (bytes ≡ u2 index)
SpellsOperand pc forms.Local (Local local) bytes = (local < 2 ^ 8) × (bytes ≡ local ∷ [])
SpellsOperand pc forms.WideLocal (Local local) bytes = (local < 2 ^ 16) × (bytes ≡ u2 local)
SpellsOperand pc forms.Increase (Increase local by) bytes = (local < 2 ^ 8) × FitsSigned w8 by × (bytes ≡ local ∷ cast_unsigned w8 by ∷ [])
SpellsOperand pc forms.WideIncrease (Increase local by) bytes = (local < 2 ^ 16) × FitsSigned w16 by × (bytes ≡ u2 local ++ s2 by)
SpellsOperand pc forms.Branch (Branch target) bytes = FitsSigned w16 (offset pc target) × (bytes ≡ s2 (offset pc target))
SpellsOperand pc forms.LongBranch (Branch target) bytes = FitsSigned w32 (offset pc target) × (bytes ≡ s4 (offset pc target))
SpellsOperand pc forms.ArrayCode (ArrayCode code) bytes = (4 ≤ code) × (code ≤ 11) × (bytes ≡ code ∷ [])
SpellsOperand pc forms.Dimensions (Dimensions pool dimensions) bytes = (pool < 2 ^ 16) × (1 ≤ dimensions) × (dimensions < 2 ^ 8) × (bytes ≡ u2 pool ++ dimensions ∷ [])
SpellsOperand pc forms.Interface (Interface pool count) bytes = (pool < 2 ^ 16) × (1 ≤ count) × (count < 2 ^ 8) × (bytes ≡ u2 pool ++ count ∷ 0 ∷ [])
SpellsOperand pc forms.Dynamic (Pool index) bytes = (index < 2 ^ 16) × (bytes ≡ u2 index ++ 0 ∷ 0 ∷ [])
SpellsOperand pc forms.Table (Table default low targets) bytes =
    (padding : List ℕ) × IsPadding pc padding × (bytes ≡ padding ++ table_bytes pc default low targets)
    × (0 < length targets) × FitsSigned w32 low × FitsSigned w32 ((low +ℤ pos (length targets)) -ℤ pos 1)
    × FitsSigned w32 (offset pc default) × AllByRecursion (λ target. FitsSigned w32 (offset pc target)) targets
SpellsOperand pc forms.Lookup (Lookup default pairs) bytes =
    (padding : List ℕ) × IsPadding pc padding × (bytes ≡ padding ++ lookup_bytes pc default pairs)
    × (length pairs < 2 ^ 31) × KeysRise pairs × AllByRecursion (λ pair. FitsSigned w32 pair.key) pairs
    × FitsSigned w32 (offset pc default) × AllByRecursion (λ pair. FitsSigned w32 (offset pc pair.target)) pairs
SpellsOperand pc form operand bytes = ⊥

-- these bytes spell the operand of an opcode that gives it this form, or none
abbrev pub SpellsIn : ℕ → Option Form → Operand → List ℕ → Type 0
SpellsIn pc None operand bytes = ⊥
SpellsIn pc (Some form) operand bytes = SpellsOperand pc form operand bytes

-- these bytes spell the instruction at a place
abbrev pub SpellsInsn : ℕ → Insn → List ℕ → Type 0
SpellsInsn pc insn bytes =
    (behind : List ℕ) × (bytes ≡ head_bytes insn.wide insn.opcode ++ behind) × SpellsIn pc (head_form insn.wide insn.opcode) insn.operand behind

-- the targets of an operand
abbrev pub targets_of : Operand → List ℕ
targets_of (Branch target) = target ∷ []
targets_of (Table default low targets) = default ∷ targets
targets_of (Lookup default pairs) = default ∷ map (λ pair. pair.target) pairs
targets_of other = []

-- these bytes spell the instructions from a place on, one after the other
abbrev pub SpellsFrom : ℕ → List (ℕ × Insn) → List ℕ → Type 0
SpellsFrom pc [] bytes = bytes ≡ []
SpellsFrom pc ((at, insn) ∷ code) bytes =
    (first rest : List ℕ) × (at ≡ pc) × SpellsInsn pc insn first × (bytes ≡ first ++ rest) × SpellsFrom (pc + length first) code rest

-- these bytes spell the code: its instructions stand from the place 0 on, one after the other, and each target is the
-- place of one of them. There are fewer bytes than 2^32, so that places are numbers of four bytes
pub record SpellsCode (code : List (ℕ × Insn)) (bytes : List ℕ) : Type 0 where
  pub spelled : SpellsFrom 0 code bytes
  pub short : length bytes < 2 ^ 32
  pub reached : AllByRecursion (λ placed. AllByRecursion (Contains (places code)) (targets_of placed.1.operand)) code
