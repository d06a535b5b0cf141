-- What this crate's own functions and proofs cite, and no public clause: the reader's answer about a place, the operand
-- and the targets that the decoder reads there, its marks of the places of instructions, and how long an operand is
-- when it is written.
use Rattle.std.specs.Prelude.{◌≡◌, ℕ, zero, suc, ◌<◌, ℤ, pos, ◌+ℤ◌, Bool, true, false, List, [], ◌∷◌, ◌++◌, length, drop, map, slice_index, slice_index_or, Some, Contains}
use Rattle.std.specs.Int.{w8, cast_signed}
use Rattle.cb_insn.specs.declared.form.Form.{Form}
use Rattle.cb_insn.specs.declared.form.Form.TheVariants as forms
use Rattle.cb_insn.specs.declared.insn.Insn.{Insn}
use Rattle.cb_insn.specs.declared.insn.Pair.{Pair}
use Rattle.cb_insn.specs.declared.insn.Operand.{Operand}
use Rattle.cb_insn.specs.declared.insn.Operand.TheVariants.{Nothing, Number, Pool, Local, Increase, Branch, ArrayCode, Dimensions, Interface, Table, Lookup}
use Rattle.cb_insn.specs.declared.fault.InsnFault.{InsnFault}
use Rattle.cb_insn.specs.declared.fault.InsnFault.TheVariants as faults
use Rattle.cb_insn.specs.Forms.{head_bytes, head_form}
use Rattle.cb_insn.specs.declared.reading.Reading.{Reading}
use Rattle.cb_insn.specs.declared.reading.Reading.TheVariants as readings
use Rattle.cb_insn.specs.Grammar.{SpellsOperand}
use Rattle.cb_insn.specs.Writing.{operand_bytes}
use Rattle.cb_insn.specs.Faults.{u2_at, s2_at, s4_at, count_of, padding_length, table_low, table_count, lookup_count, operand_length, is_bad, operand_offsets, numbers_at, targets_in, Standing, Whole, Faulty, IsCut, IsBadOpcode, IsBadOperand, IsPlace, HasFault, HasBadTarget}

-- what stands at a place, by the reader's answer
abbrev pub told : Reading → Standing
told (readings.Whole size) = Whole size
told readings.Cut = Faulty IsCut
told readings.BadOpcode = Faulty IsBadOpcode
told readings.BadOperand = Faulty IsBadOperand

-- the number of one byte, with its sign
abbrev pub s1_at : List ℕ → ℤ
s1_at bytes = cast_signed w8 (slice_index bytes 0)

-- the target at an offset from a place, or 0 where that is negative. Such code has the fault BadTarget anyway, since a
-- negative target is no instruction's place
abbrev pub target_of : ℕ → ℤ → ℕ
target_of pc offset = count_of (pos pc +ℤ offset)

-- so many pairs of a lookup
abbrev pub pairs_of : ℕ → ℕ → List ℕ → List Pair
pairs_of pc zero pairs = []
pairs_of pc (suc count) pairs = record { key = s4_at pairs; target = target_of pc (s4_at (drop 4 pairs)) } ∷ pairs_of pc count (drop 8 pairs)

-- a switch, by its bytes behind the padding
abbrev pub table_of : ℕ → List ℕ → Operand
table_of pc switch = Table (target_of pc (s4_at switch)) (table_low switch) (map (target_of pc) (numbers_at 4 (table_count switch) (drop 12 switch)))

abbrev pub lookup_of : ℕ → List ℕ → Operand
lookup_of pc switch = Lookup (target_of pc (s4_at switch)) (pairs_of pc (lookup_count switch) (drop 8 switch))

-- the operand of a whole instruction
abbrev pub operand_of : ℕ → Form → List ℕ → Operand
operand_of pc forms.Plain behind = Nothing
operand_of pc forms.Byte behind = Number (s1_at behind)
operand_of pc forms.Short behind = Number (s2_at behind)
operand_of pc forms.PoolByte behind = Pool (slice_index behind 0)
operand_of pc forms.Pool behind = Pool (u2_at behind)
operand_of pc forms.Local behind = Local (slice_index behind 0)
operand_of pc forms.WideLocal behind = Local (u2_at behind)
operand_of pc forms.Increase behind = Increase (slice_index behind 0) (s1_at (drop 1 behind))
operand_of pc forms.WideIncrease behind = Increase (u2_at behind) (s2_at (drop 2 behind))
operand_of pc forms.Branch behind = Branch (target_of pc (s2_at behind))
operand_of pc forms.LongBranch behind = Branch (target_of pc (s4_at behind))
operand_of pc forms.ArrayCode behind = ArrayCode (slice_index behind 0)
operand_of pc forms.Dimensions behind = Dimensions (u2_at behind) (slice_index behind 2)
operand_of pc forms.Interface behind = Interface (u2_at behind) (slice_index behind 2)
operand_of pc forms.Dynamic behind = Pool (u2_at behind)
operand_of pc forms.Table behind = table_of pc (drop (padding_length pc) behind)
operand_of pc forms.Lookup behind = lookup_of pc (drop (padding_length pc) behind)

-- any so many bytes are an operand of the form
abbrev pub IsFree : Form → ℕ → Type 0
IsFree form size = (pc : ℕ) (behind : List ℕ) → (operand_length pc form behind ≡ size) × (is_bad pc form behind ≡ false)

-- not any bytes are
abbrev pub IsBound : Form → Type 0
IsBound forms.Table = Unit {0}
IsBound forms.Lookup = Unit {0}
IsBound forms.ArrayCode = Unit {0}
IsBound forms.Dimensions = Unit {0}
IsBound forms.Interface = Unit {0}
IsBound forms.Dynamic = Unit {0}
IsBound form = ⊥

-- the forms are counted in their order from 0
abbrev pub number_of : Form → ℕ
number_of forms.Plain = 0
number_of forms.Byte = 1
number_of forms.Short = 2
number_of forms.PoolByte = 3
number_of forms.Pool = 4
number_of forms.Local = 5
number_of forms.WideLocal = 6
number_of forms.Increase = 7
number_of forms.WideIncrease = 8
number_of forms.Branch = 9
number_of forms.LongBranch = 10
number_of forms.Table = 11
number_of forms.Lookup = 12
number_of forms.ArrayCode = 13
number_of forms.Dimensions = 14
number_of forms.Interface = 15
number_of forms.Dynamic = 16

-- the form has no target
abbrev pub HasNoTarget : Form → Type 0
HasNoTarget forms.Branch = ⊥
HasNoTarget forms.LongBranch = ⊥
HasNoTarget forms.Table = ⊥
HasNoTarget forms.Lookup = ⊥
HasNoTarget form = Unit {0}

-- the targets of an operand, by its form
abbrev pub operand_targets : ℕ → Form → List ℕ → List ℤ
operand_targets pc form behind = targets_in pc (operand_offsets pc form behind)

-- an opcode of this form, with `wide` or without, stands at the front, and these bytes behind it
abbrev pub HasHead : Bool → ℕ → Form → List ℕ → List ℕ → Type 0
HasHead wide opcode form behind bytes = (bytes ≡ head_bytes wide opcode ++ behind) × (head_form wide opcode ≡ Some form)

-- an instruction without an operand, and its opcode at the front
abbrev pub plain_insn : ℕ → Insn
plain_insn opcode = record { opcode = opcode; wide = false; operand = Nothing }

pub record IsPlain (opcode : ℕ) (bytes : List ℕ) : Type 0 where
  pub behind : List ℕ
  pub head : HasHead false opcode forms.Plain behind bytes

-- the instruction is the one that these bytes begin with
pub record IsRead (pc : ℕ) (insn : Insn) (bytes : List ℕ) : Type 0 where
  pub form : Form
  pub behind : List ℕ
  pub head : HasHead insn.wide insn.opcode form behind bytes
  pub operand : insn.operand ≡ operand_of pc form behind

-- the operand is spelled by its bytes with zeros for padding, which are so many
abbrev pub IsSize : ℕ → Form → Operand → ℕ → Type 0
IsSize pc form operand size =
    SpellsOperand pc form operand (operand_bytes pc form operand) × (size ≡ length (operand_bytes pc form operand))

-- no bytes spell the operand
abbrev pub IsUnspelled : ℕ → Form → Operand → Type 0
IsUnspelled pc form operand = (bytes : List ℕ) → SpellsOperand pc form operand bytes → ⊥

-- the target is a place that has a mark
pub record IsMarked (starts : List Bool) (target : ℤ) : Type 0 where
  pub place : ℕ
  pub is : target ≡ pos place
  pub marked : slice_index_or starts place false ≡ true

-- exactly the places where instructions begin have one
pub record MarksPlaces (starts : List Bool) (bytes : List ℕ) : Type 0 where
  pub long : length starts ≡ length bytes
  pub sound : (pc : ℕ) → slice_index_or starts pc false ≡ true → IsPlace bytes pc × (pc < length bytes)
  pub whole : (pc : ℕ) → IsPlace bytes pc → pc < length bytes → slice_index_or starts pc false ≡ true

-- the fault is that of these targets of the instruction at a place one has no mark, or it is want of memory
abbrev pub Misses : ℕ → List ℤ → List Bool → InsnFault → Type 0
Misses pc targets starts (faults.BadTarget at) = (at ≡ pc) × ((target : ℤ) × Contains targets target × (IsMarked starts target → ⊥))
Misses pc targets starts faults.OutOfMemory = Unit {0}
Misses pc targets starts fault = ⊥

-- the fault stands in the bytes, or it is want of memory
abbrev pub IsFaultOf : List ℕ → InsnFault → Type 0
IsFaultOf bytes (faults.Cut pc) = HasFault bytes pc IsCut
IsFaultOf bytes (faults.BadOpcode pc) = HasFault bytes pc IsBadOpcode
IsFaultOf bytes (faults.BadOperand pc) = HasFault bytes pc IsBadOperand
IsFaultOf bytes (faults.BadTarget pc) = HasBadTarget bytes pc
IsFaultOf bytes faults.OutOfMemory = Unit {0}
