-- What is wrong with code that isn't spelled, and where.
use Rattle.std.specs.Prelude.{◌≡◌, ℕ, zero, suc, ◌+◌, ◌-◌, ◌*◌, ◌%◌, ◌<◌, ℤ, pos, negsuc, ◌+ℤ◌, ◌-ℤ◌, Bool, false, ◌||◌, not, List, [], ◌∷◌, length, take, drop, map, slice_index, Option, Some, None, Contains, nat_lt, nat_eq, int_lt, if◌then◌else◌}
use Rattle.std.specs.Int.{w16, w32, cast_signed, from_be_bytes}
use Rattle.cb_insn.specs.declared.form.Form.{Form}
use Rattle.cb_insn.specs.declared.form.Form.TheVariants.{Plain, Byte, Short, PoolByte, Pool, Local, WideLocal, Increase, WideIncrease, Branch, LongBranch, ArrayCode, Dimensions, Interface, Dynamic, Table, Lookup}
use Rattle.cb_insn.specs.declared.opcode.TheConstants.{WIDE}
use Rattle.cb_insn.specs.Forms.{form_of, wide_form_of}

-- the number in the first two bytes, the high one first, and the number with a sign in the first two or four
abbrev pub u2_at : List ℕ → ℕ
u2_at bytes = from_be_bytes w16 (take 2 bytes)

abbrev pub s2_at : List ℕ → ℤ
s2_at bytes = cast_signed w16 (from_be_bytes w16 (take 2 bytes))

abbrev pub s4_at : List ℕ → ℤ
s4_at bytes = cast_signed w32 (from_be_bytes w32 (take 4 bytes))

-- the number, or 0 in place of a negative one
abbrev pub count_of : ℤ → ℕ
count_of (pos count) = count
count_of (negsuc below) = 0

-- how many bytes of padding a switch has whose opcode stands at this place
abbrev pub padding_length : ℕ → ℕ
padding_length pc = 3 - pc % 4

-- so many numbers of four bytes with a sign, each so many bytes behind the one before it, from begin to begin
abbrev pub numbers_at : ℕ → ℕ → List ℕ → List ℤ
numbers_at step zero bytes = []
numbers_at step (suc count) bytes = s4_at bytes ∷ numbers_at step count (drop step bytes)

-- Behind its padding a table has the default's offset, its low and high bounds, and an offset of four bytes for each
-- number from the one to the other. A lookup has the default's offset, the number of its pairs, and the pairs, each a
-- key and an offset of four bytes. A switch is given here by its bytes behind the padding.
abbrev pub table_low : List ℕ → ℤ
table_low switch = s4_at (drop 4 switch)

abbrev pub table_high : List ℕ → ℤ
table_high switch = s4_at (drop 8 switch)

abbrev pub lookup_number : List ℕ → ℤ
lookup_number switch = s4_at (drop 4 switch)

-- how many offsets a table has behind its bounds, and how many pairs a lookup has; none where its numbers are bad
abbrev pub table_count : List ℕ → ℕ
table_count switch = count_of ((table_high switch +ℤ pos 1) -ℤ table_low switch)

abbrev pub lookup_count : List ℕ → ℕ
lookup_count switch = count_of (lookup_number switch)

-- how many bytes a switch has, or how many its numbers take where these are cut
abbrev pub table_length : List ℕ → ℕ
table_length switch =
    if nat_lt (length switch) 12 then 12
    else 12 + 4 * table_count switch

abbrev pub lookup_length : List ℕ → ℕ
lookup_length switch =
    if nat_lt (length switch) 8 then 8
    else 8 + 8 * lookup_count switch

-- how many bytes stand behind an opcode, as far as these tell
abbrev pub operand_length : ℕ → Form → List ℕ → ℕ
operand_length pc Plain behind = 0
operand_length pc Byte behind = 1
operand_length pc Short behind = 2
operand_length pc PoolByte behind = 1
operand_length pc Pool behind = 2
operand_length pc Local behind = 1
operand_length pc WideLocal behind = 2
operand_length pc Increase behind = 2
operand_length pc WideIncrease behind = 4
operand_length pc Branch behind = 2
operand_length pc LongBranch behind = 4
operand_length pc ArrayCode behind = 1
operand_length pc Dimensions behind = 3
operand_length pc Interface behind = 4
operand_length pc Dynamic behind = 4
operand_length pc Table behind = padding_length pc + table_length (drop (padding_length pc) behind)
operand_length pc Lookup behind = padding_length pc + lookup_length (drop (padding_length pc) behind)

-- some key isn't above the one before it
abbrev pub keys_fall : List ℤ → Bool
keys_fall [] = false
keys_fall (one ∷ []) = false
keys_fall (one ∷ next ∷ keys) = not (int_lt one next) || keys_fall (next ∷ keys)

-- the operand, all of which is there, isn't one that the instruction may have
abbrev pub is_bad : ℕ → Form → List ℕ → Bool
is_bad pc ArrayCode behind = nat_lt (slice_index behind 0) 4 || nat_lt 11 (slice_index behind 0)
is_bad pc Dimensions behind = nat_eq (slice_index behind 2) 0
is_bad pc Interface behind = nat_eq (slice_index behind 2) 0 || not (nat_eq (slice_index behind 3) 0)
is_bad pc Dynamic behind = not (nat_eq (slice_index behind 2) 0) || not (nat_eq (slice_index behind 3) 0)
is_bad pc Table behind = let switch = drop (padding_length pc) behind in int_lt (table_high switch) (table_low switch)
is_bad pc Lookup behind =
    let switch = drop (padding_length pc) behind in
    int_lt (lookup_number switch) (pos 0) || keys_fall (numbers_at 8 (lookup_count switch) (drop 8 switch))
is_bad pc form behind = false

-- what is wrong with an instruction by itself: it is cut, its opcode is no instruction's, or it may not have its operand
pub data Fault : Type 0 where
  IsCut : Fault
  IsBadOpcode : Fault
  IsBadOperand : Fault

-- what stands at a place: an instruction that is all there and has no bad operand, of so many bytes, or a faulty one
pub data Standing : Type 0 where
  Whole : ℕ → Standing
  Faulty : Fault → Standing

-- what it is where an operand of this form stands behind so many bytes, an opcode or `wide` and an opcode. An operand
-- that is cut isn't looked at further
abbrev pub standing_in : ℕ → ℕ → Form → List ℕ → Standing
standing_in before pc form behind =
    if nat_lt (length behind) (operand_length pc form behind) then Faulty IsCut
    else if is_bad pc form behind then Faulty IsBadOperand
    else Whole (before + operand_length pc form behind)

-- an opcode that has no form is a bad opcode, and behind `wide` a bad operand
abbrev pub standing_wide : ℕ → Option Form → List ℕ → Standing
standing_wide pc None behind = Faulty IsBadOperand
standing_wide pc (Some form) behind = standing_in 2 pc form behind

abbrev pub standing_plain : ℕ → Option Form → List ℕ → Standing
standing_plain pc None behind = Faulty IsBadOpcode
standing_plain pc (Some form) behind = standing_in 1 pc form behind

-- code that ends behind `wide` is cut
abbrev pub standing_behind_wide : ℕ → List ℕ → Standing
standing_behind_wide pc [] = Faulty IsCut
standing_behind_wide pc (opcode ∷ behind) = standing_wide pc (wide_form_of opcode) behind

-- what stands at a place, by the bytes from there on
abbrev pub standing_at : ℕ → List ℕ → Standing
standing_at pc [] = Faulty IsCut
standing_at pc (opcode ∷ behind) =
    if nat_eq opcode WIDE then standing_behind_wide pc behind
    else standing_plain pc (form_of opcode) behind

-- the places of instructions: the first, and each behind a whole instruction. Where all instructions are whole, the end
-- of the code is such a place too, though none begins there
pub data IsPlace (bytes : List ℕ) : ℕ → Type 0 where
  First : IsPlace bytes 0
  Next : (pc size : ℕ) → IsPlace bytes pc → pc < length bytes → standing_at pc (drop pc bytes) ≡ Whole size → IsPlace bytes (pc + size)

-- there is a fault at a place, which isn't the end of the code. There is at most one such place, since none follows it
pub record HasFault (bytes : List ℕ) (pc : ℕ) (fault : Fault) : Type 0 where
  pub place : IsPlace bytes pc
  pub within : pc < length bytes
  pub stands : standing_at pc (drop pc bytes) ≡ Faulty fault

-- the offsets of a switch, the default's first
abbrev pub table_offsets : List ℕ → List ℤ
table_offsets switch = s4_at switch ∷ numbers_at 4 (table_count switch) (drop 12 switch)

abbrev pub lookup_offsets : List ℕ → List ℤ
lookup_offsets switch = s4_at switch ∷ numbers_at 8 (lookup_count switch) (drop 12 switch)

-- those of an operand, by its form
abbrev pub operand_offsets : ℕ → Form → List ℕ → List ℤ
operand_offsets pc Branch behind = s2_at behind ∷ []
operand_offsets pc LongBranch behind = s4_at behind ∷ []
operand_offsets pc Table behind = table_offsets (drop (padding_length pc) behind)
operand_offsets pc Lookup behind = lookup_offsets (drop (padding_length pc) behind)
operand_offsets pc form behind = []

abbrev pub form_offsets : ℕ → Option Form → List ℕ → List ℤ
form_offsets pc None behind = []
form_offsets pc (Some form) behind = operand_offsets pc form behind

-- the targets at offsets from a place, which may be negative
abbrev pub targets_in : ℕ → List ℤ → List ℤ
targets_in pc offsets = map (λ offset. pos pc +ℤ offset) offsets

-- the targets of a whole instruction at a place. `wide` has no form of its own, and stands before no branch
abbrev pub targets_at : ℕ → List ℕ → List ℤ
targets_at pc [] = []
targets_at pc (opcode ∷ behind) = targets_in pc (form_offsets pc (form_of opcode) behind)

-- an instruction begins at the number, as a place
abbrev pub IsStart : List ℕ → ℤ → Type 0
IsStart bytes target = (pc : ℕ) × IsPlace bytes pc × (pc < length bytes) × (target ≡ pos pc)

-- each instruction is whole, and the one at this place is the first that has a target which is no instruction's place
pub record HasBadTarget (bytes : List ℕ) (pc : ℕ) : Type 0 where
  pub whole : IsPlace bytes (length bytes)
  pub place : IsPlace bytes pc
  pub within : pc < length bytes
  pub target : ℤ
  pub among : Contains (targets_at pc (drop pc bytes)) target
  pub astray : ¬ IsStart bytes target
  pub least : (before : ℕ) → IsPlace bytes before → before < pc → (other : ℤ) → Contains (targets_at before (drop before bytes)) other → IsStart bytes other
