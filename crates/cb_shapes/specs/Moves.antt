-- Instructions that load and store local variables and elements of arrays, and those from pop to swap (JVMS §6.5).
use Rattle.std.specs.Prelude.{ℕ, ◌-◌, Option, Some, None, option_map, nat_lt, ◌==◌, if◌then◌else◌}
use Rattle.cb_insn.specs.declared.insn.Operand.{Operand}
use Rattle.cb_insn.specs.declared.insn.Operand.TheVariants as operands
use Rattle.cb_insn.specs.declared.opcode.TheConstants as opcodes
use Rattle.cb_shapes.specs.declared.action.Action.{Action}
use Rattle.cb_shapes.specs.declared.action.Action.TheVariants as actions
use Rattle.cb_shapes.specs.declared.elements.Elements.TheVariants as elements
use Rattle.cb_shapes.specs.declared.shuffle.Shuffle.{Shuffle}
use Rattle.cb_shapes.specs.declared.shuffle.Shuffle.TheVariants as shuffles
use Rattle.cb_shapes.specs.declared.sort.Sort.{Sort}
use Rattle.cb_shapes.specs.declared.sort.Sort.TheVariants.{Int, Long, Reference}

-- a local variable that the operand says, or that the opcode names: those of one sort are four in a row
abbrev pub local_in : Operand → ℕ
local_in (operands.Local local) = local
local_in other = 0

-- the sort of the variables that an opcode names, and its number. Floats and doubles aren't in the profile
abbrev pub named_local : ℕ → Option (Sort × ℕ)
named_local turn =
    if nat_lt turn 4 then Some (Int, turn)
    else if nat_lt turn 8 then Some (Long, turn - 4)
    else if nat_lt turn 16 then None
    else if nat_lt turn 20 then Some (Reference, turn - 16)
    else None

abbrev pub load_of : Sort × ℕ → Action
load_of named = actions.Load named.0 named.1

abbrev pub store_of : Sort × ℕ → Action
store_of named = actions.Store named.0 named.1

-- iload to aload_3
abbrev pub load : ℕ → Operand → Option Action
load opcode operand =
    if opcode == opcodes.ILOAD then Some (actions.Load Int (local_in operand))
    else if opcode == opcodes.LLOAD then Some (actions.Load Long (local_in operand))
    else if opcode == opcodes.ALOAD then Some (actions.Load Reference (local_in operand))
    else if nat_lt opcode opcodes.ILOAD_0 then None
    else option_map load_of (named_local (opcode - opcodes.ILOAD_0))

-- istore to astore_3
abbrev pub store : ℕ → Operand → Option Action
store opcode operand =
    if opcode == opcodes.ISTORE then Some (actions.Store Int (local_in operand))
    else if opcode == opcodes.LSTORE then Some (actions.Store Long (local_in operand))
    else if opcode == opcodes.ASTORE then Some (actions.Store Reference (local_in operand))
    else if nat_lt opcode opcodes.ISTORE_0 then None
    else option_map store_of (named_local (opcode - opcodes.ISTORE_0))

-- iaload to saload
abbrev pub load_element : ℕ → Option Action
load_element opcode =
    if opcode == opcodes.IALOAD then Some (actions.LoadNumber elements.Ints)
    else if opcode == opcodes.LALOAD then Some (actions.LoadNumber elements.Longs)
    else if opcode == opcodes.AALOAD then Some actions.LoadReference
    else if opcode == opcodes.BALOAD then Some (actions.LoadNumber elements.BooleansOrBytes)
    else if opcode == opcodes.CALOAD then Some (actions.LoadNumber elements.Chars)
    else if opcode == opcodes.SALOAD then Some (actions.LoadNumber elements.Shorts)
    else None

-- iastore to sastore
abbrev pub store_element : ℕ → Option Action
store_element opcode =
    if opcode == opcodes.IASTORE then Some (actions.StoreNumber elements.Ints)
    else if opcode == opcodes.LASTORE then Some (actions.StoreNumber elements.Longs)
    else if opcode == opcodes.AASTORE then Some actions.StoreReference
    else if opcode == opcodes.BASTORE then Some (actions.StoreNumber elements.BooleansOrBytes)
    else if opcode == opcodes.CASTORE then Some (actions.StoreNumber elements.Chars)
    else if opcode == opcodes.SASTORE then Some (actions.StoreNumber elements.Shorts)
    else None

-- pop to swap
abbrev pub shuffle_of : ℕ → Option Shuffle
shuffle_of opcode =
    if opcode == opcodes.POP then Some shuffles.Pop
    else if opcode == opcodes.POP2 then Some shuffles.Pop2
    else if opcode == opcodes.DUP then Some shuffles.Dup
    else if opcode == opcodes.DUP_X1 then Some shuffles.DupX1
    else if opcode == opcodes.DUP_X2 then Some shuffles.DupX2
    else if opcode == opcodes.DUP2 then Some shuffles.Dup2
    else if opcode == opcodes.DUP2_X1 then Some shuffles.Dup2X1
    else if opcode == opcodes.DUP2_X2 then Some shuffles.Dup2X2
    else if opcode == opcodes.SWAP then Some shuffles.Swap
    else None
