-- Instructions that go elsewhere (JVMS §6.5, ifeq to goto_w, the switches, the returns and athrow).
use Rattle.std.specs.Prelude.{ℕ, ◌-◌, true, false, Option, Some, None, option_map, nat_lt, ◌==◌, ◌||◌, if◌then◌else◌}
use Rattle.cb_insn.specs.declared.opcode.TheConstants as opcodes
use Rattle.cb_shapes.specs.declared.action.Action.{Action}
use Rattle.cb_shapes.specs.declared.action.Action.TheVariants as actions
use Rattle.cb_shapes.specs.declared.sort.Sort.TheVariants.{Int, Long, Reference}
use Rattle.cb_shapes.specs.declared.test.Condition.{Condition}
use Rattle.cb_shapes.specs.declared.test.Condition.TheVariants as conditions
use Rattle.cb_shapes.specs.declared.test.Test.{Test}
use Rattle.cb_shapes.specs.declared.test.Test.TheVariants as tests

-- the six tests stand in one order from ifeq on, and again from if_icmpeq on
abbrev pub test_of : ℕ → Option Test
test_of turn =
    if turn == 0 then Some tests.Equal
    else if turn == 1 then Some tests.NotEqual
    else if turn == 2 then Some tests.Less
    else if turn == 3 then Some tests.GreaterOrEqual
    else if turn == 4 then Some tests.Greater
    else if turn == 5 then Some tests.LessOrEqual
    else None

-- ifeq to goto, ifnull, ifnonnull and goto_w
abbrev pub condition_of : ℕ → Option Condition
condition_of opcode =
    if nat_lt opcode opcodes.IFEQ then None
    else if nat_lt opcode opcodes.IF_ICMPEQ then option_map conditions.WithZero (test_of (opcode - opcodes.IFEQ))
    else if nat_lt opcode opcodes.IF_ACMPEQ then option_map conditions.OfInts (test_of (opcode - opcodes.IF_ICMPEQ))
    else if opcode == opcodes.IF_ACMPEQ then Some (conditions.AreSame true)
    else if opcode == opcodes.IF_ACMPNE then Some (conditions.AreSame false)
    else if opcode == opcodes.GOTO || opcode == opcodes.GOTO_W then Some conditions.Always
    else if opcode == opcodes.IFNULL then Some (conditions.IsNull true)
    else if opcode == opcodes.IFNONNULL then Some (conditions.IsNull false)
    else None

-- the switches and the returns
abbrev pub leaving : ℕ → Option Action
leaving opcode =
    if opcode == opcodes.TABLESWITCH || opcode == opcodes.LOOKUPSWITCH then Some actions.Switch
    else if opcode == opcodes.IRETURN then Some (actions.Return (Some Int))
    else if opcode == opcodes.LRETURN then Some (actions.Return (Some Long))
    else if opcode == opcodes.ARETURN then Some (actions.Return (Some Reference))
    else if opcode == opcodes.RETURN then Some (actions.Return None)
    else None
