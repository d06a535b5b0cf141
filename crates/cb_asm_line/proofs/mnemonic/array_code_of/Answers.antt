use Rattle.std.proofs.Common.{arith}
use Rattle.cb_asm_line.proofs.Arrays.{array_spelled, array_within, no_array}
use Rattle.cb_asm_line.proofs.mnemonic.array_code_of.Goals as goal

pub returns-in-Some : goal.returns-in-Some
returns-in-Some c = let few = c.if-place-lt8.true in (omega arith, omega (arith, few), array_spelled c.in-Some.place c.args.name.now c.in-Some.ensures)

pub returns-in-Some-2 : goal.returns-in-Some-2
returns-in-Some-2 c = let few = array_within c.in-Some.place c.args.name.now c.in-Some.ensures in let many = c.if-place-lt8.false in absurd (omega (arith, few, many))

pub returns-in-None : goal.returns-in-None
returns-in-None c = no_array c.args.name.now c.in-None.ensures
