use Rattle.cb_asm.proofs.Programs.{none_told, some_told}
use Rattle.cb_asm.proofs.Records.{is_not, no_record, unformed}
use Rattle.cb_asm.proofs.assembled.assembled.Goals as goal

pub returns-in_default-2 : goal.returns-in_default-2
returns-in_default-2 c =
    let read = some_told c.in_ok-program.field-0 _ _ c.in-Some.program c.in_ok-program.ensures c.in-Some.is in
    no_record c.args.text.now c.in-Some.program read.0 read.1 (none_told c.in_ok-class.field-0 _ _ c.in_ok-class.ensures c.in_default-2.is)

pub returns-then-not-branch : goal.returns-then-not-branch
returns-then-not-branch c =
    let read = some_told c.in_ok-program.field-0 _ _ c.in-Some.program c.in_ok-program.ensures c.in-Some.is in
    let made = some_told c.in_ok-class.field-0 _ _ c.in-Some-2.class c.in_ok-class.ensures c.in-Some-2.is in
    unformed c.args.text.now c.in-Some.program c.in-Some-2.class read.0 read.1 made.0 (is_not c.in_ok-well_formed_by_numbers.field-0 _ c.in_ok-well_formed_by_numbers.ensures c.if-not-branch.true)
