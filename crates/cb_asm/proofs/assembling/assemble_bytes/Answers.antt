use Rattle.cb_asm.proofs.Programs.{none_told, some_told}
use Rattle.cb_asm.proofs.Records.{not_text, one_record, text_record}
use Rattle.cb_asm.proofs.assembling.assemble_bytes.Goals as goal

pub returns-in-Some-clause-only : goal.returns-in-Some-clause-only
returns-in-Some-clause-only c = λ other is.
    one_record c.args.text.now other c.in-Some.class is (some_told c.in_ok-class.field-0 _ _ c.in-Some.class c.in_ok-class.ensures c.in-Some.is)

pub bad_line-requires : goal.bad_line-requires
bad_line-requires c = λ is.
    let found = text_record c.args.text.now is in none_told c.in_ok-class.field-0 _ _ c.in_ok-class.ensures c.in_default.is found.0 found.1
