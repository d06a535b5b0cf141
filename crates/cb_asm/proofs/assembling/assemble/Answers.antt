use Rattle.std.proofs.Common.{◌≡◌, subst, IfOk}
use Rattle.cb_asm_record.specs.Grammar.{Assembles}
use Rattle.cb_classfile.specs.declared.class.ClassFile.{ClassFile as AnyClass}
use Rattle.cb_asm.proofs.assembling.assemble.Goals as goal

pub returns-clause-only : goal.returns-clause-only
returns-clause-only c =
    subst (λ bytes. IfOk c.assemble_bytes.result (λ class. (other : AnyClass) → Assembles bytes other → other ≡ class)) c.as_bytes.ensures.value c.assemble_bytes.ensures.only
