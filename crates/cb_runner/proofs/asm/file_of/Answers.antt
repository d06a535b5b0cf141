use Rattle.std.proofs.Common.{refl, ap, subst, length}
use Rattle.cb_asm.specs.Answers.{StandsUnassembled}
use Rattle.cb_runner.specs.Asm.{AssemblesText, Assembled, Bad}
use Rattle.cb_runner.specs.Ending.{returned}
use Rattle.cb_runner.specs.Messages.{BadLine}
use Rattle.cb_runner.proofs.Endings.{refused_so}
use Rattle.cb_runner.proofs.asm.file_of.Goals as goal

pub returns-in-Ok-write_class : goal.returns-in-Ok-write_class
returns-in-Ok-write_class c =
    Assembled c.requires c.in-Ok.class (record { assembles = c.in-Ok.ensures.assembled; only = c.in-Ok.ensures.only }) (ap (λ bytes. returned bytes (length c.args.text.now)) c.in-Ok-write_class.ensures.exact)

pub returns-in-Err-BadLine : goal.returns-in-Err-BadLine
returns-in-Err-BadLine c =
    refused_so (AssemblesText c.args.text.now) (length c.args.text.now) (BadLine c.in-Err-BadLine.line) c.refused.result c.refused.ensures (Bad c.requires c.in-Err-BadLine.line (subst (StandsUnassembled c.args.text.now) c.in-Err-BadLine.field-0-is c.in-Err-BadLine.ensures.bad) refl)
