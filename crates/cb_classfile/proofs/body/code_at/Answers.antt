use Rattle.std.proofs.Common.{◌<◌, length, arith}
use Rattle.std.proofs.lemmas.Bool.Decides.{nat_tests}
use Rattle.cb_classfile.proofs.Failing.{handed}
use Rattle.cb_classfile.proofs.BodyParts.{code_block, code_found}
use Rattle.cb_classfile.proofs.body.code_at.Goals as goal

pub returns-in_err-code : goal.returns-in_err-code
returns-in_err-code c = handed _ _ _ _ c.from_residual.ensures (λ code rest begins. c.in_err-code.ensures code rest (code_block begins))

pub returns : goal.returns
returns c =
    let (block, here, told) = c.in_ok-code.ensures in
    let some : 0 < length c.in_ok-code.code.now = grind (arith, nat_tests) in
    (block, code_found here told some (omega arith), told)
