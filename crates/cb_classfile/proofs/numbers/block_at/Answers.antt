use Rattle.std.proofs.Common.{refl}
use Rattle.cb_classfile.proofs.Failing.{handed}
use Rattle.cb_classfile.proofs.Blocks.{length_stands, block_cut, block_found}
use Rattle.cb_classfile.proofs.numbers.block_at.Goals as goal

pub returns-in_err-length : goal.returns-in_err-length
returns-in_err-length c = handed _ _ _ _ c.from_residual.ensures (λ block rest begins. c.in_err-length.ensures _ _ (length_stands begins))

pub returns-in-Some : goal.returns-in-Some
returns-in-Some c =
    let cases = c.in-Some.ensures.cases in
    (c.in-Some.block.now, block_found c.in_ok-length.ensures cases.0 cases.1 cases.2, refl)

pub returns-in-None : goal.returns-in-None
returns-in-None c = block_cut c.in_ok-length.ensures c.in-None.ensures.cases
