use Rattle.cb_asm_record.specs.Grammar.{HasLabel}
use Rattle.cb_asm_record.proofs.Handed.{handed}
use Rattle.cb_asm_record.proofs.Turns.{refuses_told}
use Rattle.cb_asm_record.proofs.operand.pairs_of.Goals as goal

pub returns-in_err-place : goal.returns-in_err-place
returns-in_err-place c =
    handed _ _ _ _ c.from_residual-in_err-place.ensures (refuses_told (λ pair. pair.1) (HasLabel c.args.labels.now) _ _ _ _ c.loop-name-test.true c.name-item.is c.in_err-place.ensures)
