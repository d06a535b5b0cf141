use Rattle.std.proofs.Common.{subst}
use Rattle.std.specs.List.{flat_map}
use Rattle.cb_asm_record.specs.Entries.{with_parts}
use Rattle.cb_asm_record.specs.Inner.{IsHopeless}
use Rattle.cb_asm_record.proofs.Handed.{handed}
use Rattle.cb_asm_record.proofs.Recording.{gathered}
use Rattle.cb_asm_record.proofs.Turns.{no_pool}
use Rattle.cb_asm_record.proofs.constants.constants_of.Goals as goal

pub returns-in_err-numbering : goal.returns-in_err-numbering
returns-in_err-numbering c = handed _ _ _ _ c.from_residual.ensures (no_pool (flat_map with_parts c.args.uses) _ (subst (λ uses. IsHopeless (flat_map with_parts uses) c.in_err-numbering.field-0.0) c.as_slice.ensures c.in_err-numbering.ensures))

pub returns : goal.returns
returns c = gathered c.args.uses _ _ _ c.as_slice.ensures c.in_ok-numbering.ensures
