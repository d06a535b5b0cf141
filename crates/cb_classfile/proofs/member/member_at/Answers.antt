use Rattle.std.proofs.Common.{refl}
use Rattle.cb_classfile.proofs.Failing.{handed}
use Rattle.cb_classfile.proofs.OneItem.{front}
use Rattle.cb_classfile.proofs.OneMember.{exact_member}
use Rattle.cb_classfile.proofs.Sequence.{by_first, by_second, found_both}
use Rattle.cb_classfile.proofs.member.member_at.Goals as goal

pub returns-in_err-flags : goal.returns-in_err-flags
returns-in_err-flags c = handed _ _ _ _ c.from_residual.ensures (by_first c.in_err-flags.ensures)

pub returns-in_err-occurrence : goal.returns-in_err-occurrence
returns-in_err-occurrence c = handed _ _ _ _ c.from_residual-in_err-occurrence.ensures (by_second c.in_ok-flags.ensures c.in_err-occurrence.ensures)

pub returns : goal.returns
returns c =
    let (attributes, here, told) = c.in_ok-occurrence.ensures in
    (((c.in_ok-flags.flags, c.in_ok-flags.name, c.in_ok-flags.descriptor), attributes), front (exact_member _) (found_both c.in_ok-flags.ensures.found here.found), record { head = refl; occurrence = told })
