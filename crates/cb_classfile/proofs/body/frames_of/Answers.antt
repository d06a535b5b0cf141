use Rattle.cb_classfile.proofs.BodyParts.{frames_none, frames_once, frames_again}
use Rattle.cb_classfile.proofs.Failing.{handed}
use Rattle.cb_classfile.proofs.body.frames_of.Goals as goal

pub returns-in_err-all_attributes_named : goal.returns-in_err-all_attributes_named
returns-in_err-all_attributes_named c = handed _ _ _ _ c.from_residual.ensures (λ frames spelled. c.in_err-all_attributes_named.ensures spelled.attributes spelled.spelled)

pub returns-in-Never : goal.returns-in-Never
returns-in-Never c =
    let (attributes, here, told) = c.in_ok-all_attributes_named.ensures in
    frames_none here (rw c.in-Never.is at told) c.new.ensures

pub returns-in-Once : goal.returns-in-Once
returns-in-Once c =
    let (attributes, here, told) = c.in_ok-all_attributes_named.ensures in
    frames_once _ here (rw c.in-Once.is at told) c.whole_table.ensures

pub returns-in-Again : goal.returns-in-Again
returns-in-Again c =
    let (attributes, here, told) = c.in_ok-all_attributes_named.ensures in
    frames_again here (rw c.in-Again.is at told)
