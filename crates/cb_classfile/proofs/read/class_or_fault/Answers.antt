use Rattle.std.proofs.Common.{sym, subst}
use Rattle.cb_classfile.specs.Answers.{IsAcceptedClass}
use Rattle.cb_classfile.specs.Texts.{Describe}
use Rattle.cb_classfile.proofs.Answering.{version_missing, fault_stands, class_stands}
use Rattle.cb_classfile.proofs.Failing.{handed}
use Rattle.cb_classfile.proofs.read.class_or_fault.Goals as goal

pub returns-in_default : goal.returns-in_default
returns-in_default c = version_missing _ c.in_default.ensures

pub returns-in_err-read : goal.returns-in_err-read
returns-in_err-read c =
    handed _ _ _ _ c.from_residual.ensures (fault_stands _ c.in-Some.ensures (c.is_accepted.ensures.0 c.if-not-is_accepted.false) c.in_err-read.ensures)

pub returns : goal.returns
returns c =
    let (class, here, (is, described)) = c.in_ok-read.ensures in
    let accepted = class_stands c.in-Some.ensures (c.is_accepted.ensures.0 c.if-not-is_accepted.false) here.found in
    (subst (IsAcceptedClass c.args.bytes.now) (sym is) accepted, subst (λ class. Describe class.pool c.in_ok-read.read.1.items) (sym is) described)
