use Rattle.std.proofs.Common.{◌∙◌, ap, sym}
use Rattle.std.specs.Prelude.{option_and_then}
use Rattle.cb_text.specs.Naming.{class_at}
use Rattle.cb_act.proofs.InterfaceLaws.{kind_found, kind_none}
use Rattle.cb_act.proofs.acting_interfaces.holder_kind.Goals as goal

pub returns-in_err-holder-clause-found : goal.returns-in_err-holder-clause-found
returns-in_err-holder-clause-found c =
    c.from_residual.ensures
    ∙ kind_none c.args.program.now c.requires c.args.caller c.class_of-class.result c.class_of-class.ensures.declares c.class.result.now c.class.ensures c.args.index
    (ap (option_and_then (class_at c.class.result.now.pool)) (sym c.in_err-holder.was) ∙ c.holder_at.ensures)

pub returns-clause-found : goal.returns-clause-found
returns-clause-found c =
    c.kind_at.ensures.found
    ∙ kind_found c.args.program.now c.requires c.args.caller c.class_of-class.result c.class_of-class.ensures.declares c.class.result.now c.class.ensures c.args.index c.in_ok-holder.holder
    (ap (option_and_then (class_at c.class.result.now.pool)) (sym c.in_ok-holder.was) ∙ c.holder_at.ensures)
