use Rattle.std.proofs.Common.{◌∙◌, ap, sym}
use Rattle.std.specs.Prelude.{option_copied}
use Rattle.cb_act.proofs.InterfaceLaws.{holder_found}
use Rattle.cb_act.proofs.acting_interfaces.holder_at.Goals as goal

pub returns-in-Fieldref : goal.returns-in-Fieldref
returns-in-Fieldref c =
    holder_found c.args.pool.now c.constants-constants.ensures.pool c.args.index c.in-Fieldref.holder c.in_ok-holder.field-0.now
    (sym c.get.ensures ∙ ap option_copied c.in_ok-holder.was) c.in-Fieldref.is
