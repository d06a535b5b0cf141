use Rattle.std.proofs.Common.{◌∙◌, ap, sym, Err}
use Rattle.std.proofs.lemmas.Bool.{false≢true}
use Rattle.cb_load.proofs.LoadBytes.{of_another, of_none, of_version}
use Rattle.cb_load.proofs.class_of.named_class_of.Goals as goal

pub returns-in_ok-units_of-in-Ok-2 : goal.returns-in_ok-units_of-in-Ok-2
returns-in_ok-units_of-in-Ok-2 c =
    of_another c.args.name.now _ c.args.bytes.now c.in-Ok.class c.read_any_class.result c.in-Ok.is c.read_any_class.ensures.class c.read_any_class.ensures.bad_version
    (λ named. false≢true (sym c.if-is_named.false ∙ c.is_named.ensures.1 named)) c.in_ok-units_of-in-Ok-2.ensures

pub returns-in_ok-units_of-in-Err-Malformed : goal.returns-in_ok-units_of-in-Err-Malformed
returns-in_ok-units_of-in-Err-Malformed c =
    of_none c.args.name.now _ c.args.bytes.now c.read_any_class.result (c.in-Err-Malformed.is ∙ ap Err c.in-Err-Malformed.field-0-is) c.read_any_class.ensures.malformed c.in_ok-units_of-in-Err-Malformed.ensures

pub returns-in_ok-units_of-in-Err-BadVersion : goal.returns-in_ok-units_of-in-Err-BadVersion
returns-in_ok-units_of-in-Err-BadVersion c =
    of_version c.args.name.now _ c.args.bytes.now c.in-Err-BadVersion.major c.read_any_class.result (c.in-Err-BadVersion.is ∙ ap Err c.in-Err-BadVersion.field-0-is) (c.read_any_class.ensures.bad_version c.in-Err-BadVersion.major) c.in_ok-units_of-in-Err-BadVersion.ensures
