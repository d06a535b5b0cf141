use Rattle.std.proofs.Common.{◌∙◌, ap, sym, Some, option_map, drop, ◌+◌}
use Rattle.cb_verify.specs.declared.verification_type.VerificationType.TheVariants as types
use Rattle.cb_verify.specs.Frames.{Frame}
use Rattle.cb_verify.specs.Leaving.{all_replaced}
use Rattle.cb_verify.proofs.Tops.{constructed_one}
use Rattle.cb_verify.proofs.leaving.constructed.Goals as goal

pub returns-in_ok-with_finished-in-Some : goal.returns-in_ok-with_finished-in-Some
returns-in_ok-with_finished-in-Some c =
    ap (λ own. Some own) (c.in_ok-with_finished-in-Some.ensures
    ∙ ap (λ (own : Frame). all_replaced c.top-object.result (types.Object c.in-Some.made) own own.stack) c.in_ok-rest-in-Some.ensures)
    ∙ ap (option_map (λ type. all_replaced c.top-object.result type c.args.frame.now (drop (c.args.place + 1) c.args.frame.now.stack)))
    (ap (option_map types.Object) (sym c.in-Some.is) ∙ c.finished.ensures)
    ∙ sym (constructed_one c.args.method.now c.args.kind c.args.frame.now c.args.frame.now.stack c.args.place c.top-object.result c.top-object.ensures)

pub returns-in-None : goal.returns-in-None
returns-in-None c =
    ap (option_map (λ type. all_replaced c.top-object.result type c.args.frame.now (drop (c.args.place + 1) c.args.frame.now.stack)))
    (ap (option_map types.Object) (sym c.in-None.is) ∙ c.finished.ensures)
    ∙ sym (constructed_one c.args.method.now c.args.kind c.args.frame.now c.args.frame.now.stack c.args.place c.top-object.result c.top-object.ensures)
