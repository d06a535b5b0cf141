use Rattle.std.proofs.Common.{◌≡◌, Some, subst}
use Rattle.cb_verify.specs.declared.verification_type.VerificationType.TheVariants.{Object}
use Rattle.cb_verify.specs.Rules.{made_type}
use Rattle.cb_verify.specs.Within.{Within}
use Rattle.cb_verify.proofs.MadeKinds.{made_kind}
use Rattle.cb_verify.proofs.rules.made_type.Goals as goal

pub returns : goal.returns
returns c =
    subst (λ (method : Within). Some (Object c.site_kind.result) ≡ made_type method c.args.pc) c.method.view_is
    (made_kind c.method.inside.program.now c.method.inside.number c.args.pc c.site-site.result c.site_kind.result c.site-site.ensures c.site_kind.ensures.kind)
