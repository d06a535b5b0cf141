use Rattle.std.proofs.Common.{◌≡◌, ◌∙◌, ◌<◌, IfSome, ap, length, subst, sym}
use Rattle.cb_link.specs.Named.{kind_at}
use Rattle.cb_link.specs.InnerPlaces.{kind_of}
use Rattle.cb_link.proofs.ConstantAnswers.{kind_of_constant}
use Rattle.cb_link.proofs.NamedThere.{kind_at_below}
use Rattle.cb_link.proofs.program.Program.kind_at.Goals as goal

pub returns : goal.returns
returns c =
    let found : c.kind_of.result ≡ kind_at c.args.self.now c.args.class c.args.index =
    c.kind_of.ensures ∙ ap kind_of c.constant_of.ensures ∙ kind_of_constant c.args.self.now c.args.class c.args.index in
    record { found = found; within = subst (λ some. IfSome some (λ kind. kind < length c.args.self.now.kinds)) (sym found) (kind_at_below c.args.self.now c.args.class c.args.index) }
