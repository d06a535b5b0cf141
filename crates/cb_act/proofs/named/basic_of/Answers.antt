use Rattle.std.proofs.Common.{◌∙◌, ap, sym}
use Rattle.cb_link.specs.Decoding.{basic_named}
use Rattle.cb_act.proofs.named.basic_of.Goals as goal

pub returns-clause-field : goal.returns-clause-field
returns-clause-field c = λ class slot is. ap (basic_named c.args.program.now) (sym is) ∙ sym c.requires.told ∙ c.in-Some.is

pub returns-clause-static_ : goal.returns-clause-static_
returns-clause-static_ c = λ class slot is. ap (basic_named c.args.program.now) (sym is) ∙ sym c.requires.told ∙ c.in-Some.is
