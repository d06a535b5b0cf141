use Rattle.std.proofs.Common.{refl}
use Rattle.cb_classfile.specs.Code.{SpellsBody}
use Rattle.cb_classfile.proofs.Laws.{canonical_body}
use Rattle.cb_writer.specs.Names.{name_of}
use Rattle.cb_writer.specs.declared.attribute_names.Attribute.TheVariants as attributes
use Rattle.cb_writer.proofs.Once.{told_none, told_some, told_unnamed}
use Rattle.cb_writer.proofs.method.may_have_body.Goals as goal

pub returns-then-has : goal.returns-then-has
returns-then-has c = told_some (canonical_body c.args.names.now) c.in-Some.is (c.if-has.ensures.0 refl) c.is_short_body.ensures

pub returns-else-has : goal.returns-else-has
returns-else-has c = told_unnamed (canonical_body c.args.names.now) c.in-Some.is c.has.ensures c.if-has.false

pub returns-in-None : goal.returns-in-None
returns-in-None c = told_none (SpellsBody c.args.names.now) c.args.names.now (name_of attributes.Code) c.in-None.is refl
