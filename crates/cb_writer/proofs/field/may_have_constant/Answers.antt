use Rattle.std.proofs.Common.{refl, arith}
use Rattle.cb_classfile.specs.Members.{SpellsValue}
use Rattle.cb_classfile.proofs.Laws.{canonical_value}
use Rattle.cb_writer.specs.Names.{name_of}
use Rattle.cb_writer.specs.declared.attribute_names.Attribute.TheVariants as attributes
use Rattle.cb_writer.proofs.Once.{told_none, told_some, told_unnamed}
use Rattle.cb_writer.proofs.field.may_have_constant.Goals as goal

pub returns-then-has : goal.returns-then-has
returns-then-has c =
    told_some (canonical_value c.args.names.now c.args.descriptor) c.in-Some.is (c.if-has.ensures.0 refl) (λ is. (c.is_value.ensures.0 is, omega arith), λ both. c.is_value.ensures.1 both.0)

pub returns-else-has : goal.returns-else-has
returns-else-has c = told_unnamed (canonical_value c.args.names.now c.args.descriptor) c.in-Some.is c.has.ensures c.if-has.false

pub returns-in-None : goal.returns-in-None
returns-in-None c = told_none (SpellsValue c.args.names.now c.args.descriptor) c.args.names.now (name_of attributes.ConstantValue) c.in-None.is refl
