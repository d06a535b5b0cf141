use Rattle.cb_asm.proofs.Programs.{methods_stand, none_told}
use Rattle.cb_asm.proofs.gathering.gather.Goals as goal

pub returns-in-None : goal.returns-in-None
returns-in-None c = λ other whole are.
    none_told c.in_ok-methods.field-0 _ _ c.in_ok-methods.ensures c.in-None.is other.methods whole (methods_stand c.in-Some.class c.args.lines.items c.class_at.new.lines.items c.take_parts.new.statements.items c.take_parts-2.new.statements.items c.in_ok-interfaces.interfaces c.in_ok-fields.fields other c.in-Some.ensures c.in_ok-interfaces.ensures c.in_ok-fields.ensures are)
