use Rattle.std.proofs.Common.{refl, subst, sym, arith}
use Rattle.cb_classfile.specs.FrameMap.{IsType}
use Rattle.cb_writer.proofs.FrameParts.{type_has, other_type}
use Rattle.cb_writer.proofs.map_type.MapTypeEntry.is_formed.Goals as goal

pub returns-in-Uninitialized : goal.returns-in-Uninitialized
returns-in-Uninitialized c =
    (λ is. type_has c.args.names.now c.args.self.now (subst (IsType c.args.names.now) (sym c.in-Uninitialized.is) (omega arith)), λ has. refl)

pub returns-in_default : goal.returns-in_default
returns-in_default c =
    (λ is. type_has c.args.names.now c.args.self.now (other_type c.args.names.now c.args.self.now c.in_default.not-Object c.in_default.not-Uninitialized), λ has. refl)
