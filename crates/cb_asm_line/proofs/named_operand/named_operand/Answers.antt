use Rattle.cb_asm_line.proofs.named_operand.named_operand.Goals as goal

pub returns-in-Loadable : goal.returns-in-Loadable
returns-in-Loadable c = rw c.in-Loadable.is c.load_operand.ensures

pub returns-in-Wide : goal.returns-in-Wide
returns-in-Wide c = rw c.in-Wide.is c.load_operand-in-Wide.ensures

pub returns-in-Class : goal.returns-in-Class
returns-in-Class c = rw c.in-Class.is c.class_operand.ensures

pub returns-in-Field : goal.returns-in-Field
returns-in-Field c = rw c.in-Field.is c.member_operand.ensures

pub returns-in-ClassMethod : goal.returns-in-ClassMethod
returns-in-ClassMethod c = rw c.in-ClassMethod.is c.member_operand-in-ClassMethod.ensures

pub returns-in-AnyMethod : goal.returns-in-AnyMethod
returns-in-AnyMethod c = rw c.in-AnyMethod.is c.method_operand.ensures

pub returns-in-InterfaceMethod : goal.returns-in-InterfaceMethod
returns-in-InterfaceMethod c = rw c.in-InterfaceMethod.is c.interface_operand.ensures
