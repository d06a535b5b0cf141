-- What a fault of a part means for the whole.
use Rattle.cb_insn.specs.declared.fault.InsnFault.{InsnFault}
use Rattle.cb_insn.specs.declared.fault.InsnFault.TheVariants as insn
use Rattle.cb_text.specs.declared.pool_fault.PoolFault.{PoolFault}
use Rattle.cb_text.specs.declared.pool_fault.PoolFault.TheVariants as pool
use Rattle.cb_classfile.specs.declared.fault.ClassFault.{ClassFault}
use Rattle.cb_classfile.specs.declared.fault.ClassFault.TheVariants as class
use Rattle.cb_classfile.specs.declared.fault.ReadFault.{ReadFault}
use Rattle.cb_classfile.specs.declared.fault.ReadFault.TheVariants as unread
use Rattle.cb_classfile.specs.declared.fault.Fault.{Fault}
use Rattle.cb_classfile.specs.declared.fault.Fault.TheVariants.{Malformed, OutOfMemory}

-- bad code is a bad class file
abbrev pub insn_fault : InsnFault → Fault
insn_fault insn.OutOfMemory = OutOfMemory
insn_fault fault = Malformed

-- and so is a bad pool
abbrev pub pool_fault : PoolFault → Fault
pool_fault pool.OutOfMemory = OutOfMemory
pool_fault pool.BadPool = Malformed

-- a bad part is a bad whole
abbrev pub read_fault : Fault → ReadFault
read_fault Malformed = unread.Malformed
read_fault OutOfMemory = unread.OutOfMemory

-- a class that isn't read isn't taken
abbrev pub class_fault : ReadFault → ClassFault
class_fault (unread.BadVersion major) = class.BadVersion major
class_fault unread.Malformed = class.Malformed
class_fault unread.OutOfMemory = class.OutOfMemory
