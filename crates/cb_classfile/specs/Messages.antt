-- The words of what is left out, and of the errors.
use Rattle.std.specs.Prelude.{ℕ, List, ◌++◌, codes}
use Rattle.std.specs.Fmt.{decimal}
use Rattle.cb_classfile.specs.declared.fault.ClassFault.{ClassFault}
use Rattle.cb_classfile.specs.declared.fault.ClassFault.TheVariants.{BadVersion, Malformed, Unsupported, OutOfMemory}
use Rattle.cb_classfile.specs.declared.fault.ReadFault.{ReadFault}
use Rattle.cb_classfile.specs.declared.fault.ReadFault.TheVariants as unread
use Rattle.cb_classfile.specs.declared.feature.Feature.{Feature}
use Rattle.cb_classfile.specs.declared.feature.Feature.TheVariants as features

-- an item that is left out
abbrev pub feature_text : Feature → List ℕ
feature_text features.Float = codes "float"
feature_text features.Double = codes "double"
feature_text features.MethodHandle = codes "method handle"
feature_text features.MethodType = codes "method type"
feature_text features.InvokeDynamic = codes "invokedynamic"
feature_text features.LangRef = codes "java/lang/ref"
feature_text features.Synchronized = codes "synchronized"
feature_text features.Native = codes "native"
feature_text features.Finalize = codes "finalize"
feature_text features.Monitor = codes "monitor"
feature_text features.Jsr = codes "jsr"

-- why no class was read, and why none was taken
abbrev pub read_fault_text : ReadFault → List ℕ
read_fault_text (unread.BadVersion major) = codes "a class file of version " ++ decimal major
read_fault_text unread.Malformed = codes "not a class file"
read_fault_text unread.OutOfMemory = codes "out of memory"

abbrev pub class_fault_text : ClassFault → List ℕ
class_fault_text (BadVersion major) = read_fault_text (unread.BadVersion major)
class_fault_text Malformed = read_fault_text unread.Malformed
class_fault_text (Unsupported item) = codes "a class file with " ++ feature_text item
class_fault_text OutOfMemory = read_fault_text unread.OutOfMemory
