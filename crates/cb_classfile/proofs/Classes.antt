-- A class, by its parts.
use Rattle.std.proofs.Common.{◌≡◌, ℕ, List, refl}
use Rattle.cb_text.specs.declared.constant.Constant.{Constant}
use Rattle.cb_classfile.specs.declared.class.ClassFile.{ClassFile}
use Rattle.cb_classfile.specs.declared.field.Field.{Field}
use Rattle.cb_classfile.specs.declared.method.Method.{Method}

-- a class is its parts
pub class_same : (minor major : ℕ) (pool : List Constant) (flags this_class super_class : ℕ) (interfaces : List ℕ) (fields : List Field) (methods : List Method) (other : ClassFile)
    → minor ≡ other.minor → major ≡ other.major → pool ≡ other.pool → flags ≡ other.flags.0 → this_class ≡ other.this_class → super_class ≡ other.super_class
    → interfaces ≡ other.interfaces → fields ≡ other.fields → methods ≡ other.methods
    → record { minor = minor; major = major; pool = pool; flags = record { 0 = flags }; this_class = this_class; super_class = super_class; interfaces = interfaces; fields = fields; methods = methods } ≡ other
class_same minor major pool flags this_class super_class interfaces fields methods other same_minor same_major same_pool same_flags same_this same_super same_interfaces same_fields same_methods =
    rw (same_minor, same_major, same_pool, same_flags, same_this, same_super, same_interfaces, same_fields, same_methods) refl
