-- Access flags of classes, fields and methods (JVMS §4.1, §4.5, §4.6). Flags of a class or member are added up.
use Rattle.std.specs.Prelude.{ℕ}

abbrev pub public : ℕ
public = 0x0001

abbrev pub private : ℕ
private = 0x0002

abbrev pub protected : ℕ
protected = 0x0004

abbrev pub static : ℕ
static = 0x0008

abbrev pub final : ℕ
final = 0x0010

-- what each class but an interface has since Java 1.1
abbrev pub acc_super : ℕ
acc_super = 0x0020

abbrev pub acc_native : ℕ
acc_native = 0x0100

abbrev pub acc_interface : ℕ
acc_interface = 0x0200

abbrev pub acc_abstract : ℕ
acc_abstract = 0x0400
