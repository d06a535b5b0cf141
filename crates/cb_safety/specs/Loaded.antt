-- What loading ensures of classes beyond that each is well formed (JVMS §5.3.5, §5.4.3.1).
use Rattle.std.specs.Prelude.{◌≡◌, ◌≤◌, ℕ, false, List, None, Some, length, slice_get}
use Rattle.cb_insn.specs.declared.insn.Insn.{Insn}
use Rattle.cb_classfile.specs.Class.{SpellsClass}
use Rattle.cb_classfile.specs.Profile.{unsupported}
use Rattle.cb_classfile.specs.declared.body.Body.{Body}
use Rattle.cb_classfile.specs.declared.class.ClassFile.{ClassFile}
use Rattle.cb_classfile.specs.declared.method.Method.{Method}
use Rattle.cb_kinds.specs.Kinds.{is_array}
use Rattle.cb_link.specs.Making.{named_in}
use Rattle.cb_link.specs.Numbers.{class_number}
use Rattle.cb_load.specs.Loading.{file_limit}

-- the machine leaves nothing of a class out
abbrev pub IsSupported : ClassFile → Type 0
IsSupported class = unsupported class ≡ None

-- the class that an instruction of theirs names is among them
abbrev pub HaveNamed : List ClassFile → Type 0
HaveNamed classes =
    (number place turn : ℕ) (class : ClassFile) (method : Method) (body : Body) (placed : ℕ × Insn) (name : List ℕ) → slice_get classes number ≡ Some class
    → slice_get class.methods place ≡ Some method → method.body ≡ Some body → slice_get body.code turn ≡ Some placed
    → named_in class.pool placed.1.operand ≡ Some name → is_array name ≡ false → (other : ℕ) × (class_number classes name ≡ Some other)

-- a class has a short file
abbrev pub IsShort : ClassFile → Type 0
IsShort class = (bytes : List ℕ) × (length bytes ≤ file_limit) × SpellsClass bytes class
