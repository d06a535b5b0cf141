-- The instructions of the library's bodies, by their names, and the opcode of each (JVMS chapter 6).
use Rattle.std.specs.Prelude.{ℕ, List, [], ◌∷◌, codes}
use Rattle.cb_library.specs.Rows.{Instruction, Kind, runs, Plain, Branch, LoadText, OfClass, OfField, OfMethod}

abbrev pub aload_0 : Instruction
aload_0 = Plain 0x2A

abbrev pub aload_1 : Instruction
aload_1 = Plain 0x2B

abbrev pub aload_2 : Instruction
aload_2 = Plain 0x2C

abbrev pub iload_2 : Instruction
iload_2 = Plain 0x1C

abbrev pub aconst_null : Instruction
aconst_null = Plain 0x01

abbrev pub iconst_0 : Instruction
iconst_0 = Plain 0x03

abbrev pub dup : Instruction
dup = Plain 0x59

abbrev pub arraylength : Instruction
arraylength = Plain 0xBE

abbrev pub areturn : Instruction
areturn = Plain 0xB0

abbrev pub ireturn : Instruction
ireturn = Plain 0xAC

abbrev pub return_ : Instruction
return_ = Plain 0xB1

abbrev pub athrow : Instruction
athrow = Plain 0xBF

-- branches, by the number of the instruction that they go to
abbrev pub ifeq : ℕ → Instruction
ifeq target = Branch 0x99 target

abbrev pub ifnull : ℕ → Instruction
ifnull target = Branch 0xC6 target

abbrev pub ifnonnull : ℕ → Instruction
ifnonnull target = Branch 0xC7 target

-- the string constant of this text
abbrev pub ldc : List ℕ → Instruction
ldc text = LoadText text

-- by the name of a class
abbrev pub new : List ℕ → Instruction
new class = OfClass 0xBB class

abbrev pub checkcast : List ℕ → Instruction
checkcast class = OfClass 0xC0 class

abbrev pub instanceof : List ℕ → Instruction
instanceof class = OfClass 0xC1 class

-- by class, name and descriptor of a member
abbrev pub getfield : List ℕ → List ℕ → List ℕ → Instruction
getfield class name descriptor = OfField 0xB4 class name descriptor

abbrev pub putfield : List ℕ → List ℕ → List ℕ → Instruction
putfield class name descriptor = OfField 0xB5 class name descriptor

abbrev pub invokevirtual : List ℕ → List ℕ → List ℕ → Instruction
invokevirtual class name descriptor = OfMethod 0xB6 class name descriptor

abbrev pub invokespecial : List ℕ → List ℕ → List ℕ → Instruction
invokespecial class name descriptor = OfMethod 0xB7 class name descriptor

abbrev pub invokestatic : List ℕ → List ℕ → List ℕ → Instruction
invokestatic class name descriptor = OfMethod 0xB8 class name descriptor

-- the body of `compareTo(Object)` of a class that is Comparable with itself: it casts and calls
abbrev pub compares : (class descriptor : List ℕ) → Kind
compares class descriptor = runs 2 2 (
    aload_0
    ∷ aload_1
    ∷ checkcast class
    ∷ invokevirtual class (codes "compareTo") descriptor
    ∷ ireturn
    ∷ [])
