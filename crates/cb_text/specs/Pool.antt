-- The constant pool (JVMS §4.1, §4.4).
use Rattle.std.specs.Prelude.{◌≡◌, ℕ, zero, suc, ◌+◌, ◌^◌, ◌<◌, ◌≤◌, List, [], ◌∷◌, ◌++◌, length, Option, None, slice_get, IsSome, IsSomeAnd}
use Rattle.std.specs.Int.{w16, w32, w64, to_be_bytes}
use Rattle.std.specs.List.{AllByRecursion, flat_map}
use Rattle.cb_text.specs.declared.constant.Constant.{Constant}
use Rattle.cb_text.specs.declared.constant.Constant.TheVariants.{Utf8, Integer, Float, Long, Double, Class, String, Fieldref, Methodref, InterfaceMethodref, NameAndType, MethodHandle, MethodType, InvokeDynamic, Gap}
use Rattle.cb_text.specs.declared.pool_fault.PoolFault.{PoolFault}
use Rattle.cb_text.specs.declared.pool_fault.PoolFault.TheVariants as pool
use Rattle.cb_text.specs.declared.text.TextFault.{TextFault}
use Rattle.cb_text.specs.declared.text.TextFault.TheVariants as text
use Rattle.cb_text.specs.Text.{text_bytes, AreUnits}

abbrev pub u2 : ℕ → List ℕ
u2 number = to_be_bytes w16 number

-- the bytes of a constant: its tag and its contents (JVMS §4.4.1 to §4.4.10). A gap has none
abbrev pub constant_bytes : Constant → List ℕ
constant_bytes (Utf8 units) = 1 ∷ u2 (length (text_bytes units)) ++ text_bytes units
constant_bytes (Integer number) = 3 ∷ to_be_bytes w32 number
constant_bytes (Float bits) = 4 ∷ to_be_bytes w32 bits
constant_bytes (Long number) = 5 ∷ to_be_bytes w64 number
constant_bytes (Double bits) = 6 ∷ to_be_bytes w64 bits
constant_bytes (Class name) = 7 ∷ u2 name
constant_bytes (String text) = 8 ∷ u2 text
constant_bytes (Fieldref holder member) = 9 ∷ u2 holder ++ u2 member
constant_bytes (Methodref holder member) = 10 ∷ u2 holder ++ u2 member
constant_bytes (InterfaceMethodref holder member) = 11 ∷ u2 holder ++ u2 member
constant_bytes (NameAndType name descriptor) = 12 ∷ u2 name ++ u2 descriptor
constant_bytes (MethodHandle kind reference) = 15 ∷ kind ∷ u2 reference
constant_bytes (MethodType descriptor) = 16 ∷ u2 descriptor
constant_bytes (InvokeDynamic bootstrap member) = 18 ∷ u2 bootstrap ++ u2 member
constant_bytes Gap = []

-- the parts of a constant fit the bytes that hold them: each number its width, and the length of a text two bytes
abbrev pub Fits : Constant → Type 0
Fits (Utf8 units) = AreUnits units × (length (text_bytes units) < 2 ^ 16)
Fits (Integer number) = number < 2 ^ 32
Fits (Float bits) = bits < 2 ^ 32
Fits (Long number) = number < 2 ^ 64
Fits (Double bits) = bits < 2 ^ 64
Fits (Class name) = name < 2 ^ 16
Fits (String text) = text < 2 ^ 16
Fits (Fieldref holder member) = (holder < 2 ^ 16) × (member < 2 ^ 16)
Fits (Methodref holder member) = (holder < 2 ^ 16) × (member < 2 ^ 16)
Fits (InterfaceMethodref holder member) = (holder < 2 ^ 16) × (member < 2 ^ 16)
Fits (NameAndType name descriptor) = (name < 2 ^ 16) × (descriptor < 2 ^ 16)
Fits (MethodHandle kind reference) = (kind < 2 ^ 8) × (reference < 2 ^ 16)
Fits (MethodType descriptor) = descriptor < 2 ^ 16
Fits (InvokeDynamic bootstrap member) = (bootstrap < 2 ^ 16) × (member < 2 ^ 16)
Fits Gap = Unit {0}

-- a gap stands behind each Long and Double, which take two indices, and nowhere else (JVMS §4.4.5)
abbrev mutual
  pub AreLaidOut : List Constant → Type 0
  AreLaidOut [] = Unit {0}
  AreLaidOut (Long number ∷ constants) = AreBehindWide constants
  AreLaidOut (Double bits ∷ constants) = AreBehindWide constants
  AreLaidOut (Gap ∷ constants) = ⊥
  AreLaidOut (constant ∷ constants) = AreLaidOut constants

  -- what stands behind a Long or Double begins with its gap
  pub AreBehindWide : List Constant → Type 0
  AreBehindWide (Gap ∷ constants) = AreLaidOut constants
  AreBehindWide constants = ⊥

-- the constant at an index. Indices count from 1, gaps take one too, and none is at 0
abbrev pub constant_at : List Constant → ℕ → Option Constant
constant_at constants zero = None
constant_at constants (suc before) = slice_get constants before

-- the kinds of constants that an index may name: a text, a class, or the name and type of a member
abbrev pub IsText : Constant → Type 0
IsText (Utf8 units) = Unit {0}
IsText other = ⊥

abbrev pub IsClass : Constant → Type 0
IsClass (Class name) = Unit {0}
IsClass other = ⊥

abbrev pub IsMember : Constant → Type 0
IsMember (NameAndType name descriptor) = Unit {0}
IsMember other = ⊥

-- a constant of this kind stands at the index
abbrev pub Names : List Constant → ℕ → (Constant → Type 0) → Type 0
Names constants index IsKind = IsSomeAnd (constant_at constants index) IsKind

-- each index of a constant names one of the right kind. Of a method handle the kind is 1 to 9 (§4.4.8), and the index
-- only has to be in the pool, where even a gap may stand. The first number of an InvokeDynamic is no index of the pool
abbrev pub HasIndices : List Constant → Constant → Type 0
HasIndices constants (Class name) = Names constants name IsText
HasIndices constants (String text) = Names constants text IsText
HasIndices constants (Fieldref holder member) = Names constants holder IsClass × Names constants member IsMember
HasIndices constants (Methodref holder member) = Names constants holder IsClass × Names constants member IsMember
HasIndices constants (InterfaceMethodref holder member) = Names constants holder IsClass × Names constants member IsMember
HasIndices constants (NameAndType name descriptor) = Names constants name IsText × Names constants descriptor IsText
HasIndices constants (MethodHandle kind reference) = (1 ≤ kind) × (kind ≤ 9) × IsSome (constant_at constants reference)
HasIndices constants (MethodType descriptor) = Names constants descriptor IsText
HasIndices constants (InvokeDynamic bootstrap member) = Names constants member IsMember
HasIndices constants other = Unit {0}

-- the bytes of a pool of these constants: the count, which is one more than how many there are with their gaps, and
-- the constants in order
abbrev pub pool_bytes : List Constant → List ℕ
pool_bytes constants = u2 (length constants + 1) ++ flat_map constant_bytes constants

-- the bytes are a pool of these constants
pub record SpellsPool (bytes : List ℕ) (constants : List Constant) : Type 0 where
  pub spelled : bytes ≡ pool_bytes constants
  pub counted : length constants + 1 < 2 ^ 16
  pub fit : AllByRecursion Fits constants
  pub laid_out : AreLaidOut constants
  pub indexed : AllByRecursion (HasIndices constants) constants

-- the constants are all those of a pool
abbrev pub IsPool : List Constant → Type 0
IsPool constants = SpellsPool (pool_bytes constants) constants

-- the bytes begin with a pool, which takes so many of them
abbrev pub BeginsWithPool : List ℕ → List Constant → ℕ → Type 0
BeginsWithPool bytes constants end = (front rest : List ℕ) × SpellsPool front constants × (bytes ≡ front ++ rest) × (end ≡ length front)

-- a constant and, behind a Long or Double, the gap that takes the second index
abbrev pub with_gap : Constant → List Constant
with_gap (Long number) = Long number ∷ Gap ∷ []
with_gap (Double bits) = Double bits ∷ Gap ∷ []
with_gap constant = constant ∷ []

-- the fault of a pool, by that of a text in it: one with a bad text is a bad pool
abbrev pub pool_fault : TextFault → PoolFault
pool_fault text.BadText = pool.BadPool
pool_fault text.OutOfMemory = pool.OutOfMemory
