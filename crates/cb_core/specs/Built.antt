-- What the builder knows of a record beyond what its row says: what the laws on records rest on.
use Rattle.std.specs.Prelude.{◌≡◌, ℕ, ◌+◌, ◌≤◌, List, [], ◌∷◌, length, Option, Some, None, IfSome, codes}
use Rattle.std.specs.List.{AllByRecursion, AllZip}
use Rattle.cb_text.specs.declared.constant.Constant.{Constant}
use Rattle.cb_text.specs.Pool.{IsPool, constant_at}
use Rattle.cb_text.specs.Naming.{text_at}
use Rattle.cb_insn.specs.Places.{places}
use Rattle.cb_library.specs.Rows.{CoreClass, Kind, Runs, Instruction, Plain}
use Rattle.cb_classfile.specs.declared.body.Body.{Body}
use Rattle.cb_classfile.specs.declared.class.ClassFile.{ClassFile}
use Rattle.cb_classfile.specs.Library.{IsRecordOf}
use Rattle.cb_classfile.specs.Pool.{IsNamed}
use Rattle.cb_classfile.specs.Profile.{constant_item}

-- a constant that is named by the rules and isn't left out
abbrev pub IsFine : List Constant → Constant → Type 0
IsFine pool constant = IsNamed pool constant × (constant_item pool constant ≡ None)

-- each constant is
abbrev pub AreFine : List Constant → Type 0
AreFine pool = AllByRecursion (IsFine pool) pool

-- a pool that has grown by so many constants at most: what stood in it stands there still, and where all were fine, all
-- are
pub record Grows (room : ℕ) (before after : List Constant) : Type 0 where
  pub kept : (index : ℕ) (constant : Constant) → constant_at before index ≡ Some constant → constant_at after index ≡ Some constant
  pub few : length after ≤ length before + room
  pub fine : AreFine before → AreFine after

-- how many bytes an instruction takes: an opcode alone, or with an index or an offset of two bytes
abbrev pub size_of : Instruction → ℕ
size_of (Plain opcode) = 1
size_of other = 3

-- the places of instructions from one on
abbrev pub places_from : ℕ → List Instruction → List ℕ
places_from pc [] = []
places_from pc (insn ∷ code) = pc ∷ places_from (pc + size_of insn) code

-- the instructions of a body stand one behind the other
abbrev pub IsLaidOut : Kind → Option Body → Type 0
IsLaidOut (Runs row) body = IfSome body (λ body. places body.code ≡ places_from 0 row.code)
IsLaidOut other body = Unit {0}

-- the record of a row, whose pool is fine and begins with the names of the two attributes
pub record IsBuilt (row : CoreClass) (class : ClassFile) : Type 0 where
  pub said : IsRecordOf row class
  pub minor : class.minor ≡ 0
  pub pool : IsPool class.pool
  pub fine : AreFine class.pool
  pub code : text_at class.pool 1 ≡ Some (codes "Code")
  pub stack_map_table : text_at class.pool 2 ≡ Some (codes "StackMapTable")
  pub laid_out : AllZip (λ row method. IsLaidOut row.kind method.body) row.methods class.methods
