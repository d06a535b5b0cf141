-- What has a spelling. What private contracts and proofs cite: no public clause names this file.
use Rattle.std.specs.Prelude.{ℕ, List}
use Rattle.cb_text.specs.declared.constant.Constant.{Constant}
use Rattle.cb_insn.specs.declared.insn.Insn.{Insn}
use Rattle.cb_classfile.specs.Code.{SpellsCodeBytes, SpellsInstructions}
use Rattle.cb_classfile.specs.Tables.{block_bytes}

-- some bytes spell the item
pub record HasSpelling {Item : Type 0} (Spells : List ℕ → Item → Type 0) (item : Item) : Type 0 where
  pub bytes : List ℕ
  pub spelled : Spells bytes item

-- the code of a body, by its bytes without their number
pub record SpellsCodeOf (pool : List Constant) (bytes : List ℕ) (code : List (ℕ × Insn)) : Type 0 where
  pub block : SpellsCodeBytes (block_bytes bytes) bytes
  pub instructions : SpellsInstructions pool bytes code
