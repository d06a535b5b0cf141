-- What `asm` comes to, by the text that the input has.
use Rattle.std.specs.Prelude.{◌≡◌, ◌⊎◌, ℕ, ◌+◌, ◌++◌, ◌<◌, ◌≤◌, IfSome, List, Option, length}
use Rattle.std.specs.Io.KnownBytes.{Consumes}
use Rattle.cb_classfile.specs.declared.class.ClassFile.{ClassFile}
use Rattle.cb_classfile.specs.Class.{class_bytes}
use Rattle.cb_asm.specs.Answers.{StopsAt}
use Rattle.cb_asm_record.specs.Grammar.{Assembles}
use Rattle.cb_natives.specs.Asking.{Calls, GaveNone}
use Rattle.cb_link.specs.declared.refusal.Quantity.TheVariants.{AssemblyBytes}
use Rattle.cb_runner.specs.Ending.{Ending, refused, returned}
use Rattle.cb_runner.specs.Messages.{TooLarge, BadLine}

-- the most bytes of an assembly text
abbrev pub text_limit : ℕ
text_limit = 1048576

-- a text is read: calls of the input gave it, and then one gave none; or they gave one byte more than the limit of a longer text
pub data ReadsText {In : Type 0} (gave : In → ℕ → List ℕ → In → Type 0) (first last : In) (text : List ℕ) : Type 0 where
  ToEnd : (mid : In) → length text ≤ text_limit → Calls gave first text mid → GaveNone gave mid last → ReadsText gave first last text
  OverLimit : (front rest : List ℕ) → text ≡ front ++ rest → length front ≡ text_limit + 1 → Calls gave first front last → ReadsText gave first last text

-- so many bytes may be read, of those that are left
abbrev pub MayRead : Option (List ℕ) → ℕ → ℕ → Type 0
MayRead left most read = (read ≤ most) × IfSome left (λ left. read ≤ length left)

-- calls gave so many bytes, and then one may have given none
pub record ReadsBytes {In : Type 0} (left : In → Option (List ℕ)) (gave : In → ℕ → List ℕ → In → Type 0) (most : ℕ) (first last : In) (read : ℕ) : Type 0 where
  pub bytes : List ℕ
  pub mid : In
  pub calls : Calls gave first bytes mid
  pub ends : (last ≡ mid) ⊎ GaveNone gave mid last
  pub consumes : Consumes (left first) (left last) bytes
  pub size : length bytes ≡ read
  pub may : MayRead (left first) most read

-- or one failed
pub record ReadsBefore {In : Type 0} (left : In → Option (List ℕ)) (gave : In → ℕ → List ℕ → In → Type 0) (most : ℕ) (first last : In) (read : ℕ) : Type 0 where
  pub bytes : List ℕ
  pub mid : In
  pub calls : Calls gave first bytes mid
  pub consumes : Consumes (left first) (left last) bytes
  pub size : length bytes ≡ read
  pub may : MayRead (left first) most read

-- the text is that of this class, and of no other
pub record IsTextOf (text : List ℕ) (class : ClassFile) : Type 0 where
  pub assembles : Assembles text class
  pub only : (other : ClassFile) → Assembles text other → other ≡ class

-- the text is too long, of which one byte past the limit is read; or it is read to its end, and is that of a class, whose
-- file is written, or of none, and its first bad line is told
pub data AssemblesText (text : List ℕ) (ending : Ending) : Type 0 where
  TooLong : text_limit < length text → ending ≡ refused (TooLarge AssemblyBytes (text_limit + 1) text_limit) (text_limit + 1) → AssemblesText text ending
  Assembled : length text ≤ text_limit → (class : ClassFile) → IsTextOf text class → ending ≡ returned (class_bytes class) (length text) → AssemblesText text ending
  Bad : length text ≤ text_limit → (line : ℕ) → StopsAt text line → ending ≡ refused (BadLine line) (length text) → AssemblesText text ending
