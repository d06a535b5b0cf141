-- What only the crate's own contracts cite.
use Rattle.std.specs.Prelude.{ℕ, ℤ, Bool, true, false, codes, suc, ◌-◌, ◌^◌, ◌<◌, List, [], ◌∷◌, ◌++◌, length, replicate, Option, Some, None, IfSome, map, option_map, ◌==◌, if◌then◌else◌}
use Rattle.std.specs.List.{AllByRecursion, flat_map, list_all}
use Rattle.cb_text.specs.declared.constant.Constant.{Constant}
use Rattle.cb_insn.specs.declared.insn.Insn.{Insn}
use Rattle.cb_insn.specs.Grammar.{SpellsCode}
use Rattle.cb_classfile.specs.declared.body.Body.{Body}
use Rattle.cb_classfile.specs.declared.class.ClassFile.{ClassFile}
use Rattle.cb_classfile.specs.declared.handler.Handler.{Handler}
use Rattle.cb_classfile.specs.declared.method.Method.{Method}
use Rattle.cb_classfile.specs.Pool.{HasText, IsAnyMethodDescriptor}
use Rattle.cb_asm_line.specs.declared.frame.Frame.{Frame}
use Rattle.cb_asm_line.specs.declared.operand.Operand.{Operand}
use Rattle.cb_asm_line.specs.Label.{Label}
use Rattle.cb_asm_line.specs.Lines.{Word, line_text, lines_text, space}
use Rattle.cb_asm_line.specs.Numbers.{signed_decimal}
use Rattle.cb_asm_line.specs.Operands.{label_word, operand_words}
use Rattle.cb_asm_line.specs.Spelling.{catch_line, code_line, frame_line}
use Rattle.cb_asm_list.specs.Listing.{among, catch_of, code_line_of, frame_line_of, frame_places, label_of}

-- the first number of a place among places, counted from 0
abbrev pub index_of : List ℕ → ℕ → Option ℕ
index_of [] place = None
index_of (first ∷ places) place = if first == place then Some 0 else option_map suc (index_of places place)

-- a table that is at least so long, with nothing at what is added
abbrev pub lengthened : List (Option ℕ) → ℕ → List (Option ℕ)
lengthened table count = table ++ replicate (count - length table) None

-- a frame whose places are all among some
abbrev pub placed_among : List ℕ → Frame ℕ → Option (Frame ℕ)
placed_among places frame = if list_all (among places) (frame_places frame) then Some frame else None

-- what is known of the methods of a well-formed record: a descriptor is one, code is spelled by some bytes, and frames
-- are few
pub record IsCoded (body : Body) : Type 0 where
  pub bytes : List ℕ
  pub spelled : SpellsCode body.code bytes
  pub few : length body.frames < 2 ^ 16

pub record IsListable (pool : List Constant) (method : Method) : Type 0 where
  pub described : HasText pool method.descriptor IsAnyMethodDescriptor
  pub coded : IfSome method.body IsCoded

-- words with a mark before each, as those of a line that stand behind its first one have a space
abbrev pub marked : ℕ → List Word → List ℕ
marked mark words = flat_map (λ word. mark ∷ word) words

abbrev pub behind : List Word → List ℕ
behind words = marked space words

-- the words of an operand, if there is one
abbrev pub words_of : Option Operand → List Word
words_of None = []
words_of (Some operand) = operand_words operand

-- the words of keys, each with its label
abbrev pub pair_words : List (ℤ × Label) → List Word
pair_words pairs = flat_map (λ pair. signed_decimal pair.0 ∷ label_word pair.1 ∷ []) pairs

-- what stands before the name of an instruction
abbrev pub wide_front : Bool → List ℕ
wide_front true = codes "wide "
wide_front false = []

-- the lines of an instruction at its place, of an entry of the exception table and of a frame
abbrev pub placed_text : ClassFile → List ℕ → ℕ × Insn → List ℕ
placed_text class labelled placed = lines_text (map code_line (code_line_of class labelled placed))

abbrev pub catch_text : ClassFile → List ℕ → Handler → List ℕ
catch_text class labelled handler = line_text (catch_line (catch_of class (label_of labelled) handler))

abbrev pub frame_text : List ℕ → Option (Frame ℕ) → List ℕ
frame_text labelled frame = line_text (frame_line (frame_line_of (label_of labelled) frame))

-- what is known of a well-formed record
pub record IsListed (class : ClassFile) : Type 0 where
  pub interfaces : AllByRecursion (λ index. index < 2 ^ 16) class.interfaces
  pub methods : AllByRecursion (IsListable class.pool) class.methods
