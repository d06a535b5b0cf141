-- What this crate's own functions and proofs cite, and no public clause.
use Rattle.std.specs.Prelude.{◌≡◌, ◌≢◌, ℕ, ◌+◌, ◌<◌, ◌^◌, Bool, true, List, [], ◌∷◌, ◌++◌, Option, Some, None, IfSome, Result, MatchResult, if◌then◌else◌}
use Rattle.std.specs.BTreeMap.{BTreeMap, get_by}
use Rattle.std.specs.Cmp.Lexicographic.{slice_cmp}
use Rattle.std.specs.List.{AllByRecursion, AllPairs, list_any}
use Rattle.std.specs.Ordering.{nat_cmp}
use Rattle.std.specs.declared.cmp.Ordering.{Ordering}
use denote.Ref.{Bor}
use Rattle.cb_asm_line.specs.declared.program.CodeLine.{CodeLine}
use Rattle.cb_asm_line.specs.declared.program.CodeLine.TheVariants.{Here, Do}
use Rattle.cb_asm_line.specs.declared.program.CodeText.{CodeText}
use Rattle.cb_asm_line.specs.declared.program.MethodText.{MethodText}
use Rattle.cb_asm_line.specs.declared.frame.FrameLine.{FrameLine}
use Rattle.cb_asm_line.specs.declared.frame.FrameLine.TheVariants.{Full, Bad}
use Rattle.cb_asm_line.specs.declared.operand.Instruction.{Instruction}
use Rattle.cb_asm_line.specs.declared.operand.Operand.{Operand}
use Rattle.cb_asm_line.specs.declared.operand.Operand.TheVariants as parts
use Rattle.cb_asm_line.specs.Label.{Label}
use Rattle.cb_asm_line.specs.Parameters.{argument_words, named_behind, types_behind}
use Rattle.cb_insn.specs.Places.{Rise}
use Rattle.cb_insn.specs.declared.insn.Insn.{Insn}
use Rattle.cb_insn.specs.declared.opcode.TheConstants as opcodes
use Rattle.cb_names.specs.declared.base.BaseType.TheVariants as base
use Rattle.cb_names.specs.Types.{JavaType, Primitive, parameters_words}
use Rattle.cb_text.specs.declared.constant.Constant.{Constant}
use Rattle.cb_text.specs.Pool.{IsPool}
use Rattle.cb_asm_record.specs.declared.stop.Stop.{Stop}
use Rattle.cb_asm_record.specs.declared.stop.Stop.TheVariants.{NoRecord}
use Rattle.cb_asm_record.specs.declared.words.Reading.{Reading}
use Rattle.cb_asm_record.specs.declared.words.Reading.TheVariants as readings
use Rattle.cb_classfile.specs.declared.frame_map.MapFrame.{MapFrame}
use Rattle.cb_asm_record.specs.Record.{frames_behind}
use Rattle.cb_asm_record.specs.Grammar.{CatchHasLabels, FrameHasLabels, HasLabel, frame_places, labels_of}
use Rattle.cb_asm_record.specs.Labels.{code_from, labels_from, place_at, place_in, size_at}
use Rattle.cb_asm_record.specs.Constants.{entries_of, firsts, index_of, pool_of}
use Rattle.cb_asm_record.specs.Uses.{program_uses}
use Rattle.cb_asm_line.specs.declared.program.Program.{Program}
use Rattle.cb_text.specs.declared.naming.MemberKind.TheVariants as kinds
use Rattle.cb_asm_record.specs.declared.key.Key.{Key}
use Rattle.cb_asm_record.specs.declared.key.Key.TheVariants as keys
use Rattle.cb_asm_record.specs.contracts.key.KeyOrd.TheImpl.{cmp-value}
use Rattle.cb_asm_record.specs.Entries.{Entry, Text, Int, Long, Class, String, NameAndType, Member, same}

-- the constant of a key
abbrev pub key_entry : Key → Entry
key_entry (keys.Text text) = Text text.now
key_entry (keys.Int number) = Int number
key_entry (keys.Long number) = Long number
key_entry (keys.Class name) = Class name.now
key_entry (keys.String text) = String text.now
key_entry (keys.NameAndType name descriptor) = NameAndType name.now descriptor.now
key_entry (keys.Field class name descriptor) =
    Member (record { kind = kinds.Field; class = class.now; name = name.now; descriptor = descriptor.now })
key_entry (keys.Method class name descriptor) =
    Member (record { kind = kinds.Method; class = class.now; name = name.now; descriptor = descriptor.now })
key_entry (keys.InterfaceMethod class name descriptor) =
    Member (record { kind = kinds.InterfaceMethod; class = class.now; name = name.now; descriptor = descriptor.now })

-- the parts of a constant, which stand before it
abbrev pub parts_of : Entry → List Entry
parts_of (Class name) = Text name ∷ []
parts_of (String text) = Text text ∷ []
parts_of (NameAndType name descriptor) = Text name ∷ Text descriptor ∷ []
parts_of (Member member) =
    Text member.class ∷ Class member.class ∷ Text member.name ∷ Text member.descriptor ∷ NameAndType member.name member.descriptor ∷ []
parts_of other = []

abbrev pub has : List Entry → Entry → Bool
has entries entry = list_any (λ first. same first entry) entries

-- the constants are closed: the parts of each are there
abbrev pub AreClosed : List Entry → Type 0
AreClosed used = (part entry : Entry) → has used part ≡ true → has (parts_of part) entry ≡ true → has used entry ≡ true

-- the parts of a constant are among these
abbrev pub ArePartsOf : List Entry → Entry → Type 0
ArePartsOf used entry = (part : Entry) → has (parts_of entry) part ≡ true → has used part ≡ true

-- the index of a constant, if it is there
abbrev pub index_in : List Entry → Entry → Option ℕ
index_in entries entry = if has entries entry then Some (index_of entries entry) else None

-- the order of keys
abbrev pub key_cmp : Key → Key → Ordering
key_cmp = cmp-value.it

-- the pool and the indices are those of the constants that were used
pub record Holds (used : List Entry) (pool : List Constant) (indices : BTreeMap Key ℕ) : Type 0 where
  pub pooled : pool ≡ pool_of (firsts used)
  pub found : (key : Key) → get_by (key_cmp key) indices ≡ index_in (firsts used) (key_entry key)
  pub closed : AreClosed used
  pub made : IsPool pool

-- no constants of which these are the first make a pool
abbrev pub IsHopeless : List Entry → Stop → Type 0
IsHopeless used stop = stop ≡ NoRecord → (more : List Entry) → ¬ IsPool (pool_of (firsts (used ++ more)))

-- there is no record where this doesn't hold
abbrev pub Refuses : Type 0 → Stop → Type 0
Refuses Holds stop = stop ≡ NoRecord → ¬ Holds

-- what is made is this, and what is asked of it holds
pub record Gives {Item : Type 0} (expected : Item) (Asked : Type 0) (item : Item) : Type 0 where
  pub is : item ≡ expected
  pub asked : Asked

-- a part of a record is made where what is asked of it holds
abbrev pub Makes : {Item : Type 0} → Item → Type 0 → Result Item Stop → Type 0
Makes expected Asked result = MatchResult result (Gives expected Asked) (Refuses Asked)

-- where code goes on behind a line at a place, and behind some lines
abbrev pub behind : ℕ → CodeLine → ℕ
behind pc (Here label) = pc
behind pc (Do instruction) = pc + size_at pc instruction

abbrev pub end_from : ℕ → List CodeLine → ℕ
end_from pc [] = pc
end_from pc (line ∷ lines) = end_from (behind pc line) lines

-- code whose labels stand once, and which has as few bytes as a method may have (JVMS §4.7.3)
pub record IsLaid (lines : List CodeLine) : Type 0 where
  pub once : AllPairs (λ one other. one.0 ≢ other.0) (labels_from 0 lines)
  pub short : end_from 0 lines < 2 ^ 16

-- the place of each label
abbrev pub AreAt : List (Label × ℕ) → BTreeMap (Bor (List ℕ)) ℕ → Type 0
AreAt labels places = (label : Label) → get_by (λ key. slice_cmp nat_cmp label key.now) places ≡ place_in labels label

-- the lines were walked, up to a place
pub record AreWalked (lines : List CodeLine) (places : BTreeMap (Bor (List ℕ)) ℕ) (pc : ℕ) : Type 0 where
  pub mapped : AreAt (labels_from 0 lines) places
  pub once : AllPairs (λ one other. one.0 ≢ other.0) (labels_from 0 lines)
  pub place : pc ≡ end_from 0 lines
  pub few : pc < 2 ^ 16

-- no code of which these are the first lines is laid so
abbrev pub AreAstray : List CodeLine → Stop → Type 0
AreAstray lines stop = stop ≡ NoRecord → (rest : List CodeLine) → ¬ IsLaid (lines ++ rest)

-- how many words the types take that are left of a descriptor, by where it is read
abbrev pub words_left : Reading → List ℕ → ℕ
words_left readings.Type text = parameters_words (types_behind 0 text)
words_left readings.Array text = parameters_words (types_behind 1 text)
words_left readings.Name text = parameters_words (named_behind 0 [] text)

-- a long, or an array of longs, behind so many brackets
abbrev pub long_behind : ℕ → JavaType
long_behind brackets = record { dimensions = brackets; element = Primitive base.Long }

-- the count of invokeinterface fits a byte
abbrev pub CountFits : ℕ → Operand → Type 0
CountFits opcode (parts.Member member) = opcode ≡ opcodes.INVOKEINTERFACE → argument_words member.descriptor < 2 ^ 8
CountFits opcode other = Unit {0}

-- an instruction whose labels stand in these lines, and whose count fits
pub record Stands (lines : List CodeLine) (instruction : Instruction) : Type 0 where
  pub labels : AllByRecursion (HasLabel lines) (labels_of instruction.operand)
  pub count : CountFits instruction.opcode instruction.operand

abbrev pub LineStands : List CodeLine → CodeLine → Type 0
LineStands lines (Here label) = Unit {0}
LineStands lines (Do instruction) = Stands lines instruction

-- lines whose labels stand in some code, and that end soon enough
pub record AreInstructions (code lines : List CodeLine) : Type 0 where
  pub each : AllByRecursion (LineStands code) lines
  pub short : end_from 0 lines < 2 ^ 16

-- the place of the last of some frames, or the one before them
abbrev pub last_place : List CodeLine → Option ℕ → List FrameLine → Option ℕ
last_place lines previous [] = previous
last_place lines previous (Bad ∷ frames) = last_place lines previous frames
last_place lines previous (Full frame ∷ frames) = last_place lines (Some (place_at lines frame.place)) frames

-- a place above the one before it, if there is one
abbrev pub IsAbove : Option ℕ → ℕ → Type 0
IsAbove None place = Unit {0}
IsAbove (Some previous) place = previous < place

-- a frame whose labels stand, above the one before it
pub record FrameStands (lines : List CodeLine) (previous : Option ℕ) (line : FrameLine) : Type 0 where
  pub labels : FrameHasLabels lines line
  pub above : AllByRecursion (IsAbove previous) (frame_places lines (line ∷ []))

-- frames whose labels stand, one behind the other
pub record AreFrames (lines : List CodeLine) (frames : List FrameLine) : Type 0 where
  pub each : AllByRecursion (FrameHasLabels lines) frames
  pub ascending : Rise (frame_places lines frames)

-- code that has a body
pub record HasBody (code : CodeText) : Type 0 where
  pub laid : IsLaid code.lines
  pub lines : AreInstructions code.lines code.lines
  pub catches : AllByRecursion (CatchHasLabels code.lines) code.catches
  pub frames : AreFrames code.lines code.frames

abbrev pub MethodHasBody : MethodText → Type 0
MethodHasBody method = IfSome method.code HasBody

-- a line that stands, and behind which code isn't too long
pub record IsLine (lines : List CodeLine) (pc : ℕ) (line : CodeLine) : Type 0 where
  pub stands : LineStands lines line
  pub short : behind pc line < 2 ^ 16

-- a line is added where it stands, and the place behind it given
pub record AddsLine (lines : List CodeLine) (pc : ℕ) (line : CodeLine) (Added : Type 0) (next : ℕ) : Type 0 where
  pub added : Added
  pub place : next ≡ behind pc line
  pub is : IsLine lines pc line

abbrev pub MakesLine : List CodeLine → ℕ → CodeLine → Type 0 → Result ℕ Stop → Type 0
MakesLine lines pc line Added result = MatchResult result (AddsLine lines pc line Added) (Refuses (IsLine lines pc line))

-- the instructions of some lines
pub record HasCode (entries : List Entry) (lines some : List CodeLine) (code : List (ℕ × Insn)) (pc : ℕ) : Type 0 where
  pub is : code ≡ code_from entries (place_at lines) 0 some
  pub each : AllByRecursion (LineStands lines) some
  pub place : pc ≡ end_from 0 some
  pub few : pc < 2 ^ 16

-- a frame is added where it stands, and its place given
pub record AddsFrame (lines : List CodeLine) (previous : Option ℕ) (line : FrameLine) (Added : Type 0) (place : ℕ) : Type 0 where
  pub added : Added
  pub last : Some place ≡ last_place lines previous (line ∷ [])
  pub is : FrameStands lines previous line

abbrev pub MakesFrame : List CodeLine → Option ℕ → FrameLine → Type 0 → Result ℕ Stop → Type 0
MakesFrame lines previous line Added result = MatchResult result (AddsFrame lines previous line Added) (Refuses (FrameStands lines previous line))

-- the frames of some lines
pub record HasFrames (entries : List Entry) (lines : List CodeLine) (some : List FrameLine) (frames : List MapFrame) (previous : Option ℕ) : Type 0 where
  pub is : frames ≡ frames_behind entries (place_at lines) None some
  pub asked : AreFrames lines some
  pub last : previous ≡ last_place lines None some

-- a program that has a record: its constants make a pool, and its methods have bodies
pub record HasRecord (program : Program) : Type 0 where
  pub pool : IsPool (pool_of (entries_of (program_uses program)))
  pub methods : AllByRecursion MethodHasBody program.methods
