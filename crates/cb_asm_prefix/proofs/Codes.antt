-- What the instructions of code have, by its lines.
use Rattle.std.proofs.Common.{◌≡◌, ◌∙◌, ap, sym, refl, subst, arith, append_assoc, ℕ, ◌+◌, ◌<◌, ◌^◌, Bool, true, false, List, [], ◌∷◌, ◌++◌, length, length-append, map, None, IfSome, IsSomeAnd, if◌then◌else◌, nat_eq}
use Rattle.std.specs.List.{AllByRecursion}
use Rattle.cb_text.specs.declared.constant.Constant.{Constant}
use Rattle.cb_insn.specs.declared.insn.Insn.{Insn}
use Rattle.cb_insn.specs.declared.insn.Operand.TheVariants as operands
use Rattle.cb_insn.specs.declared.opcode.TheConstants as opcodes
use Rattle.cb_insn.specs.Forms.{head_bytes}
use Rattle.cb_insn.specs.Grammar.{SpellsCode, SpellsFrom, targets_of}
use Rattle.cb_insn.specs.Writing.{code_bytes}
use Rattle.cb_insn.proofs.Laws.{code_length, code_spelled}
use Rattle.cb_classfile.specs.declared.needed.ConstantKind.TheVariants as needed
use Rattle.cb_classfile.specs.Needed.{CallsClass, HasConstant, StandsAt, index_in, kind_needed}
use Rattle.cb_classfile.proofs.Laws.{all_each}
use Rattle.cb_asm_line.specs.Label.{Label}
use Rattle.cb_asm_line.specs.Parameters.{argument_words}
use Rattle.cb_asm_line.specs.declared.operand.Instruction.{Instruction}
use Rattle.cb_asm_line.specs.declared.operand.Operand.{Operand}
use Rattle.cb_asm_line.specs.declared.operand.Operand.TheVariants.{Member, Branch, Table, Lookup}
use Rattle.cb_asm_line.specs.declared.program.CodeLine.{CodeLine}
use Rattle.cb_asm_line.specs.declared.program.CodeLine.TheVariants.{Here, Do}
use Rattle.cb_asm_prefix.specs.Closing.{line_labels}
use Rattle.cb_asm_record.specs.Constants.{index_of}
use Rattle.cb_asm_record.specs.Entries.{Entry, member_entry}
use Rattle.cb_asm_record.specs.Grammar.{HasLabel, LineHasLabels, labels_of}
use Rattle.cb_asm_record.specs.Labels.{code_from, insn_of, labels_from, operand_of, place_in, place_of, size_at}
use Rattle.cb_asm_prefix.proofs.Lists.{all_mapped, all_of_map}
use Rattle.cb_asm_prefix.proofs.Nearing.{pair_to}
use Rattle.cb_asm_prefix.proofs.Placing.{HasDo, end_of, in_first, in_second, labels_append}

-- each label of each line
abbrev pub EachLabel : (Label → Type 0) → List CodeLine → Type 0
EachLabel P lines = AllByRecursion (λ line. AllByRecursion P (line_labels line)) lines

pub each_label : (P Q : Label → Type 0) → ((label : Label) → P label → Q label) → (lines : List CodeLine) → EachLabel P lines → EachLabel Q lines
each_label P Q goes lines all = all_each (λ line. AllByRecursion P (line_labels line)) (λ line. AllByRecursion Q (line_labels line)) (λ line each. all_each P Q goes (line_labels line) each) lines all

line_has : (all : List CodeLine) (line : CodeLine) → LineHasLabels all line → AllByRecursion (HasLabel all) (line_labels line)
line_has all (Here label) has = tt
line_has all (Do instruction) has = has

pub labels_stand : (all lines : List CodeLine) → AllByRecursion (LineHasLabels all) lines → EachLabel (HasLabel all) lines
labels_stand all lines has = all_each (LineHasLabels all) (λ line. AllByRecursion (HasLabel all) (line_labels line)) (line_has all) lines has

has_line : (all : List CodeLine) (line : CodeLine) → AllByRecursion (HasLabel all) (line_labels line) → LineHasLabels all line
has_line all (Here label) has = tt
has_line all (Do instruction) has = has

pub stand_labels : (all lines : List CodeLine) → EachLabel (HasLabel all) lines → AllByRecursion (LineHasLabels all) lines
stand_labels all lines has = all_each (λ line. AllByRecursion (HasLabel all) (line_labels line)) (LineHasLabels all) (has_line all) lines has

-- a label in the first of two lists of lines, or in the second
pub place_first : (one other : List CodeLine) (label : Label) → HasLabel one label → place_of (one ++ other) label ≡ place_of one label
place_first one other label some = ap (λ labels. place_in labels label) (labels_append 0 one other) ∙ in_first (labels_from 0 one) (labels_from (end_of 0 one) other) label some

pub place_second : (one other : List CodeLine) (label : Label) → place_of one label ≡ None → place_of (one ++ other) label ≡ place_in (labels_from (end_of 0 one) other) label
place_second one other label none = ap (λ labels. place_in labels label) (labels_append 0 one other) ∙ in_second (labels_from 0 one) (labels_from (end_of 0 one) other) label none

-- the targets of an operand are the places of its labels
targets_have : (P : ℕ → Type 0) (entries : List Entry) (place : Label → ℕ) (opcode : ℕ) (operand : Operand) → AllByRecursion (λ label. P (place label)) (labels_of operand) → AllByRecursion P (targets_of (operand_of entries place opcode operand))
targets_have P entries place opcode (Branch label) all = all
targets_have P entries place opcode (Table low default labels) all = (all.0, all_mapped P place labels all.1)
targets_have P entries place opcode (Lookup default pairs) all =
    (all.0, all_mapped P (λ pair. pair.target) (map (pair_to place) pairs) (all_mapped (λ pair. P pair.target) (pair_to place) pairs (all_of_map (λ label. P (place label)) (λ pair. pair.1) pairs all.1)))
targets_have P entries place opcode (Member member) all = of (nat_eq opcode opcodes.INVOKEINTERFACE) (index_of entries (member_entry member)) where
  of : (test : Bool) (index : ℕ) → AllByRecursion P (targets_of (if test then operands.Interface index (argument_words member.descriptor) else operands.Pool index))
  of true index = tt
  of false index = tt
targets_have P entries place opcode operand all = tt

of_targets : (P : ℕ → Type 0) (entries : List Entry) (place : Label → ℕ) (opcode : ℕ) (operand : Operand) → AllByRecursion P (targets_of (operand_of entries place opcode operand)) → AllByRecursion (λ label. P (place label)) (labels_of operand)
of_targets P entries place opcode (Branch label) all = all
of_targets P entries place opcode (Table low default labels) all = (all.0, all_of_map P place labels all.1)
of_targets P entries place opcode (Lookup default pairs) all =
    (all.0, all_mapped (λ label. P (place label)) (λ pair. pair.1) pairs (all_of_map (λ pair. P pair.target) (pair_to place) pairs (all_of_map P (λ pair. pair.target) (map (pair_to place) pairs) all.1)))
of_targets P entries place opcode operand all = tt

pub all_reach : (P : ℕ → Type 0) (entries : List Entry) (place : Label → ℕ) (pc : ℕ) (lines : List CodeLine) → EachLabel (λ label. P (place label)) lines
    → AllByRecursion (λ placed. AllByRecursion P (targets_of placed.1.operand)) (code_from entries place pc lines)
all_reach P entries place pc [] all = tt
all_reach P entries place pc (Here label ∷ lines) all = all_reach P entries place pc lines all.1
all_reach P entries place pc (Do instruction ∷ lines) all = (targets_have P entries place instruction.opcode instruction.operand all.0, all_reach P entries place (pc + size_at pc instruction) lines all.1)

pub of_reach : (P : ℕ → Type 0) (entries : List Entry) (place : Label → ℕ) (pc : ℕ) (lines : List CodeLine)
    → AllByRecursion (λ placed. AllByRecursion P (targets_of placed.1.operand)) (code_from entries place pc lines) → EachLabel (λ label. P (place label)) lines
of_reach P entries place pc [] all = tt
of_reach P entries place pc (Here label ∷ lines) all = (tt, of_reach P entries place pc lines all)
of_reach P entries place pc (Do instruction ∷ lines) all = (of_targets P entries place instruction.opcode instruction.operand all.0, of_reach P entries place (pc + size_at pc instruction) lines all.1)

-- the index in an operand has nothing to do with places
index_same : (entries : List Entry) (place place_too : Label → ℕ) (opcode : ℕ) (operand : Operand) → index_in (operand_of entries place opcode operand) ≡ index_in (operand_of entries place_too opcode operand)
index_same entries place place_too opcode (Branch label) = refl
index_same entries place place_too opcode (Table low default labels) = refl
index_same entries place place_too opcode (Lookup default pairs) = refl
index_same entries place place_too opcode operand = refl

-- what holds of instructions holds of them with other places
pub record IsOfIndex (P : Insn → Type 0) : Type 0 where
  pub goes : (entries : List Entry) (place place_too : Label → ℕ) (instruction : Instruction) → P (insn_of entries place instruction) → P (insn_of entries place_too instruction)

pub constant_of_index : (pool : List Constant) → IsOfIndex (HasConstant pool)
constant_of_index pool = record {
  goes = λ entries place place_too instruction has.
      subst (λ found. IfSome found (λ index. IsSomeAnd (kind_needed instruction.opcode) (StandsAt pool index))) (index_same entries place place_too instruction.opcode instruction.operand) has;
}

pub calls_of_index : (pool : List Constant) → IsOfIndex (CallsClass pool)
calls_of_index pool = record {
  goes = λ entries place place_too instruction calls direct names.
      calls direct (subst (λ found. IsSomeAnd found (λ index. StandsAt pool index needed.InterfaceMethod)) (index_same entries place_too place instruction.opcode instruction.operand) names);
}

pub each_insn : (P : Insn → Type 0) → IsOfIndex P → (entries : List Entry) (place place_too : Label → ℕ) (pc : ℕ) (lines rest : List CodeLine)
    → AllByRecursion (λ placed. P placed.1) (code_from entries place pc (lines ++ rest)) → AllByRecursion (λ placed. P placed.1) (code_from entries place_too pc lines)
each_insn P of entries place place_too pc [] rest all = tt
each_insn P of entries place place_too pc (Here label ∷ lines) rest all = each_insn P of entries place place_too pc lines rest all
each_insn P of entries place place_too pc (Do instruction ∷ lines) rest all =
    (of.goes entries place place_too instruction all.0, each_insn P of entries place place_too (pc + size_at pc instruction) lines rest all.1)

-- bytes of code, one behind the other
pub spells_append : (pc : ℕ) (one other : List (ℕ × Insn)) (bytes behind : List ℕ) → SpellsFrom pc one bytes → SpellsFrom (pc + length bytes) other behind → SpellsFrom pc (one ++ other) (bytes ++ behind)
spells_append pc [] other bytes behind none spelled = rw none (subst (λ at. SpellsFrom at other behind) (omega (arith, ap length none)) spelled)
spells_append pc ((at, insn) ∷ one) other bytes behind (first, rest, is, here, split, more) spelled = (
  first,
  rest ++ behind,
  is,
  here,
  ap (λ bytes. bytes ++ behind) split ∙ append_assoc first rest behind,
  spells_append (pc + length first) one other rest behind more (subst (λ at. SpellsFrom at other behind) (omega (arith, ap length split, length-append first rest)) spelled),
)

-- the first instruction stands where the bytes begin, and has bytes
pub first_at : (entries : List Entry) (place : Label → ℕ) (pc at : ℕ) (lines : List CodeLine) (bytes : List ℕ) → HasDo lines → SpellsFrom at (code_from entries place pc lines) bytes → at ≡ pc
first_at entries place pc at [] bytes has spelled = absurd has
first_at entries place pc at (Here label ∷ lines) bytes has spelled = first_at entries place pc at lines bytes has spelled
first_at entries place pc at (Do instruction ∷ lines) bytes has (first, rest, is, here, split, more) = sym is

head_some : (wide : Bool) (opcode : ℕ) (behind : List ℕ) → 0 < length (head_bytes wide opcode ++ behind)
head_some true opcode behind = omega arith
head_some false opcode behind = omega arith

pub some_bytes : (entries : List Entry) (place : Label → ℕ) (pc at : ℕ) (lines : List CodeLine) (bytes : List ℕ) → HasDo lines → SpellsFrom at (code_from entries place pc lines) bytes → 0 < length bytes
some_bytes entries place pc at [] bytes has spelled = absurd has
some_bytes entries place pc at (Here label ∷ lines) bytes has spelled = some_bytes entries place pc at lines bytes has spelled
some_bytes entries place pc at (Do instruction ∷ lines) bytes has (first, rest, is, (behind, here, spelled), split, more) =
    omega (arith, ap length split, length-append first rest, ap length here, head_some instruction.wide instruction.opcode behind)

-- code that a class may have
pub record IsCodeOf (pool : List Constant) (code : List (ℕ × Insn)) : Type 0 where
  pub spelled : SpellsCode code (code_bytes code)
  pub some : 0 < length (code_bytes code)
  pub few : length (code_bytes code) < 2 ^ 16
  pub constants : AllByRecursion (λ placed. HasConstant pool placed.1) code

pub is_code_of : (pool : List Constant) (code : List (ℕ × Insn)) (bytes : List ℕ) → SpellsCode code bytes → 0 < length bytes → length bytes < 2 ^ 16 → AllByRecursion (λ placed. HasConstant pool placed.1) code → IsCodeOf pool code
is_code_of pool code bytes spelled some few constants =
    let long = code_length code bytes spelled in
    record { spelled = code_spelled code bytes spelled; some = omega (arith, long, some); few = omega (arith, long, few); constants = constants }
