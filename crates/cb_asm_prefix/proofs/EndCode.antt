-- Code that is cut behind its last instruction: labels that stand behind are named by none of its instructions.
use Rattle.std.proofs.Common.{◌≡◌, inl, inr, ◌∙◌, ap, refl, subst, arith, ℕ, ◌+◌, ◌<◌, List, [], ◌∷◌, ◌++◌, map, Option, IsSome, Contains}
use Rattle.std.specs.Option.{unwrap_or}
use Rattle.std.specs.List.{AllByRecursion}
use Rattle.std.proofs.lemmas.List.{append-nil}
use Rattle.cb_insn.specs.declared.insn.Insn.{Insn}
use Rattle.cb_insn.specs.declared.insn.Operand.{Operand as InsnOperand}
use Rattle.cb_insn.specs.declared.insn.Operand.TheVariants as operands
use Rattle.cb_insn.specs.Grammar.{targets_of}
use Rattle.cb_insn.specs.Places.{places}
use Rattle.cb_asm_line.specs.Label.{Label}
use Rattle.cb_asm_line.specs.declared.operand.Instruction.{Instruction}
use Rattle.cb_asm_line.specs.declared.operand.Operand.{Operand}
use Rattle.cb_asm_line.specs.declared.operand.Operand.TheVariants.{Branch, Table, Lookup}
use Rattle.cb_asm_line.specs.declared.program.CodeLine.{CodeLine}
use Rattle.cb_asm_line.specs.declared.program.CodeLine.TheVariants.{Here, Do}
use Rattle.cb_asm_prefix.specs.Closing.{line_labels}
use Rattle.cb_asm_record.specs.Entries.{Entry}
use Rattle.cb_asm_record.specs.Grammar.{HasLabel, labels_of}
use Rattle.cb_asm_record.specs.Labels.{code_from, insn_of, labels_from, operand_of, place_at, size_at}
use Rattle.cb_asm_prefix.proofs.Codes.{EachLabel, each_label, of_reach, place_first, place_second}
use Rattle.cb_asm_prefix.proofs.Lists.{all_front, all_of_map, all_two, among_all, map_each}
use Rattle.cb_asm_prefix.proofs.Nearing.{pair_to}
use Rattle.cb_asm_prefix.proofs.Placing.{HasNone, below_end, code_append, end_of, labels_at, no_code, place_found, there_or_not}
use Rattle.cb_classfile.proofs.Laws.{all_each}

-- instructions whose labels stand where they stood are the same
operand_same : (entries : List Entry) (place place_too : Label → ℕ) (opcode : ℕ) (operand : Operand) → AllByRecursion (λ label. place label ≡ place_too label) (labels_of operand) → operand_of entries place opcode operand ≡ operand_of entries place_too opcode operand
operand_same entries place place_too opcode (Branch label) same = ap operands.Branch same.0
operand_same entries place place_too opcode (Table low default labels) same =
    ap (λ default. operands.Table default low (map place labels)) same.0
    ∙ ap (λ labels. operands.Table (place_too default) low labels) (map_each place place_too labels same.1)
operand_same entries place place_too opcode (Lookup default pairs) same =
    ap (λ default. operands.Lookup default (map (pair_to place) pairs)) same.0
    ∙ ap (λ pairs. operands.Lookup (place_too default) pairs) (
    map_each (pair_to place) (pair_to place_too) pairs (
    all_each (λ pair. place pair.1 ≡ place_too pair.1) (λ pair. pair_to place pair ≡ pair_to place_too pair) (λ pair one. ap (λ target. record { key = pair.0; target = target }) one) pairs
    (all_of_map (λ label. place label ≡ place_too label) (λ pair. pair.1) pairs same.1)
    )
    )
operand_same entries place place_too opcode operand same = refl

abbrev insn : Instruction → InsnOperand → Insn
insn instruction operand = record { opcode = instruction.opcode; wide = instruction.wide; operand = operand }

same_code : (entries : List Entry) (place place_too : Label → ℕ) (pc : ℕ) (lines : List CodeLine) → EachLabel (λ label. place label ≡ place_too label) lines → code_from entries place pc lines ≡ code_from entries place_too pc lines
same_code entries place place_too pc [] same = refl
same_code entries place place_too pc (Here label ∷ lines) same = same_code entries place place_too pc lines same.1
same_code entries place place_too pc (Do instruction ∷ lines) same =
    ap (λ operand. (pc, insn instruction operand) ∷ code_from entries place (pc + size_at pc instruction) lines) (operand_same entries place place_too instruction.opcode instruction.operand same.0)
    ∙ ap (λ rest. (pc, insn_of entries place_too instruction) ∷ rest) (same_code entries place place_too (pc + size_at pc instruction) lines same.1)

-- the code of all lines is that of those before the cut
whole_code : (entries : List Entry) (place : Label → ℕ) (shared rest : List CodeLine) → HasNone rest → code_from entries place 0 (shared ++ rest) ≡ code_from entries place 0 shared
whole_code entries place shared rest none =
    code_append entries place 0 shared rest
    ∙ ap (λ behind. code_from entries place 0 shared ++ behind) (no_code entries place (end_of 0 shared) rest none)
    ∙ append-nil (code_from entries place 0 shared)

-- each label that is named stands before the cut
stands_before : (entries : List Entry) (place : Label → ℕ) (shared rest : List CodeLine) (label : Label) → HasNone rest → HasLabel (shared ++ rest) label → Contains (places (code_from entries place 0 (shared ++ rest))) (place_at (shared ++ rest) label) → HasLabel shared label
stands_before entries place shared rest label none has reached = elim (there_or_not (labels_from 0 shared) label) [
  | inl here ↦ here
  | inr behind ↦ absurd (
      let second = place_second shared rest label behind in
      let at_end = ap (λ (found : Option ℕ). unwrap_or found 0) second ∙ place_found (λ place. place ≡ end_of 0 shared) (labels_from (end_of 0 shared) rest) label (labels_at (end_of 0 shared) rest none) (subst (λ found. IsSome found) second has) in
      let before = among_all (λ at. at < end_of 0 shared) (places (code_from entries place 0 shared)) (place_at (shared ++ rest) label) (subst (λ code. Contains (places code) (place_at (shared ++ rest) label)) (whole_code entries place shared rest none) reached) (below_end entries place 0 shared) in
      omega (arith, at_end, before)
      )
]

pub all_before : (entries : List Entry) (shared rest : List CodeLine) → HasNone rest → EachLabel (HasLabel (shared ++ rest)) (shared ++ rest)
    → AllByRecursion (λ placed. AllByRecursion (Contains (places (code_from entries (place_at (shared ++ rest)) 0 (shared ++ rest)))) (targets_of placed.1.operand)) (code_from entries (place_at (shared ++ rest)) 0 (shared ++ rest))
    → EachLabel (HasLabel shared) shared
all_before entries shared rest none has reached =
    let all = shared ++ rest in
    let place = place_at all in
    let in_code = λ (label : Label). Contains (places (code_from entries place 0 all)) (place label) in
    let each = of_reach (Contains (places (code_from entries place 0 all))) entries place 0 all reached in
    all_two (λ line. AllByRecursion (HasLabel all) (line_labels line)) (λ line. AllByRecursion in_code (line_labels line)) (λ line. AllByRecursion (HasLabel shared) (line_labels line))
    (λ line one other. all_two (HasLabel all) in_code (HasLabel shared) (λ label. stands_before entries place shared rest label none) (line_labels line) one other)
    shared (all_front (λ line. AllByRecursion (HasLabel all) (line_labels line)) shared rest has) (all_front (λ line. AllByRecursion in_code (line_labels line)) shared rest each)

-- so the code is the same
pub end_code : (entries : List Entry) (shared rest : List CodeLine) → HasNone rest → EachLabel (HasLabel shared) shared
    → code_from entries (place_at (shared ++ rest)) 0 (shared ++ rest) ≡ code_from entries (place_at shared) 0 shared
end_code entries shared rest none has =
    whole_code entries (place_at (shared ++ rest)) shared rest none
    ∙ same_code entries (place_at (shared ++ rest)) (place_at shared) 0 shared (
    each_label (HasLabel shared) (λ label. place_at (shared ++ rest) label ≡ place_at shared label) (λ label here. ap (λ (found : Option ℕ). unwrap_or found 0) (place_first shared rest label here)) shared has
    )
