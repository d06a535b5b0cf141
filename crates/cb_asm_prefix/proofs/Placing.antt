-- The places of labels and instructions in lines that stand one behind the other.
use Rattle.std.proofs.Common.{◌≡◌, ◌⊎◌, inl, inr, ap, refl, arith, ℕ, ◌+◌, ◌<◌, ◌≤◌, Bool, true, false, List, [], ◌∷◌, ◌++◌, length, Option, Some, None, IsSome, Contains, if◌then◌else◌}
use Rattle.std.specs.Option.{is_some, unwrap_or}
use Rattle.std.specs.List.{AllByRecursion}
use Rattle.std.proofs.lemmas.Bool.Decides.{Decides-eqb}
use Rattle.std.proofs.lemmas.Slice.Eq.{slice_eq-Decides}
use Rattle.cb_insn.specs.Forms.{head_bytes, head_form}
use Rattle.cb_insn.specs.Places.{places}
use Rattle.cb_insn.specs.Writing.{bytes_in}
use Rattle.cb_asm_line.specs.Label.{Label}
use Rattle.cb_asm_line.specs.Lines.{same_text}
use Rattle.cb_asm_line.specs.declared.operand.Instruction.{Instruction}
use Rattle.cb_asm_line.specs.declared.program.CodeLine.{CodeLine}
use Rattle.cb_asm_line.specs.declared.program.CodeLine.TheVariants.{Here, Do}
use Rattle.cb_asm_record.specs.Entries.{Entry}
use Rattle.cb_asm_record.specs.Labels.{code_from, insn_of, labels_from, operand_of, place_in, size_at}
use Rattle.cb_asm_prefix.proofs.Lists.{among_first, among_rest}
use Rattle.cb_classfile.proofs.Laws.{all_each}

-- a text is the same as itself
pub text_itself : (text : List ℕ) → same_text text text ≡ true
text_itself text = (slice_eq-Decides Decides-eqb text text _ refl).1 refl

-- where lines end that begin at a place
abbrev pub end_of : ℕ → List CodeLine → ℕ
end_of pc [] = pc
end_of pc (Here label ∷ lines) = end_of pc lines
end_of pc (Do instruction ∷ lines) = end_of (pc + size_at pc instruction) lines

pub labels_append : (pc : ℕ) (one other : List CodeLine) → labels_from pc (one ++ other) ≡ labels_from pc one ++ labels_from (end_of pc one) other
labels_append pc [] other = refl
labels_append pc (Here label ∷ one) other = ap (λ rest. (label, pc) ∷ rest) (labels_append pc one other)
labels_append pc (Do instruction ∷ one) other = labels_append (pc + size_at pc instruction) one other

pub code_append : (entries : List Entry) (place : Label → ℕ) (pc : ℕ) (one other : List CodeLine) → code_from entries place pc (one ++ other) ≡ code_from entries place pc one ++ code_from entries place (end_of pc one) other
code_append entries place pc [] other = refl
code_append entries place pc (Here label ∷ one) other = code_append entries place pc one other
code_append entries place pc (Do instruction ∷ one) other = ap (λ rest. (pc, insn_of entries place instruction) ∷ rest) (code_append entries place (pc + size_at pc instruction) one other)

-- an instruction takes a byte at least
size_some : (pc : ℕ) (instruction : Instruction) → 0 < size_at pc instruction
size_some pc instruction = of instruction.wide (bytes_in pc (head_form instruction.wide instruction.opcode) (operand_of [] (λ label. 0) instruction.opcode instruction.operand)) where
  of : (wide : Bool) (behind : List ℕ) → 0 < length (head_bytes wide instruction.opcode ++ behind)
  of true behind = omega arith
  of false behind = omega arith

pub ahead : (pc : ℕ) (lines : List CodeLine) → pc ≤ end_of pc lines
ahead pc [] = omega arith
ahead pc (Here label ∷ lines) = ahead pc lines
ahead pc (Do instruction ∷ lines) = omega (arith, ahead (pc + size_at pc instruction) lines)

pub below_end : (entries : List Entry) (place : Label → ℕ) (pc : ℕ) (lines : List CodeLine) → AllByRecursion (λ at. at < end_of pc lines) (places (code_from entries place pc lines))
below_end entries place pc [] = tt
below_end entries place pc (Here label ∷ lines) = below_end entries place pc lines
below_end entries place pc (Do instruction ∷ lines) =
    (omega (arith, size_some pc instruction, ahead (pc + size_at pc instruction) lines), below_end entries place (pc + size_at pc instruction) lines)

pub labels_ahead : (pc : ℕ) (lines : List CodeLine) → AllByRecursion (λ entry. pc ≤ entry.1) (labels_from pc lines)
labels_ahead pc [] = tt
labels_ahead pc (Here label ∷ lines) = (omega arith, labels_ahead pc lines)
labels_ahead pc (Do instruction ∷ lines) = all_each (λ entry. pc + size_at pc instruction ≤ entry.1) (λ entry. pc ≤ entry.1) (λ entry is. omega (arith, is)) (labels_from (pc + size_at pc instruction) lines) (labels_ahead (pc + size_at pc instruction) lines)

-- an instruction is among the lines, or none is
abbrev pub HasDo : List CodeLine → Type 0
HasDo [] = ⊥
HasDo (Here label ∷ lines) = HasDo lines
HasDo (Do instruction ∷ lines) = Unit {0}

abbrev pub HasNone : List CodeLine → Type 0
HasNone [] = Unit {0}
HasNone (Here label ∷ lines) = HasNone lines
HasNone (Do instruction ∷ lines) = ⊥

pub some_or_none : (lines : List CodeLine) → HasDo lines ⊎ HasNone lines
some_or_none [] = inr tt
some_or_none (Here label ∷ lines) = some_or_none lines
some_or_none (Do instruction ∷ lines) = inl tt

pub has_behind : (one other : List CodeLine) → HasDo other → HasDo (one ++ other)
has_behind [] other has = has
has_behind (Here label ∷ one) other has = has_behind one other has
has_behind (Do instruction ∷ one) other has = tt

pub labels_at : (pc : ℕ) (lines : List CodeLine) → HasNone lines → AllByRecursion (λ entry. entry.1 ≡ pc) (labels_from pc lines)
labels_at pc [] none = tt
labels_at pc (Here label ∷ lines) none = (refl, labels_at pc lines none)
labels_at pc (Do instruction ∷ lines) none = absurd none

pub no_code : (entries : List Entry) (place : Label → ℕ) (pc : ℕ) (lines : List CodeLine) → HasNone lines → code_from entries place pc lines ≡ []
no_code entries place pc [] none = refl
no_code entries place pc (Here label ∷ lines) none = no_code entries place pc lines none
no_code entries place pc (Do instruction ∷ lines) none = absurd none

-- a label in the first of two lists, or in the second
pub in_first : (one other : List (Label × ℕ)) (label : Label) → IsSome (place_in one label) → place_in (one ++ other) label ≡ place_in one label
in_first [] other label some = absurd cc
in_first (first ∷ one) other label some = of (same_text first.0 label) some (in_first one other label) where
  of : (test : Bool) → IsSome (if test then Some first.1 else place_in one label) → (IsSome (place_in one label) → place_in (one ++ other) label ≡ place_in one label) → (if test then Some first.1 else place_in (one ++ other) label) ≡ (if test then Some first.1 else place_in one label)
  of true some next = refl
  of false some next = next some

pub in_second : (one other : List (Label × ℕ)) (label : Label) → place_in one label ≡ None → place_in (one ++ other) label ≡ place_in other label
in_second [] other label none = refl
in_second (first ∷ one) other label none = of (same_text first.0 label) none (in_second one other label) where
  of : (test : Bool) → (if test then Some first.1 else place_in one label) ≡ None → (place_in one label ≡ None → place_in (one ++ other) label ≡ place_in other label) → (if test then Some first.1 else place_in (one ++ other) label) ≡ place_in other label
  of true none next = absurd cc
  of false none next = next none

pub place_found : (P : ℕ → Type 0) (labels : List (Label × ℕ)) (label : Label) → AllByRecursion (λ entry. P entry.1) labels → IsSome (place_in labels label) → P (unwrap_or (place_in labels label) 0)
place_found P [] label all some = absurd cc
place_found P (first ∷ labels) label all some = of (same_text first.0 label) some (place_found P labels label all.1) where
  of : (test : Bool) → IsSome (if test then Some first.1 else place_in labels label) → (IsSome (place_in labels label) → P (unwrap_or (place_in labels label) 0)) → P (unwrap_or (if test then Some first.1 else place_in labels label) 0)
  of true some next = all.0
  of false some next = next some

-- it is there or not
pub there_or_not : (labels : List (Label × ℕ)) (label : Label) → IsSome (place_in labels label) ⊎ (place_in labels label ≡ None)
there_or_not labels label = of (place_in labels label) refl where
  of : (found : Option ℕ) → place_in labels label ≡ found → IsSome (place_in labels label) ⊎ (place_in labels label ≡ None)
  of None is = inr is
  of (Some place) is = inl (ap (λ (found : Option ℕ). is_some found) is)

-- each that is among them is found
pub each_found : (labels : List (Label × ℕ)) → AllByRecursion (λ entry. IsSome (place_in labels entry.0)) labels
each_found [] = tt
each_found (first ∷ labels) = (
  ap (λ (test : Bool). is_some (if test then Some first.1 else place_in labels first.0)) (text_itself first.0),
  all_each (λ entry. IsSome (place_in labels entry.0)) (λ entry. IsSome (place_in (first ∷ labels) entry.0)) (λ entry some. of (same_text first.0 entry.0) (place_in labels entry.0) some) labels (each_found labels),
) where
  of : (test : Bool) (found : Option ℕ) → IsSome found → IsSome (if test then Some first.1 else found)
  of true found some = refl
  of false found some = some

-- a label names the place of an instruction, or the end
first_place : (entries : List Entry) (place : Label → ℕ) (pc : ℕ) (lines : List CodeLine) (last : Instruction) → Contains (places (code_from entries place pc (lines ++ Do last ∷ []))) pc
first_place entries place pc [] last = among_first pc []
first_place entries place pc (Here label ∷ lines) last = first_place entries place pc lines last
first_place entries place pc (Do instruction ∷ lines) last = among_first pc (places (code_from entries place (pc + size_at pc instruction) (lines ++ Do last ∷ [])))

pub in_places : (entries : List Entry) (place : Label → ℕ) (pc : ℕ) (lines : List CodeLine) (last : Instruction) → AllByRecursion (λ entry. Contains (places (code_from entries place pc (lines ++ Do last ∷ []))) entry.1) (labels_from pc (lines ++ Do last ∷ []))
in_places entries place pc [] last = tt
in_places entries place pc (Here label ∷ lines) last = (first_place entries place pc lines last, in_places entries place pc lines last)
in_places entries place pc (Do instruction ∷ lines) last =
    let rest = places (code_from entries place (pc + size_at pc instruction) (lines ++ Do last ∷ [])) in
    all_each (λ entry. Contains rest entry.1) (λ entry. Contains (pc ∷ rest) entry.1) (λ entry there. among_rest pc rest entry.1 there) (labels_from (pc + size_at pc instruction) (lines ++ Do last ∷ [])) (in_places entries place (pc + size_at pc instruction) lines last)
