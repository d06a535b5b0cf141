-- The places of code, and its lines with other labels.
use Rattle.std.proofs.Common.{◌≡◌, ◌∙◌, ap, sym, refl, subst, arith, append_assoc, append-nil, length-append, ℕ, ◌+◌, ◌<◌, ◌≤◌, Bool, true, false, ◌||◌, cond, List, [], ◌∷◌, ◌++◌, length, Some, IsSome, ◌==◌, if◌then◌else◌}
use Rattle.std.specs.List.{AllByRecursion, filter, flat_map}
use Rattle.std.specs.Option.{unwrap_or}
use Rattle.std.proofs.lemmas.Bool.{eqb-true}
use Rattle.cb_insn.specs.Places.{places}
use Rattle.cb_insn.specs.Writing.{code_bytes, insn_bytes}
use Rattle.cb_classfile.specs.declared.class.ClassFile.{ClassFile}
use Rattle.cb_asm_line.specs.declared.operand.Instruction.{Instruction}
use Rattle.cb_asm_line.specs.declared.program.CodeLine.{CodeLine}
use Rattle.cb_asm_line.specs.declared.program.CodeLine.TheVariants.{Here, Do}
use Rattle.cb_asm_line.specs.Label.{Label}
use Rattle.cb_asm_line.specs.Lines.{same_text}
use Rattle.cb_asm_record.specs.Entries.{Entry}
use Rattle.cb_asm_record.specs.Labels.{code_from, insn_of, labels_from, operand_of, place_in, size_at}
use Rattle.cb_asm_list.specs.Listing.{among, code_line_of, label_line, label_of, operand_in}
use Rattle.cb_asm_back.proofs.Numbers.{Apart, is_first, is_later, marked}
use Rattle.cb_asm_back.proofs.Relabelling.{instruction_by, operand_by}
use Rattle.cb_asm_back.proofs.Sizes.{size_by, size_some, size_stands}

-- where the code ends that begins at a place
abbrev pub end_from : ℕ → List CodeLine → ℕ
end_from pc [] = pc
end_from pc (Here label ∷ lines) = end_from pc lines
end_from pc (Do instruction ∷ lines) = end_from (pc + size_at pc instruction) lines

-- the places of its instructions, and its end
abbrev pub places_from : ℕ → List CodeLine → List ℕ
places_from pc [] = pc ∷ []
places_from pc (Here label ∷ lines) = places_from pc lines
places_from pc (Do instruction ∷ lines) = pc ∷ places_from (pc + size_at pc instruction) lines

-- its lines with other labels, which stand at the places that have one
abbrev pub lines_at : List ℕ → (Label → Label) → ℕ → List CodeLine → List CodeLine
lines_at labelled new pc [] = label_line labelled pc
lines_at labelled new pc (Here label ∷ lines) = lines_at labelled new pc lines
lines_at labelled new pc (Do instruction ∷ lines) =
    label_line labelled pc ++ Do (instruction_by new instruction) ∷ lines_at labelled new (pc + size_at pc instruction) lines

pub code_ends : (all : List Entry) (place : Label → ℕ) (pc : ℕ) (lines : List CodeLine) → pc + length (code_bytes (code_from all place pc lines)) ≡ end_from pc lines
code_ends all place pc [] = omega arith
code_ends all place pc (Here label ∷ lines) = code_ends all place pc lines
code_ends all place pc (Do instruction ∷ lines) =
    let next = code_ends all place (pc + size_at pc instruction) lines in
    let size = size_stands pc all place instruction in
    let whole = length-append (insn_bytes pc (insn_of all place instruction)) (code_bytes (code_from all place (pc + size_at pc instruction) lines)) in
    omega (arith, next, size, whole)

pub places_are : (all : List Entry) (place : Label → ℕ) (pc : ℕ) (lines : List CodeLine) → places (code_from all place pc lines) ++ end_from pc lines ∷ [] ≡ places_from pc lines
places_are all place pc [] = refl
places_are all place pc (Here label ∷ lines) = places_are all place pc lines
places_are all place pc (Do instruction ∷ lines) = ap (λ rest. pc ∷ rest) (places_are all place (pc + size_at pc instruction) lines)

-- there are no more places than bytes, and the end
pub places_few : (pc : ℕ) (lines : List CodeLine) → pc + length (places_from pc lines) ≤ end_from pc lines + 1
places_few pc [] = omega arith
places_few pc (Here label ∷ lines) = places_few pc lines
places_few pc (Do instruction ∷ lines) =
    let next = places_few (pc + size_at pc instruction) lines in
    let some = size_some pc instruction in
    omega (arith, next, some)

-- they differ
none_before : (pc place : ℕ) (lines : List CodeLine) → place < pc → among (places_from pc lines) place ≡ false
none_before pc place [] before = by_test (pc == place) refl
  where
    by_test : (test : Bool) → (pc == place) ≡ test → (test || false) ≡ false
    by_test true told = absurd (omega (arith, before, eqb-true pc place told))
    by_test false told = refl
none_before pc place (Here label ∷ lines) before = none_before pc place lines before
none_before pc place (Do instruction ∷ lines) before = by_test (pc == place) refl (none_before (pc + size_at pc instruction) place lines (omega (arith, before)))
  where
    by_test : (test : Bool) → (pc == place) ≡ test → among (places_from (pc + size_at pc instruction) lines) place ≡ false → (test || among (places_from (pc + size_at pc instruction) lines) place) ≡ false
    by_test true told next = absurd (omega (arith, before, eqb-true pc place told))
    by_test false told next = next

pub places_apart : (pc : ℕ) (lines : List CodeLine) → Apart (places_from pc lines)
places_apart pc [] = (refl, tt)
places_apart pc (Here label ∷ lines) = places_apart pc lines
places_apart pc (Do instruction ∷ lines) =
    let some = size_some pc instruction in
    (none_before (pc + size_at pc instruction) pc lines (omega (arith, some)), places_apart (pc + size_at pc instruction) lines)

-- a label stands at one of them
first_place : (pc : ℕ) (lines : List CodeLine) → among (places_from pc lines) pc ≡ true
first_place pc [] = is_first pc []
first_place pc (Here label ∷ lines) = first_place pc lines
first_place pc (Do instruction ∷ lines) = is_first pc (places_from (pc + size_at pc instruction) lines)

pub stands_among : (pc : ℕ) (lines : List CodeLine) (label : Label) → IsSome (place_in (labels_from pc lines) label) → among (places_from pc lines) (unwrap_or (place_in (labels_from pc lines) label) 0) ≡ true
stands_among pc [] label is = absurd (grind (arith, is))
stands_among pc (Here first ∷ lines) label is = by_test (same_text first label) is (stands_among pc lines label)
  where
    by_test : (test : Bool) → IsSome (if test then Some pc else place_in (labels_from pc lines) label)
        → (IsSome (place_in (labels_from pc lines) label) → among (places_from pc lines) (unwrap_or (place_in (labels_from pc lines) label) 0) ≡ true)
        → among (places_from pc lines) (unwrap_or (if test then Some pc else place_in (labels_from pc lines) label) 0) ≡ true
    by_test true is next = first_place pc lines
    by_test false is next = next is
stands_among pc (Do instruction ∷ lines) label is =
    is_later pc _ (places_from (pc + size_at pc instruction) lines) (stands_among (pc + size_at pc instruction) lines label is)

-- the lines that a listing has, by what each operand is read as
abbrev pub LineRead : ClassFile → List ℕ → List Entry → (Label → ℕ) → (Label → Label) → CodeLine → Type 0
LineRead class labelled all place new (Here label) = Unit {0}
LineRead class labelled all place new (Do instruction) =
    operand_in class (label_of labelled) instruction.opcode (operand_of all place instruction.opcode instruction.operand) ≡ operand_by new instruction.operand

pub lines_listed : (class : ClassFile) (labelled : List ℕ) (all : List Entry) (place : Label → ℕ) (new : Label → Label) (pc : ℕ) (lines : List CodeLine)
    → AllByRecursion (LineRead class labelled all place new) lines
    → flat_map (code_line_of class labelled) (code_from all place pc lines) ++ label_line labelled (end_from pc lines) ≡ lines_at labelled new pc lines
lines_listed class labelled all place new pc [] read = refl
lines_listed class labelled all place new pc (Here label ∷ lines) read = lines_listed class labelled all place new pc lines read.1
lines_listed class labelled all place new pc (Do instruction ∷ lines) read =
    append_assoc (code_line_of class labelled (pc, insn_of all place instruction)) (flat_map (code_line_of class labelled) (code_from all place (pc + size_at pc instruction) lines)) (label_line labelled (end_from (pc + size_at pc instruction) lines))
    ∙ ap (λ rest. code_line_of class labelled (pc, insn_of all place instruction) ++ rest) (lines_listed class labelled all place new (pc + size_at pc instruction) lines read.1)
    ∙ append_assoc (label_line labelled pc) (Do _ ∷ []) (lines_at labelled new (pc + size_at pc instruction) lines)
    ∙ ap (λ operand. label_line labelled pc ++ Do (record { opcode = instruction.opcode; wide = instruction.wide; operand = operand }) ∷ lines_at labelled new (pc + size_at pc instruction) lines) read.0

-- a label takes nothing and stands alone
over_label : {Item : Type 0} (walk : List CodeLine → Item) (labelled : List ℕ) (pc : ℕ) (rest : List CodeLine) → ((label : Label) (lines : List CodeLine) → walk (Here label ∷ lines) ≡ walk lines) → walk (label_line labelled pc ++ rest) ≡ walk rest
over_label walk labelled pc rest skips = by_test (among labelled pc)
  where
    by_test : (test : Bool) → walk ((if test then Here (label_of labelled pc) ∷ [] else []) ++ rest) ≡ walk rest
    by_test true = skips (label_of labelled pc) rest
    by_test false = refl

last_label : {Item : Type 0} (walk : List CodeLine → Item) (labelled : List ℕ) (pc : ℕ) → ((label : Label) (lines : List CodeLine) → walk (Here label ∷ lines) ≡ walk lines) → walk (label_line labelled pc) ≡ walk []
last_label walk labelled pc skips = ap walk (sym (append-nil (label_line labelled pc))) ∙ over_label walk labelled pc [] skips

-- the code of the lines, whose labels name the places of those before
abbrev pub LineStands : List Entry → (Label → ℕ) → (Label → ℕ) → (Label → Label) → CodeLine → Type 0
LineStands all place placed new (Here label) = Unit {0}
LineStands all place placed new (Do instruction) =
    operand_of all placed instruction.opcode (operand_by new instruction.operand) ≡ operand_of all place instruction.opcode instruction.operand

pub code_stands : (labelled : List ℕ) (all : List Entry) (place placed : Label → ℕ) (new : Label → Label) (pc : ℕ) (lines : List CodeLine)
    → AllByRecursion (LineStands all place placed new) lines
    → code_from all placed pc (lines_at labelled new pc lines) ≡ code_from all place pc lines
code_stands labelled all place placed new pc [] stand = last_label (code_from all placed pc) labelled pc (λ label lines. refl)
code_stands labelled all place placed new pc (Here label ∷ lines) stand = code_stands labelled all place placed new pc lines stand.1
code_stands labelled all place placed new pc (Do instruction ∷ lines) stand =
    over_label (code_from all placed pc) labelled pc (Do (instruction_by new instruction) ∷ lines_at labelled new (pc + size_at pc instruction) lines) (λ label lines. refl)
    ∙ ap (λ size. (pc, insn_of all placed (instruction_by new instruction)) ∷ code_from all placed (pc + size) (lines_at labelled new (pc + size_at pc instruction) lines)) (size_by pc new instruction)
    ∙ ap (λ operand. (pc, record { opcode = instruction.opcode; wide = instruction.wide; operand = operand }) ∷ code_from all placed (pc + size_at pc instruction) (lines_at labelled new (pc + size_at pc instruction) lines)) stand.0
    ∙ ap (λ rest. (pc, insn_of all place instruction) ∷ rest) (code_stands labelled all place placed new (pc + size_at pc instruction) lines stand.1)

-- the labels of the lines
pub labels_are : (labelled : List ℕ) (new : Label → Label) (pc : ℕ) (lines : List CodeLine) → labels_from pc (lines_at labelled new pc lines) ≡ marked labelled (filter (among labelled) (places_from pc lines))
labels_are labelled new pc [] = by_test (among labelled pc)
  where
    by_test : (test : Bool) → labels_from pc (if test then Here (label_of labelled pc) ∷ [] else []) ≡ marked labelled (cond test (pc ∷ []) [])
    by_test true = refl
    by_test false = refl
labels_are labelled new pc (Here label ∷ lines) = labels_are labelled new pc lines
labels_are labelled new pc (Do instruction ∷ lines) =
    by_test (among labelled pc) (ap (λ size. labels_from (pc + size) (lines_at labelled new (pc + size_at pc instruction) lines)) (size_by pc new instruction) ∙ labels_are labelled new (pc + size_at pc instruction) lines)
  where
    by_test : (test : Bool) → labels_from (pc + size_at pc (instruction_by new instruction)) (lines_at labelled new (pc + size_at pc instruction) lines) ≡ marked labelled (filter (among labelled) (places_from (pc + size_at pc instruction) lines))
        → labels_from pc ((if test then Here (label_of labelled pc) ∷ [] else []) ++ Do (instruction_by new instruction) ∷ lines_at labelled new (pc + size_at pc instruction) lines)
        ≡ marked labelled (cond test (pc ∷ filter (among labelled) (places_from (pc + size_at pc instruction) lines)) (filter (among labelled) (places_from (pc + size_at pc instruction) lines)))
    by_test true next = ap (λ rest. (label_of labelled pc, pc) ∷ rest) next
    by_test false next = next

-- what each line gives
pub uses_are : {Item : Type 0} (given : CodeLine → List Item) (labelled : List ℕ) (new : Label → Label) (pc : ℕ) (lines : List CodeLine) → ((label : Label) → given (Here label) ≡ []) → ((instruction : Instruction) → given (Do (instruction_by new instruction)) ≡ given (Do instruction))
    → flat_map given (lines_at labelled new pc lines) ≡ flat_map given lines
uses_are given labelled new pc [] none same = last_label (flat_map given) labelled pc (λ label lines. ap (λ first. first ++ flat_map given lines) (none label))
uses_are given labelled new pc (Here label ∷ lines) none same = uses_are given labelled new pc lines none same ∙ ap (λ first. first ++ flat_map given lines) (sym (none label))
uses_are given labelled new pc (Do instruction ∷ lines) none same =
    over_label (flat_map given) labelled pc (Do (instruction_by new instruction) ∷ lines_at labelled new (pc + size_at pc instruction) lines) (λ label lines. ap (λ first. first ++ flat_map given lines) (none label))
    ∙ ap (λ first. first ++ flat_map given (lines_at labelled new (pc + size_at pc instruction) lines)) (same instruction)
    ∙ ap (λ rest. given (Do instruction) ++ rest) (uses_are given labelled new (pc + size_at pc instruction) lines none same)

-- and what holds of each
label_has : (P : CodeLine → Type 0) (labelled : List ℕ) (pc : ℕ) (rest : List CodeLine) → (among labelled pc ≡ true → P (Here (label_of labelled pc))) → AllByRecursion P rest → AllByRecursion P (label_line labelled pc ++ rest)
label_has P labelled pc rest has each = by_test (among labelled pc) refl
  where
    by_test : (test : Bool) → among labelled pc ≡ test → AllByRecursion P ((if test then Here (label_of labelled pc) ∷ [] else []) ++ rest)
    by_test true told = (has told, each)
    by_test false told = each

pub each_line : (P Q : CodeLine → Type 0) (labelled : List ℕ) (new : Label → Label) (pc : ℕ) (lines : List CodeLine) → ((place : ℕ) → among labelled place ≡ true → P (Here (label_of labelled place)))
    → ((instruction : Instruction) → Q (Do instruction) → P (Do (instruction_by new instruction))) → AllByRecursion Q lines → AllByRecursion P (lines_at labelled new pc lines)
each_line P Q labelled new pc [] has so each = subst (AllByRecursion P) (append-nil (label_line labelled pc)) (label_has P labelled pc [] (has pc) tt)
each_line P Q labelled new pc (Here label ∷ lines) has so each = each_line P Q labelled new pc lines has so each.1
each_line P Q labelled new pc (Do instruction ∷ lines) has so each =
    label_has P labelled pc _ (has pc) (so instruction each.0, each_line P Q labelled new (pc + size_at pc instruction) lines has so each.1)
