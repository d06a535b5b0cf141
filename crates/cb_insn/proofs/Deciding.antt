-- Bytes fewer than 2^32 spell some code or have a fault: the two walks over them, apart from any program.
use Rattle.std.proofs.Common.{◌≡◌, ◌⊎◌, inl, inr, ℕ, zero, suc, ◌+◌, ◌<◌, ◌≤◌, ◌^◌, ℤ, pos, negsuc, Bool, true, false, List, [], ◌∷◌, ◌++◌, length, drop, set, replicate, slice_index_or, get_or, All, Contains, refl, sym, ◌∙◌, ap, arith}
use Rattle.std.proofs.lemmas.Bool.{cases_lt}
use Rattle.std.proofs.lemmas.List.{get_or_past}
use Rattle.std.proofs.lemmas.List.Elements.{All-nil, All-cons, All-get_or}
use Rattle.cb_insn.specs.declared.insn.Insn.{Insn}
use Rattle.cb_insn.specs.declared.fault.InsnFault.TheVariants as faults
use Rattle.cb_insn.specs.Grammar.{SpellsCode}
use Rattle.cb_insn.specs.Faults.{Fault, Standing, Whole, Faulty, IsPlace, HasFault, HasBadTarget, standing_at, targets_at}
use Rattle.cb_insn.specs.Inner.{IsMarked, IsRead, MarksPlaces, operand_of}
use Rattle.cb_insn.proofs.NumberBytes.{IsBytes}
use Rattle.cb_insn.proofs.Walking.{Marked, marked_start, marked_more, marked_end, apart, whole_size}
use Rattle.cb_insn.proofs.Heads.{headed}
use Rattle.cb_insn.proofs.Codes.{here, there}
use Rattle.cb_insn.proofs.Building.{Built, built_start, built_more, built_end, built_miss}

-- a target has a mark or none, and so have all of some or one hasn't
mark_or_none : (starts : List Bool) (target : ℤ) → IsMarked starts target ⊎ (IsMarked starts target → ⊥)
mark_or_none starts (negsuc below) = inr (λ mark. let is : negsuc below ≡ pos mark.place = mark.is in cc)
mark_or_none starts (pos place) = by_mark (slice_index_or starts place false) refl where
  by_mark : (mark : Bool) → slice_index_or starts place false ≡ mark → IsMarked starts (pos place) ⊎ (IsMarked starts (pos place) → ⊥)
  by_mark true is = inl (record { place = place; is = refl; marked = is })
  by_mark false is = inr (λ mark.
      let same : place ≡ mark.place = cc (mark.is) in
      let both : false ≡ true = sym is ∙ ap (λ at. slice_index_or starts at false) same ∙ mark.marked in
      cc)

abbrev Missed : List Bool → List ℤ → Type 0
Missed starts targets = (target : ℤ) × Contains targets target × (IsMarked starts target → ⊥)

marks_or_missed : (starts : List Bool) (targets : List ℤ) → All (IsMarked starts) targets ⊎ Missed starts targets
marks_or_missed starts [] = inl (All-nil (IsMarked starts))
marks_or_missed starts (target ∷ targets) = both (mark_or_none starts target) (marks_or_missed starts targets) where
  both : IsMarked starts target ⊎ (IsMarked starts target → ⊥) → All (IsMarked starts) targets ⊎ Missed starts targets → All (IsMarked starts) (target ∷ targets) ⊎ Missed starts (target ∷ targets)
  both (inr astray) rest = inr (target, here target targets, astray)
  both (inl mark) (inr (other, among, astray)) = inr (other, there target other targets among, astray)
  both (inl mark) (inl all) = inl (All-cons (IsMarked starts) target targets mark all)

-- the walk that marks the places of instructions comes to the end, or to a fault
abbrev pub Marks : List ℕ → Type 0
Marks bytes = (starts : List Bool) × IsPlace bytes (length bytes) × MarksPlaces starts bytes

abbrev pub SomeFault : List ℕ → Type 0
SomeFault bytes = (pc : ℕ) × (fault : Fault) × HasFault bytes pc fault

marks_from : (turns : ℕ) (bytes : List ℕ) (starts : List Bool) (pc : ℕ) → length bytes ≤ pc + turns → Marked bytes starts pc → Marks bytes ⊎ SomeFault bytes
marks_from zero bytes starts pc few marked = let both = marked_end bytes starts pc marked (omega arith) in inl (starts, both.0, both.1)
marks_from (suc turns) bytes starts pc few marked = by_end (cases_lt pc (length bytes)) (λ size more next. marks_from turns bytes (set starts pc true) (pc + size) more next) where
  by_standing : pc < length bytes → ((size : ℕ) → length bytes ≤ pc + size + turns → Marked bytes (set starts pc true) (pc + size) → Marks bytes ⊎ SomeFault bytes) → (standing : Standing) → standing_at pc (drop pc bytes) ≡ standing → Marks bytes ⊎ SomeFault bytes
  by_standing inside onward (Faulty fault) is = inr (pc, fault, record { place = marked.place; within = inside; stands = is })
  by_standing inside onward (Whole size) is =
      let some = (whole_size pc (drop pc bytes) size is).0 in
      onward size (omega (arith, some)) (marked_more bytes starts (set starts pc true) pc size (drop pc bytes) marked inside refl (sym is) refl)

  by_end : (pc < length bytes) ⊎ (length bytes ≤ pc) → ((size : ℕ) → length bytes ≤ pc + size + turns → Marked bytes (set starts pc true) (pc + size) → Marks bytes ⊎ SomeFault bytes) → Marks bytes ⊎ SomeFault bytes
  by_end (inr ended) onward = let both = marked_end bytes starts pc marked ended in inl (starts, both.0, both.1)
  by_end (inl inside) onward = by_standing inside onward (standing_at pc (drop pc bytes)) refl

-- and the walk over the instructions comes to the end, or to one with a bad target
abbrev pub SomeCode : List ℕ → Type 0
SomeCode bytes = (code : List (ℕ × Insn)) × SpellsCode code bytes

abbrev pub SomeBadTarget : List ℕ → Type 0
SomeBadTarget bytes = (pc : ℕ) × HasBadTarget bytes pc

code_from : (turns : ℕ) (bytes : List ℕ) (starts : List Bool) (pc : ℕ) (code : List (ℕ × Insn)) → IsBytes bytes → length bytes < 2 ^ 32 → IsPlace bytes (length bytes) → MarksPlaces starts bytes → length bytes ≤ pc + turns → Built bytes starts pc code → SomeCode bytes ⊎ SomeBadTarget bytes
code_from zero bytes starts pc code are short whole marks few built = inl (code, built_end bytes starts pc code built marks (omega arith) short)
code_from (suc turns) bytes starts pc code are short whole marks few built = by_end (cases_lt pc (length bytes)) (λ size insn more next. code_from turns bytes starts (pc + size) (code ++ (pc, insn) ∷ []) are short whole marks more next) where
  by_marks : pc < length bytes → ((size : ℕ) (insn : Insn) → length bytes ≤ pc + size + turns → Built bytes starts (pc + size) (code ++ (pc, insn) ∷ []) → SomeCode bytes ⊎ SomeBadTarget bytes) → All (IsMarked starts) (targets_at pc (drop pc bytes)) ⊎ Missed starts (targets_at pc (drop pc bytes)) → SomeCode bytes ⊎ SomeBadTarget bytes
  by_marks inside onward (inr missed) = inr (pc, built_miss bytes (drop pc bytes) starts pc code (faults.BadTarget pc) built whole marks inside refl (refl, missed))
  by_marks inside onward (inl all) =
      let parted = apart bytes pc (length bytes) built.place whole inside in
      let some = (whole_size pc (drop pc bytes) parted.size parted.reads).0 in
      let head = headed pc (drop pc bytes) parted.size parted.reads in
      let insn : Insn = record { opcode = head.opcode; wide = head.wide; operand = operand_of pc head.form head.behind } in
      let read : IsRead pc insn (drop pc bytes) = record { form = head.form; behind = head.behind; head = head.head; operand = refl } in
      onward parted.size insn (omega (arith, some)) (built_more bytes (drop pc bytes) starts pc parted.size code (code ++ (pc, insn) ∷ []) insn built are inside refl read parted.reads all refl)

  by_end : (pc < length bytes) ⊎ (length bytes ≤ pc) → ((size : ℕ) (insn : Insn) → length bytes ≤ pc + size + turns → Built bytes starts (pc + size) (code ++ (pc, insn) ∷ []) → SomeCode bytes ⊎ SomeBadTarget bytes) → SomeCode bytes ⊎ SomeBadTarget bytes
  by_end (inr ended) onward = inl (code, built_end bytes starts pc code built marks ended short)
  by_end (inl inside) onward = by_marks inside onward (marks_or_missed starts (targets_at pc (drop pc bytes)))

bytes_of : (bytes : List ℕ) → All (λ byte. byte < 2 ^ 8) bytes → IsBytes bytes
bytes_of bytes all i = by_order (cases_lt i (length bytes)) where
  by_order : (i < length bytes) ⊎ (length bytes ≤ i) → get_or bytes i 0 < 256
  by_order (inl below) = let one = All-get_or (λ byte. byte < 2 ^ 8) bytes i 0 below all in omega (arith, one)
  by_order (inr past) = rw (get_or_past bytes i 0 past) (omega arith)

pub decided : (bytes : List ℕ) → All (λ byte. byte < 2 ^ 8) bytes → length bytes < 2 ^ 32 → SomeCode bytes ⊎ (SomeFault bytes ⊎ SomeBadTarget bytes)
decided bytes all short = by_marks (marks_from (length bytes) bytes (replicate (length bytes) false) 0 (omega arith) (marked_start bytes (replicate (length bytes) false) refl)) where
  by_code : SomeCode bytes ⊎ SomeBadTarget bytes → SomeCode bytes ⊎ (SomeFault bytes ⊎ SomeBadTarget bytes)
  by_code (inl code) = inl code
  by_code (inr astray) = inr (inr astray)

  by_marks : Marks bytes ⊎ SomeFault bytes → SomeCode bytes ⊎ (SomeFault bytes ⊎ SomeBadTarget bytes)
  by_marks (inr fault) = inr (inl fault)
  by_marks (inl (starts, whole, marks)) = by_code (code_from (length bytes) bytes starts 0 [] (bytes_of bytes all) short whole marks (omega arith) (built_start bytes starts))
