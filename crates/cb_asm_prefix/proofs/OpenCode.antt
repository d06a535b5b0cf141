-- Code that is cut before an instruction, with its open labels and an instruction that does nothing in place of the rest.
use Rattle.std.proofs.Common.{◌≡◌, ◌⊎◌, inl, inr, ◌∙◌, ap, sym, refl, subst, arith, append_assoc, ℕ, ◌+◌, ◌≤◌, false, List, [], ◌∷◌, ◌++◌, length, length-append, map, Option, None, IsSome, Contains}
use Rattle.std.specs.Option.{unwrap_or}
use Rattle.std.specs.List.{AllByRecursion}
use Rattle.cb_text.specs.declared.constant.Constant.{Constant}
use Rattle.cb_insn.specs.declared.insn.Insn.{Insn}
use Rattle.cb_insn.specs.Grammar.{SpellsFrom, targets_of}
use Rattle.cb_insn.specs.Writing.{code_bytes}
use Rattle.cb_insn.specs.Places.{places}
use Rattle.cb_classfile.specs.Needed.{CallsClass, HasConstant}
use Rattle.cb_classfile.proofs.Laws.{all_each}
use Rattle.cb_asm_line.specs.Label.{Label}
use Rattle.cb_asm_line.specs.declared.operand.Instruction.{Instruction}
use Rattle.cb_asm_line.specs.declared.operand.Operand.TheVariants.{Nothing}
use Rattle.cb_asm_line.specs.declared.program.CodeLine.{CodeLine}
use Rattle.cb_asm_line.specs.declared.program.CodeLine.TheVariants.{Here, Do}
use Rattle.cb_asm_prefix.specs.Closing.{line_labels}
use Rattle.cb_asm_record.specs.Entries.{Entry}
use Rattle.cb_asm_record.specs.Grammar.{HasLabel, LineHasLabels}
use Rattle.cb_asm_record.specs.Labels.{code_from, insn_of, labels_from, place_at, place_of, size_at}
use Rattle.cb_asm_prefix.proofs.Codes.{EachLabel, IsCodeOf, all_reach, calls_of_index, constant_of_index, each_insn, each_label, first_at, is_code_of, labels_stand, place_first, place_second, some_bytes, spells_append}
use Rattle.cb_asm_prefix.proofs.Lists.{all_any, all_both, all_mapped, all_two}
use Rattle.cb_asm_prefix.proofs.Nearing.{IsNear, insn_again}
use Rattle.cb_asm_prefix.proofs.Placing.{HasDo, ahead, code_append, end_of, has_behind, in_places, labels_ahead, place_found, there_or_not}

-- an instruction that does nothing
abbrev pub nop : Instruction
nop = record { opcode = 0; wide = false; operand = Nothing }

-- labels, and an instruction that does nothing
abbrev pub closing : List Label → List CodeLine
closing labels = map (λ label. Here label) labels ++ Do nop ∷ []

-- a label stands where it stood, or at the end, and then it stood there or behind
record NearEnd (end : ℕ) (place place_too : Label → ℕ) (label : Label) : Type 0 where
  is : (place_too label ≡ place label) ⊎ ((place_too label ≡ end) × (end ≤ place label))

is_near : (pc end : ℕ) (place place_too : Label → ℕ) (label : Label) → pc ≤ end → NearEnd end place place_too label → IsNear pc place place_too label
is_near pc end place place_too label before near = record {
  is = elim near.is [ inl same ↦ inl same | inr between ↦ inr (omega (arith, before, between.0), omega (arith, between.0, between.1)) ];
}

-- the lines before the cut, and what stands behind them
record SharedFront (entries : List Entry) (place place_too : Label → ℕ) (pc : ℕ) (shared rest : List CodeLine) (bytes : List ℕ) : Type 0 where
  front : List ℕ
  back : List ℕ
  spelled : SpellsFrom pc (code_from entries place_too pc shared) front
  ends : pc + length front ≡ end_of pc shared
  behind : SpellsFrom (end_of pc shared) (code_from entries place (end_of pc shared) rest) back
  long : length front + length back ≡ length bytes

shared_front : (entries : List Entry) (place place_too : Label → ℕ) (end pc : ℕ) (shared rest : List CodeLine) (bytes : List ℕ) → end_of pc shared ≡ end → HasDo rest → EachLabel (NearEnd end place place_too) shared
    → SpellsFrom pc (code_from entries place pc (shared ++ rest)) bytes → SharedFront entries place place_too pc shared rest bytes
shared_front entries place place_too end pc [] rest bytes is has near spelled = record { front = []; back = bytes; spelled = refl; ends = omega arith; behind = spelled; long = omega arith }
shared_front entries place place_too end pc (Here label ∷ shared) rest bytes is has near spelled =
    let more = shared_front entries place place_too end pc shared rest bytes is has near.1 spelled in
    record { front = more.front; back = more.back; spelled = more.spelled; ends = more.ends; behind = more.behind; long = more.long }
shared_front entries place place_too end pc (Do instruction ∷ shared) rest bytes is has near (first, behind, at, insn, split, spelled) =
    let next = pc + size_at pc instruction in
    let before : pc ≤ end = omega (arith, ahead pc (Do instruction ∷ shared), is) in
    let again = insn_again pc place place_too entries instruction first (all_each (NearEnd end place place_too) (IsNear pc place place_too) (λ label one. is_near pc end place place_too label before one) (line_labels (Do instruction)) near.0) insn in
    let at_next = first_at entries place next (pc + length first) (shared ++ rest) behind (has_behind shared rest has) spelled in
    let more = shared_front entries place place_too end next shared rest behind is has near.1 (subst (λ at. SpellsFrom at (code_from entries place next (shared ++ rest)) behind) at_next spelled) in
    let same : pc + length again.again ≡ next = ap (λ long. pc + long) again.long ∙ at_next in
    record {
      front = again.again ++ more.front;
      back = more.back;
      spelled = (again.again, more.front, refl, again.spelled, refl, subst (λ at. SpellsFrom at (code_from entries place_too next shared) more.front) (sym same) more.spelled);
      ends = ap (λ long. pc + long) (length-append again.again more.front) ∙ sums pc (length again.again) (length more.front) ∙ ap (λ at. at + length more.front) same ∙ more.ends;
      behind = more.behind;
      long = omega (arith, ap length split, length-append first behind, again.long, more.long, length-append again.again more.front);
    }
  where
    sums : (one two three : ℕ) → one + (two + three) ≡ one + two + three
    sums one two three = omega arith

-- what closes the code
closing_code : (entries : List Entry) (place : Label → ℕ) (pc : ℕ) (labels : List Label) → code_from entries place pc (closing labels) ≡ (pc, insn_of entries place nop) ∷ []
closing_code entries place pc [] = refl
closing_code entries place pc (label ∷ labels) = closing_code entries place pc labels

pub closing_labels : (pc : ℕ) (labels : List Label) → labels_from pc (closing labels) ≡ map (λ label. (label, pc)) labels
closing_labels pc [] = refl
closing_labels pc (label ∷ labels) = ap (λ rest. (label, pc) ∷ rest) (closing_labels pc labels)

pub closed_code : (entries : List Entry) (place : Label → ℕ) (shared : List CodeLine) (labels : List Label)
    → code_from entries place 0 (shared ++ closing labels) ≡ code_from entries place 0 shared ++ (end_of 0 shared, insn_of entries place nop) ∷ []
closed_code entries place shared labels = code_append entries place 0 shared (closing labels) ∙ ap (λ behind. code_from entries place 0 shared ++ behind) (closing_code entries place (end_of 0 shared) labels)

-- a label that stands in both is near
near_end : (shared rest : List CodeLine) (labels : List Label) (label : Label) → HasLabel (shared ++ rest) label → HasLabel (shared ++ closing labels) label
    → NearEnd (end_of 0 shared) (place_at (shared ++ rest)) (place_at (shared ++ closing labels)) label
near_end shared rest labels label has has_too = record {
  is = elim (there_or_not (labels_from 0 shared) label) [
    | inl here ↦ inl (ap (λ (found : Option ℕ). unwrap_or found 0) (place_first shared (closing labels) label here ∙ sym (place_first shared rest label here)))
    | inr none ↦ inr (at_end none, behind_end none)
  ];
} where
  end : ℕ
  end = end_of 0 shared

  ends : AllByRecursion (λ entry. entry.1 ≡ end) (labels_from end (closing labels))
  ends = rw closing_labels (all_mapped (λ entry. entry.1 ≡ end) (λ label. (label, end)) labels (all_any (λ label. end ≡ end) (λ label. refl) labels))

  at_end : place_of shared label ≡ None → place_at (shared ++ closing labels) label ≡ end
  at_end none =
      let second = place_second shared (closing labels) label none in
      ap (λ (found : Option ℕ). unwrap_or found 0) second
      ∙ place_found (λ place. place ≡ end) (labels_from end (closing labels)) label ends (subst (λ found. IsSome found) second has_too)

  behind_end : place_of shared label ≡ None → end ≤ place_at (shared ++ rest) label
  behind_end none =
      let second = place_second shared rest label none in
      subst (λ found. end ≤ unwrap_or found 0) (sym second) (
      place_found (λ place. end ≤ place) (labels_from end rest) label (labels_ahead end rest) (subst (λ found. IsSome found) second has)
      )

-- the code is well formed
pub record IsOpen (shared rest : List CodeLine) (labels : List Label) : Type 0 where
  pub more : HasDo rest
  pub stand : EachLabel (HasLabel (shared ++ rest)) shared
  pub stand_too : AllByRecursion (LineHasLabels (shared ++ closing labels)) (shared ++ closing labels)
  pub shared_too : EachLabel (HasLabel (shared ++ closing labels)) shared

pub open_code : (entries : List Entry) (pool : List Constant) (shared rest : List CodeLine) (labels : List Label) → IsOpen shared rest labels → IsCodeOf pool (code_from entries (place_at (shared ++ rest)) 0 (shared ++ rest))
    → IsCodeOf pool (code_from entries (place_at (shared ++ closing labels)) 0 (shared ++ closing labels))
open_code entries pool shared rest labels cut is = is_code_of pool code (front.front ++ 0 ∷ []) (record { spelled = spelled; short = omega (arith, shorter, is.few); reached = reached }) (omega (arith, length-append front.front (0 ∷ []))) (omega (arith, shorter, is.few)) constants where
  all : List CodeLine
  all = shared ++ closing labels

  end : ℕ
  end = end_of 0 shared

  place : Label → ℕ
  place = place_at (shared ++ rest)

  place_too : Label → ℕ
  place_too = place_at all

  whole : List ℕ
  whole = code_bytes (code_from entries place 0 (shared ++ rest))

  code : List (ℕ × Insn)
  code = code_from entries place_too 0 all

  near : EachLabel (NearEnd end place place_too) shared
  near =
      all_two (λ line. AllByRecursion (HasLabel (shared ++ rest)) (line_labels line)) (λ line. AllByRecursion (HasLabel all) (line_labels line)) (λ line. AllByRecursion (NearEnd end place place_too) (line_labels line))
      (λ line one other. all_two (HasLabel (shared ++ rest)) (HasLabel all) (NearEnd end place place_too) (near_end shared rest labels) (line_labels line) one other)
      shared cut.stand cut.shared_too

  front : SharedFront entries place place_too 0 shared rest whole
  front = shared_front entries place place_too end 0 shared rest whole refl cut.more near is.spelled.spelled

  shorter : length (front.front ++ 0 ∷ []) ≤ length whole
  shorter = omega (arith, length-append front.front (0 ∷ []), front.long, some_bytes entries place end end rest front.back cut.more front.behind)

  spelled : SpellsFrom 0 code (front.front ++ 0 ∷ [])
  spelled =
      rw closed_code (
      spells_append 0 (code_from entries place_too 0 shared) ((end, insn_of entries place_too nop) ∷ []) front.front (0 ∷ []) front.spelled
      (0 ∷ [], [], sym front.ends, ([], refl, refl), refl, refl)
      )

  reached : AllByRecursion (λ placed. AllByRecursion (Contains (places code)) (targets_of placed.1.operand)) code
  reached =
      let in_code = λ (place : ℕ). Contains (places code) place in
      let again : (shared ++ map (λ label. Here label) labels) ++ Do nop ∷ [] ≡ all = append_assoc shared (map (λ label. Here label) labels) (Do nop ∷ []) in
      let each = subst (λ lines. AllByRecursion (λ entry. Contains (places (code_from entries place_too 0 lines)) entry.1) (labels_from 0 lines)) again (in_places entries place_too 0 (shared ++ map (λ label. Here label) labels) nop) in
      all_reach in_code entries place_too 0 all (
      each_label (HasLabel all) (λ label. in_code (place_at all label)) (λ label has. place_found in_code (labels_from 0 all) label each has) all (labels_stand all all cut.stand_too)
      )

  constants : AllByRecursion (λ placed. HasConstant pool placed.1) code
  constants =
      rw closed_code (
      all_both (λ placed. HasConstant pool placed.1) (code_from entries place_too 0 shared) ((end, insn_of entries place_too nop) ∷ [])
      (each_insn (HasConstant pool) (constant_of_index pool) entries place place_too 0 shared rest is.constants) (tt, tt)
      )

-- and calls what it may
pub open_calls : (entries : List Entry) (pool : List Constant) (place place_too : Label → ℕ) (shared rest : List CodeLine) (labels : List Label) → AllByRecursion (λ placed. CallsClass pool placed.1) (code_from entries place 0 (shared ++ rest))
    → AllByRecursion (λ placed. CallsClass pool placed.1) (code_from entries place_too 0 (shared ++ closing labels))
open_calls entries pool place place_too shared rest labels all =
    rw closed_code (
    all_both (λ placed. CallsClass pool placed.1) (code_from entries place_too 0 shared) ((end_of 0 shared, insn_of entries place_too nop) ∷ [])
    (each_insn (CallsClass pool) (calls_of_index pool) entries place place_too 0 shared rest all) (λ direct names. absurd names, tt)
    )
