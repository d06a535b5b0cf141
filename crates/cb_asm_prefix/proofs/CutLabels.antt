-- Labels of code that is cut stand as they should.
use Rattle.std.proofs.Common.{◌≡◌, ◌≢◌, ◌⊎◌, inl, inr, ◌∙◌, ap, sym, refl, subst, arith, ℕ, List, [], ◌∷◌, ◌++◌, map, IsSome, Contains}
use Rattle.std.specs.Prelude.{FitsSigned}
use Rattle.std.specs.Int.{w32}
use Rattle.std.specs.List.{AllByRecursion, AllPairs}
use Rattle.std.proofs.lemmas.List.{append-nil}
use Rattle.cb_insn.specs.Places.{Rise}
use Rattle.cb_asm_line.specs.Label.{Label}
use Rattle.cb_asm_line.specs.Numbers.{IsDecimal}
use Rattle.cb_asm_line.specs.Statements.{IsCodeLine, IsOperand}
use Rattle.cb_asm_line.specs.declared.frame.FrameLine.{FrameLine}
use Rattle.cb_asm_line.specs.declared.frame.FrameLine.TheVariants.{Full, Bad}
use Rattle.cb_asm_line.specs.declared.operand.Operand.{Operand}
use Rattle.cb_asm_line.specs.declared.operand.Operand.TheVariants.{Branch, Table, Lookup}
use Rattle.cb_asm_line.specs.declared.program.CatchLine.{CatchLine}
use Rattle.cb_asm_line.specs.declared.program.CodeLine.{CodeLine}
use Rattle.cb_asm_line.specs.declared.program.CodeLine.TheVariants.{Here, Do}
use Rattle.cb_asm_prefix.specs.Closing.{AreOpen, line_labels, named_labels}
use Rattle.cb_asm_record.specs.Grammar.{CatchHasLabels, FrameHasLabels, HasLabel, IsCode, LineHasLabels, frame_places, labels_of}
use Rattle.cb_asm_record.specs.Labels.{labels_from, place_at, place_in}
use Rattle.cb_asm_prefix.proofs.Codes.{EachLabel, each_label, place_first, place_second, stand_labels}
use Rattle.cb_asm_prefix.proofs.CutBodies.{text}
use Rattle.cb_asm_prefix.proofs.Lists.{all_both, all_flat, all_front, all_mapped, all_of_flat, all_of_map, among_all, pairs_both, pairs_first, pairs_front, pairs_more, pairs_none, pairs_rest}
use Rattle.cb_asm_prefix.proofs.OpenCode.{closing, closing_labels}
use Rattle.cb_asm_prefix.proofs.Placing.{each_found, end_of, labels_append, there_or_not}
use Rattle.cb_classfile.proofs.Laws.{all_each}

-- fewer entries of the exception table and fewer frames
rise_front : (front back : List ℕ) → Rise (front ++ back) → Rise front
rise_front [] back rise = tt
rise_front (one ∷ []) back rise = tt
rise_front (one ∷ next ∷ front) back rise = (rise.0, rise_front (next ∷ front) back rise.1)

places_append : (lines : List CodeLine) (frames more : List FrameLine) → frame_places lines (frames ++ more) ≡ frame_places lines frames ++ frame_places lines more
places_append lines [] more = refl
places_append lines (Bad ∷ frames) more = places_append lines frames more
places_append lines (Full frame ∷ frames) more = ap (λ rest. place_at lines frame.place ∷ rest) (places_append lines frames more)

pub fewer_is_code : (stack locals : ℕ) (lines : List CodeLine) (catches more_catches : List CatchLine) (frames more_frames : List FrameLine)
    → IsCode (text stack locals lines (catches ++ more_catches) (frames ++ more_frames)) → IsCode (text stack locals lines catches frames)
fewer_is_code stack locals lines catches more_catches frames more_frames is = record {
  once = is.once;
  lines = is.lines;
  catches = all_front (CatchHasLabels lines) catches more_catches is.catches;
  frames = all_front (FrameHasLabels lines) frames more_frames is.frames;
  ascending = rise_front (frame_places lines frames) (frame_places lines more_frames) (subst Rise (places_append lines frames more_frames) is.ascending);
}

-- none of either
abbrev pub StandOnce : List CodeLine → Type 0
StandOnce lines = AllPairs (λ one other. one.0 ≢ other.0) (labels_from 0 lines)

pub bare_is_code : (stack locals : ℕ) (lines : List CodeLine) → StandOnce lines → AllByRecursion (LineHasLabels lines) lines → IsCode (text stack locals lines [] [])
bare_is_code stack locals lines once has = record { once = once; lines = has; catches = tt; frames = tt; ascending = tt }

pub once_front : (shared rest : List CodeLine) → StandOnce (shared ++ rest) → StandOnce shared
once_front shared rest once =
    pairs_front (λ one other. one.0 ≢ other.0) (labels_from 0 shared) (labels_from (end_of 0 shared) rest) (subst (AllPairs (λ one other. one.0 ≢ other.0)) (labels_append 0 shared rest) once)

-- an instruction that does nothing has no labels
base_labels : (shared : List CodeLine) → labels_from 0 (shared ++ closing []) ≡ labels_from 0 shared
base_labels shared = labels_append 0 shared (closing []) ∙ append-nil (labels_from 0 shared)

-- the labels that are open are those that are named and don't stand
pub record IsOpened (shared : List CodeLine) (labels : List Label) : Type 0 where
  pub once : AllPairs (λ one other. one ≢ other) labels
  pub apart : AllByRecursion (λ label. ¬ HasLabel shared label) labels
  pub named : AllByRecursion (λ label. Contains (named_labels (shared ++ closing [])) label) labels
  pub all : EachLabel (λ label. HasLabel shared label ⊎ Contains labels label) shared

pub opened : (shared : List CodeLine) (labels : List Label) → AreOpen (shared ++ closing []) labels → IsOpened shared labels
opened shared labels are = record {
  once = are.once;
  apart =
      all_each (λ label. Contains (named_labels (shared ++ closing [])) label × (¬ HasLabel (shared ++ closing []) label)) (λ label. ¬ HasLabel shared label)
      (λ label one has. one.1 (subst (λ found. IsSome (place_in found label)) (sym (base_labels shared)) has)) labels are.named;
  named = all_each (λ label. Contains (named_labels (shared ++ closing [])) label × (¬ HasLabel (shared ++ closing []) label)) (λ label. Contains (named_labels (shared ++ closing [])) label) (λ label one. one.0) labels are.named;
  all =
      each_label (λ label. HasLabel (shared ++ closing []) label ⊎ Contains labels label) (λ label. HasLabel shared label ⊎ Contains labels label)
      (λ label one. elim one [ inl has ↦ inl (subst (λ found. IsSome (place_in found label)) (base_labels shared) has) | inr there ↦ inr there ])
      shared (
      all_front (λ line. AllByRecursion (λ label. HasLabel (shared ++ closing []) label ⊎ Contains labels label) (line_labels line)) shared (closing [])
      (all_of_flat (λ label. HasLabel (shared ++ closing []) label ⊎ Contains labels label) line_labels (shared ++ closing []) are.all)
      );
}

-- so each stands once in code that they close
pairs_mapped : {X Y : Type 0} (R : Y → Y → Type 0) (f : X → Y) (items : List X) → AllPairs (λ one other. R (f one) (f other)) items → AllPairs R (map f items)
pairs_mapped R f [] pairs = pairs_none R
pairs_mapped R f (first ∷ items) pairs =
    pairs_more R (f first) (map f items) (all_mapped (R (f first)) f items (pairs_first (λ one other. R (f one) (f other)) first items pairs)) (
    pairs_mapped R f items (pairs_rest (λ one other. R (f one) (f other)) first items pairs)
    )

pub once_closed : (shared rest : List CodeLine) (labels : List Label) → StandOnce (shared ++ rest) → IsOpened shared labels → StandOnce (shared ++ closing labels)
once_closed shared rest labels once are =
    let Apart = λ (one other : Label × ℕ). one.0 ≢ other.0 in
    let end = end_of 0 shared in
    let at : Label → Label × ℕ = λ label. (label, end) in
    let is = labels_append 0 shared (closing labels) ∙ ap (λ behind. labels_from 0 shared ++ behind) (closing_labels end labels) in
    subst (AllPairs Apart) (sym is) (
    pairs_both Apart (labels_from 0 shared) (map at labels) (once_front shared rest once) (pairs_mapped Apart at labels are.once) (
    all_each (λ entry. HasLabel shared entry.0) (λ entry. AllByRecursion (Apart entry) (map at labels))
    (λ entry found. all_mapped (Apart entry) at labels (all_each (λ label. ¬ HasLabel shared label) (λ label. entry.0 ≢ label) (λ label not same. not (subst (HasLabel shared) same found)) labels are.apart))
    (labels_from 0 shared) (each_found (labels_from 0 shared))
    )
    )

-- and each that is named stands
has_first : (shared other : List CodeLine) (label : Label) → HasLabel shared label → HasLabel (shared ++ other) label
has_first shared other label has = subst (λ found. IsSome found) (sym (place_first shared other label has)) has

has_closed : (shared : List CodeLine) (labels : List Label) (label : Label) → Contains labels label → HasLabel (shared ++ closing labels) label
has_closed shared labels label there = elim (there_or_not (labels_from 0 shared) label) [
  | inl here ↦ has_first shared (closing labels) label here
  | inr none ↦ subst (λ found. IsSome found) (sym (place_second shared (closing labels) label none)) among
] where
  among : IsSome (place_in (labels_from (end_of 0 shared) (closing labels)) label)
  among =
      let entries = map (λ (label : Label). (label, end_of 0 shared)) labels in
      subst (λ found. IsSome (place_in found label)) (sym (closing_labels (end_of 0 shared) labels)) (
      among_all (λ label. IsSome (place_in entries label)) labels label there (all_of_map (λ entry. IsSome (place_in entries entry.0)) (λ label. (label, end_of 0 shared)) labels (each_found entries))
      )

pub shared_closed : (shared : List CodeLine) (labels : List Label) → IsOpened shared labels → EachLabel (HasLabel (shared ++ closing labels)) shared
shared_closed shared labels are =
    each_label (λ label. HasLabel shared label ⊎ Contains labels label) (HasLabel (shared ++ closing labels))
    (λ label one. elim one [ inl has ↦ has_first shared (closing labels) label has | inr there ↦ has_closed shared labels label there ]) shared are.all

closing_has : (P : Label → Type 0) (labels : List Label) → EachLabel P (closing labels)
closing_has P [] = (tt, tt)
closing_has P (label ∷ labels) = (tt, closing_has P labels)

pub lines_closed : (shared : List CodeLine) (labels : List Label) → IsOpened shared labels → AllByRecursion (LineHasLabels (shared ++ closing labels)) (shared ++ closing labels)
lines_closed shared labels are =
    let all = shared ++ closing labels in
    stand_labels all all (all_both (λ line. AllByRecursion (HasLabel all) (line_labels line)) shared (closing labels) (shared_closed shared labels are) (closing_has (HasLabel all) labels))

-- open labels are labels
operand_decimals : (operand : Operand) → IsOperand operand → AllByRecursion IsDecimal (labels_of operand)
operand_decimals (Branch label) is = (is, tt)
operand_decimals (Table low default labels) is = (is.1, is.2)
operand_decimals (Lookup default pairs) is = (is.0, all_mapped IsDecimal (λ pair. pair.1) pairs (all_each (λ pair. FitsSigned w32 pair.0 × IsDecimal pair.1) (λ pair. IsDecimal pair.1) (λ pair both. both.1) pairs is.1))
operand_decimals operand is = tt

line_decimals : (line : CodeLine) → IsCodeLine line → AllByRecursion IsDecimal (line_labels line)
line_decimals (Here label) is = tt
line_decimals (Do instruction) is = operand_decimals instruction.operand is.2

closing_lines : (labels : List Label) → AllByRecursion IsDecimal labels → AllByRecursion IsCodeLine (closing labels)
closing_lines [] all = ((omega arith, tt, tt), tt)
closing_lines (label ∷ labels) all = (all.0, closing_lines labels all.1)

pub nop_lines_are : (shared : List CodeLine) → AllByRecursion IsCodeLine shared → AllByRecursion IsCodeLine (shared ++ closing [])
nop_lines_are shared all = all_both IsCodeLine shared (closing []) all (closing_lines [] tt)

pub closed_lines : (shared : List CodeLine) (labels : List Label) → AllByRecursion IsCodeLine shared → IsOpened shared labels → AllByRecursion IsCodeLine (shared ++ closing labels)
closed_lines shared labels all are =
    let named = all_flat IsDecimal line_labels (shared ++ closing []) (all_each IsCodeLine (λ line. AllByRecursion IsDecimal (line_labels line)) line_decimals (shared ++ closing []) (nop_lines_are shared all)) in
    all_both IsCodeLine shared (closing labels) all (
    closing_lines labels (all_each (λ label. Contains (named_labels (shared ++ closing [])) label) IsDecimal (λ label there. among_all IsDecimal (named_labels (shared ++ closing [])) label there named) labels are.named)
    )
