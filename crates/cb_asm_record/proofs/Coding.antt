-- Instructions and their places, line by line.
use Rattle.std.proofs.Common.{◌≡◌, ◌∙◌, ap, sym, refl, subst, arith, ℕ, ◌+◌, ◌<◌, ◌≤◌, ◌^◌, List, [], ◌∷◌, ◌++◌, length, take, drop, get_or, append_assoc}
use Rattle.cb_insn.specs.declared.insn.Insn.{Insn}
use Rattle.cb_asm_line.specs.declared.program.CodeLine.{CodeLine}
use Rattle.cb_asm_line.specs.declared.program.CodeLine.TheVariants.{Here, Do}
use Rattle.cb_asm_line.specs.Label.{Label}
use Rattle.cb_asm_record.specs.declared.stop.Stop.{Stop}
use Rattle.cb_asm_record.specs.Entries.{Entry}
use Rattle.cb_asm_record.specs.Inner.{AddsLine, AreInstructions, Gives, HasCode, IsLine, LineStands, Refuses, behind, end_from}
use Rattle.cb_asm_record.specs.Labels.{code_from, insn_of, place_at, size_at}
use Rattle.cb_asm_record.proofs.Alls.{all_both}
use Rattle.cb_asm_record.proofs.Laying.{end_both, end_grows}
use Rattle.cb_asm_record.proofs.Turns.{all_at, at_turn, take_past}
use Rattle.std.proofs.lemmas.List.{take_more}

pub code_both : (entries : List Entry) (place : Label → ℕ) (pc : ℕ) (one other : List CodeLine)
    → code_from entries place pc (one ++ other) ≡ code_from entries place pc one ++ code_from entries place (end_from pc one) other
code_both entries place pc [] other = refl
code_both entries place pc (Here label ∷ one) other = code_both entries place pc one other
code_both entries place pc (Do instruction ∷ one) other =
    ap (λ rest. (pc, insn_of entries place instruction) ∷ rest) (code_both entries place (pc + size_at pc instruction) one other)

pub code_more : (entries : List Entry) (lines all : List CodeLine) (i : ℕ) (line : CodeLine) (code later : List (ℕ × Insn)) (pc next : ℕ)
    → i < length all → line ≡ get_or all i line → HasCode entries lines (take i all) code pc
    → AddsLine lines pc line (later ≡ code ++ code_from entries (place_at lines) pc (line ∷ [])) next → HasCode entries lines (take (i + 1) all) later next
code_more entries lines all i line code later pc next below is before adds =
    subst (λ some. HasCode entries lines some later next) (sym (take_more all i line below ∙ ap (λ one. take i all ++ one ∷ []) (sym is)))
    (record {
      is =
          adds.added
          ∙ ap (λ front. front ++ code_from entries (place_at lines) pc (line ∷ [])) before.is
          ∙ ap (λ place. code_from entries (place_at lines) 0 (take i all) ++ code_from entries (place_at lines) place (line ∷ [])) before.place
          ∙ sym (code_both entries (place_at lines) 0 (take i all) (line ∷ []));
      each = all_both (LineStands lines) (take i all) (line ∷ []) before.each (adds.is.stands, tt);
      place = adds.place ∙ ap (λ place. behind place line) before.place ∙ sym (end_both 0 (take i all) (line ∷ []));
      few = subst (λ place. place < 2 ^ 16) (sym adds.place) adds.is.short;
    })

pub code_all : (entries : List Entry) (lines all : List CodeLine) (i : ℕ) (code : List (ℕ × Insn)) (pc : ℕ) → length all ≤ i → HasCode entries lines (take i all) code pc
    → Gives (code_from entries (place_at lines) 0 all) (AreInstructions lines all) code
code_all entries lines all i code pc past before =
    let has = subst (λ some. HasCode entries lines some code pc) (take_past all i past) before in
    record { is = has.is; asked = record { each = has.each; short = subst (λ place. place < 2 ^ 16) has.place has.few } }

pub code_refused : (entries : List Entry) (lines all : List CodeLine) (i : ℕ) (line : CodeLine) (code : List (ℕ × Insn)) (pc : ℕ) (stop : Stop)
    → i < length all → line ≡ get_or all i line → HasCode entries lines (take i all) code pc
    → Refuses (IsLine lines pc line) stop → Refuses (AreInstructions lines all) stop
code_refused entries lines all i line code pc stop below is before refused = λ stopped are.
    let ends : end_from 0 all ≡ end_from (behind pc line) (drop (i + 1) all) =
    ap (end_from 0) (at_turn all i line below ∙ ap (λ one. (take i all ++ one ∷ []) ++ drop (i + 1) all) (sym is) ∙ append_assoc (take i all) (line ∷ []) (drop (i + 1) all))
    ∙ end_both 0 (take i all) (line ∷ drop (i + 1) all)
    ∙ ap (λ place. end_from (behind place line) (drop (i + 1) all)) (sym before.place) in
    let grows = end_grows (behind pc line) (drop (i + 1) all) in
    refused stopped (record {
      stands = subst (LineStands lines) (sym is) (all_at (LineStands lines) all i line below are.each);
      short = let short = are.short in omega (arith, ends, grows, short);
    })
