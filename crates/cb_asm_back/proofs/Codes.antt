-- Code with other labels at its places is code, and recorded alike.
use Rattle.std.proofs.Common.{◌≡◌, ◌≢◌, ◌∙◌, ap, sym, refl, subst, ℕ, List, [], ◌∷◌, ◌++◌, map, Some, None, codes}
use Rattle.std.specs.List.{AllByRecursion, AllPairs, filter, flat_map}
use Rattle.cb_insn.specs.Places.{Rise}
use Rattle.cb_classfile.specs.declared.body.Body.{Body}
use Rattle.cb_classfile.specs.declared.frame_map.MapFrame.{MapFrame}
use Rattle.cb_classfile.specs.declared.handler.Handler.{Handler}
use Rattle.cb_insn.specs.declared.insn.Insn.{Insn}
use Rattle.cb_asm_line.specs.declared.frame.FrameLine.{FrameLine}
use Rattle.cb_asm_line.specs.declared.frame.FrameLine.TheVariants.{Full, Bad}
use Rattle.cb_asm_line.specs.declared.operand.Instruction.{Instruction}
use Rattle.cb_asm_line.specs.declared.program.CatchLine.{CatchLine}
use Rattle.cb_asm_line.specs.declared.program.CodeLine.{CodeLine}
use Rattle.cb_asm_line.specs.declared.program.CodeLine.TheVariants.{Here, Do}
use Rattle.cb_asm_line.specs.declared.program.CodeText.{CodeText}
use Rattle.cb_asm_line.specs.declared.statement.Statement.TheVariants as statements
use Rattle.cb_asm_line.specs.Label.{Label}
use Rattle.cb_asm_line.specs.Statements.{AreWhole, IsCatch, IsCodeLine, IsStatement, IsWhole, code_statements, frame_statements}
use Rattle.cb_classfile.specs.Needed.{kind_needed}
use Rattle.cb_insn.specs.Forms.{head_form}
use Rattle.cb_asm_record.specs.Entries.{Entry, Text}
use Rattle.cb_asm_record.specs.Grammar.{CatchHasLabels, HasLabel, IsCode, LineHasLabels, labels_of}
use Rattle.cb_asm_record.specs.Labels.{code_from, place_at}
use Rattle.cb_asm_record.specs.Record.{body_of, frames_behind, handler_of}
use Rattle.cb_asm_record.specs.Uses.{class_use, code_uses, frames_uses, line_uses}
use Rattle.cb_asm_list.specs.Listing.{among}
use Rattle.cb_asm_back.proofs.Frames.{frame_labels}
use Rattle.cb_asm_back.proofs.Lists.{both, each_map, flat_of_map, map_agree, map_twice, of_flat, of_map, parts, weaker}
use Rattle.cb_asm_back.proofs.Numbers.{Apart, AreFew, label_is, marked, marked_once}
use Rattle.cb_asm_back.proofs.Places.{LineStands, code_stands, each_line, labels_are, lines_at, places_from, uses_are}
use Rattle.cb_asm_back.proofs.Relabelling.{catch_by, frame_line_by, instruction_by}
use Rattle.cb_asm_back.proofs.Standing.{Agree, HasDecimals, Stands, catch_labels, catch_stands, form_by, frame_is_by, frames_have, frames_rise, frames_stand, frames_uses_by, labels_by, operand_is_by, operand_stands, operand_uses_by, placed, present}

-- code with other labels, which stand at some places
abbrev pub code_by : List ℕ → (Label → Label) → CodeText → CodeText
code_by labelled new code =
    record { stack = code.stack; locals = code.locals; lines = lines_at labelled new 0 code.lines; catches = map (catch_by new) code.catches; frames = map (frame_line_by new) code.frames }

-- the labels that it names
abbrev pub line_labels : CodeLine → List Label
line_labels (Here label) = []
line_labels (Do instruction) = labels_of instruction.operand

abbrev pub code_labels : CodeText → List Label
code_labels code = flat_map line_labels code.lines ++ flat_map catch_labels code.catches ++ flat_map frame_labels code.frames

-- what is said of each, by the lines that name it
pub record OfLabels (P : Label → Type 0) (code : CodeText) : Type 0 where
  pub lines : AllByRecursion P (flat_map line_labels code.lines)
  pub catches : AllByRecursion P (flat_map catch_labels code.catches)
  pub frames : AllByRecursion P (flat_map frame_labels code.frames)

pub of_labels : (P : Label → Type 0) (code : CodeText) → AllByRecursion P (code_labels code) → OfLabels P code
of_labels P code each =
    let frames = parts P (flat_map line_labels code.lines ++ flat_map catch_labels code.catches) (flat_map frame_labels code.frames) each in
    let lines = parts P (flat_map line_labels code.lines) (flat_map catch_labels code.catches) frames.0 in
    record { lines = lines.0; catches = lines.1; frames = frames.1 }

-- it uses the same constants
lines_use : (labelled : List ℕ) (new : Label → Label) (lines : List CodeLine) → flat_map line_uses (lines_at labelled new 0 lines) ≡ flat_map line_uses lines
lines_use labelled new lines = uses_are line_uses labelled new 0 lines (λ label. refl) (λ instruction. operand_uses_by new instruction.operand)

pub uses_by : (labelled : List ℕ) (new : Label → Label) (code : CodeText) → code_uses (Some (code_by labelled new code)) ≡ code_uses (Some code)
uses_by labelled new code =
    ap (λ lines. Text (codes "Code") ∷ lines ++ flat_map (λ entry. class_use entry.class) (map (catch_by new) code.catches) ++ frames_uses (map (frame_line_by new) code.frames)) (lines_use labelled new code.lines)
    ∙ ap (λ catches. Text (codes "Code") ∷ flat_map line_uses code.lines ++ catches ++ frames_uses (map (frame_line_by new) code.frames)) (flat_of_map (λ entry. class_use entry.class) (catch_by new) code.catches)
    ∙ ap (λ frames. Text (codes "Code") ∷ flat_map line_uses code.lines ++ flat_map (λ entry. class_use entry.class) code.catches ++ frames) (frames_uses_by new code.frames)

-- it has the same record, where its labels stand at the places of those before
agree_at : (lines others : List CodeLine) (new : Label → Label) (labels : List Label) → AllByRecursion (Stands lines others new) labels → AllByRecursion (Agree (place_at lines) (place_at others) new) labels
agree_at lines others new labels stand = weaker (Stands lines others new) (Agree (place_at lines) (place_at others) new) (placed lines others new) labels stand

each_stands : (all : List Entry) (place other : Label → ℕ) (new : Label → Label) (line : CodeLine) → AllByRecursion (Agree place other new) (line_labels line) → LineStands all place other new line
each_stands all place other new (Here label) agree = tt
each_stands all place other new (Do instruction) agree = operand_stands all place other new instruction.opcode instruction.operand agree

abbrev body_with : CodeText → List (ℕ × Insn) → List Handler → List MapFrame → Body
body_with code insns handlers frames = record { max_stack = code.stack; max_locals = code.locals; code = insns; handlers = handlers; frames = frames }

pub body_by : (labelled : List ℕ) (new : Label → Label) (code : CodeText) (all : List Entry) → AllByRecursion (Stands code.lines (lines_at labelled new 0 code.lines) new) (code_labels code)
    → body_of all (code_by labelled new code) ≡ body_of all code
body_by labelled new code all stand =
    let others = lines_at labelled new 0 code.lines in
    let place = place_at code.lines in
    let other = place_at others in
    let agree = of_labels (Agree place other new) code (agree_at code.lines others new (code_labels code) stand) in
    let lines = weaker (λ line. AllByRecursion (Agree place other new) (line_labels line)) (LineStands all place other new) (each_stands all place other new) code.lines (of_flat (Agree place other new) line_labels code.lines agree.lines) in
    let handlers = map (handler_of all other) (map (catch_by new) code.catches) in
    let frames = frames_behind all other None (map (frame_line_by new) code.frames) in
    ap (λ insns. body_with code insns handlers frames) (code_stands labelled all place other new 0 code.lines lines)
    ∙ ap (λ some. body_with code (code_from all place 0 code.lines) some frames) (
    map_twice (handler_of all other) (catch_by new) code.catches
    ∙ map_agree (λ entry. handler_of all other (catch_by new entry)) (handler_of all place) (λ entry. AllByRecursion (Agree place other new) (catch_labels entry)) (catch_stands all place other new) code.catches (of_flat (Agree place other new) catch_labels code.catches agree.catches)
    )
    ∙ ap (λ some. body_with code (code_from all place 0 code.lines) (map (handler_of all place) code.catches) some) (frames_stand all place other new None code.frames agree.frames)

-- labels at places that are all those of the code
pub record Relabels (labelled : List ℕ) (new : Label → Label) (code : CodeText) : Type 0 where
  pub few : AreFew labelled
  pub apart : Apart labelled
  pub fixed : filter (among labelled) (places_from 0 code.lines) ≡ labelled
  pub stand : AllByRecursion (Stands code.lines (lines_at labelled new 0 code.lines) new) (code_labels code)
  pub decimals : HasDecimals new

line_has : (lines others : List CodeLine) (new : Label → Label) (instruction : Instruction) → AllByRecursion (Stands lines others new) (labels_of instruction.operand) → LineHasLabels others (Do (instruction_by new instruction))
line_has lines others new instruction stand =
    subst (AllByRecursion (HasLabel others)) (sym (labels_by new instruction.operand)) (each_map (HasLabel others) new (labels_of instruction.operand) (weaker (Stands lines others new) (λ label. HasLabel others (new label)) (present lines others new) (labels_of instruction.operand) stand))

catch_has : (lines others : List CodeLine) (new : Label → Label) (entry : CatchLine) → AllByRecursion (Stands lines others new) (catch_labels entry) → CatchHasLabels others (catch_by new entry)
catch_has lines others new entry stand = (present lines others new entry.start stand.0, present lines others new entry.end stand.1.0, present lines others new entry.handler stand.1.1.0)

pub is_code_by : (labelled : List ℕ) (new : Label → Label) (code : CodeText) → Relabels labelled new code → AreWhole code → IsCode code → IsCode (code_by labelled new code)
is_code_by labelled new code relabels whole is =
    let others = lines_at labelled new 0 code.lines in
    let P = Stands code.lines others new in
    let stand = of_labels P code relabels.stand in
    record {
      once = subst (AllPairs (λ one other. one.0 ≢ other.0)) (sym (labels_are labelled new 0 code.lines ∙ ap (marked labelled) relabels.fixed)) (marked_once labelled relabels.few relabels.apart);
      lines = each_line (LineHasLabels others) (λ line. AllByRecursion P (line_labels line)) labelled new 0 code.lines (λ place is. tt) (line_has code.lines others new) (of_flat P line_labels code.lines stand.lines);
      catches = each_map (CatchHasLabels others) (catch_by new) code.catches (weaker (λ entry. AllByRecursion P (catch_labels entry)) (λ entry. CatchHasLabels others (catch_by new entry)) (catch_has code.lines others new) code.catches (of_flat P catch_labels code.catches stand.catches));
      frames = frames_have code.lines others new code.frames whole stand.frames;
      ascending = subst Rise (sym (frames_rise code.lines others new code.frames stand.frames)) is.ascending;
    }

-- its lines are of the format
line_is_by : (new : Label → Label) → HasDecimals new → (instruction : Instruction) → IsCodeLine (Do instruction) → IsCodeLine (Do (instruction_by new instruction))
line_is_by new decimals instruction is =
    (is.0, form_by new instruction.operand (kind_needed instruction.opcode) (head_form instruction.wide instruction.opcode) is.1, operand_is_by new instruction.operand decimals is.2)

catch_is_by : (new : Label → Label) → HasDecimals new → (entry : CatchLine) → IsCatch entry → IsCatch (catch_by new entry)
catch_is_by new decimals entry is = (decimals entry.start, decimals entry.end, decimals entry.handler, is.3)

frames_are_by : (new : Label → Label) (frames : List FrameLine) → HasDecimals new → AllByRecursion IsStatement (flat_map frame_statements frames) → AllByRecursion IsStatement (flat_map frame_statements (map (frame_line_by new) frames))
frames_are_by new [] decimals are = tt
frames_are_by new (Bad ∷ frames) decimals are = frames_are_by new frames decimals are
frames_are_by new (Full frame ∷ frames) decimals are = (frame_is_by new frame decimals are.0, frames_are_by new frames decimals are.1)

pub statements_by : (labelled : List ℕ) (new : Label → Label) (code : CodeText) → Relabels labelled new code → AllByRecursion IsStatement (code_statements (Some code)) → AllByRecursion IsStatement (code_statements (Some (code_by labelled new code)))
statements_by labelled new code relabels are =
    let lines = map statements.Code (lines_at labelled new 0 code.lines) in
    let catches = map statements.Catch (map (catch_by new) code.catches) in
    let frames = parts IsStatement (map statements.Code code.lines ++ map statements.Catch code.catches) (flat_map frame_statements code.frames) are.1 in
    let before = parts IsStatement (map statements.Code code.lines) (map statements.Catch code.catches) frames.0 in (
      are.0,
      both IsStatement (lines ++ catches) (flat_map frame_statements (map (frame_line_by new) code.frames))
          (both IsStatement lines catches
          (each_map IsStatement statements.Code (lines_at labelled new 0 code.lines) (each_line IsCodeLine IsCodeLine labelled new 0 code.lines (λ place is. label_is labelled place relabels.few) (line_is_by new relabels.decimals) (of_map IsStatement statements.Code code.lines before.0)))
          (each_map IsStatement statements.Catch (map (catch_by new) code.catches) (each_map IsCatch (catch_by new) code.catches (weaker IsCatch (λ entry. IsCatch (catch_by new entry)) (catch_is_by new relabels.decimals) code.catches (of_map IsStatement statements.Catch code.catches before.1)))))
          (frames_are_by new code.frames relabels.decimals frames.1),
    )

pub whole_by : (new : Label → Label) (frames : List FrameLine) → AllByRecursion IsWhole frames → AllByRecursion IsWhole (map (frame_line_by new) frames)
whole_by new [] whole = tt
whole_by new (Bad ∷ frames) whole = absurd whole.0
whole_by new (Full frame ∷ frames) whole = (tt, whole_by new frames whole.1)
