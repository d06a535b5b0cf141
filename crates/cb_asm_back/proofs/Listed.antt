-- The listing of code is the code with other labels.
use Rattle.std.proofs.Common.{◌≡◌, ◌∙◌, ap, sym, refl, arith, ℕ, suc, ◌+◌, ◌<◌, ◌≤◌, ◌^◌, Bool, true, false, ◌&&◌, cond, List, [], ◌∷◌, ◌++◌, length, map, Option, Some, None, option_and_then}
use Rattle.std.specs.List.{AllByRecursion, filter, flat_map}
use Rattle.cb_insn.specs.Forms.{head_form}
use Rattle.cb_insn.specs.Grammar.{targets_of}
use Rattle.cb_insn.specs.Places.{places}
use Rattle.cb_insn.specs.Writing.{code_bytes}
use Rattle.cb_text.specs.declared.constant.Constant.{Constant}
use Rattle.cb_classfile.specs.declared.class.ClassFile.{ClassFile}
use Rattle.cb_classfile.specs.declared.method.Method.{Method}
use Rattle.cb_classfile.specs.Pool.{class_at}
use Rattle.cb_asm_line.specs.declared.frame.FrameLine.{FrameLine}
use Rattle.cb_asm_line.specs.declared.program.CatchLine.{CatchLine}
use Rattle.cb_asm_line.specs.declared.program.CodeLine.{CodeLine}
use Rattle.cb_asm_line.specs.declared.program.CodeLine.TheVariants.{Here, Do}
use Rattle.cb_asm_line.specs.declared.program.CodeText.{CodeText}
use Rattle.cb_asm_line.specs.declared.statement.Statement.TheVariants as statements
use Rattle.cb_asm_line.specs.Label.{Label}
use Rattle.cb_asm_line.specs.Statements.{AreWhole, IsCodeLine, IsStatement, code_statements, frame_statements}
use Rattle.cb_asm_record.specs.Entries.{Entry}
use Rattle.cb_asm_record.specs.Grammar.{CatchHasLabels, HasLabel, IsCode, LineHasLabels, labels_of}
use Rattle.cb_asm_record.specs.Labels.{code_from, labels_from, place_at, place_in, size_at}
use Rattle.cb_asm_record.specs.Record.{body_of, class_index, handler_of}
use Rattle.cb_asm_record.specs.Uses.{class_use, code_uses, frame_uses, frames_uses, line_uses}
use Rattle.cb_asm_list.specs.Expansion.{start_types}
use Rattle.cb_asm_list.specs.Listing.{among, catch_of, code_line_of, code_of, code_with, handler_places, label_line, label_of, labelled_places, listed_frames, named_places, placed_frame, places_of, frame_line_of}
use Rattle.cb_asm_back.proofs.Codes.{Relabels, code_by, code_labels, line_labels}
use Rattle.cb_asm_back.proofs.Frames.{expanded_are, frame_labels, frame_lines_are, none_missing, optional_are, placed_frames}
use Rattle.cb_asm_back.proofs.Lists.{both, flat_of_map, joined, map_agree, map_append, map_of_flat, map_twice, of_flat, of_map, parts, weaker, each_flat}
use Rattle.cb_asm_back.proofs.Numbers.{AreFew, among_filter, apart_filter, each_among, filter_again, label_is, marked, marked_at}
use Rattle.cb_asm_back.proofs.Places.{LineRead, code_ends, end_from, labels_are, lines_at, lines_listed, places_apart, places_are, places_few, places_from, stands_among}
use Rattle.cb_asm_back.proofs.Relabelling.{AreRead, catch_by, operand_read}
use Rattle.cb_asm_back.proofs.Standing.{Stands, catch_labels, frames_named, targets_are}

-- the places that have labels, by those that are named
abbrev pub labelled_in : CodeText → List ℕ
labelled_in code = filter (among (map (place_at code.lines) (code_labels code))) (places_from 0 code.lines)

abbrev pub relabel : CodeText → Label → Label
relabel code label = label_of (labelled_in code) (place_at code.lines label)

-- what is known of code that is listed
pub record IsListed (class : ClassFile) (all : List Entry) (code : CodeText) : Type 0 where
  pub whole : AreWhole code
  pub is : IsCode code
  pub lines : AllByRecursion IsStatement (code_statements (Some code))
  pub read : AreRead class.pool all (code_uses (Some code))
  pub short : length (code_bytes (code_from all (place_at code.lines) 0 code.lines)) < 2 ^ 32

-- its parts
frames_read : (pool : List Constant) (all : List Entry) (frames : List FrameLine) → AreRead pool all (frames_uses frames) → AreRead pool all (flat_map frame_uses frames)
frames_read pool all [] read = tt
frames_read pool all (frame ∷ frames) read = read.1

record Reads (class : ClassFile) (all : List Entry) (code : CodeText) : Type 0 where
  pub lines : AreRead class.pool all (flat_map line_uses code.lines)
  pub catches : AreRead class.pool all (flat_map (λ entry. class_use entry.class) code.catches)
  pub frames : AreRead class.pool all (flat_map frame_uses code.frames)

reads : (class : ClassFile) (all : List Entry) (code : CodeText) → AreRead class.pool all (code_uses (Some code)) → Reads class all code
reads class all code read =
    let frames = parts _ (flat_map line_uses code.lines ++ flat_map (λ entry. class_use entry.class) code.catches) (frames_uses code.frames) read.1 in
    let lines = parts _ (flat_map line_uses code.lines) (flat_map (λ entry. class_use entry.class) code.catches) frames.0 in
    record { lines = lines.0; catches = lines.1; frames = frames_read class.pool all code.frames frames.1 }

-- each label that it names stands in it
line_named : (lines : List CodeLine) (line : CodeLine) → LineHasLabels lines line → AllByRecursion (HasLabel lines) (line_labels line)
line_named lines (Here label) has = tt
line_named lines (Do instruction) has = has

labels_stand : (code : CodeText) → IsCode code → AllByRecursion (HasLabel code.lines) (code_labels code)
labels_stand code is =
    let P = HasLabel code.lines in
    both P (flat_map line_labels code.lines ++ flat_map catch_labels code.catches) (flat_map frame_labels code.frames)
    (both P (flat_map line_labels code.lines) (flat_map catch_labels code.catches)
    (each_flat P line_labels code.lines (weaker (LineHasLabels code.lines) (λ line. AllByRecursion P (line_labels line)) (line_named code.lines) code.lines is.lines))
    (each_flat P catch_labels code.catches (weaker (CatchHasLabels code.lines) (λ entry. AllByRecursion P (catch_labels entry)) (λ entry has. (has.0, (has.1, (has.2, tt)))) code.catches is.catches)))
    (frames_named code.lines code.frames is.frames)

-- the places of labels
fewer : (test : ℕ → Bool) (some : List ℕ) → length (filter test some) ≤ length some
fewer test [] = omega arith
fewer test (place ∷ some) = by_test (test place) (fewer test some)
  where
    by_test : (passes : Bool) → length (filter test some) ≤ length some → length (cond passes (place ∷ filter test some) (filter test some)) ≤ suc (length some)
    by_test true next = omega (arith, next)
    by_test false next = omega (arith, next)

ends : (all : List Entry) (place : Label → ℕ) (lines : List CodeLine) → length (code_bytes (code_from all place 0 lines)) ≡ end_from 0 lines
ends all place lines = let is = code_ends all place 0 lines in omega (arith, is)

are_few : (class : ClassFile) (all : List Entry) (code : CodeText) → IsListed class all code → AreFew (labelled_in code)
are_few class all code listed =
    let short = listed.short in
    let end = ends all (place_at code.lines) code.lines in
    let few = places_few 0 code.lines in
    let fewer_still = fewer (among (map (place_at code.lines) (code_labels code))) (places_from 0 code.lines) in
    omega (arith, short, end, few, fewer_still)

labels_placed : (code : CodeText) → IsCode code → AllByRecursion (λ label. among (places_from 0 code.lines) (place_at code.lines label) ≡ true) (code_labels code)
labels_placed code is =
    weaker (HasLabel code.lines) (λ label. among (places_from 0 code.lines) (place_at code.lines label) ≡ true) (stands_among 0 code.lines) (code_labels code) (labels_stand code is)

labels_named : (code : CodeText) → AllByRecursion (λ label. among (map (place_at code.lines) (code_labels code)) (place_at code.lines label) ≡ true) (code_labels code)
labels_named code =
    let named = map (place_at code.lines) (code_labels code) in
    of_map (λ place. among named place ≡ true) (place_at code.lines) (code_labels code) (each_among named)

labelled_among : (named some : List ℕ) (place : ℕ) → among some place ≡ true → among named place ≡ true → among (filter (among named) some) place ≡ true
labelled_among named some place is are = among_filter (among named) some place ∙ ap (λ test. test && among some place) are ∙ is

fixed_in : (code : CodeText) → filter (among (labelled_in code)) (places_from 0 code.lines) ≡ labelled_in code
fixed_in code = filter_again (among (map (place_at code.lines) (code_labels code))) (places_from 0 code.lines) (places_from 0 code.lines) (each_among (places_from 0 code.lines))

stands_in : (code : CodeText) (new : Label → Label) (label : Label) → AreFew (labelled_in code) → among (labelled_in code) (place_at code.lines label) ≡ true
    → place_in (labels_from 0 (lines_at (labelled_in code) new 0 code.lines)) (label_of (labelled_in code) (place_at code.lines label)) ≡ Some (place_at code.lines label)
stands_in code new label few is =
    ap (λ labels. place_in labels (label_of (labelled_in code) (place_at code.lines label))) (labels_are (labelled_in code) new 0 code.lines ∙ ap (marked (labelled_in code)) (fixed_in code))
    ∙ marked_at (labelled_in code) (labelled_in code) (place_at code.lines label) few is (each_among (labelled_in code)) is

pub relabels : (class : ClassFile) (all : List Entry) (code : CodeText) → IsListed class all code → Relabels (labelled_in code) (relabel code) code
relabels class all code listed =
    let few = are_few class all code listed in
    let some = places_from 0 code.lines in
    let named = map (place_at code.lines) (code_labels code) in
    record {
      few = few;
      apart = apart_filter (among named) some (places_apart 0 code.lines);
      fixed = fixed_in code;
      stand =
          weaker (λ label. (among some (place_at code.lines label) ≡ true) × (among named (place_at code.lines label) ≡ true)) (Stands code.lines (lines_at (labelled_in code) (relabel code) 0 code.lines) (relabel code))
          (λ label is. stands_in code (relabel code) label few (labelled_among named some (place_at code.lines label) is.0 is.1)) (code_labels code)
          (joined (λ label. among some (place_at code.lines label) ≡ true) (λ label. among named (place_at code.lines label) ≡ true) (code_labels code) (labels_placed code listed.is) (labels_named code));
      decimals = λ label. label_is (labelled_in code) (place_at code.lines label) few;
    }

-- the places that a body names
insns_name : (all : List Entry) (place : Label → ℕ) (pc : ℕ) (lines : List CodeLine) → flat_map (λ placed. targets_of placed.1.operand) (code_from all place pc lines) ≡ map place (flat_map line_labels lines)
insns_name all place pc [] = refl
insns_name all place pc (Here label ∷ lines) = insns_name all place pc lines
insns_name all place pc (Do instruction ∷ lines) =
    ap (λ first. first ++ flat_map (λ placed. targets_of placed.1.operand) (code_from all place (pc + size_at pc instruction) lines)) (targets_are all place instruction.opcode instruction.operand)
    ∙ ap (λ rest. map place (labels_of instruction.operand) ++ rest) (insns_name all place (pc + size_at pc instruction) lines)
    ∙ sym (map_append place (labels_of instruction.operand) (flat_map line_labels lines))

catches_name : (all : List Entry) (place : Label → ℕ) (catches : List CatchLine) → flat_map handler_places (map (handler_of all place) catches) ≡ map place (flat_map catch_labels catches)
catches_name all place catches = flat_of_map handler_places (handler_of all place) catches ∙ sym (map_of_flat place catch_labels catches)

places_named : (all : List Entry) (code : CodeText) → named_places (body_of all code) (placed_frames (place_at code.lines) code.frames) ≡ map (place_at code.lines) (code_labels code)
places_named all code =
    let place = place_at code.lines in
    let insns = flat_map (λ placed. targets_of placed.1.operand) (code_from all place 0 code.lines) in
    let lines = flat_map line_labels code.lines in
    let catches = flat_map catch_labels code.catches in
    let frames = flat_map frame_labels code.frames in
    ap (λ some. insns ++ flat_map handler_places (map (handler_of all place) code.catches) ++ some) (optional_are place code.frames)
    ∙ ap (λ some. insns ++ some ++ map place frames) (catches_name all place code.catches)
    ∙ ap (λ some. some ++ map place catches ++ map place frames) (insns_name all place 0 code.lines)
    ∙ ap (λ some. some ++ map place frames) (sym (map_append place lines catches))
    ∙ sym (map_append place (lines ++ catches) frames)

places_placed : (all : List Entry) (code : CodeText) → places_of (body_of all code) ≡ places_from 0 code.lines
places_placed all code =
    ap (λ end. places (code_from all (place_at code.lines) 0 code.lines) ++ end ∷ []) (ends all (place_at code.lines) code.lines)
    ∙ places_are all (place_at code.lines) 0 code.lines

labelled_is : (all : List Entry) (code : CodeText) → labelled_places (body_of all code) (placed_frames (place_at code.lines) code.frames) ≡ labelled_in code
labelled_is all code =
    ap (λ named. filter (among named) (places_of (body_of all code))) (places_named all code)
    ∙ ap (filter (among (map (place_at code.lines) (code_labels code)))) (places_placed all code)

-- its frames
frames_listed : (class : ClassFile) (all : List Entry) (method : Method) (code : CodeText) → IsListed class all code
    → listed_frames class method (body_of all code) ≡ placed_frames (place_at code.lines) code.frames
frames_listed class all method code listed =
    let body = body_of all code in
    let place = place_at code.lines in
    ap (map (option_and_then (placed_frame body))) (expanded_are class.pool all code.lines None (start_types class method) code.frames listed.whole (reads class all code listed.read).frames listed.is.ascending)
    ∙ none_missing body place code.frames (
    weaker (λ label. among (places_from 0 code.lines) (place label) ≡ true) (λ label. among (places_of body) (place label) ≡ true) (λ label is. ap (λ some. among some (place label)) (places_placed all code) ∙ is) (flat_map frame_labels code.frames)
    (parts _ (flat_map line_labels code.lines ++ flat_map catch_labels code.catches) (flat_map frame_labels code.frames) (labels_placed code listed.is)).1
    )

-- its lines
line_read : (class : ClassFile) (labelled : List ℕ) (all : List Entry) (place : Label → ℕ) (line : CodeLine) → IsCodeLine line × AreRead class.pool all (line_uses line)
    → LineRead class labelled all place (λ one. label_of labelled (place one)) line
line_read class labelled all place (Here label) known = tt
line_read class labelled all place (Do instruction) known =
    operand_read class all place (label_of labelled) instruction.opcode (head_form instruction.wide instruction.opcode) instruction.operand known.0.1 known.0.2 known.1

lines_read : (class : ClassFile) (all : List Entry) (code : CodeText) → IsListed class all code → AllByRecursion (LineRead class (labelled_in code) all (place_at code.lines) (relabel code)) code.lines
lines_read class all code listed =
    let before = parts IsStatement (map statements.Code code.lines ++ map statements.Catch code.catches) (flat_map frame_statements code.frames) listed.lines.1 in
    let lines = parts IsStatement (map statements.Code code.lines) (map statements.Catch code.catches) before.0 in
    weaker (λ line. IsCodeLine line × AreRead class.pool all (line_uses line)) (LineRead class (labelled_in code) all (place_at code.lines) (relabel code)) (line_read class (labelled_in code) all (place_at code.lines)) code.lines
    (joined IsCodeLine (λ line. AreRead class.pool all (line_uses line)) code.lines (of_map IsStatement statements.Code code.lines lines.0) (of_flat _ line_uses code.lines (reads class all code listed.read).lines))

lines_are : (class : ClassFile) (all : List Entry) (code : CodeText) → IsListed class all code
    → flat_map (code_line_of class (labelled_in code)) (code_from all (place_at code.lines) 0 code.lines) ++ label_line (labelled_in code) (length (code_bytes (code_from all (place_at code.lines) 0 code.lines))) ≡ lines_at (labelled_in code) (relabel code) 0 code.lines
lines_are class all code listed =
    ap (λ end. flat_map (code_line_of class (labelled_in code)) (code_from all (place_at code.lines) 0 code.lines) ++ label_line (labelled_in code) end) (ends all (place_at code.lines) code.lines)
    ∙ lines_listed class (labelled_in code) all (place_at code.lines) (relabel code) 0 code.lines (lines_read class all code listed)

-- its exception table
pub class_read : (pool : List Constant) (all : List Entry) (name : Option (List ℕ)) → AreRead pool all (class_use name) → class_at pool (class_index all name) ≡ name
class_read pool all None read = refl
class_read pool all (Some name) read = read.0.1

catch_read : (class : ClassFile) (all : List Entry) (place : Label → ℕ) (label : ℕ → Label) (entry : CatchLine) → AreRead class.pool all (class_use entry.class)
    → catch_of class label (handler_of all place entry) ≡ catch_by (λ one. label (place one)) entry
catch_read class all place label entry read =
    ap (λ name. record { start = label (place entry.start); end = label (place entry.end); handler = label (place entry.handler); class = name }) (class_read class.pool all entry.class read)

catches_are : (class : ClassFile) (all : List Entry) (place : Label → ℕ) (label : ℕ → Label) (catches : List CatchLine) → AreRead class.pool all (flat_map (λ entry. class_use entry.class) catches)
    → map (catch_of class label) (map (handler_of all place) catches) ≡ map (catch_by (λ one. label (place one))) catches
catches_are class all place label catches read =
    map_twice (catch_of class label) (handler_of all place) catches
    ∙ map_agree (λ entry. catch_of class label (handler_of all place entry)) (catch_by (λ one. label (place one))) (λ entry. AreRead class.pool all (class_use entry.class)) (catch_read class all place label) catches (of_flat _ (λ entry. class_use entry.class) catches read)

-- the whole
abbrev code_of_parts : CodeText → List CodeLine → List CatchLine → List FrameLine → CodeText
code_of_parts code lines catches frames = record { stack = code.stack; locals = code.locals; lines = lines; catches = catches; frames = frames }

pub code_listed : (class : ClassFile) (all : List Entry) (method : Method) (code : CodeText) → IsListed class all code → code_of class method (body_of all code) ≡ code_by (labelled_in code) (relabel code) code
code_listed class all method code listed =
    let body = body_of all code in
    let place = place_at code.lines in
    let frames = placed_frames place code.frames in
    let label = label_of (labelled_in code) in
    ap (λ some. code_with class body some (labelled_places body some)) (frames_listed class all method code listed)
    ∙ ap (λ labelled. code_with class body frames labelled) (labelled_is all code)
    ∙ ap (λ lines. code_of_parts code lines (map (catch_of class label) (map (handler_of all place) code.catches)) (map (frame_line_of label) frames)) (lines_are class all code listed)
    ∙ ap (λ catches. code_of_parts code (lines_at (labelled_in code) (relabel code) 0 code.lines) catches (map (frame_line_of label) frames)) (catches_are class all place label code.catches (reads class all code listed.read).catches)
    ∙ ap (λ some. code_of_parts code (lines_at (labelled_in code) (relabel code) 0 code.lines) (map (catch_by (relabel code)) code.catches) some) (frame_lines_are place label code.frames listed.whole)
