-- What is recorded of code, where other labels stand at the places of its own.
use Rattle.std.proofs.Common.{◌≡◌, ◌∙◌, ap, sym, refl, subst, ℕ, ℤ, FitsSigned, Bool, true, false, List, [], ◌∷◌, ◌++◌, map, Option, Some, IsSome, codes, ◌==◌, if◌then◌else◌}
use Rattle.std.specs.List.{AllByRecursion, flat_map}
use Rattle.std.specs.Int.{w32}
use Rattle.std.specs.Option.{unwrap_or}
use Rattle.std.proofs.lemmas.Grind.{flat_map-append}
use Rattle.cb_insn.specs.declared.insn.Operand.TheVariants as operands
use Rattle.cb_insn.specs.declared.insn.Pair.{Pair}
use Rattle.cb_insn.specs.declared.opcode.TheConstants as opcodes
use Rattle.cb_insn.specs.Grammar.{targets_of}
use Rattle.cb_asm_line.specs.declared.frame.FrameType.{FrameType}
use Rattle.cb_asm_line.specs.declared.frame.FrameType.TheVariants.{New}
use Rattle.cb_asm_line.specs.declared.frame.Frame.{Frame}
use Rattle.cb_asm_line.specs.declared.frame.FrameLine.{FrameLine}
use Rattle.cb_asm_line.specs.declared.frame.FrameLine.TheVariants.{Full, Bad}
use Rattle.cb_asm_line.specs.declared.operand.MemberText.{MemberText}
use Rattle.cb_asm_line.specs.declared.operand.Operand.{Operand}
use Rattle.cb_asm_line.specs.declared.operand.Operand.TheVariants.{Member, Branch, Table, Lookup}
use Rattle.cb_asm_line.specs.declared.program.CatchLine.{CatchLine}
use Rattle.cb_asm_line.specs.declared.program.CodeLine.{CodeLine}
use Rattle.cb_asm_line.specs.Label.{Label}
use Rattle.cb_asm_line.specs.Numbers.{IsDecimal}
use Rattle.cb_asm_line.specs.Operands.{HasOptionalForm, NamesKind}
use Rattle.cb_asm_line.specs.Parameters.{argument_words}
use Rattle.cb_asm_line.specs.Statements.{IsFrame, IsOperand, IsType, IsWhole}
use Rattle.cb_insn.specs.declared.form.Form.{Form}
use Rattle.cb_insn.specs.declared.form.Form.TheVariants as forms
use Rattle.cb_classfile.specs.declared.frame_map.MapFrame.{MapFrame}
use Rattle.cb_classfile.specs.declared.handler.Handler.{Handler}
use Rattle.cb_classfile.specs.declared.map_type.MapType.{MapType}
use Rattle.cb_classfile.specs.declared.map_type.MapType.TheVariants as types
use Rattle.cb_classfile.specs.declared.needed.ConstantKind.{ConstantKind}
use Rattle.cb_classfile.specs.declared.needed.ConstantKind.TheVariants as needed
use Rattle.cb_asm_record.specs.Entries.{Entry, Text}
use Rattle.cb_asm_record.specs.Grammar.{FrameHasLabels, HasLabel, TypeHasLabel, frame_places, labels_of}
use Rattle.cb_asm_record.specs.Labels.{member_operand, operand_of, place_at, place_of}
use Rattle.cb_asm_record.specs.Record.{class_index, delta_behind, frame_behind, frames_behind, full_kind, handler_of, map_type_of}
use Rattle.cb_asm_record.specs.Uses.{frame_uses, frames_uses, operand_uses, type_uses}
use Rattle.cb_asm_back.proofs.Frames.{frame_labels, type_labels}
use Rattle.cb_asm_back.proofs.Lists.{always, both, each_map, flat_agree, flat_of_map, map_agree, map_append, map_twice, of_flat, of_map, parts, weaker}
use Rattle.cb_asm_back.proofs.Relabelling.{catch_by, frame_by, frame_line_by, operand_by, type_by}

-- the label that stands for another is in the lines, at the place of the other
abbrev pub Stands : List CodeLine → List CodeLine → (Label → Label) → Label → Type 0
Stands lines others new label = place_of others (new label) ≡ Some (place_at lines label)

pub placed : (lines others : List CodeLine) (new : Label → Label) (label : Label) → Stands lines others new label → place_at others (new label) ≡ place_at lines label
placed lines others new label stands = ap (λ found. unwrap_or found 0) stands

pub present : (lines others : List CodeLine) (new : Label → Label) (label : Label) → Stands lines others new label → HasLabel others (new label)
present lines others new label stands = subst IsSome (sym stands) refl

-- operands, by two maps of labels that agree
abbrev pub Agree : (Label → ℕ) → (Label → ℕ) → (Label → Label) → Label → Type 0
Agree place other new label = other (new label) ≡ place label

labels_agree : (place other : Label → ℕ) (new : Label → Label) (labels : List Label) → AllByRecursion (Agree place other new) labels → map other (map new labels) ≡ map place labels
labels_agree place other new labels agree =
    map_twice other new labels ∙ map_agree (λ label. other (new label)) place (Agree place other new) (λ label is. is) labels agree

abbrev pair_by : (Label → Label) → ℤ × Label → ℤ × Label
pair_by new pair = (pair.0, new pair.1)

abbrev insn_pair : (Label → ℕ) → ℤ × Label → Pair
insn_pair place pair = record { key = pair.0; target = place pair.1 }

pairs_agree : (place other : Label → ℕ) (new : Label → Label) (pairs : List (ℤ × Label)) → AllByRecursion (λ pair. Agree place other new pair.1) pairs
    → map (insn_pair other) (map (pair_by new) pairs) ≡ map (insn_pair place) pairs
pairs_agree place other new [] agree = refl
pairs_agree place other new (pair ∷ pairs) agree =
    ap (λ target. record { key = pair.0; target = target } ∷ map (insn_pair other) (map (pair_by new) pairs)) agree.0
    ∙ ap (λ rest. insn_pair place pair ∷ rest) (pairs_agree place other new pairs agree.1)

pub operand_stands : (all : List Entry) (place other : Label → ℕ) (new : Label → Label) (opcode : ℕ) (operand : Operand) → AllByRecursion (Agree place other new) (labels_of operand)
    → operand_of all other opcode (operand_by new operand) ≡ operand_of all place opcode operand
operand_stands all place other new opcode (Branch label) agree = ap operands.Branch agree.0
operand_stands all place other new opcode (Table low default labels) agree =
    ap (λ first. operands.Table first low (map other (map new labels))) agree.0 ∙ ap (operands.Table (place default) low) (labels_agree place other new labels agree.1)
operand_stands all place other new opcode (Lookup default pairs) agree =
    ap (λ first. operands.Lookup first (map (insn_pair other) (map (pair_by new) pairs))) agree.0
    ∙ ap (operands.Lookup (place default)) (pairs_agree place other new pairs (of_map (Agree place other new) (λ pair. pair.1) pairs agree.1))
operand_stands all place other new opcode operand agree = refl

member_targets : (opcode index : ℕ) (member : MemberText) → targets_of (member_operand opcode index member) ≡ []
member_targets opcode index member = by_test (opcode == opcodes.INVOKEINTERFACE)
  where
    by_test : (test : Bool) → targets_of (if test then operands.Interface index (argument_words member.descriptor) else operands.Pool index) ≡ []
    by_test true = refl
    by_test false = refl

pub targets_are : (all : List Entry) (place : Label → ℕ) (opcode : ℕ) (operand : Operand) → targets_of (operand_of all place opcode operand) ≡ map place (labels_of operand)
targets_are all place opcode (Member member) = member_targets opcode _ member
targets_are all place opcode (Lookup default pairs) =
    ap (λ rest. place default ∷ rest) (map_twice {Y = Pair} (λ pair. pair.target) (λ pair. record { key = pair.0; target = place pair.1 }) pairs ∙ sym (map_twice place (λ pair. pair.1) pairs))
targets_are all place opcode operand = refl

pub labels_by : (new : Label → Label) (operand : Operand) → labels_of (operand_by new operand) ≡ map new (labels_of operand)
labels_by new (Lookup default pairs) =
    ap (λ rest. new default ∷ rest) (map_twice {Y = ℤ × Label} (λ pair. pair.1) (λ pair. (pair.0, new pair.1)) pairs ∙ sym (map_twice new (λ pair. pair.1) pairs))
labels_by new operand = refl

pub operand_uses_by : (new : Label → Label) (operand : Operand) → operand_uses (operand_by new operand) ≡ operand_uses operand
operand_uses_by new (Branch label) = refl
operand_uses_by new operand = refl

-- its form and its numbers are the same
names_by : (new : Label → Label) (operand : Operand) (kind : Option ConstantKind) → NamesKind kind operand → NamesKind kind (operand_by new operand)
names_by new (Branch label) (Some needed.Loadable) names = names
names_by new (Table low default labels) (Some needed.Loadable) names = names
names_by new (Lookup default pairs) (Some needed.Loadable) names = names
names_by new operand kind names = names

pub form_by : (new : Label → Label) (operand : Operand) (kind : Option ConstantKind) (form : Option Form) → HasOptionalForm kind form operand → HasOptionalForm kind form (operand_by new operand)
form_by new (Branch label) kind (Some forms.PoolByte) has = names_by new (Branch label) kind has
form_by new (Branch label) kind (Some forms.Pool) has = names_by new (Branch label) kind has
form_by new (Branch label) kind (Some forms.Interface) has = names_by new (Branch label) kind has
form_by new (Table low default labels) kind (Some forms.PoolByte) has = names_by new (Table low default labels) kind has
form_by new (Table low default labels) kind (Some forms.Pool) has = names_by new (Table low default labels) kind has
form_by new (Table low default labels) kind (Some forms.Interface) has = names_by new (Table low default labels) kind has
form_by new (Lookup default pairs) kind (Some forms.PoolByte) has = names_by new (Lookup default pairs) kind has
form_by new (Lookup default pairs) kind (Some forms.Pool) has = names_by new (Lookup default pairs) kind has
form_by new (Lookup default pairs) kind (Some forms.Interface) has = names_by new (Lookup default pairs) kind has
form_by new operand kind form has = has

abbrev pub HasDecimals : (Label → Label) → Type 0
HasDecimals new = (label : Label) → IsDecimal (new label)

pub operand_is_by : (new : Label → Label) (operand : Operand) → HasDecimals new → IsOperand operand → IsOperand (operand_by new operand)
operand_is_by new (Branch label) decimals is = decimals label
operand_is_by new (Table low default labels) decimals is = (is.0, decimals default, each_map IsDecimal new labels (always (λ label. IsDecimal (new label)) decimals labels))
operand_is_by new (Lookup default pairs) decimals is =
    (decimals default, each_map (λ pair. FitsSigned w32 pair.0 × IsDecimal pair.1) (λ pair. (pair.0, new pair.1)) pairs (weaker (λ pair. FitsSigned w32 pair.0 × IsDecimal pair.1) (λ pair. FitsSigned w32 pair.0 × IsDecimal (new pair.1)) (λ pair is. (is.0, decimals pair.1)) pairs is.1))
operand_is_by new operand decimals is = is

-- entries of the exception table
abbrev pub catch_labels : CatchLine → List Label
catch_labels entry = entry.start ∷ entry.end ∷ entry.handler ∷ []

abbrev handler_at : List Entry → CatchLine → ℕ → ℕ → ℕ → Handler
handler_at all entry start end handler = record { start = start; end = end; handler = handler; catch_type = class_index all entry.class }

pub catch_stands : (all : List Entry) (place other : Label → ℕ) (new : Label → Label) (entry : CatchLine) → AllByRecursion (Agree place other new) (catch_labels entry)
    → handler_of all other (catch_by new entry) ≡ handler_of all place entry
catch_stands all place other new entry agree =
    ap (λ start. handler_at all entry start (other (new entry.end)) (other (new entry.handler))) agree.0
    ∙ ap (λ end. handler_at all entry (place entry.start) end (other (new entry.handler))) agree.1.0
    ∙ ap (λ handler. handler_at all entry (place entry.start) (place entry.end) handler) agree.1.1.0

-- the types of frames
type_stands : (all : List Entry) (place other : Label → ℕ) (new : Label → Label) (type : FrameType Label) → AllByRecursion (Agree place other new) (type_labels type)
    → map_type_of all other (type_by new type) ≡ map_type_of all place type
type_stands all place other new (New label) agree = ap types.Uninitialized agree.0
type_stands all place other new type agree = refl

types_stand : (all : List Entry) (place other : Label → ℕ) (new : Label → Label) (some : List (FrameType Label)) → AllByRecursion (Agree place other new) (flat_map type_labels some)
    → map (map_type_of all other) (map (type_by new) some) ≡ map (map_type_of all place) some
types_stand all place other new some agree =
    map_twice (map_type_of all other) (type_by new) some
    ∙ map_agree (λ type. map_type_of all other (type_by new type)) (map_type_of all place) (λ type. AllByRecursion (Agree place other new) (type_labels type)) (type_stands all place other new) some (of_flat (Agree place other new) type_labels some agree)

-- what is said of the labels of a frame, by its parts
abbrev pub ByParts : (Label → Type 0) → Frame Label → Type 0
ByParts P frame = P frame.place × AllByRecursion P (flat_map type_labels frame.locals) × AllByRecursion P (flat_map type_labels frame.stack)

pub by_parts : (P : Label → Type 0) (frame : Frame Label) → AllByRecursion P (frame_labels (Full frame)) → ByParts P frame
by_parts P frame each =
    let types = parts P (flat_map type_labels frame.locals) (flat_map type_labels frame.stack) (subst (AllByRecursion P) (flat_map-append type_labels frame.locals frame.stack) each.1) in
    (each.0, types.0, types.1)

abbrev frame_of : Option ℕ → ℕ → List MapType → List MapType → MapFrame
frame_of previous place locals stack = record { kind = full_kind; delta = delta_behind previous place; locals = locals; stack = stack }

pub frames_stand : (all : List Entry) (place other : Label → ℕ) (new : Label → Label) (previous : Option ℕ) (frames : List FrameLine) → AllByRecursion (Agree place other new) (flat_map frame_labels frames)
    → frames_behind all other previous (map (frame_line_by new) frames) ≡ frames_behind all place previous frames
frames_stand all place other new previous [] agree = refl
frames_stand all place other new previous (Bad ∷ frames) agree = frames_stand all place other new previous frames agree
frames_stand all place other new previous (Full frame ∷ frames) agree =
    let each = parts (Agree place other new) (frame_labels (Full frame)) (flat_map frame_labels frames) agree in
    let here = by_parts (Agree place other new) frame each.0 in
    let locals = map (map_type_of all other) (map (type_by new) frame.locals) in
    let stack = map (map_type_of all other) (map (type_by new) frame.stack) in
    ap (λ at. frame_of previous at locals stack ∷ frames_behind all other (Some at) (map (frame_line_by new) frames)) here.0
    ∙ ap (λ some. frame_of previous (place frame.place) some stack ∷ frames_behind all other (Some (place frame.place)) (map (frame_line_by new) frames)) (types_stand all place other new frame.locals here.1)
    ∙ ap (λ some. frame_of previous (place frame.place) (map (map_type_of all place) frame.locals) some ∷ frames_behind all other (Some (place frame.place)) (map (frame_line_by new) frames)) (types_stand all place other new frame.stack here.2)
    ∙ ap (λ rest. frame_behind all place previous frame ∷ rest) (frames_stand all place other new (Some (place frame.place)) frames each.1)

-- frames use what they used
type_uses_by : (new : Label → Label) (type : FrameType Label) → type_uses (type_by new type) ≡ type_uses type
type_uses_by new (New label) = refl
type_uses_by new type = refl

some_uses_by : (new : Label → Label) (some : List (FrameType Label)) → flat_map type_uses (map (type_by new) some) ≡ flat_map type_uses some
some_uses_by new some =
    flat_of_map type_uses (type_by new) some
    ∙ flat_agree (λ type. type_uses (type_by new type)) type_uses (λ type. Unit {0}) (λ type is. type_uses_by new type) some (always (λ type. Unit {0}) (λ type. tt) some)

frame_uses_by : (new : Label → Label) (frame : FrameLine) → frame_uses (frame_line_by new frame) ≡ frame_uses frame
frame_uses_by new Bad = refl
frame_uses_by new (Full frame) = ap (flat_map type_uses) (sym (map_append (type_by new) frame.locals frame.stack)) ∙ some_uses_by new (frame.locals ++ frame.stack)

all_uses_by : (new : Label → Label) (frames : List FrameLine) → flat_map frame_uses (map (frame_line_by new) frames) ≡ flat_map frame_uses frames
all_uses_by new frames =
    flat_of_map frame_uses (frame_line_by new) frames
    ∙ flat_agree (λ frame. frame_uses (frame_line_by new frame)) frame_uses (λ frame. Unit {0}) (λ frame is. frame_uses_by new frame) frames (always (λ frame. Unit {0}) (λ frame. tt) frames)

pub frames_uses_by : (new : Label → Label) (frames : List FrameLine) → frames_uses (map (frame_line_by new) frames) ≡ frames_uses frames
frames_uses_by new [] = refl
frames_uses_by new (frame ∷ frames) = ap (λ uses. Text (codes "StackMapTable") ∷ uses) (all_uses_by new (frame ∷ frames))

-- their labels are there, at places that rise
type_has : (lines others : List CodeLine) (new : Label → Label) (type : FrameType Label) → AllByRecursion (Stands lines others new) (type_labels type) → TypeHasLabel others (type_by new type)
type_has lines others new (New label) stand = present lines others new label stand.0
type_has lines others new type stand = tt

types_have : (lines others : List CodeLine) (new : Label → Label) (some : List (FrameType Label)) → AllByRecursion (Stands lines others new) (flat_map type_labels some)
    → AllByRecursion (TypeHasLabel others) (map (type_by new) some)
types_have lines others new some stand =
    each_map (TypeHasLabel others) (type_by new) some (weaker (λ type. AllByRecursion (Stands lines others new) (type_labels type)) (λ type. TypeHasLabel others (type_by new type)) (type_has lines others new) some (of_flat (Stands lines others new) type_labels some stand))

pub frames_have : (lines others : List CodeLine) (new : Label → Label) (frames : List FrameLine) → AllByRecursion IsWhole frames → AllByRecursion (Stands lines others new) (flat_map frame_labels frames)
    → AllByRecursion (FrameHasLabels others) (map (frame_line_by new) frames)
frames_have lines others new [] whole stand = tt
frames_have lines others new (Bad ∷ frames) whole stand = absurd whole.0
frames_have lines others new (Full frame ∷ frames) whole stand =
    let each = parts (Stands lines others new) (frame_labels (Full frame)) (flat_map frame_labels frames) stand in
    let here = by_parts (Stands lines others new) frame each.0 in
    ((present lines others new frame.place here.0, types_have lines others new frame.locals here.1, types_have lines others new frame.stack here.2), frames_have lines others new frames whole.1 each.1)

pub frames_rise : (lines others : List CodeLine) (new : Label → Label) (frames : List FrameLine) → AllByRecursion (Stands lines others new) (flat_map frame_labels frames)
    → frame_places others (map (frame_line_by new) frames) ≡ frame_places lines frames
frames_rise lines others new [] stand = refl
frames_rise lines others new (Bad ∷ frames) stand = frames_rise lines others new frames stand
frames_rise lines others new (Full frame ∷ frames) stand =
    let each = parts (Stands lines others new) (frame_labels (Full frame)) (flat_map frame_labels frames) stand in
    ap (λ first. first ∷ frame_places others (map (frame_line_by new) frames)) (placed lines others new frame.place each.0.0)
    ∙ ap (λ rest. place_at lines frame.place ∷ rest) (frames_rise lines others new frames each.1)

-- and they are of the format
type_is_by : (new : Label → Label) → HasDecimals new → (type : FrameType Label) → IsType type → IsType (type_by new type)
type_is_by new decimals (New label) is = decimals label
type_is_by new decimals type is = is

pub frame_is_by : (new : Label → Label) (frame : Frame Label) → HasDecimals new → IsFrame frame → IsFrame (frame_by new frame)
frame_is_by new frame decimals is =
    (decimals frame.place, each_map IsType (type_by new) frame.locals (weaker IsType (λ type. IsType (type_by new type)) (type_is_by new decimals) frame.locals is.1), each_map IsType (type_by new) frame.stack (weaker IsType (λ type. IsType (type_by new type)) (type_is_by new decimals) frame.stack is.2))

-- the labels that they name stand where those of a program do
types_named : (lines : List CodeLine) (some : List (FrameType Label)) → AllByRecursion (TypeHasLabel lines) some → AllByRecursion (HasLabel lines) (flat_map type_labels some)
types_named lines [] has = tt
types_named lines (New label ∷ some) has = (has.0, types_named lines some has.1)
types_named lines (type ∷ some) has = types_named lines some has.1

pub frames_named : (lines : List CodeLine) (frames : List FrameLine) → AllByRecursion (FrameHasLabels lines) frames → AllByRecursion (HasLabel lines) (flat_map frame_labels frames)
frames_named lines [] has = tt
frames_named lines (Bad ∷ frames) has = absurd has.0
frames_named lines (Full frame ∷ frames) has =
    both (HasLabel lines) (frame_labels (Full frame)) (flat_map frame_labels frames)
    (has.0.0, subst (AllByRecursion (HasLabel lines)) (sym (flat_map-append type_labels frame.locals frame.stack)) (both (HasLabel lines) (flat_map type_labels frame.locals) (flat_map type_labels frame.stack) (types_named lines frame.locals has.0.1) (types_named lines frame.stack has.0.2)))
    (frames_named lines frames has.1)
