-- Frames are read back, and stand with other labels.
use Rattle.std.proofs.Common.{◌≡◌, ◌∙◌, ap, sym, refl, subst, arith, ℕ, Bool, true, ◌&&◌, List, [], ◌∷◌, ◌++◌, map, Option, Some, None, option_and_then, option_map, if◌then◌else◌}
use Rattle.std.specs.List.{AllByRecursion, flat_map, list_all}
use Rattle.std.proofs.lemmas.Grind.{flat_map-append}
use Rattle.cb_text.specs.declared.constant.Constant.{Constant}
use Rattle.cb_insn.specs.Places.{Rise}
use Rattle.cb_classfile.specs.declared.body.Body.{Body}
use Rattle.cb_asm_line.specs.declared.frame.FrameType.{FrameType}
use Rattle.cb_asm_line.specs.declared.frame.FrameType.TheVariants.{Top, Int, Long, Null, This, Object, New}
use Rattle.cb_asm_line.specs.declared.frame.Frame.{Frame}
use Rattle.cb_asm_line.specs.declared.frame.FrameLine.{FrameLine}
use Rattle.cb_asm_line.specs.declared.frame.FrameLine.TheVariants.{Full, Bad}
use Rattle.cb_asm_line.specs.declared.program.CodeLine.{CodeLine}
use Rattle.cb_asm_line.specs.Label.{Label}
use Rattle.cb_asm_line.specs.Statements.{IsWhole}
use Rattle.cb_asm_record.specs.Entries.{Entry}
use Rattle.cb_asm_record.specs.Grammar.{frame_places as line_places}
use Rattle.cb_asm_record.specs.Labels.{place_at}
use Rattle.cb_asm_record.specs.Record.{delta_behind, frames_behind, map_type_of}
use Rattle.cb_asm_record.specs.Uses.{frame_uses, type_uses}
use Rattle.cb_classfile.specs.Expansion.{all_of, place_behind}
use Rattle.cb_asm_list.specs.Expansion.{Types, expanded_behind, frame_at, type_in, types_in}
use Rattle.cb_asm_list.specs.Listing.{among, frame_line_of, frame_places, optional_places, placed_frame, places_of, type_of, type_places}
use Rattle.cb_asm_back.proofs.Lists.{always, each_map, flat_agree, flat_of_map, map_agree, map_append, map_of_flat, map_twice, parts}
use Rattle.cb_asm_back.proofs.Relabelling.{AreRead, frame_line_by, type_by}

-- the labels that frames name
abbrev pub type_labels : FrameType Label → List Label
type_labels (New label) = label ∷ []
type_labels other = []

abbrev pub frame_labels : FrameLine → List Label
frame_labels (Full frame) = frame.place ∷ flat_map type_labels (frame.locals ++ frame.stack)
frame_labels Bad = []

-- a frame by places
abbrev pub place_type : (Label → ℕ) → FrameType Label → FrameType ℕ
place_type place Top = Top
place_type place Int = Int
place_type place Long = Long
place_type place Null = Null
place_type place This = This
place_type place (Object name) = Object name
place_type place (New label) = New (place label)

abbrev pub frame_in : (Label → ℕ) → Frame Label → Frame ℕ
frame_in place frame = record { place = place frame.place; locals = map (place_type place) frame.locals; stack = map (place_type place) frame.stack }

abbrev pub placed_frames : (Label → ℕ) → List FrameLine → List (Option (Frame ℕ))
placed_frames place [] = []
placed_frames place (Full frame ∷ frames) = Some (frame_in place frame) ∷ placed_frames place frames
placed_frames place (Bad ∷ frames) = placed_frames place frames

-- types are read back
type_read : (pool : List Constant) (all : List Entry) (place : Label → ℕ) (type : FrameType Label) → AreRead pool all (type_uses type) → type_in pool (map_type_of all place type) ≡ Some (place_type place type)
type_read pool all place (Object name) read = ap (option_map Object) read.0.1
type_read pool all place other read = refl

types_read : (pool : List Constant) (all : List Entry) (place : Label → ℕ) (types : List (FrameType Label)) → AreRead pool all (flat_map type_uses types)
    → types_in pool (map (map_type_of all place) types) ≡ Some (map (place_type place) types)
types_read pool all place [] read = refl
types_read pool all place (type ∷ types) read =
    let read_parts = parts _ (type_uses type) (flat_map type_uses types) read in
    ap (λ first. all_of (first ∷ map (type_in pool) (map (map_type_of all place) types))) (type_read pool all place type read_parts.0)
    ∙ ap (option_map (λ rest. place_type place type ∷ rest)) (types_read pool all place types read_parts.1)

-- places that rise behind another, if there is one
abbrev pub RiseBehind : Option ℕ → List ℕ → Type 0
RiseBehind None places = Rise places
RiseBehind (Some previous) places = Rise (previous ∷ places)

place_again : (previous : Option ℕ) (place : ℕ) (places : List ℕ) → RiseBehind previous (place ∷ places) → place_behind previous (delta_behind previous place) ≡ place
place_again None place places rise = refl
place_again (Some previous) place places rise = let above = rise.0 in omega (arith, above)

rise_on : (previous : Option ℕ) (place : ℕ) (places : List ℕ) → RiseBehind previous (place ∷ places) → Rise (place ∷ places)
rise_on None place places rise = rise
rise_on (Some previous) place places rise = rise.1

-- frames are
pub expanded_are : (pool : List Constant) (all : List Entry) (lines : List CodeLine) (previous : Option ℕ) (locals : Option Types) (frames : List FrameLine)
    → AllByRecursion IsWhole frames → AreRead pool all (flat_map frame_uses frames) → RiseBehind previous (line_places lines frames)
    → expanded_behind pool previous locals (frames_behind all (place_at lines) previous frames) ≡ placed_frames (place_at lines) frames
expanded_are pool all lines previous locals [] whole read rise = refl
expanded_are pool all lines previous locals (Bad ∷ frames) whole read rise = absurd whole.0
expanded_are pool all lines previous locals (Full frame ∷ frames) whole read rise =
    let place = place_at lines in
    let read_parts = parts _ (flat_map type_uses (frame.locals ++ frame.stack)) (flat_map frame_uses frames) read in
    let types = parts _ (flat_map type_uses frame.locals) (flat_map type_uses frame.stack) (subst (AreRead pool all) (flat_map-append type_uses frame.locals frame.stack) read_parts.0) in
    let rest = frames_behind all place (Some (place frame.place)) frames in
    let have = types_in pool (map (map_type_of all place) frame.locals) in
    let stacked = types_in pool (map (map_type_of all place) frame.stack) in
    ap (λ at. frame_at at have stacked ∷ expanded_behind pool (Some at) have rest) (place_again previous (place frame.place) (line_places lines frames) rise)
    ∙ ap (λ now. frame_at (place frame.place) now stacked ∷ expanded_behind pool (Some (place frame.place)) now rest) (types_read pool all place frame.locals types.0)
    ∙ ap (λ now. frame_at (place frame.place) (Some (map (place_type place) frame.locals)) now ∷ expanded_behind pool (Some (place frame.place)) (Some (map (place_type place) frame.locals)) rest) (types_read pool all place frame.stack types.1)
    ∙ ap (λ others. Some (frame_in place frame) ∷ others) (expanded_are pool all lines (Some (place frame.place)) (Some (map (place_type place) frame.locals)) frames whole.1 read_parts.1 (rise_on previous (place frame.place) (line_places lines frames) rise))

-- the places that a frame names are those of its labels
type_places_are : (place : Label → ℕ) (type : FrameType Label) → type_places (place_type place type) ≡ map place (type_labels type)
type_places_are place (New label) = refl
type_places_are place other = refl

frame_places_are : (place : Label → ℕ) (frame : Frame Label) → frame_places (frame_in place frame) ≡ map place (frame_labels (Full frame))
frame_places_are place frame =
    let types = frame.locals ++ frame.stack in
    ap (λ rest. place frame.place ∷ rest) (
    ap (flat_map type_places) (sym (map_append (place_type place) frame.locals frame.stack))
    ∙ flat_of_map type_places (place_type place) types
    ∙ flat_agree (λ type. type_places (place_type place type)) (λ type. map place (type_labels type)) (λ type. Unit {0}) (λ type is. type_places_are place type) types (always (λ type. Unit {0}) (λ type. tt) types)
    ∙ sym (map_of_flat place type_labels types)
    )

pub optional_are : (place : Label → ℕ) (frames : List FrameLine) → flat_map optional_places (placed_frames place frames) ≡ map place (flat_map frame_labels frames)
optional_are place [] = refl
optional_are place (Bad ∷ frames) = optional_are place frames
optional_are place (Full frame ∷ frames) =
    ap (λ first. first ++ flat_map optional_places (placed_frames place frames)) (frame_places_are place frame)
    ∙ ap (λ rest. map place (frame_labels (Full frame)) ++ rest) (optional_are place frames)
    ∙ sym (map_append place (frame_labels (Full frame)) (flat_map frame_labels frames))

-- where each of them may have a label, no frame is missing
all_pass : (test : ℕ → Bool) (places : List ℕ) → AllByRecursion (λ place. test place ≡ true) places → list_all test places ≡ true
all_pass test [] each = refl
all_pass test (place ∷ places) each = ap (λ first. first && list_all test places) each.0 ∙ all_pass test places each.1

pub none_missing : (body : Body) (place : Label → ℕ) (frames : List FrameLine) → AllByRecursion (λ label. among (places_of body) (place label) ≡ true) (flat_map frame_labels frames)
    → map (option_and_then (placed_frame body)) (placed_frames place frames) ≡ placed_frames place frames
none_missing body place [] each = refl
none_missing body place (Bad ∷ frames) each = none_missing body place frames each
none_missing body place (Full frame ∷ frames) each =
    let each_parts = parts _ (frame_labels (Full frame)) (flat_map frame_labels frames) each in
    let here = subst (AllByRecursion (λ at. among (places_of body) at ≡ true)) (sym (frame_places_are place frame)) (each_map (λ at. among (places_of body) at ≡ true) place (frame_labels (Full frame)) each_parts.0) in
    ap (λ test. (if test then Some (frame_in place frame) else None) ∷ map (option_and_then (placed_frame body)) (placed_frames place frames)) (all_pass (among (places_of body)) (frame_places (frame_in place frame)) here)
    ∙ ap (λ rest. Some (frame_in place frame) ∷ rest) (none_missing body place frames each_parts.1)

-- their lines have the labels of those places
type_again : (place : Label → ℕ) (label : ℕ → Label) (type : FrameType Label) → type_of label (place_type place type) ≡ type_by (λ one. label (place one)) type
type_again place label (New one) = refl
type_again place label other = refl

types_again : (place : Label → ℕ) (label : ℕ → Label) (types : List (FrameType Label)) → map (type_of label) (map (place_type place) types) ≡ map (type_by (λ one. label (place one))) types
types_again place label types =
    map_twice (type_of label) (place_type place) types
    ∙ map_agree (λ type. type_of label (place_type place type)) (type_by (λ one. label (place one))) (λ type. Unit {0}) (λ type is. type_again place label type) types (always (λ type. Unit {0}) (λ type. tt) types)

pub frame_lines_are : (place : Label → ℕ) (label : ℕ → Label) (frames : List FrameLine) → AllByRecursion IsWhole frames
    → map (frame_line_of label) (placed_frames place frames) ≡ map (frame_line_by (λ one. label (place one))) frames
frame_lines_are place label [] whole = refl
frame_lines_are place label (Bad ∷ frames) whole = absurd whole.0
frame_lines_are place label (Full frame ∷ frames) whole =
    ap (λ locals. Full (record { place = label (place frame.place); locals = locals; stack = map (type_of label) (map (place_type place) frame.stack) }) ∷ map (frame_line_of label) (placed_frames place frames)) (types_again place label frame.locals)
    ∙ ap (λ stack. Full (record { place = label (place frame.place); locals = map (type_by (λ one. label (place one))) frame.locals; stack = stack }) ∷ map (frame_line_of label) (placed_frames place frames)) (types_again place label frame.stack)
    ∙ ap (λ rest. frame_line_by (λ one. label (place one)) (Full frame) ∷ rest) (frame_lines_are place label frames whole.1)
