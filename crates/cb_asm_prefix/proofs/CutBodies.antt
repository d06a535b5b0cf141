-- Bodies of code that is cut: with fewer entries of the exception table and fewer frames, and with none of either.
use Rattle.std.proofs.Common.{◌≡◌, ◌≢◌, ◌∙◌, ap, sym, refl, subst, arith, ℕ, ◌<◌, ◌≤◌, ◌^◌, List, [], ◌∷◌, ◌++◌, length, length-append, map, Option, Some, None}
use Rattle.std.specs.List.{AllByRecursion, flat_map}
use Rattle.std.proofs.lemmas.Grind.{flat_map-append}
use Rattle.std.proofs.lemmas.List.{map-append}
use Rattle.cb_text.specs.declared.constant.Constant.{Constant}
use Rattle.cb_insn.specs.Writing.{code_bytes}
use Rattle.cb_classfile.specs.declared.frame_map.MapFrame.{MapFrame}
use Rattle.cb_classfile.specs.Code.{IsPlaced}
use Rattle.cb_classfile.specs.FrameMap.{SpellsFrame, frame_bytes}
use Rattle.cb_classfile.specs.Tables.{u2}
use Rattle.cb_classfile.proofs.Laws.{HasName, HasSpelling, IsBodyOf, IsHandler, code_name, frames_size}
use Rattle.cb_asm_line.specs.Label.{Label}
use Rattle.cb_asm_line.specs.declared.frame.FrameLine.{FrameLine}
use Rattle.cb_asm_line.specs.declared.frame.FrameLine.TheVariants.{Full, Bad}
use Rattle.cb_asm_line.specs.declared.program.CatchLine.{CatchLine}
use Rattle.cb_asm_line.specs.declared.program.CodeLine.{CodeLine}
use Rattle.cb_asm_line.specs.declared.program.CodeText.{CodeText}
use Rattle.cb_asm_record.specs.Entries.{Entry}
use Rattle.cb_asm_record.specs.Labels.{code_from, place_at}
use Rattle.cb_asm_record.specs.Record.{body_of, frame_behind, frames_behind, handler_of}
use Rattle.cb_asm_prefix.proofs.Codes.{IsCodeOf, is_code_of}
use Rattle.cb_asm_prefix.proofs.Lists.{all_front}
use Rattle.cb_asm_prefix.proofs.OpenCode.{closing}

-- the code of a method by its parts
abbrev pub text : ℕ → ℕ → List CodeLine → List CatchLine → List FrameLine → CodeText
text stack locals lines catches frames = record { stack = stack; locals = locals; lines = lines; catches = catches; frames = frames }

pub code_of_body : (entries : List Entry) (pool : List Constant) (code : CodeText) → IsBodyOf pool (body_of entries code) → IsCodeOf pool (code_from entries (place_at code.lines) 0 code.lines)
code_of_body entries pool code is = record { spelled = is.is.code; some = is.is.some; few = is.is.few; constants = is.is.constants }

-- code alone
pub bare_body : (entries : List Entry) (pool : List Constant) (stack locals : ℕ) (lines : List CodeLine) → stack < 2 ^ 16 → locals < 2 ^ 16 → IsCodeOf pool (code_from entries (place_at lines) 0 lines) → HasName pool code_name → IsBodyOf pool (body_of entries (text stack locals lines [] []))
bare_body entries pool stack locals lines stack_fits locals_fit is name = record {
  is = record {
    stack = stack_fits;
    locals = locals_fit;
    code = is.spelled;
    some = is.some;
    few = is.few;
    constants = is.constants;
    handlers_few = omega arith;
    handlers = tt;
    placed = tt;
    frames = record { few = omega arith; each = tt };
    name = λ some. absurd (some refl);
  };
  short = omega (arith, is.few);
  has_name = name;
}

-- an instruction that does nothing
pub nop_code : (entries : List Entry) (pool : List Constant) → IsCodeOf pool (code_from entries (place_at (closing [])) 0 (closing []))
nop_code entries pool =
    is_code_of pool (code_from entries (place_at (closing [])) 0 (closing [])) (0 ∷ []) (record { spelled = (0 ∷ [], [], refl, ([], refl, refl), refl, refl); short = omega arith; reached = (tt, tt) }) (omega arith) (omega arith) (tt, tt)

-- frames at the front of others
record FramesFront (entries : List Entry) (place : Label → ℕ) (previous : Option ℕ) (frames more : List FrameLine) : Type 0 where
  rest : List MapFrame
  is : frames_behind entries place previous (frames ++ more) ≡ frames_behind entries place previous frames ++ rest

frames_front : (entries : List Entry) (place : Label → ℕ) (previous : Option ℕ) (frames more : List FrameLine) → FramesFront entries place previous frames more
frames_front entries place previous [] more = record { rest = frames_behind entries place previous more; is = refl }
frames_front entries place previous (Bad ∷ frames) more = let next = frames_front entries place previous frames more in record { rest = next.rest; is = next.is }
frames_front entries place previous (Full frame ∷ frames) more =
    let next = frames_front entries place (Some (place frame.place)) frames more in
    record { rest = next.rest; is = ap (λ rest. frame_behind entries place previous frame ∷ rest) next.is }

size_front : (front back : List MapFrame) → frames_size front ≤ frames_size (front ++ back)
size_front [] [] = omega arith
size_front [] (frame ∷ back) = omega arith
size_front (frame ∷ front) back =
    omega (
      arith,
      length-append (u2 (length (frame ∷ front))) (flat_map frame_bytes (frame ∷ front)),
      length-append (u2 (length (frame ∷ (front ++ back)))) (flat_map frame_bytes (frame ∷ (front ++ back))),
      ap length (flat_map-append frame_bytes (frame ∷ front) back),
      length-append (flat_map frame_bytes (frame ∷ front)) (flat_map frame_bytes back),
    )

none_front : {X : Type 0} (front back : List X) → front ≢ [] → front ++ back ≢ []
none_front [] back some = absurd (some refl)
none_front (item ∷ front) back some = λ none. absurd cc

-- fewer entries and frames
pub fewer_body : (entries : List Entry) (pool : List Constant) (stack locals : ℕ) (lines : List CodeLine) (catches more_catches : List CatchLine) (frames more_frames : List FrameLine)
    → IsBodyOf pool (body_of entries (text stack locals lines (catches ++ more_catches) (frames ++ more_frames))) → IsBodyOf pool (body_of entries (text stack locals lines catches frames))
fewer_body entries pool stack locals lines catches more_catches frames more_frames of =
    let place = place_at lines in
    let is = of.is in
    let code = code_from entries place 0 lines in
    let handlers = map (handler_of entries place) catches in
    let front = frames_front entries place None frames more_frames in
    let first = frames_behind entries place None frames in
    let same = map-append (handler_of entries place) catches more_catches in
    record {
      is = record {
        stack = is.stack;
        locals = is.locals;
        code = is.code;
        some = is.some;
        few = is.few;
        constants = is.constants;
        handlers_few = omega (arith, is.handlers_few, ap length same, length-append handlers (map (handler_of entries place) more_catches));
        handlers = all_front (IsHandler pool) handlers (map (handler_of entries place) more_catches) (subst (AllByRecursion (IsHandler pool)) same is.handlers);
        placed = all_front (IsPlaced code (length (code_bytes code))) handlers (map (handler_of entries place) more_catches) (subst (AllByRecursion (IsPlaced code (length (code_bytes code)))) same is.placed);
        frames = record {
          few = omega (arith, is.frames.few, ap length front.is, length-append first front.rest);
          each = all_front (HasSpelling (SpellsFrame pool)) first front.rest (subst (AllByRecursion (HasSpelling (SpellsFrame pool))) front.is is.frames.each);
        };
        name = λ some. is.name (λ none. none_front first front.rest some (sym front.is ∙ none));
      };
      short = omega (arith, of.short, ap length same, length-append handlers (map (handler_of entries place) more_catches), ap frames_size front.is, size_front first front.rest);
      has_name = of.has_name;
    }
