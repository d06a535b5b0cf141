-- The body of a method, of its parts.
use Rattle.std.proofs.Common.{◌≡◌, ◌∙◌, ap, sym, subst, ℕ, List, map, None}
use Rattle.std.specs.List.{AllByRecursion}
use Rattle.cb_classfile.specs.declared.body.Body.{Body}
use Rattle.cb_classfile.specs.declared.frame_map.MapFrame.{MapFrame}
use Rattle.cb_classfile.specs.declared.handler.Handler.{Handler}
use Rattle.cb_insn.specs.declared.insn.Insn.{Insn}
use Rattle.cb_asm_line.specs.declared.frame.FrameLine.{FrameLine}
use Rattle.cb_asm_line.specs.declared.program.CatchLine.{CatchLine}
use Rattle.cb_asm_line.specs.declared.program.CodeLine.{CodeLine}
use Rattle.cb_asm_line.specs.declared.program.CodeText.{CodeText}
use Rattle.cb_asm_record.specs.declared.stop.Stop.{Stop}
use Rattle.cb_asm_record.specs.Entries.{Entry}
use Rattle.cb_asm_record.specs.Grammar.{CatchHasLabels}
use Rattle.cb_asm_record.specs.Inner.{AreFrames, AreInstructions, Gives, HasBody, IsLaid, Refuses}
use Rattle.cb_asm_record.specs.Labels.{code_from, place_at}
use Rattle.cb_asm_record.specs.Record.{body_of, frames_behind, handler_of}

body : CodeText → List (ℕ × Insn) → List Handler → List MapFrame → Body
body code instructions handlers frames =
    record { max_stack = code.stack; max_locals = code.locals; code = instructions; handlers = handlers; frames = frames }

module _ (code : CodeText) (labels : List CodeLine) (laid : Gives code.lines (IsLaid code.lines) labels) where
  pub refused_lines : (lines : List CodeLine) (stop : Stop) → lines ≡ code.lines → Refuses (AreInstructions labels lines) stop → Refuses (HasBody code) stop
  refused_lines lines stop is refused = λ stopped has.
      refused stopped (subst (λ some. AreInstructions some lines) (sym laid.is) (subst (AreInstructions code.lines) (sym is) has.lines))

  pub refused_catches : (catches : List CatchLine) (stop : Stop) → catches ≡ code.catches → Refuses (AllByRecursion (CatchHasLabels labels) catches) stop → Refuses (HasBody code) stop
  refused_catches catches stop is refused = λ stopped has.
      refused stopped (subst (λ some. AllByRecursion (CatchHasLabels some) catches) (sym laid.is) (subst (AllByRecursion (CatchHasLabels code.lines)) (sym is) has.catches))

  pub refused_frames : (frames : List FrameLine) (stop : Stop) → frames ≡ code.frames → Refuses (AreFrames labels frames) stop → Refuses (HasBody code) stop
  refused_frames frames stop is refused = λ stopped has.
      refused stopped (subst (λ some. AreFrames some frames) (sym laid.is) (subst (AreFrames code.lines) (sym is) has.frames))

  pub embodied : (entries : List Entry) (lines : List CodeLine) (catches : List CatchLine) (some : List FrameLine) (instructions : List (ℕ × Insn)) (handlers : List Handler) (frames : List MapFrame)
      → lines ≡ code.lines → catches ≡ code.catches → some ≡ code.frames
      → Gives (code_from entries (place_at labels) 0 lines) (AreInstructions labels lines) instructions
      → Gives (map (handler_of entries (place_at labels)) catches) (AllByRecursion (CatchHasLabels labels) catches) handlers
      → Gives (frames_behind entries (place_at labels) None some) (AreFrames labels some) frames
      → Gives (body_of entries code) (HasBody code) (record { max_stack = code.stack; max_locals = code.locals; code = instructions; handlers = handlers; frames = frames })
  unfolding body
  embodied entries lines catches some instructions handlers frames lines_are catches_are frames_are instructed handled framed = record {
    is =
        ap (λ one. body code one handlers frames) (instructed.is ∙ ap (λ at. code_from entries (place_at at) 0 lines) laid.is ∙ ap (code_from entries (place_at code.lines) 0) lines_are)
        ∙ ap (λ one. body code (code_from entries (place_at code.lines) 0 code.lines) one frames) (handled.is ∙ ap (λ at. map (handler_of entries (place_at at)) catches) laid.is ∙ ap (map (handler_of entries (place_at code.lines))) catches_are)
        ∙ ap (λ one. body code (code_from entries (place_at code.lines) 0 code.lines) (map (handler_of entries (place_at code.lines)) code.catches) one) (framed.is ∙ ap (λ at. frames_behind entries (place_at at) None some) laid.is ∙ ap (frames_behind entries (place_at code.lines) None) frames_are);
    asked = record {
      laid = laid.asked;
      lines = subst (AreInstructions code.lines) lines_are (subst (λ at. AreInstructions at lines) laid.is instructed.asked);
      catches = subst (AllByRecursion (CatchHasLabels code.lines)) catches_are (subst (λ at. AllByRecursion (CatchHasLabels at) catches) laid.is handled.asked);
      frames = subst (AreFrames code.lines) frames_are (subst (λ at. AreFrames at some) laid.is framed.asked);
    };
  }
