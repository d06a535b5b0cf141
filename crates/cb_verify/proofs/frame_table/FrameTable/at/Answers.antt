use Rattle.std.proofs.Common.{◌≡◌, ◌∙◌, ap, refl, sym, ℕ, List, Some, None, length}
use Rattle.std.specs.Prelude.{option_copied, option_map, slice_get}
use Rattle.std.proofs.lemmas.Bool.{ltb-true}
use Rattle.std.proofs.lemmas.Option.{slice_get_read}
use Rattle.cb_verify.specs.Frames.{Frame}
use Rattle.cb_verify.proofs.Tables.{frame_found}
use Rattle.cb_verify.proofs.frame_table.FrameTable.at.Goals as goal

pub returns-in_err-turn : goal.returns-in_err-turn
returns-in_err-turn c =
    ap option_copied c.from_residual.ensures
    ∙ frame_found c.self.inside.frames c.args.self.now c.self.inside.turns c.args.pc None c.self.view_is c.self.invariant c.in_err-turn.ensures

pub returns : goal.returns
returns c =
    let frames : List (ℕ × Frame) = c.as_slice.result.now in
    let there : slice_get frames c.in_ok-turn.turn ≡ Some c.in_ok-entry.entry.now =
    slice_get_read frames (length frames) c.in_ok-turn.turn c.in_ok-entry.entry.now refl (ltb-true c.in_ok-turn.turn (length frames) (sym c.in_ok-entry.ensures.lookup.0)) c.in_ok-entry.ensures.lookup.1 in
    ap (option_map (λ (entry : ℕ × Frame). entry.1)) (sym there ∙ ap (λ (frames : List (ℕ × Frame)). slice_get frames c.in_ok-turn.turn) c.as_slice.ensures)
    ∙ frame_found c.self.inside.frames c.args.self.now c.self.inside.turns c.args.pc (Some c.in_ok-turn.turn) c.self.view_is c.self.invariant c.in_ok-turn.ensures
