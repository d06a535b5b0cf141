use Rattle.std.proofs.Common.{ap, ◌∙◌, List, Option, Some, ℕ, sym}
use Rattle.cb_asm_line.specs.Lines.{lines_text}
use Rattle.cb_asm_line.specs.Spelling.{code_lines}
use Rattle.cb_asm_line.specs.declared.frame.Frame.{Frame}
use Rattle.cb_asm_list.specs.Listing.{code_of, code_with, labelled_places}
use Rattle.cb_asm_list.proofs.Texts.{as_told}
use Rattle.cb_asm_list.proofs.body.push_body.Goals as goal

pub returns : goal.returns
returns c =
    let class = c.args.class.now in
    let body = c.args.body.now in
    let text_of : List (Option (Frame ℕ)) → List ℕ → List ℕ = λ frames labelled. lines_text (code_lines (Some (code_with class body frames labelled))) in
    as_told c.push_lines.result _ _ (text_of c.in_ok-frames.frames c.in_ok-labels.labels) (lines_text (code_lines (Some (code_of class c.args.method.now body))))
    (sym (ap (text_of c.in_ok-frames.frames) c.in_ok-labels.ensures ∙ ap (λ frames. text_of frames (labelled_places body frames)) c.in_ok-frames.ensures))
    c.push_lines.ensures
