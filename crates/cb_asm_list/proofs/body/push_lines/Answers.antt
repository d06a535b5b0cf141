use Rattle.std.proofs.Common.{List, ◌++◌, Some, length, map, string_bytes, ℕ}
use Rattle.std.specs.List.{flat_map}
use Rattle.cb_insn.specs.Writing.{code_bytes}
use Rattle.cb_asm_line.specs.Lines.{line_text, lines_text}
use Rattle.cb_asm_line.specs.Spelling.{code_line, code_lines, limits_line}
use Rattle.cb_asm_list.specs.Inner.{catch_text, frame_text}
use Rattle.cb_asm_list.specs.Listing.{code_line_of, code_with, label_line}
use Rattle.cb_asm_list.proofs.Texts.{and_ok, as_told, body_text, three}
use Rattle.cb_asm_list.proofs.body.push_lines.Goals as goal

pub returns : goal.returns
returns c =
    let class = c.args.class.now in
    let body = c.args.body.now in
    let labelled = c.args.labels.now in
    let text = code_with class body c.args.frames.now labelled in
    let start : List ℕ = string_bytes c.args.text.now in
    let limits : List ℕ = line_text (limits_line text) in
    let code : List ℕ = lines_text (map code_line (flat_map (code_line_of class labelled) body.code ++ label_line labelled (length (code_bytes body.code)))) in
    let catches : List ℕ = flat_map (catch_text class labelled) body.handlers in
    let frames : List ℕ = flat_map (frame_text labelled) c.args.frames.now in
    as_told c.push_frames.result start (string_bytes c.push_frames.new.text) (((limits ++ code) ++ catches) ++ frames) (lines_text (code_lines (Some text)))
    (body_text class body c.args.frames.now labelled)
    (and_ok c.push_frames.result start (string_bytes c.push_catches.new.text) (string_bytes c.push_frames.new.text) ((limits ++ code) ++ catches) frames
    (three start (string_bytes c.push_limits.new.text) (string_bytes c.push_code.new.text) (string_bytes c.push_catches.new.text) limits code catches
    c.in_ok-push_limits.ensures c.in_ok-push_code.ensures (rw c.as_slice.ensures at c.in_ok-push_catches.ensures))
    (rw c.as_slice-2.ensures at c.push_frames.ensures))
