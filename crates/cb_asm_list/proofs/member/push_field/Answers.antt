use Rattle.std.proofs.Common.{List, [], ◌∷◌, ◌++◌, codes, string_bytes, ℕ}
use Rattle.cb_asm_line.specs.Flags.{field_flags, flags_word}
use Rattle.cb_asm_line.specs.Lines.{line_text, newline, space}
use Rattle.cb_asm_line.specs.Quoting.{name_word}
use Rattle.cb_asm_line.specs.Spelling.{field_line, value_of}
use Rattle.cb_asm_list.specs.Inner.{behind}
use Rattle.cb_asm_list.specs.Listing.{field_text}
use Rattle.cb_asm_list.proofs.Texts.{and_ok, as_told, line_of_more, three}
use Rattle.cb_asm_list.proofs.member.push_field.Goals as goal

pub returns : goal.returns
returns c =
    let field = field_text c.args.class.now c.args.field.now in
    let start : List ℕ = string_bytes c.args.text.now in
    let named : List ℕ = string_bytes c.push_name_word.new.text in
    let described : List ℕ = string_bytes c.push_name_word-2.new.text in
    let valued : List ℕ = string_bytes c.push_constant.new.text in
    let front : List ℕ = (codes "field" ++ space ∷ flags_word field_flags field.flags) ++ space ∷ name_word field.name in
    let descriptor : List ℕ = space ∷ name_word field.descriptor in
    let value : List ℕ = behind (value_of field.value) in
    as_told c.end_line.result start (string_bytes c.end_line.new.text) (((front ++ descriptor) ++ value) ++ newline ∷ []) (line_text (field_line field))
    (line_of_more (codes "field") (flags_word field_flags field.flags) (name_word field.name) (name_word field.descriptor) (value_of field.value))
    (and_ok c.end_line.result start valued (string_bytes c.end_line.new.text) ((front ++ descriptor) ++ value) (newline ∷ [])
    (three start named described valued front descriptor value
    (three start (string_bytes c.push_str.new.self) (string_bytes c.push_field_flags_word.new.text) named (codes "field") (space ∷ flags_word field_flags field.flags) (space ∷ name_word field.name)
    c.in_ok-push_str.ensures.bytes c.in_ok-push_field_flags_word.ensures (rw c.text.ensures at c.in_ok-push_name_word.ensures))
    (rw c.text-2.ensures at c.in_ok-push_name_word-2.ensures) c.in_ok-push_constant.ensures)
    c.end_line.ensures)
