use Rattle.std.proofs.Common.{List, ◌++◌, ◌∙◌, ap, string_bytes, sym, ℕ}
use Rattle.std.specs.List.{flat_map}
use Rattle.cb_asm_line.specs.Lines.{line_text, lines_text}
use Rattle.cb_asm_line.specs.Spelling.{class_line, field_line, implements_line, method_lines}
use Rattle.cb_asm_list.specs.Expansion.{class_named}
use Rattle.cb_asm_list.specs.Listing.{field_text, method_text, program_of}
use Rattle.cb_asm_list.proofs.Texts.{and, listing_text, three}
use Rattle.cb_asm_list.proofs.WellFormed.{listed}
use Rattle.cb_asm_list.proofs.listing.list.Goals as goal

pub push_interfaces-requires : goal.push_interfaces-requires
push_interfaces-requires c = listed c.args.class.now c.requires.well_formed

pub push_methods-requires : goal.push_methods-requires
push_methods-requires c = listed c.args.class.now c.requires.well_formed

pub returns : goal.returns
returns c =
    let class = c.args.class.now in
    let front : List ℕ = line_text (class_line (program_of class)) in
    let interfaces : List ℕ = flat_map (λ index. line_text (implements_line (class_named class index))) class.interfaces in
    let fields : List ℕ = flat_map (λ field. line_text (field_line (field_text class field))) class.fields in
    let methods : List ℕ = flat_map (λ method. lines_text (method_lines (method_text class method))) class.methods in
    let start : List ℕ = string_bytes c.new-text.result in
    and start (string_bytes c.push_fields.new.text) (string_bytes c.push_methods.new.text) ((front ++ interfaces) ++ fields) methods
    (three start (string_bytes c.push_class_line.new.text) (string_bytes c.push_interfaces.new.text) (string_bytes c.push_fields.new.text) front interfaces fields
    c.in_ok-push_class_line.ensures c.in_ok-push_interfaces.ensures c.in_ok-push_fields.ensures)
    c.in_ok-push_methods.ensures
    ∙ ap (λ (text : List ℕ). text ++ (((front ++ interfaces) ++ fields) ++ methods)) c.new-text.ensures.bytes
    ∙ sym (listing_text class)
