-- Texts that are written one piece behind the other.
use Rattle.std.proofs.Common.{◌≡◌, ◌∙◌, ap, sym, refl, subst, append_assoc, append-nil, ℕ, ◌+◌, ◌<◌, List, [], ◌∷◌, ◌++◌, length, map, take, get_or, Option, Some, Result, Ok, Err, OnOk}
use Rattle.std.specs.List.{flat_map}
use Rattle.std.proofs.lemmas.Grind.{flat_map-append}
use Rattle.std.proofs.lemmas.List.{get_or_default, take_more}
use Rattle.std.proofs.lemmas.List.Folds.{flat_map-map}
use Rattle.cb_insn.specs.Writing.{code_bytes}
use Rattle.cb_classfile.specs.declared.body.Body.{Body}
use Rattle.cb_classfile.specs.declared.class.ClassFile.{ClassFile}
use Rattle.cb_asm_line.specs.Lines.{Line, Word, line_text, lines_text, newline, space}
use Rattle.cb_asm_line.specs.Spelling.{catch_line, class_line, code_line, code_lines, field_line, frame_line, implements_line, limits_line, method_lines}
use Rattle.cb_asm_line.specs.declared.frame.Frame.{Frame}
use Rattle.cb_asm_list.specs.Expansion.{class_named}
use Rattle.cb_asm_list.specs.Inner.{behind, catch_text, frame_text}
use Rattle.cb_asm_list.specs.Listing.{catch_of, code_line_of, code_with, field_text, frame_line_of, label_line, label_of, listing, method_text, program_of}
use Rattle.cb_asm_list.proofs.Lines.{line_of_words}

-- a piece, and behind it another
pub and : (start middle end one other : List ℕ) → middle ≡ start ++ one → end ≡ middle ++ other → end ≡ start ++ (one ++ other)
and start middle end one other first second = second ∙ ap (λ text. text ++ other) first ∙ append_assoc start one other

pub and_ok : {T E : Type 0} (result : Result T E) (start middle end one other : List ℕ) → middle ≡ start ++ one → OnOk result (end ≡ middle ++ other) → OnOk result (end ≡ start ++ (one ++ other))
and_ok (Ok value) start middle end one other first second = and start middle end one other first second
and_ok (Err error) start middle end one other first second = tt

-- three pieces
pub three : (start first second end a b c : List ℕ) → first ≡ start ++ a → second ≡ first ++ b → end ≡ second ++ c → end ≡ start ++ ((a ++ b) ++ c)
three start first second end a b c is_a is_b is_c = and start second end (a ++ b) c (and start first second a b is_a is_b) is_c

-- a text by another way to say it
pub as_told : {T E : Type 0} (result : Result T E) (start end written told : List ℕ) → told ≡ written → OnOk result (end ≡ start ++ written) → OnOk result (end ≡ start ++ told)
as_told result start end written told same is = subst (λ (text : List ℕ). OnOk result (end ≡ start ++ text)) (sym same) is

-- one more item of a list
pub one_more : {Item : Type 0} (text_of : Item → List ℕ) (items : List Item) (i : ℕ) (read : Item) (start before after : List ℕ) → i < length items → read ≡ get_or items i read
    → before ≡ start ++ flat_map text_of (take i items) → after ≡ before ++ text_of read → after ≡ start ++ flat_map text_of (take (i + 1) items)
one_more text_of items i read start before after within is so_far more =
    and start before after (flat_map text_of (take i items)) (text_of read) so_far more
    ∙ ap (λ text. start ++ text) (ap (λ text. flat_map text_of (take i items) ++ text) (sym (append-nil (text_of read))) ∙ sym (flat_map-append text_of (take i items) (read ∷ []))
    ∙ ap (flat_map text_of) (ap (λ item. take i items ++ item ∷ []) is ∙ sym (take_more items i read within)))

-- the same where the list is read by another name
pub one_more_number : (text_of : ℕ → List ℕ) (numbers : List ℕ) (i : ℕ) (read : List ℕ) (start before after : List ℕ) → read ≡ numbers → i < length read
    → before ≡ start ++ flat_map text_of (take i numbers) → after ≡ before ++ text_of (get_or read i 0) → after ≡ start ++ flat_map text_of (take (i + 1) numbers)
one_more_number text_of numbers i read start before after same within so_far more =
    let within_too : i < length numbers = subst (λ (these : List ℕ). i < length these) same within in
    one_more text_of numbers i (get_or read i 0) start before after within_too (ap (λ these. get_or these i 0) same ∙ get_or_default numbers i 0 (get_or read i 0) within_too) so_far more

-- lines of lists
lines_both : (lines others : List Line) → lines_text (lines ++ others) ≡ lines_text lines ++ lines_text others
lines_both = flat_map-append line_text

lines_mapped : {Item : Type 0} (line_of : Item → Line) (items : List Item) → lines_text (map line_of items) ≡ flat_map (λ item. line_text (line_of item)) items
lines_mapped line_of items = flat_map-map line_text line_of items

lines_flat : {Item : Type 0} (lines_of : Item → List Line) (items : List Item) → lines_text (flat_map lines_of items) ≡ flat_map (λ item. lines_text (lines_of item)) items
lines_flat lines_of [] = refl
lines_flat lines_of (item ∷ items) = lines_both (lines_of item) (flat_map lines_of items) ∙ ap (λ rest. lines_text (lines_of item) ++ rest) (lines_flat lines_of items)

-- pieces in groups
behind_four : (a b c d e last : List ℕ) → (a ++ (b ++ (c ++ (d ++ e)))) ++ last ≡ ((((a ++ b) ++ c) ++ d) ++ e) ++ last
behind_four a b c d e last = simp append_assoc

behind_first : (a b c d : List ℕ) → a ++ ((b ++ c) ++ d) ≡ ((a ++ b) ++ c) ++ d
behind_first a b c d = simp append_assoc

-- a line of some words and more
pub line_of_more : (a b c d : Word) (words : List Word) → line_text (a ∷ b ∷ c ∷ d ∷ words) ≡ ((((a ++ space ∷ b) ++ space ∷ c) ++ space ∷ d) ++ behind words) ++ newline ∷ []
line_of_more a b c d words = line_of_words a (b ∷ c ∷ d ∷ words) ∙ behind_four a (space ∷ b) (space ∷ c) (space ∷ d) (behind words) (newline ∷ [])

-- a body, part by part
pub body_text : (class : ClassFile) (body : Body) (frames : List (Option (Frame ℕ))) (labelled : List ℕ)
    → lines_text (code_lines (Some (code_with class body frames labelled)))
    ≡ ((line_text (limits_line (code_with class body frames labelled)) ++ lines_text (map code_line (flat_map (code_line_of class labelled) body.code ++ label_line labelled (length (code_bytes body.code)))))
    ++ flat_map (catch_text class labelled) body.handlers) ++ flat_map (frame_text labelled) frames
body_text class body frames labelled =
    let code = code_with class body frames labelled in
    ap (λ rest. line_text (limits_line code) ++ rest)
    (lines_both (map code_line code.lines ++ map catch_line code.catches) (map frame_line code.frames)
    ∙ ap (λ rest. rest ++ lines_text (map frame_line code.frames)) (lines_both (map code_line code.lines) (map catch_line code.catches))
    ∙ ap (λ catches. (lines_text (map code_line code.lines) ++ catches) ++ lines_text (map frame_line code.frames)) (lines_mapped catch_line code.catches ∙ flat_map-map (λ entry. line_text (catch_line entry)) (catch_of class (label_of labelled)) body.handlers)
    ∙ ap (λ last. (lines_text (map code_line code.lines) ++ flat_map (catch_text class labelled) body.handlers) ++ last) (lines_mapped frame_line code.frames ∙ flat_map-map (λ line. line_text (frame_line line)) (frame_line_of (label_of labelled)) frames))
    ∙ behind_first (line_text (limits_line code)) (lines_text (map code_line code.lines)) (flat_map (catch_text class labelled) body.handlers) (flat_map (frame_text labelled) frames)

-- a record, part by part
pub listing_text : (class : ClassFile) → listing class
    ≡ ((line_text (class_line (program_of class)) ++ flat_map (λ index. line_text (implements_line (class_named class index))) class.interfaces)
    ++ flat_map (λ field. line_text (field_line (field_text class field))) class.fields) ++ flat_map (λ method. lines_text (method_lines (method_text class method))) class.methods
listing_text class =
    let program = program_of class in
    ap (λ rest. line_text (class_line program) ++ rest)
    (lines_both (map implements_line program.interfaces ++ map field_line program.fields) (flat_map method_lines program.methods)
    ∙ ap (λ rest. rest ++ lines_text (flat_map method_lines program.methods)) (lines_both (map implements_line program.interfaces) (map field_line program.fields))
    ∙ ap (λ names. (names ++ lines_text (map field_line program.fields)) ++ lines_text (flat_map method_lines program.methods)) (lines_mapped implements_line program.interfaces ∙ flat_map-map (λ name. line_text (implements_line name)) (class_named class) class.interfaces)
    ∙ ap (λ fields. (flat_map (λ index. line_text (implements_line (class_named class index))) class.interfaces ++ fields) ++ lines_text (flat_map method_lines program.methods)) (lines_mapped field_line program.fields ∙ flat_map-map (λ field. line_text (field_line field)) (field_text class) class.fields)
    ∙ ap (λ methods. (flat_map (λ index. line_text (implements_line (class_named class index))) class.interfaces ++ flat_map (λ field. line_text (field_line (field_text class field))) class.fields) ++ methods) (lines_flat method_lines program.methods ∙ flat_map-map (λ method. lines_text (method_lines method)) (method_text class) class.methods))
    ∙ behind_first (line_text (class_line program)) (flat_map (λ index. line_text (implements_line (class_named class index))) class.interfaces)
    (flat_map (λ field. line_text (field_line (field_text class field))) class.fields) (flat_map (λ method. lines_text (method_lines (method_text class method))) class.methods)
