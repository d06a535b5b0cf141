use Rattle.std.proofs.Common.{◌≡◌, ◌++◌, ◌∙◌, ap, sym, subst, Some, IfOk}
use Rattle.std.specs.Prelude.{codes, is_err, string_bytes}
use Rattle.std.specs.Char.Utf16.{utf16_lossy_chars}
use Rattle.std.specs.Str.{encode_utf8_all}
use Rattle.cb_load.proofs.PathText.{a_path, no_path}
use Rattle.cb_load.proofs.path.path_of.Goals as goal

pub returns-in_default : goal.returns-in_default
returns-in_default c =
    no_path c.args.root.now c.args.name.now (is_err c.in_ok-text.field-0) (sym c.starts_with.ensures.value ∙ c.if-starts_with.false) (sym c.contains.ensures.value ∙ c.if-contains.false) c.in_ok-text.ensures.unpaired (ap is_err c.in_default.is)

pub returns : goal.returns
returns c =
    let spelled = subst (λ made. IfOk made (λ text. string_bytes text ≡ encode_utf8_all (utf16_lossy_chars c.args.name.now))) c.in-Ok.is c.in_ok-text.ensures.chars in
    let front = c.in_ok-push_str.ensures.bytes ∙ ap (λ bytes. bytes ++ codes "/") c.in_ok-path.ensures.ok in
    let named = c.in_ok-push_str-2.ensures.bytes ∙ (λ i. front i ++ c.deref.ensures i) in
    let whole = c.in_ok-push_str-3.ensures.bytes ∙ ap (λ bytes. bytes ++ codes ".class") named in
    ap Some whole ∙ a_path c.args.root.now c.args.name.now (string_bytes c.in-Ok.text) (is_err c.in_ok-text.field-0) (sym c.starts_with.ensures.value ∙ c.if-starts_with.false) (sym c.contains.ensures.value ∙ c.if-contains.false) c.in_ok-text.ensures.unpaired (ap is_err c.in-Ok.is) spelled
