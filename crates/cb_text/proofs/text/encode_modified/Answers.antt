use Rattle.std.proofs.Common.{sym, ◌∙◌, ap, ◌++◌, arith}
use Rattle.cb_text.specs.Text.{text_bytes}
use Rattle.cb_text.proofs.Spelling.{are_units, text_same}
use Rattle.cb_text.proofs.text.encode_modified.Goals as goal

pub returns-clause-read_back : goal.returns-clause-read_back
returns-clause-read_back c = λ other fit is.
    let spelled = c.in_ok-push_text.ensures ∙ ap (λ front. front ++ text_bytes c.args.units.now) c.new-bytes.ensures.items in
    text_same other c.args.units.now fit (are_units c.args.units.now (λ i. omega (arith, c.type_inv.units i))) (sym is ∙ spelled)
