use Rattle.std.proofs.Common.{◌≡◌, false, ◌==◌}
use Rattle.std.specs.List.{list_any}
use Rattle.cb_load.specs.Names.{letter_class}
use Rattle.cb_load.proofs.NamingTexts.{next_name, no_names}
use Rattle.cb_load.proofs.text_names.next_name.Goals as goal

pub returns-in_err-behind-clause-names : goal.returns-in_err-behind-clause-names
returns-in_err-behind-clause-names c =
    let x : list_any (λ other. other == letter_class) c.args.text.now ≡ false = c.in_err-behind.ensures in
    rw c.from_residual.ensures (no_names c.args.text.now x)

pub returns-clause-names : goal.returns-clause-names
returns-clause-names c = next_name c.args.text.now _ _ c.split_at-2.result c.in_ok-behind.ensures.0 c.in_ok-behind.ensures.1 c.split_at-2.ensures
