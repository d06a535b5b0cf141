use Rattle.std.proofs.Common.{rules, ◌≡◌, ◌<◌, ◌+ℤ◌, ◌-ℤ◌, pos, length, FitsSigned}
use Rattle.std.specs.Int.{w32}
use Rattle.cb_insn.specs.declared.form.Form.TheVariants.{Table}
use Rattle.cb_insn.specs.Grammar.{offset}
use Rattle.cb_insn.proofs.Sizes.{table_fits}
use Rattle.cb_insn.proofs.size.table_size.Goals as goal

pub returns-clause-fits : goal.returns-clause-fits
returns-clause-fits c =
    let is : c.args.form ≡ Table = search rules in
    let some : 0 < length c.args.targets.now = search rules in
    let high : FitsSigned w32 ((c.args.low +ℤ pos (length c.args.targets.now)) -ℤ pos 1) = search rules in
    let low : FitsSigned w32 c.args.low = search rules in
    let near : FitsSigned w32 (offset c.args.pc c.args.default) = search rules in
    let fits = table_fits c.args.pc c.args.default c.args.low c.args.targets.now some low high near (search rules) in
    rw (is, c.padding_length.ensures) fits
