use Rattle.std.proofs.Common.{rules, ◌≡◌, ◌<◌, ◌^◌, length, FitsSigned}
use Rattle.std.specs.Int.{w32}
use Rattle.cb_insn.specs.declared.form.Form.TheVariants.{Lookup}
use Rattle.cb_insn.specs.Grammar.{KeysRise, offset}
use Rattle.cb_insn.proofs.Sizes.{lookup_fits}
use Rattle.cb_insn.proofs.size.lookup_size.Goals as goal

pub returns-clause-fits : goal.returns-clause-fits
returns-clause-fits c =
    let is : c.args.form ≡ Lookup = search rules in
    let few : length c.args.pairs.now < 2 ^ 31 = search rules in
    let rise : KeysRise c.args.pairs.now = search rules in
    let near : FitsSigned w32 (offset c.args.pc c.args.default) = search rules in
    let fits = lookup_fits c.args.pc c.args.default c.args.pairs.now few rise near (search rules) in
    rw (is, c.padding_length.ensures) fits
