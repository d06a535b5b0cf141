use Rattle.std.proofs.Common.{◌≡◌, rules, ap, ◌∙◌, pos, ◌+ℤ◌, ◌-ℤ◌, FitsSigned}
use Rattle.std.specs.Int.{w32, w64}
use Rattle.cb_insn.specs.Faults.{count_of, table_low, table_high}
use Rattle.cb_insn.proofs.Counts.{span_count}
use Rattle.cb_insn.proofs.switch.table_count.Goals as goal

pub returns : goal.returns
returns c =
    let fits : FitsSigned w64 c.max.result = search rules in
    let fits_low : FitsSigned w32 c.s4_at.result = search rules in
    let fits_high : FitsSigned w32 c.s4_at-2.result = search rules in
    let is_low : c.s4_at.result ≡ table_low c.args.switch.now = cc in
    let is_high : c.s4_at-2.result ≡ table_high c.args.switch.now = cc in
    span_count _ _ _ _ _ fits_high fits_low c.from-high.ensures c.from-low.ensures c.max.ensures.value fits
    ∙ ap (λ high. count_of ((high +ℤ pos 1) -ℤ c.s4_at.result)) is_high ∙ ap (λ low. count_of ((table_high c.args.switch.now +ℤ pos 1) -ℤ low)) is_low
