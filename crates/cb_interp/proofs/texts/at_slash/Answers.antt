use Rattle.std.proofs.Common.{◌<◌, ◌≤◌, arith, length, subst, sym, take, List, ℕ}
use Rattle.cb_interp.specs.Texts.{IsCut}
use Rattle.cb_interp.proofs.TextReading.{behind_slash, left_count, name_cut, name_end}
use Rattle.cb_interp.proofs.texts.at_slash.Goals as goal

pub returns-in-len1-up-clause-cut : goal.returns-in-len1-up-clause-cut
returns-in-len1-up-clause-cut c =
    let name = c.args.name.now in
    let count = c.plain_count-count.result in
    let low : count < length name = omega (arith, c.in-len1-up.len_at_least, left_count name count) in
    subst (λ (behind : List ℕ). IsCut name (take count name) behind) (sym (behind_slash name count)) (name_cut name count c.plain_count-count.ensures low)

pub returns-in-empty-clause-plain : goal.returns-in-empty-clause-plain
returns-in-empty-clause-plain c =
    let name = c.args.name.now in
    let count = c.plain_count-count.result in
    let past : length name ≤ count = omega (arith, c.in-empty.len_below, left_count name count) in
    name_end name count c.plain_count-count.ensures past
