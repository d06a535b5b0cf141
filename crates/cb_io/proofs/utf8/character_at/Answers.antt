use Rattle.std.proofs.Common.{◌≡◌, ◌≤◌, length, sym, ◌∙◌, false, rules}
use Rattle.cb_io.proofs.Characters.{alone_front, begins_with_pair, left, no_pair, pair_front, pair_test}
use Rattle.cb_io.proofs.utf8.character_at.Goals as goal
use Rattle.cb_io.proofs.utf8.character_at.Goals.{then-units-lt2, in-len2-up+else-is_pair}

pub returns-in-len2-up-clause-read : goal.returns-in-len2-up-clause-read
returns-in-len2-up-clause-read c =
    let is = pair_test c.args.units.now c.in-len2-up.len_at_least ∙ sym c.is_pair.ensures ∙ c.if-is_pair.true in
    rw (c.character_of_pair.ensures, left c.args.units.now 2 c.in-len2-up.len_at_least) (pair_front c.args.units.now is)

pub returns-in-len1-up-clause-read : goal.returns-in-len1-up-clause-read
returns-in-len1-up-clause-read c =
    let some : 1 ≤ length c.args.units.now = search rules in
    let is : begins_with_pair c.args.units.now ≡ false = elim c.in-len1-up-1.branch [
      | then-units-lt2 w ↦ no_pair c.args.units.now (search rules)
      | in-len2-up+else-is_pair w ↦ pair_test c.args.units.now w.in-len2-up.len_at_least ∙ sym w.is_pair.ensures ∙ w.if-is_pair.false
    ] in
    rw (c.character_alone.ensures, left c.args.units.now 1 some) (alone_front c.args.units.now some is)
