use Rattle.std.proofs.Common.{map, string_bytes}
use Rattle.cb_runner.specs.Inner.{given_of}
use Rattle.cb_runner.proofs.Options.{match_on, none_first}
use Rattle.cb_runner.proofs.limits.next_told.Goals as goal

pub returns : goal.returns
returns c =
    match_on c.blocks_told.result c.blocks_told.ensures
    (none_first (given_of c.args.told) (map string_bytes c.args.words.now) c.in_default.ensures c.in_default-frames_told.ensures) (λ next adds. adds)
