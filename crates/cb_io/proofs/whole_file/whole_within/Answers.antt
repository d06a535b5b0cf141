use Rattle.std.proofs.Common.{◌<◌, ◌≤◌, length, arith}
use Rattle.cb_io.proofs.Whole.{all_read}
use Rattle.cb_io.proofs.whole_file.whole_within.Goals as goal

pub returns-else-len-limit-clause-found : goal.returns-else-len-limit-clause-found
returns-else-len-limit-clause-found g c =
    let bytes = c.read_to_end.new.buf in
    let within : length bytes.items ≤ c.args.limit = omega (arith, bytes.ok.0) in
    let fewer : length bytes.items < c.saturating_add-most.result = omega (arith, bytes.ok.0, bytes.ok.1, bytes.small) in
    all_read c.saturating_add-most.result c.args.limit (g.R.Read.remaining c.args.reader) bytes.items (rw (c.new-bytes.ensures.items, c.take.ensures.limit, c.take.ensures.inner) at c.in_ok-read_to_end.ensures.bytes) fewer within
