use Rattle.std.proofs.Common.{arith, append_assoc, []}
use Rattle.cb_asm_line.proofs.Flagging.{one_more}
use Rattle.cb_asm_line.proofs.flag.+push_set.Goals as goal

pub returns-in_ok-push_word-in-len1-up : goal.returns-in_ok-push_word-in-len1-up
returns-in_ok-push_word-in-len1-up t c =
    let is = one_more c.args.begun c.args.words.now c.args.flags (record { ref_ptr = (0, 0); now = [] }) c.in-len1-up.len_at_least c.if-flags-eq1.true in
    let written = c.in_ok-push_word-in-len1-up.ensures in
    rw is grind (arith, append_assoc, written, c.push_set.ensures)
