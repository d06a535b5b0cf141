use Rattle.std.proofs.Common.{arith}
use Rattle.cb_insn.specs.Writing.{code_bytes}
use Rattle.cb_insn.proofs.Laws.{code_length}
use Rattle.cb_writer.proofs.Blocks.{ended, short}
use Rattle.cb_writer.proofs.body.push_code_block.Goals as goal

pub end_block-requires-clause-short : goal.end_block-requires-clause-short
end_block-requires-clause-short c =
    short c.begin_block.new.bytes.items (code_bytes c.args.code.now) _ _ c.in_ok-encode_into.ensures c.in_ok-begin.ensures.1 (let long = code_length c.args.code.now c.requires.0 c.requires.1 in omega (arith, long, c.requires.1.short))

pub returns : goal.returns
returns c = ended c.args.bytes.now.items (code_bytes c.args.code.now) _ _ _ _ c.in_ok-begin.ensures.0 c.in_ok-begin.ensures.1 c.in_ok-encode_into.ensures c.end_block.ensures
