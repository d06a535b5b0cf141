use Rattle.cb_classfile.specs.Code.{body_bytes}
use Rattle.cb_writer.proofs.Blocks.{attribute_ended}
use Rattle.cb_writer.proofs.method.push_code.Goals as goal

pub returns : goal.returns
returns c = attribute_ended c.args.bytes.now.items (body_bytes c.args.names.now c.args.body.now) _ _ _ _ _ c.in_ok-begin.ensures.0 c.in_ok-begin.ensures.1 c.in_ok-push_body.ensures c.end_block.ensures
