use Rattle.std.proofs.lemmas.Result.{on_ok_weaker}
use Rattle.cb_writer.proofs.Blocks.{joined}
use Rattle.cb_writer.proofs.Members.{body_short}
use Rattle.cb_writer.proofs.method.MethodEntry.push.Goals as goal

pub push_code-requires-clause-short : goal.push_code-requires-clause-short
push_code-requires-clause-short c = (body_short c.in-Some.is c.requires).1

pub returns-in-Some : goal.returns-in-Some
returns-in-Some c = rw c.in-Some.is (on_ok_weaker c.push_code.result (λ is. joined c.args.bytes.now.items _ _ _ _ c.in_ok-push_triple.ensures is) c.push_code.ensures)
