use Rattle.cb_load.proofs.NamingParts.{method_entered}
use Rattle.cb_load.proofs.names.MethodNaming.enter.Goals as goal

pub returns-in_ok-enter_body : goal.returns-in_ok-enter_body
returns-in_ok-enter_body c = record {
  entries =
      method_entered c.args.pool.now c.args.self.now c.in-Some.body c.args.entries.now c.enter_type.new.entries c.enter_body.new.entries
      c.in-Some.is c.in_ok-enter_type.ensures.entries c.in_ok-enter_body.ensures.entries;
  uses = c.in_ok-enter_body.ensures.uses;
}
