use Rattle.cb_load.proofs.NamingParts.{member_entered}
use Rattle.cb_load.proofs.names.enter_constant.Goals as goal

pub returns : goal.returns
returns c = record {
  entries =
      member_entered c.args.pool.now c.args.index c.in-Some.class c.in-Some.descriptor c.args.entries.now c.enter_name.new.entries c.enter_type.new.entries
      c.in-Some.ensures c.in_ok-enter_name.ensures.entries c.in_ok-enter_type.ensures.entries;
  uses = c.in_ok-enter_type.ensures.uses;
}
