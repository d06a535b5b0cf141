use Rattle.std.proofs.Common.{refl, rules}
use Rattle.cb_frames.proofs.Tables.{tables_made}
use Rattle.cb_frames.proofs.object_tables.ObjectTables.make.Goals as goal

pub returns : goal.returns
returns c = tables_made c.in_ok-all.all.items _ c.args.sizes refl refl refl refl refl (search rules)
