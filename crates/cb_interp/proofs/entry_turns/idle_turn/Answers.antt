use Rattle.std.proofs.Common.{rules, ◌∙◌, refl, sym}
use Rattle.cb_interp.proofs.TurnsEntered.{returned}
use Rattle.cb_interp.proofs.entry_turns.idle_turn.Goals as goal

pub starts_main-requires : goal.starts_main-requires
starts_main-requires g c κs within = (search rules, (c.requires.1.0, (c.requires.1.1.0, (c.requires.1.1.1, search rules))))

pub returns-then-argument-eq0 : goal.returns-then-argument-eq0
returns-then-argument-eq0 g c = record {
  made = search rules;
  stopped = (refl, returned c.args.program.now (g.S.Store.storage c.args.store.now).index (g.S.Store.storage c.args.store.now).kept c.args.roots.now.roots g.outside c.requires.1.1.0 c.requires.1.1.1 (sym c.argument.ensures ∙ c.if-argument-eq0.true));
  counted = search rules;
  limit = search rules;
  settings = search rules;
}
