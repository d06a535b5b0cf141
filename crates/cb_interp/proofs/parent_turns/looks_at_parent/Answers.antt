use Rattle.std.proofs.Common.{◌∙◌, ◌+◌, ap, arith, rules, sym, Some}
use Rattle.cb_frames.specs.Limited.{Limited}
use Rattle.cb_interp.proofs.TurnsTextParent.{never_failed, new_by, new_plan, passed_turn, past_by, past_plan, some_stand}
use Rattle.cb_interp.proofs.parent_turns.looks_at_parent.Goals as goal

pub set_place-requires : goal.set_place-requires
set_place-requires g c =
    some_stand c.args.program.now c.args.roots.now.limit (g.S.Store.storage c.args.store.now).index (g.S.Store.storage c.args.store.now).kept c.args.roots.now.roots g.outside c.args.class c.args.place
    c.parent-parent.result c.requires.1.1.0 c.requires.1.1.1.0 c.requires.1.1.1.1.1.0 c.parent-parent.ensures.found

pub returns : goal.returns
returns g c = record {
  made = passed_turn g.S.Store.rules c.args.program.now c.args.roots.now.limit (g.S.Store.storage c.args.store.now).index (g.S.Store.storage c.args.store.now).kept c.args.roots.now.roots c.set_place.new.self.roots g.outside
      (g.S.Store.storage c.args.store.now).facts (c.args.place + 1)
      (past_plan c.args.program.now c.args.roots.now.limit (g.S.Store.storage c.args.store.now).index (g.S.Store.storage c.args.store.now).kept c.args.roots.now.roots g.outside c.args.class c.args.place
      c.parent-parent.result c.requires.1.1.0 c.requires.1.1.1.0 c.requires.1.1.1.1.1.0 c.parent-parent.ensures.found c.state.result c.state.ensures
      (past_by c.state.result (sym c.is_untouched.ensures ∙ c.if-is_untouched.false)
      (λ failed. never_failed c.args.program.now c.args.roots.now.limit c.args.roots.now.roots c.args.class c.args.place c.parent-parent.result c.requires.1.1.1.0 c.requires.1.1.1.1.1.0
      c.parent-parent.ensures.found (c.state.ensures ∙ ap Some failed) c.requires.1.1.1.1.1.1)))
      (ap (λ (held : Limited). held.roots) c.set_place.ensures);
  stopped = search rules;
  counted = search rules;
  limit = search rules;
  settings = search rules;
}

pub behind_texts-requires : goal.behind_texts-requires
behind_texts-requires g c κs lives =
    let few = c.linked_frames.ensures.few c.args.program.now c.requires.1.0.linked c.args.class in
    let before = c.requires.1.1.1.1.1.0 in (
      lives,
      (
        c.requires.1.0,
        (
          new_plan c.args.program.now c.args.roots.now.limit (g.S.Store.storage c.args.store.now).index (g.S.Store.storage c.args.store.now).kept c.args.roots.now.roots g.outside c.args.class c.args.place
              c.parent-parent.result c.requires.1.1.0 c.requires.1.1.1.0 before c.parent-parent.ensures.found
              (c.state.ensures ∙ ap Some (new_by c.state.result (sym c.is_untouched.ensures ∙ c.if-is_untouched.true))),
          (
            c.parent-parent.ensures.within,
            (
              some_stand c.args.program.now c.args.roots.now.limit (g.S.Store.storage c.args.store.now).index (g.S.Store.storage c.args.store.now).kept c.args.roots.now.roots g.outside c.args.class c.args.place
                  c.parent-parent.result c.requires.1.1.0 c.requires.1.1.1.0 before c.parent-parent.ensures.found,
              omega (arith, few, before),
            ),
          ),
        ),
      ),
    )
