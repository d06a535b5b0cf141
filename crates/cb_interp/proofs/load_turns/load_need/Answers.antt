use Rattle.cb_heap.specs.Storage.{view_in}
use Rattle.std.proofs.Common.{◌∙◌, ap, rules, sym}
use Rattle.cb_frames.specs.Limited.{Limited}
use Rattle.cb_machine.specs.Machine.{or_zero}
use Rattle.cb_act.specs.Turning.{machine_of, state_of}
use Rattle.cb_interp.proofs.TurnsNeedLoads.{known_turn, load_goes, load_room, loads_new_so, table_there}
use Rattle.cb_interp.proofs.load_turns.load_need.Goals as goal

pub unreachable-requires : goal.unreachable-requires
unreachable-requires g c =
    load_goes (machine_of c.args.program.now c.args.roots.now.limit) (state_of (view_in (g.S.Store.storage c.args.store.now) c.args.roots.now.roots) g.outside)
    c.args.decoded.now c.requires.1.1.0 c.requires.1.0.linked c.requires.1.0.fits c.requires.1.0.typed c.requires.1.1.1.0 c.in_default.is

pub table-at-requires : goal.table-at-requires
table-at-requires g c =
    table_there c.args.program.now c.args.roots.now.limit (g.S.Store.storage c.args.store.now).index (g.S.Store.storage c.args.store.now).kept c.args.roots.now.roots g.outside c.args.decoded.now
    (record { text = c.args.text; next = c.in-Some.next }) (record { loads = c.requires.1.1.1.0; names = c.requires.1.1.1.1.0; next = c.in-Some.is; low = c.requires.1.1.1.1.1 }) c.requires.1.0.typed

pub lay_reference-requires : goal.lay_reference-requires
lay_reference-requires g c =
    load_room c.args.program.now c.args.roots.now.limit (g.S.Store.storage c.args.store.now).index (g.S.Store.storage c.args.store.now).kept c.args.roots.now.roots g.outside c.args.decoded.now
    (record { text = c.args.text; next = c.in-Some.next }) (record { loads = c.requires.1.1.1.0; names = c.requires.1.1.1.1.0; next = c.in-Some.is; low = c.requires.1.1.1.1.1 }) c.requires.1.0.typed c.requires.1.1.0 c.requires.1.0.linked c.requires.1.0.fits

pub returns-then-at-ne0 : goal.returns-then-at-ne0
returns-then-at-ne0 g c = record {
  made = known_turn c.args.program.now c.args.roots.now.limit (g.S.Store.storage c.args.store.now).index (g.S.Store.storage c.args.store.now).kept c.args.roots.now.roots g.outside c.args.decoded.now
      (record { text = c.args.text; next = c.in-Some.next }) (record { loads = c.requires.1.1.1.0; names = c.requires.1.1.1.1.0; next = c.in-Some.is; low = c.requires.1.1.1.1.1 }) g.S.Store.rules (g.S.Store.storage c.args.store.now).facts c.requires.1.1.0
      c.table-at.result c.lay_reference.new.roots.roots c.table-at.ensures (λ new. c.if-at-ne0.true (sym (ap or_zero c.table-at.ensures) ∙ new))
      (ap (λ (held : Limited). held.roots) c.lay_reference.ensures);
  stopped = search rules;
  counted = search rules;
  limit = search rules;
  settings = search rules;
}

pub load_new-requires : goal.load_new-requires
load_new-requires g c = λ κs lives.
    let runs = c.requires.1.0 in
    let new = ap or_zero c.table-at.ensures ∙ c.if-at-ne0.false in (
      lives,
      (
        runs,
        (
          loads_new_so c.args.program.now c.args.roots.now.limit (g.S.Store.storage c.args.store.now).index (g.S.Store.storage c.args.store.now).kept c.args.roots.now.roots g.outside c.args.decoded.now
              (record { text = c.args.text; next = c.in-Some.next })
              (record { loads = c.requires.1.1.1.0; names = c.requires.1.1.1.1.0; next = c.in-Some.is; low = c.requires.1.1.1.1.1 }) c.requires.1.1.0 new,
          (
            c.requires.1.1.1.1.1,
            (
              table_there c.args.program.now c.args.roots.now.limit (g.S.Store.storage c.args.store.now).index (g.S.Store.storage c.args.store.now).kept c.args.roots.now.roots g.outside c.args.decoded.now
                  (record { text = c.args.text; next = c.in-Some.next })
                  (record { loads = c.requires.1.1.1.0; names = c.requires.1.1.1.1.0; next = c.in-Some.is; low = c.requires.1.1.1.1.1 }) runs.typed,
              (
                new,
                (
                  c.linked_constants.ensures.texts c.args.program.now (g.S.Store.storage c.args.store.now).settings.shapes runs.linked runs.fits runs.shaped c.args.text,
                  load_room c.args.program.now c.args.roots.now.limit (g.S.Store.storage c.args.store.now).index (g.S.Store.storage c.args.store.now).kept c.args.roots.now.roots g.outside c.args.decoded.now
                      (record { text = c.args.text; next = c.in-Some.next })
                      (record { loads = c.requires.1.1.1.0; names = c.requires.1.1.1.1.0; next = c.in-Some.is; low = c.requires.1.1.1.1.1 }) runs.typed c.requires.1.1.0 runs.linked
                      runs.fits,
                ),
              ),
            ),
          ),
        ),
      ),
    )
