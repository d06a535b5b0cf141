use Rattle.std.proofs.Common.{◌≡◌, ◌∙◌, ap, subst, sym, ◌+◌, ◌<◌, ◌≤◌, length, true, ℕ}
use Rattle.cb_frames.specs.Limited.{Limited}
use Rattle.cb_frames.specs.Tops.{placed}
use Rattle.cb_heap.specs.Follows.{Follows}
use Rattle.cb_heap.specs.Reading.{seen}
use Rattle.cb_link.specs.Slots.{statics}
use Rattle.cb_machine.specs.Initialising.{own_statics}
use Rattle.cb_machine.specs.Plans.{Plan, made}
use Rattle.cb_plain.specs.Depth.{has_room}
use Rattle.cb_interp.specs.Arguments.{Covers}
use Rattle.cb_interp.specs.TextStatics.{HasSerials, first_plan, wants_behind}
use Rattle.cb_act.specs.Turning.{facts_behind, machine_of, state_of}
use Rattle.cb_interp.proofs.TurnsTextBehind.{begun_grown, closed_grown, first_grown}
use Rattle.cb_interp.proofs.parent_turns.behind_placed.Goals as goal

pub begin_placed-requires : goal.begin_placed-requires
begin_placed-requires g c κs lives =
    let program = c.args.program.now in
    let index = (g.S.Store.storage c.args.store.now).index in
    let kept = (g.S.Store.storage c.args.store.now).kept in
    let old = c.args.roots.now in
    let grown = c.set_place.new.self in
    let is = c.set_place.ensures in
    let first = first_grown program index kept g.outside c.args.class (c.args.place + 1) old grown is in
    let limit = ap (λ (held : Limited). held.limit) is in
    let state = state_of (seen index kept old.roots) g.outside in (
      lives,
      (
        subst (λ (held : Limited). c.args.class < length held.roots.classes) (sym is) c.requires.1.0,
        (
          subst (λ (held : Limited). has_room held.limit held.roots.frames 0 ≡ true) (sym is) c.requires.1.1.1.1.0,
          (
            c.requires.1.1.1.1.1.0,
            (
              c.requires.1.1.1.1.1.1.0,
              (
                subst (λ (own : Plan). Follows (g.S.Store.storage c.args.store.now).settings.allows (made own).objects)
                    (sym (begun_grown program index kept g.outside c.args.class (c.args.place + 1) old grown is c.requires.1.1.1.1.0)) c.requires.1.1.1.1.1.1.1.0,
                (
                  closed_grown program index kept g.outside c.args.class (c.args.place + 1) old grown is c.requires.1.1.1.1.1.1.1.1.0,
                  (
                    subst (λ (held : Limited). length (statics program.classes) ≤ length held.roots.statics) (sym is) c.requires.1.1.1.1.1.1.1.1.1.0,
                    (
                      subst (λ (held : Limited). length program.constants ≤ length held.roots.tables.constants) (sym is) c.requires.1.1.1.1.1.1.1.1.1.1.0,
                      (
                        subst (λ (plan : Plan). Covers (g.S.Store.storage c.args.store.now).granted (wants_behind (machine_of program grown.limit) plan (own_statics program c.args.class))) (sym first)
                            (subst (λ (limit : ℕ). Covers (g.S.Store.storage c.args.store.now).granted
                            (wants_behind (machine_of program limit) (first_plan state (placed state.roots (c.args.place + 1)).frames c.args.class) (own_statics program c.args.class))) (sym limit) c.requires.1.1.1.1.1.1.1.1.1.1.1.0),
                        subst (λ (plan : Plan). HasSerials (length kept) (g.S.Store.storage c.args.store.now).granted (wants_behind (machine_of program grown.limit) plan (own_statics program c.args.class))) (sym first)
                            (subst (λ (limit : ℕ). HasSerials (length kept) (g.S.Store.storage c.args.store.now).granted
                            (wants_behind (machine_of program limit) (first_plan state (placed state.roots (c.args.place + 1)).frames c.args.class) (own_statics program c.args.class))) (sym limit) c.requires.1.1.1.1.1.1.1.1.1.1.1.1),
                      ),
                    ),
                  ),
                ),
              ),
            ),
          ),
        ),
      ),
    )

pub returns-clause-begun : goal.returns-clause-begun
returns-clause-begun g c =
    c.begin_placed.ensures.begun
    ∙ ap made (begun_grown c.args.program.now (g.S.Store.storage c.args.store.now).index (g.S.Store.storage c.args.store.now).kept g.outside c.args.class (c.args.place + 1) c.args.roots.now c.set_place.new.self
    c.set_place.ensures c.requires.1.1.1.1.0)

pub returns-clause-facts : goal.returns-clause-facts
returns-clause-facts g c =
    c.begin_placed.ensures.facts
    ∙ ap (λ (plan : Plan). facts_behind g.S.Store.rules (g.S.Store.storage c.args.store.now).facts plan.placed)
    (begun_grown c.args.program.now (g.S.Store.storage c.args.store.now).index (g.S.Store.storage c.args.store.now).kept g.outside c.args.class (c.args.place + 1) c.args.roots.now c.set_place.new.self
    c.set_place.ensures c.requires.1.1.1.1.0)
