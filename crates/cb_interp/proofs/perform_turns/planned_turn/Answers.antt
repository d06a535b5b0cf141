use Rattle.cb_heap.proofs.Laws.{same_shapes, same_allows}
use Rattle.cb_heap.specs.Storage.{view_in}
use Rattle.std.proofs.Common.{◌≡◌, ◌≤◌, refl, rules, subst, sym, [], List, ℕ, Ok, length, map}
use Rattle.std.specs.List.{AllByRecursion}
use Rattle.cb_heap.specs.Reading.{read_value}
use Rattle.cb_heap.specs.Store.{IsFault}
use Rattle.cb_heap.specs.declared.no_room.NoRoom.{NoRoom}
use Rattle.cb_io.specs.Faults.{CountsFaults}
use Rattle.cb_link.specs.Having.{site_kinds}
use Rattle.cb_link.specs.Named.{IsThere}
use Rattle.cb_link.specs.declared.decoded.Decoded.{Decoded}
use Rattle.cb_natives.specs.Making.{Asks, HasRoom, MayLeave, MayMake}
use Rattle.cb_natives.specs.MakingArrays.{MayHold}
use Rattle.cb_plain.specs.declared.want.Want.{Want}
use Rattle.cb_safety.proofs.Laws.{typed_states_are_closed}
use Rattle.cb_act.specs.Turning.{TurnMade, TurnRefused, machine_of, moment_in, moment_of, state_of}
use Rattle.cb_interp.specs.Performing.{arguments_at}
use Rattle.std.specs.Prelude.{OnOk}
use Rattle.std.specs.declared.result.Result.{Result}
use Rattle.cb_interp.proofs.TurnsStarting.{handed_same}
use Rattle.cb_interp.proofs.NativesAnswered.{few_there}
use Rattle.cb_interp.proofs.NativesMade.{asked_header, asks_again, enough_still, given_still, goes_on, kinds_there, known_sites, laid_still, may_leave_still, refused_so, some_still, sorts_still, tables_there, turn_so, typed_still}
use Rattle.cb_interp.proofs.TurnsMaking.{handed_on}
use Rattle.cb_interp.proofs.TurnsNeed.{steps_on}
use Rattle.cb_interp.proofs.perform_turns.planned_turn.Goals as goal

pub unreachable-requires : goal.unreachable-requires
unreachable-requires g c =
    goes_on c.args.program.now (g.S.Store.storage c.args.store.now).index (g.S.Store.storage c.args.store.now).kept c.args.roots.now.limit c.args.roots.now.roots g.given.0 c.args.decoded.now c.requires.1.1.1.0.method
    c.requires.1.1.0 c.requires.1.1.1.0.asked c.args.native c.requires.1.1.1.0.is c.requires.1.1.1.1.1.0
    (steps_on (machine_of c.args.program.now c.args.roots.now.limit) (state_of (view_in (g.S.Store.storage c.args.store.now) c.args.roots.now.roots) g.given.0) c.args.decoded.now c.requires.1.1.0 c.requires.1.0.linked c.requires.1.0.fits c.requires.1.0.typed)
    c.in_default.is

pub room_for-requires : goal.room_for-requires
room_for-requires g c κs within =
    let own = c.requires.1.1.1.1.1.0 c.args.roots.now.limit [] [] in (
      search rules,
      (
        typed_states_are_closed c.args.program.now (state_of (view_in (g.S.Store.storage c.args.store.now) c.args.roots.now.roots) g.given.0) c.requires.1.0.typed,
        (
          known_sites (g.S.Store.storage c.args.store.now).settings.knows (length (site_kinds c.args.program.now)) c.args.request.now c.requires.1.0.sites c.requires.1.1.1.1.1.1.1,
          (c.requires.1.0.few, subst (AllByRecursion (λ (want : Want). 3 ≤ want.words)) own.asks (asked_header own.own)),
        ),
      ),
    )

pub returns-in_err-room_for : goal.returns-in_err-room_for
returns-in_err-room_for g c = record {
  made = subst (λ (result : Result (Unit {0}) NoRoom). OnOk result (TurnMade g.S.Store.rules (machine_of c.args.program.now c.args.roots.now.limit) (moment_in (g.S.Store.storage c.args.store.now) c.args.roots.now.roots g.given.0) (moment_in (g.S.Store.storage c.room_for.new.store) c.room_for.new.roots.roots g.given.0)))
      (sym (handed_same c.from_residual.result c.in_err-room_for.field-0.0 c.from_residual.ensures)) tt;
  refused = let before = view_in (g.S.Store.storage c.args.store.now) c.args.roots.now.roots in
      let after = view_in (g.S.Store.storage c.room_for.new.store) c.room_for.new.roots.roots in
      handed_on (λ (reason : NoRoom). TurnRefused g.S.Store.rules (machine_of c.args.program.now c.args.roots.now.limit) (moment_of before g.given.0 (g.S.Store.storage c.args.store.now).facts) reason
      (moment_of after g.given.0 (g.S.Store.storage c.room_for.new.store).facts)) c.from_residual.result c.in_err-room_for.field-0.0 c.from_residual.ensures
      (refused_so c.args.program.now (g.S.Store.storage c.args.store.now).index (g.S.Store.storage c.args.store.now).kept c.args.roots.now.limit c.args.roots.now.roots g.given.0 c.args.decoded.now c.requires.1.1.1.0.method
      c.requires.1.1.0 c.requires.1.1.1.0.asked c.args.native c.requires.1.1.1.0.is g.S.Store.rules (g.S.Store.storage c.args.store.now).facts (g.S.Store.storage c.room_for.new.store).facts after c.args.request.now c.in-Some.next c.in_err-room_for.field-0.0 c.in-Some.is
      c.requires.1.1.1.1.1.0 c.in_err-room_for.ensures.refused);
  counted = subst (λ (result : Result (Unit {0}) NoRoom). CountsFaults (g.S.Store.storage c.args.store.now).faults (g.S.Store.storage c.room_for.new.store).faults (IsFault result))
      (sym (handed_same c.from_residual.result c.in_err-room_for.field-0.0 c.from_residual.ensures)) c.in_err-room_for.ensures.counted;
  limit = search rules;
  settings = search rules;
}

pub perform-requires : goal.perform-requires
perform-requires g c κs within =
    let program = c.args.program.now in
    let linked = c.requires.1.0.linked in
    let fits = c.requires.1.0.fits in
    let typed = c.requires.1.0.typed in
    let has = c.linked_has_natives.ensures program linked fits in
    let whole = c.linked_programs.ensures.whole program linked in
    let shapes = (g.S.Store.storage c.args.store.now).settings.shapes in
    let middle = view_in (g.S.Store.storage c.room_for.new.store) c.room_for.new.roots.roots in
    let typed_middle = typed_still c.args.program.now (g.S.Store.storage c.args.store.now).index (g.S.Store.storage c.args.store.now).kept c.args.roots.now.limit c.args.roots.now.roots g.given.0 c.args.decoded.now c.requires.1.1.1.0.method
    c.requires.1.1.0 c.requires.1.1.1.0.asked c.args.native c.requires.1.1.1.0.is
    (g.S.Store.storage c.room_for.new.store).index (g.S.Store.storage c.room_for.new.store).kept c.room_for.new.roots.roots c.in_ok-room_for.ensures.collected typed in (
      search rules,
      (
        refl,
        (
          c.linked_programs_fit.ensures.few program linked,
          (
            subst (λ (decoded : Decoded). IsThere program decoded.named) (sym c.requires.1.1.0.is)
                (c.linked_constants.ensures.there program linked c.requires.1.1.0.frame.method c.requires.1.1.0.frame.pc),
            (
              few_there c.args.program.now (g.S.Store.storage c.args.store.now).index (g.S.Store.storage c.args.store.now).kept c.args.roots.now.limit c.args.roots.now.roots g.given.0 c.args.decoded.now c.requires.1.1.1.0.method
                  c.requires.1.1.0 c.requires.1.1.1.0.asked c.args.native c.requires.1.1.1.0.is linked fits typed has,
              (
                some_still c.args.program.now (g.S.Store.storage c.args.store.now).index (g.S.Store.storage c.args.store.now).kept c.args.roots.now.limit c.args.roots.now.roots g.given.0 c.args.decoded.now c.requires.1.1.1.0.method
                    c.requires.1.1.0 c.requires.1.1.1.0.asked c.args.native c.requires.1.1.1.0.is
                    (g.S.Store.storage c.room_for.new.store).index (g.S.Store.storage c.room_for.new.store).kept c.room_for.new.roots.roots c.in_ok-room_for.ensures.collected linked fits typed has c.requires.1.1.1.1.0,
                (
                  enough_still c.args.program.now (g.S.Store.storage c.args.store.now).index (g.S.Store.storage c.args.store.now).kept c.args.roots.now.limit c.args.roots.now.roots g.given.0 c.args.decoded.now c.requires.1.1.1.0.method
                      c.requires.1.1.0 c.requires.1.1.1.0.asked c.args.native c.requires.1.1.1.0.is
                      (g.S.Store.storage c.room_for.new.store).index (g.S.Store.storage c.room_for.new.store).kept c.room_for.new.roots.roots c.in_ok-room_for.ensures.collected,
                  (
                    c.requires.1.1.1.1.0,
                    (
                      sorts_still c.args.program.now (g.S.Store.storage c.args.store.now).index (g.S.Store.storage c.args.store.now).kept c.args.roots.now.limit c.args.roots.now.roots g.given.0 c.args.decoded.now c.requires.1.1.1.0.method
                          c.requires.1.1.0 c.requires.1.1.1.0.asked c.args.native c.requires.1.1.1.0.is
                          (g.S.Store.storage c.room_for.new.store).index (g.S.Store.storage c.room_for.new.store).kept c.room_for.new.roots.roots c.in_ok-room_for.ensures.collected linked fits typed has,
                      (
                        given_still c.args.program.now (g.S.Store.storage c.args.store.now).index (g.S.Store.storage c.args.store.now).kept c.args.roots.now.limit c.args.roots.now.roots g.given.0 c.args.decoded.now c.requires.1.1.1.0.method
                            c.requires.1.1.0 c.requires.1.1.1.0.asked c.args.native c.requires.1.1.1.0.is
                            (g.S.Store.storage c.room_for.new.store).index (g.S.Store.storage c.room_for.new.store).kept c.room_for.new.roots.roots c.in_ok-room_for.ensures.collected linked fits typed has,
                        (
                          laid_still c.args.program.now (g.S.Store.storage c.args.store.now).index (g.S.Store.storage c.args.store.now).kept c.args.roots.now.limit c.args.roots.now.roots g.given.0 c.args.decoded.now c.requires.1.1.1.0.method
                              c.requires.1.1.0 c.requires.1.1.1.0.asked c.args.native c.requires.1.1.1.0.is
                              (g.S.Store.storage c.room_for.new.store).index (g.S.Store.storage c.room_for.new.store).kept c.room_for.new.roots.roots c.in_ok-room_for.ensures.collected linked fits typed has
                              whole shapes c.requires.1.0.shaped,
                          (
                            subst (Asks program middle c.args.native (map (read_value (g.S.Store.storage c.room_for.new.store).index) (arguments_at program c.args.decoded.now c.room_for.new.roots.roots)))
                                c.requires.1.1.1.1.1.1.0
                                (asks_again c.args.program.now (g.S.Store.storage c.args.store.now).index (g.S.Store.storage c.args.store.now).kept c.args.roots.now.limit c.args.roots.now.roots g.given.0 c.args.decoded.now c.requires.1.1.1.0.method
                                c.requires.1.1.0 c.requires.1.1.1.0.asked c.args.native c.requires.1.1.1.0.is
                                (g.S.Store.storage c.room_for.new.store).index (g.S.Store.storage c.room_for.new.store).kept c.room_for.new.roots.roots c.in_ok-room_for.ensures.collected c.requires.1.1.1.1.1.0),
                            (
                              subst (λ (wants : List Want). (wants ≡ [] → ⊥) → HasRoom (g.S.Store.storage c.room_for.new.store).kept wants (g.S.Store.storage c.room_for.new.store).granted) c.requires.1.1.1.1.1.1.0
                                  c.in_ok-room_for.ensures.room,
                              (
                                subst (MayMake program) (sym (same_shapes c.room_for.ensures.settings)) (c.linked_makes.ensures.makes program shapes linked fits c.requires.1.0.shaped),
                                (
                                  subst (MayHold program) (sym (same_shapes c.room_for.ensures.settings)) (c.linked_makes.ensures.holds program shapes linked fits c.requires.1.0.shaped),
                                  (
                                    subst (λ allows. MayLeave program allows middle c.args.native (map (read_value (g.S.Store.storage c.room_for.new.store).index) (arguments_at program c.args.decoded.now c.room_for.new.roots.roots)))
                                        (sym (same_allows c.room_for.ensures.settings))
                                        (may_leave_still c.args.program.now (g.S.Store.storage c.args.store.now).index (g.S.Store.storage c.args.store.now).kept c.args.roots.now.limit c.args.roots.now.roots g.given.0 c.args.decoded.now c.requires.1.1.1.0.method
                                        c.requires.1.1.0 c.requires.1.1.1.0.asked c.args.native c.requires.1.1.1.0.is
                                        (g.S.Store.storage c.room_for.new.store).index (g.S.Store.storage c.room_for.new.store).kept c.room_for.new.roots.roots c.in_ok-room_for.ensures.collected
                                        (g.S.Store.storage c.args.store.now).settings.allows c.in-Some.next c.in-Some.is c.requires.1.1.1.1.1.0 c.requires.1.0.follows),
                                    (
                                      c.in_ok-room_for.ensures.collected.closed,
                                      (
                                        tables_there program (g.S.Store.storage c.room_for.new.store).index (g.S.Store.storage c.room_for.new.store).kept c.room_for.new.roots.roots g.given.0 typed_middle,
                                        kinds_there program middle g.given.0 typed_middle,
                                      ),
                                    ),
                                  ),
                                ),
                              ),
                            ),
                          ),
                        ),
                      ),
                    ),
                  ),
                ),
              ),
            ),
          ),
        ),
      ),
    )

pub returns : goal.returns
returns g c = record {
  made = turn_so c.args.program.now (g.S.Store.storage c.args.store.now).index (g.S.Store.storage c.args.store.now).kept c.args.roots.now.limit c.args.roots.now.roots g.given.0 c.args.decoded.now c.requires.1.1.1.0.method
      c.requires.1.1.0 c.requires.1.1.1.0.asked c.args.native c.requires.1.1.1.0.is
      (g.S.Store.storage c.room_for.new.store).index (g.S.Store.storage c.room_for.new.store).kept c.room_for.new.roots.roots c.in_ok-room_for.ensures.collected g.S.Store.rules (g.S.Store.storage c.args.store.now).facts (g.S.Store.storage c.room_for.new.store).facts (g.S.Store.storage c.perform.new.store).facts
      (view_in (g.S.Store.storage c.perform.new.store) c.perform.new.roots.roots) c.args.request.now c.in-Some.next c.in-Some.is
      c.requires.1.1.1.1.1.0 c.in_ok-room_for.ensures.made c.perform.ensures.left;
  refused = search rules;
  counted = subst (λ (count : ℕ). CountsFaults (g.S.Store.storage c.args.store.now).faults count (IsFault (Ok tt))) (sym c.perform.ensures.faults) c.in_ok-room_for.ensures.counted;
  limit = search rules;
  settings = search rules;
}
