use Rattle.cb_heap.specs.Storage.{view_in}
use Rattle.std.proofs.Common.{◌∙◌, arith, ap, sym, subst, ◌<◌, ◌+◌, ◌/◌, ◌^◌, ◌++◌, length, List, IsTrue, ℕ, rules}
use Rattle.cb_heap.specs.Grants.{words_granted}
use Rattle.cb_heap.specs.Reading.{View, seen}
use Rattle.cb_heap.specs.declared.no_room.NoRoom.{NoRoom}
use Rattle.cb_heap.proofs.Laws.{reads_placed, same_allows, same_shapes}
use Rattle.cb_plain.specs.declared.shape.Shape.{Shape}
use Rattle.cb_plain.specs.declared.want.Want.{Want}
use Rattle.std.specs.List.{AllByRecursion}
use Rattle.cb_interp.specs.Arguments.{Covers}
use Rattle.cb_interp.specs.Nested.{Grid, GridFits, grid_on, knows_nested, nested_objects, nested_wants}
use Rattle.cb_act.specs.Placing.{at_place}
use Rattle.cb_act.specs.Turning.{TurnRefused, machine_of, moment_of, state_of}
use Rattle.cb_natives.proofs.Laws.{follows_so}
use Rattle.cb_interp.proofs.FollowNested.{nested_follows}
use Rattle.cb_interp.proofs.TurnsMaking.{handed_on}
use Rattle.cb_interp.proofs.TurnsNeedSerials.{few_on, serials_all}
use Rattle.cb_interp.proofs.TurnsNestedRoom.{nested_sites}
use Rattle.cb_interp.proofs.TurnsNestedTurn.{behind_nested, grid_again, has_grid_again, nested_refused, nested_turn, stack_still}
use Rattle.cb_interp.proofs.TurnsStartingRoom.{covers_asked}
use Rattle.cb_interp.proofs.nested_turns.make_nested_turn.Goals as goal

pub ask_nested-requires-clause-few : goal.ask_nested-requires-clause-few
ask_nested-requires-clause-few g c = c.requires.1.1.0

pub ask_nested-requires-clause-grid : goal.ask_nested-requires-clause-grid
ask_nested-requires-clause-grid g c = c.requires.1.1.1.0

pub make_room-requires-clause-sites : goal.make_room-requires-clause-sites
make_room-requires-clause-sites g c =
    let grid : Grid = grid_on c.args.program.now c.args.roots.now.roots (c.args.last + 1) in
    let fits = c.requires.1.1.1.1.1.0 in
    let knows = c.requires.1.1.1.1.1.1.0 in
    subst (λ (wants : List Want). AllByRecursion (λ (want : Want). IsTrue ((g.S.Store.storage c.args.store.now).settings.knows want.site)) wants) (sym c.ask_nested.ensures)
    (nested_sites (λ (site : ℕ). IsTrue ((g.S.Store.storage c.args.store.now).settings.knows site)) grid (c.args.last + 1) (λ dimension low. knows (grid.site dimension) (fits.there dimension low)))

pub place_nested-at-requires-clause-few : goal.place_nested-at-requires-clause-few
place_nested-at-requires-clause-few g c = c.requires.1.1.0

pub place_nested-at-requires-clause-grid : goal.place_nested-at-requires-clause-grid
place_nested-at-requires-clause-grid g c =
    has_grid_again c.args.program.now (g.S.Store.storage c.args.store.now).index (g.S.Store.storage c.make_room.new.self).index c.args.roots.now.roots c.make_room.new.roots.roots c.args.last
    c.make_room.ensures.collected.roots c.requires.1.1.1.0

pub place_nested-at-requires-clause-fits : goal.place_nested-at-requires-clause-fits
place_nested-at-requires-clause-fits g c =
    let same =
    grid_again c.args.program.now (g.S.Store.storage c.args.store.now).index (g.S.Store.storage c.make_room.new.self).index c.args.roots.now.roots c.make_room.new.roots.roots
    c.make_room.ensures.collected.roots (c.args.last + 1) in
    subst (λ (grid : Grid). GridFits c.args.program.now (g.S.Store.storage c.make_room.new.self).settings.shapes grid (c.args.last + 1)) (sym same)
    (subst (λ (shapes : List Shape). GridFits c.args.program.now shapes (grid_on c.args.program.now c.args.roots.now.roots (c.args.last + 1)) (c.args.last + 1)) (sym (same_shapes c.make_room.ensures.settings)) c.requires.1.1.1.1.1.0)

pub place_nested-at-requires-clause-granted : goal.place_nested-at-requires-clause-granted
place_nested-at-requires-clause-granted g c =
    let same =
    grid_again c.args.program.now (g.S.Store.storage c.args.store.now).index (g.S.Store.storage c.make_room.new.self).index c.args.roots.now.roots c.make_room.new.roots.roots
    c.make_room.ensures.collected.roots (c.args.last + 1) in
    let grid : Grid = grid_on c.args.program.now c.args.roots.now.roots (c.args.last + 1) in
    subst (λ (grid : Grid). Covers (g.S.Store.storage c.make_room.new.self).granted (nested_wants grid (c.args.last + 1))) (sym same)
    (subst (λ (granted : List Want). Covers granted (nested_wants grid (c.args.last + 1))) (sym c.in_ok-make_room.ensures.granted)
    (covers_asked c.ask_nested.new.request (nested_wants grid (c.args.last + 1)) c.ask_nested.ensures c.in_ok-make_room.ensures.bounded.each))

pub place_nested-at-requires-clause-serials : goal.place_nested-at-requires-clause-serials
place_nested-at-requires-clause-serials g c =
    subst (λ (granted : List Want). length (g.S.Store.storage c.make_room.new.self).kept + 1 + words_granted granted / 3 < 2 ^ 63) (sym c.in_ok-make_room.ensures.granted)
    (serials_all g.S.Store.rules.fixed (length (g.S.Store.storage c.make_room.new.self).kept) c.ask_nested.new.request
    (few_on g.S.Store.rules.fixed (length (g.S.Store.storage c.args.store.now).kept) (length (g.S.Store.storage c.make_room.new.self).kept) c.make_room.ensures.collected.count c.requires.1.1.1.1.0)
    c.in_ok-make_room.ensures.bounded)

pub place_nested-at-requires-clause-follows : goal.place_nested-at-requires-clause-follows
place_nested-at-requires-clause-follows g c =
    let grid : Grid = grid_on c.args.program.now c.args.roots.now.roots (c.args.last + 1) in
    let same =
    grid_again c.args.program.now (g.S.Store.storage c.args.store.now).index (g.S.Store.storage c.make_room.new.self).index c.args.roots.now.roots c.make_room.new.roots.roots
    c.make_room.ensures.collected.roots (c.args.last + 1) in
    let before = view_in (g.S.Store.storage c.args.store.now) c.args.roots.now.roots in
    let middle = view_in (g.S.Store.storage c.make_room.new.self) c.make_room.new.roots.roots in
    let room = (g.S.Store.storage c.make_room.new.self).kept in
    let allows = (g.S.Store.storage c.args.store.now).settings.allows in
    follows_so allows (g.S.Store.storage c.make_room.new.self).settings.allows (same_allows c.make_room.ensures.settings)
    (room ++ nested_objects c.args.program.now grid (length room + 1) c.args.last)
    (room ++ nested_objects c.args.program.now (grid_on c.args.program.now c.make_room.new.roots.roots (c.args.last + 1)) (length room + 1) c.args.last)
    (ap (λ (grid : Grid). room ++ nested_objects c.args.program.now grid (length room + 1) c.args.last) same)
    (nested_follows g.S.Store.rules (machine_of c.args.program.now c.args.roots.now.limit) grid c.args.last c.args.next allows
    (moment_of before g.outside (g.S.Store.storage c.args.store.now).facts) (moment_of middle g.outside (g.S.Store.storage c.make_room.new.self).facts)
    c.requires.1.1.1.1.1.1.1.0 c.requires.1.0 c.make_room.ensures.collected
    (ap (λ roots. state_of (record { roots = roots; objects = room }) g.outside) c.make_room.ensures.collected.roots))

pub give_for-requires-clause-few : goal.give_for-requires-clause-few
give_for-requires-clause-few g c = c.requires.1.1.0

pub give_for-requires-clause-there : goal.give_for-requires-clause-there
give_for-requires-clause-there g c =
    let many = c.requires.1.1.1.0.many in
    stack_still (g.S.Store.storage c.args.store.now).index (g.S.Store.storage c.make_room.new.self).index c.args.roots.now.roots c.make_room.new.roots.roots c.args.last
    c.make_room.ensures.collected.roots (omega (arith, many))

pub returns : goal.returns
returns g c = record {
  made = let grid : Grid = grid_on c.args.program.now c.args.roots.now.roots (c.args.last + 1) in
      let same =
      grid_again c.args.program.now (g.S.Store.storage c.args.store.now).index (g.S.Store.storage c.make_room.new.self).index c.args.roots.now.roots c.make_room.new.roots.roots
      c.make_room.ensures.collected.roots (c.args.last + 1) in
      let before = view_in (g.S.Store.storage c.args.store.now) c.args.roots.now.roots in
      let middle = view_in (g.S.Store.storage c.make_room.new.self) c.make_room.new.roots.roots in
      let index = (g.S.Store.storage c.place_nested-at.new.store).index in
      let kept = (g.S.Store.storage c.place_nested-at.new.store).kept in
      let did = c.place_nested-at.ensures in
      let room = (g.S.Store.storage c.make_room.new.self).kept in
      nested_turn g.S.Store.rules (machine_of c.args.program.now c.args.roots.now.limit) (moment_of before g.outside (g.S.Store.storage c.args.store.now).facts) grid c.args.last c.args.next
      c.ask_nested.new.request c.requires.1.0 c.ask_nested.ensures
      (moment_of middle g.outside (g.S.Store.storage c.make_room.new.self).facts) (moment_of (seen index kept c.set_place.new.self.roots) g.outside (g.S.Store.storage c.place_nested-at.new.store).facts)
      c.in_ok-make_room.ensures.ruled c.make_room.ensures.collected
      (ap (λ roots. state_of (record { roots = roots; objects = (g.S.Store.storage c.make_room.new.self).kept }) g.outside) c.make_room.ensures.collected.roots)
      (did.facts ∙ ap (λ (grid : Grid). knows_nested g.S.Store.rules (g.S.Store.storage c.make_room.new.self).facts grid (c.args.last + 1)) same)
      (ap (λ held. state_of (seen index kept held.roots) g.outside) c.set_place.ensures
      ∙ ap (λ roots. state_of (record { roots = roots; objects = kept }) g.outside) (reads_placed index c.give_for.new.roots.roots c.args.next)
      ∙ ap (λ (view : View). state_of (at_place view c.args.next) g.outside)
      (behind_nested c.args.program.now grid c.args.last (g.S.Store.storage c.make_room.new.self).index index (g.S.Store.storage c.make_room.new.self).kept kept c.make_room.new.roots.roots
      c.give_for.new.roots.roots c.place_nested-at.result (ap (λ roots. roots.roots) c.give_for.ensures) did.places c.make_room.ensures.collected.closed did.serial
      (did.kept ∙ ap (λ (grid : Grid). room ++ nested_objects c.args.program.now grid (length room + 1) c.args.last) same)));
  refused = search rules;
  counted = search rules;
  limit = search rules;
  settings = search rules;
}

pub returns-in_err-make_room : goal.returns-in_err-make_room
returns-in_err-make_room g c = record {
  made = search rules;
  refused = let grid : Grid = grid_on c.args.program.now c.args.roots.now.roots (c.args.last + 1) in
      let before = view_in (g.S.Store.storage c.args.store.now) c.args.roots.now.roots in
      let after = view_in (g.S.Store.storage c.make_room.new.self) c.make_room.new.roots.roots in
      handed_on (λ (reason : NoRoom). TurnRefused g.S.Store.rules (machine_of c.args.program.now c.args.roots.now.limit)
      (moment_of before g.outside (g.S.Store.storage c.args.store.now).facts) reason (moment_of after g.outside (g.S.Store.storage c.make_room.new.self).facts)) c.from_residual.result
      c.in_err-make_room.field-0.0 c.from_residual.ensures
      (nested_refused g.S.Store.rules (machine_of c.args.program.now c.args.roots.now.limit) (moment_of before g.outside (g.S.Store.storage c.args.store.now).facts) grid c.args.last c.args.next
      c.ask_nested.new.request c.requires.1.0 c.ask_nested.ensures (moment_of after g.outside (g.S.Store.storage c.make_room.new.self).facts) c.in_err-make_room.field-0.0
      c.in_err-make_room.ensures.ruled c.make_room.ensures.collected
      (ap (λ roots. state_of (record { roots = roots; objects = (g.S.Store.storage c.make_room.new.self).kept }) g.outside) c.make_room.ensures.collected.roots));
  counted = search rules;
  limit = search rules;
  settings = search rules;
}
