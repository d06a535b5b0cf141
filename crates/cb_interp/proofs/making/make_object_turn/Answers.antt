use Rattle.cb_heap.specs.Storage.{view_in}
use Rattle.std.proofs.Common.{arith, length, ◌≡◌, ◌∙◌, ap, sym, subst, [], ◌∷◌, List, rules}
use Rattle.std.specs.declared.result.Result.TheVariants.{Err, Ok}
use Rattle.cb_heap.specs.Kept.{residents}
use Rattle.cb_heap.specs.declared.no_room.NoRoom.{NoRoom}
use Rattle.cb_heap.specs.Reading.{View}
use Rattle.cb_heap.proofs.Laws.{reads_placed, same_shapes}
use Rattle.cb_machine.specs.Machine.{kind_of_site, or_zero}
use Rattle.cb_plain.specs.Requests.{add_want}
use Rattle.cb_plain.specs.declared.want.Want.{Want}
use Rattle.cb_act.specs.Placing.{at_place, made_object}
use Rattle.cb_act.specs.Turning.{TurnRefused, machine_of, moment_of, state_of, most_at_once}
use Rattle.cb_interp.proofs.TurnsMaking.{handed_on, object_refused, object_turn, room_again, size_want}
use Rattle.cb_interp.proofs.TurnsNeedSerials.{serial_left}
use Rattle.cb_interp.proofs.making.make_object_turn.Goals as goal

pub make_object-requires-clause-serials : goal.make_object-requires-clause-serials
make_object-requires-clause-serials g c =
    serial_left g.S.Store.rules.fixed (length (g.S.Store.storage c.args.store.now).kept) (length (g.S.Store.storage c.make_room.new.self).kept) most_at_once _ c.make_room.ensures.collected.count
    (omega arith) c.requires.1.1.1.1.1.1.0 c.in_ok-make_room.ensures.bounded

pub make_object-requires-clause-room : goal.make_object-requires-clause-room
make_object-requires-clause-room g c =
    room_again (g.S.Store.storage c.args.store.now).index (g.S.Store.storage c.make_room.new.self).index c.args.roots.now.roots c.make_room.new.roots.roots
    c.make_room.ensures.collected.roots c.requires.1.1.1.1.1.1.1.1

pub returns : goal.returns
returns g c = record {
  made = let before = view_in (g.S.Store.storage c.args.store.now) c.args.roots.now.roots in
      let middle = view_in (g.S.Store.storage c.make_room.new.self) c.make_room.new.roots.roots in
      let placed = view_in (g.S.Store.storage c.make_object.new.store) c.make_object.new.roots.roots in
      let after = view_in (g.S.Store.storage c.make_object.new.store) c.set_place.new.self.roots in
      let wants : c.add.new.self ≡ size_want c.args.site c.args.size ∷ [] =
      c.add.ensures ∙ ap (λ wants. add_want wants (record { site = c.args.site; words = c.words_of.result })) c.clear.ensures
      ∙ ap (λ words. add_want [] (record { site = c.args.site; words = words })) c.words_of.ensures in
      let kind : kind_of_site c.args.program.now c.args.site ≡ c.site_kind.result = ap or_zero c.site_kind.ensures.kind in
      object_turn g.S.Store.rules (machine_of c.args.program.now c.args.roots.now.limit) (moment_of before g.outside (g.S.Store.storage c.args.store.now).facts)
      (moment_of middle g.outside (g.S.Store.storage c.make_room.new.self).facts) (moment_of after g.outside (g.S.Store.storage c.make_object.new.store).facts) c.args.site c.args.size c.args.pc
      (g.S.Store.storage c.args.store.now).settings.shapes
      (subst (λ (wants : List Want). g.S.Store.rules.makes_room (g.S.Store.storage c.args.store.now).facts before wants (Ok tt)
      (record { facts = (g.S.Store.storage c.make_room.new.self).facts; residents = residents (g.S.Store.storage c.make_room.new.self).kept })) wants c.in_ok-make_room.ensures.ruled)
      c.make_room.ensures.collected
      (ap (λ roots. state_of (record { roots = roots; objects = (g.S.Store.storage c.make_room.new.self).kept }) g.outside) c.make_room.ensures.collected.roots)
      c.make_object.ensures.facts c.requires.1.0 c.requires.1.1.1.0 c.requires.1.1.1.1.0
      (ap (λ held. state_of (view_in (g.S.Store.storage c.make_object.new.store) held.roots) g.outside) c.set_place.ensures
      ∙ ap (λ roots. state_of (record { roots = roots; objects = placed.objects }) g.outside) (reads_placed (g.S.Store.storage c.make_object.new.store).index c.make_object.new.roots.roots c.args.pc)
      ∙ ap (λ (view : View). state_of (at_place view c.args.pc) g.outside)
      (c.make_object.ensures.behind ∙ ap (λ shapes. made_object shapes c.args.site c.site_kind.result c.args.size middle) (same_shapes c.make_room.ensures.settings)
      ∙ ap (λ kind. made_object (g.S.Store.storage c.args.store.now).settings.shapes c.args.site kind c.args.size middle) (sym kind)));
  refused = search rules;
  counted = search rules;
  limit = search rules;
  settings = search rules;
}

pub returns-in_err-make_room : goal.returns-in_err-make_room
returns-in_err-make_room g c = record {
  made = search rules;
  refused = let before = view_in (g.S.Store.storage c.args.store.now) c.args.roots.now.roots in
      let after = view_in (g.S.Store.storage c.make_room.new.self) c.make_room.new.roots.roots in
      let wants : c.add.new.self ≡ size_want c.args.site c.args.size ∷ [] =
      c.add.ensures ∙ ap (λ wants. add_want wants (record { site = c.args.site; words = c.words_of.result })) c.clear.ensures
      ∙ ap (λ words. add_want [] (record { site = c.args.site; words = words })) c.words_of.ensures in
      handed_on (λ (reason : NoRoom). TurnRefused g.S.Store.rules (machine_of c.args.program.now c.args.roots.now.limit)
      (moment_of before g.outside (g.S.Store.storage c.args.store.now).facts) reason (moment_of after g.outside (g.S.Store.storage c.make_room.new.self).facts)) c.from_residual.result
      c.in_err-make_room.field-0.0 c.from_residual.ensures
      (object_refused g.S.Store.rules (machine_of c.args.program.now c.args.roots.now.limit) (moment_of before g.outside (g.S.Store.storage c.args.store.now).facts)
      (moment_of after g.outside (g.S.Store.storage c.make_room.new.self).facts) c.args.site c.args.size c.args.pc (g.S.Store.storage c.args.store.now).settings.shapes c.in_err-make_room.field-0.0
      c.requires.1.0 c.requires.1.1.1.0 c.requires.1.1.1.1.0
      (subst (λ (wants : List Want). g.S.Store.rules.makes_room (g.S.Store.storage c.args.store.now).facts before wants (Err c.in_err-make_room.field-0.0)
      (record { facts = (g.S.Store.storage c.make_room.new.self).facts; residents = residents (g.S.Store.storage c.make_room.new.self).kept })) wants c.in_err-make_room.ensures.ruled)
      c.make_room.ensures.collected
      (ap (λ roots. state_of (record { roots = roots; objects = (g.S.Store.storage c.make_room.new.self).kept }) g.outside) c.make_room.ensures.collected.roots));
  counted = search rules;
  limit = search rules;
  settings = search rules;
}
