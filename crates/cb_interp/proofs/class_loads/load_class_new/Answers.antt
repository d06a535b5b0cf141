use Rattle.cb_heap.proofs.Laws.{same_shapes}
use Rattle.cb_heap.specs.Storage.{view_in}
use Rattle.std.proofs.Common.{◌≡◌, ◌∙◌, ◌<◌, List, Some, ap, length, slice_get, subst, sym, ℕ, rules}
use Rattle.std.specs.declared.result.Result.TheVariants.{Err, Ok}
use Rattle.cb_frames.specs.Limited.{Limited}
use Rattle.cb_frames.specs.Tops.{placed}
use Rattle.cb_heap.specs.Kept.{residents}
use Rattle.cb_heap.specs.Reading.{View}
use Rattle.cb_heap.specs.declared.no_room.NoRoom.{NoRoom}
use Rattle.cb_machine.specs.Machine.{kind_of_site, or_zero}
use Rattle.cb_machine.specs.Sites.{class_objects}
use Rattle.cb_machine.specs.Steps.{plan}
use Rattle.cb_plain.specs.Requests.{add_want}
use Rattle.cb_plain.specs.State.{Roots}
use Rattle.cb_plain.specs.declared.value.Value.TheVariants.{Ref}
use Rattle.cb_plain.specs.declared.want.Want.{Want}
use Rattle.cb_safety.proofs.Laws.{typed_states_are_closed}
use Rattle.cb_interp.specs.Loading.{laid, loads_class, new_class}
use Rattle.cb_act.specs.Turning.{TurnRefused, machine_of, moment_of, state_of}
use Rattle.cb_interp.proofs.TurnsMaking.{handed_on, room_again}
use Rattle.cb_interp.proofs.TurnsNeedClasses.{class_left, class_refused, class_table_again, class_turn, class_wants}
use Rattle.cb_interp.proofs.TurnsNeedLoads.{some_frames}
use Rattle.cb_interp.proofs.class_loads.load_class_new.Goals as goal

pub make_room-requires-clause-closed : goal.make_room-requires-clause-closed
make_room-requires-clause-closed g c =
    typed_states_are_closed c.args.program.now (state_of (view_in (g.S.Store.storage c.args.store.now) c.args.roots.now.roots) g.outside) c.requires.1.0.typed

pub place_class-at-requires-clause-shape : goal.place_class-at-requires-clause-shape
place_class-at-requires-clause-shape g c =
    ap (λ shapes. slice_get shapes c.site_kind.result) (same_shapes c.make_room.ensures.settings)
    ∙ ap (slice_get (g.S.Store.storage c.args.store.now).settings.shapes) (sym (ap or_zero c.site_kind.ensures.kind))
    ∙ c.requires.1.0.shaped (kind_of_site c.args.program.now class_objects) c.requires.1.1.1.1.1.0 ∙ ap Some c.requires.1.1.1.1.1.1.0

pub place_class-at-requires-clause-table : goal.place_class-at-requires-clause-table
place_class-at-requires-clause-table g c = class_table_again (g.S.Store.storage c.args.store.now).index (g.S.Store.storage c.make_room.new.self).index c.args.roots.now.roots c.make_room.new.roots.roots c.args.kind c.make_room.ensures.collected.roots c.requires.1.1.1.0

pub lay_reference-requires : goal.lay_reference-requires
lay_reference-requires g c =
    subst (λ (room : ℕ). 0 < room) (sym c.place_class-at.ensures.frames) (room_again (g.S.Store.storage c.args.store.now).index (g.S.Store.storage c.make_room.new.self).index c.args.roots.now.roots c.make_room.new.roots.roots c.make_room.ensures.collected.roots c.requires.1.1.1.1.1.1.1)

pub returns : goal.returns
returns g c = record {
  made = let wants : c.add.new.self ≡ class_wants =
      c.add.ensures ∙ ap (λ wants. add_want wants (record { site = class_objects; words = 4 })) c.clear.ensures in
      let before = view_in (g.S.Store.storage c.args.store.now) c.args.roots.now.roots in
      let middle = view_in (g.S.Store.storage c.make_room.new.self) c.make_room.new.roots.roots in
      let after = view_in (g.S.Store.storage c.place_class-at.new.store) c.lay_reference.new.roots.roots in
      class_turn g.S.Store.rules (machine_of c.args.program.now c.args.roots.now.limit) (moment_of before g.outside (g.S.Store.storage c.args.store.now).facts)
      (moment_of after g.outside (g.S.Store.storage c.place_class-at.new.store).facts) c.args.kind c.args.next (c.requires.1.1.0 (g.S.Store.storage c.args.store.now).kept)
      (moment_of middle g.outside (g.S.Store.storage c.make_room.new.self).facts)
      (subst (λ (wants : List Want). g.S.Store.rules.makes_room (g.S.Store.storage c.args.store.now).facts before wants (Ok tt)
      (record { facts = (g.S.Store.storage c.make_room.new.self).facts; residents = residents (g.S.Store.storage c.make_room.new.self).kept })) wants c.in_ok-make_room.ensures.ruled)
      c.make_room.ensures.collected
      (ap (λ roots. state_of (record { roots = roots; objects = (g.S.Store.storage c.make_room.new.self).kept }) g.outside) c.make_room.ensures.collected.roots)
      (subst (λ (roots : Roots). plan (machine_of c.args.program.now c.args.roots.now.limit) (state_of (record { roots = roots; objects = (g.S.Store.storage c.make_room.new.self).kept }) g.outside)
      ≡ Some (loads_class (machine_of c.args.program.now c.args.roots.now.limit) (state_of (record { roots = roots; objects = (g.S.Store.storage c.make_room.new.self).kept }) g.outside) c.args.kind c.args.next))
      (sym c.make_room.ensures.collected.roots) (c.requires.1.1.0 (g.S.Store.storage c.make_room.new.self).kept))
      (ap (λ (view : View). state_of view g.outside)
      (class_left (new_class c.site_kind.result c.args.kind middle) (g.S.Store.storage c.place_class-at.new.store).index (g.S.Store.storage c.place_class-at.new.store).kept c.place_class-at.new.roots.roots c.lay_reference.new.roots.roots c.place_class-at.result c.args.next
      c.place_class-at.ensures.behind
      (ap (λ (held : Limited). held.roots) c.lay_reference.ensures)
      ∙ ap (λ (own : ℕ). laid (new_class own c.args.kind middle).0 (new_class own c.args.kind middle).1 c.args.next) (sym (ap or_zero c.site_kind.ensures.kind))))
      c.place_class-at.ensures.facts;
  refused = search rules;
  counted = search rules;
  limit = search rules;
  settings = search rules;
}

pub returns-in_err-make_room : goal.returns-in_err-make_room
returns-in_err-make_room g c = record {
  made = search rules;
  refused = let wants : c.add.new.self ≡ class_wants =
      c.add.ensures ∙ ap (λ wants. add_want wants (record { site = class_objects; words = 4 })) c.clear.ensures in
      let before = view_in (g.S.Store.storage c.args.store.now) c.args.roots.now.roots in
      let after = view_in (g.S.Store.storage c.make_room.new.self) c.make_room.new.roots.roots in
      handed_on (λ (reason : NoRoom). TurnRefused g.S.Store.rules (machine_of c.args.program.now c.args.roots.now.limit) (moment_of before g.outside (g.S.Store.storage c.args.store.now).facts) reason
      (moment_of after g.outside (g.S.Store.storage c.make_room.new.self).facts)) c.from_residual.result c.in_err-make_room.field-0.0 c.from_residual.ensures
      (class_refused g.S.Store.rules (machine_of c.args.program.now c.args.roots.now.limit) (moment_of before g.outside (g.S.Store.storage c.args.store.now).facts) (moment_of after g.outside (g.S.Store.storage c.make_room.new.self).facts)
      c.args.kind c.args.next (c.requires.1.1.0 (g.S.Store.storage c.args.store.now).kept) c.in_err-make_room.field-0.0
      (subst (λ (wants : List Want). g.S.Store.rules.makes_room (g.S.Store.storage c.args.store.now).facts before wants (Err c.in_err-make_room.field-0.0)
      (record { facts = (g.S.Store.storage c.make_room.new.self).facts; residents = residents (g.S.Store.storage c.make_room.new.self).kept })) wants c.in_err-make_room.ensures.ruled)
      c.make_room.ensures.collected
      (ap (λ roots. state_of (record { roots = roots; objects = (g.S.Store.storage c.make_room.new.self).kept }) g.outside) c.make_room.ensures.collected.roots));
  counted = search rules;
  limit = search rules;
  settings = search rules;
}
