use Rattle.cb_heap.specs.Storage.{view_in}
use Rattle.std.proofs.Common.{◌≡◌, ◌∙◌, ap, sym, subst, [], ◌∷◌, List, rules}
use Rattle.std.specs.declared.result.Result.TheVariants.{Ok}
use Rattle.cb_heap.proofs.Laws.{reads_placed, same_shapes}
use Rattle.cb_heap.specs.Kept.{residents}
use Rattle.cb_heap.specs.Reading.{View}
use Rattle.cb_machine.specs.Machine.{kind_of_site, or_zero}
use Rattle.cb_machine.specs.Sites.{no_class_definition}
use Rattle.cb_plain.specs.Requests.{add_want}
use Rattle.cb_plain.specs.declared.want.Want.{Want}
use Rattle.cb_act.specs.Placing.{at_place, thrown}
use Rattle.cb_act.specs.Turning.{machine_of, moment_of, state_of}
use Rattle.cb_interp.proofs.TurnsFrameFailed.{frames_again, thrown_at}
use Rattle.cb_interp.proofs.TurnsThrown.{exception_want}
use Rattle.cb_act.specs.Turning.{TurnRefused}
use Rattle.cb_heap.specs.declared.no_room.NoRoom.{NoRoom}
use Rattle.cb_plain.specs.State.{Roots}
use Rattle.cb_interp.proofs.TurnsMade.{asked_refused}
use Rattle.cb_interp.proofs.TurnsMaking.{handed_on}
use Rattle.cb_machine.specs.Throwing.{throws}
use Rattle.cb_plain.specs.Updates.{with_roots}
use Rattle.cb_frames.specs.Tops.{placed}
use Rattle.cb_interp.proofs.failed_turns.failed_turn.Goals as goal

pub set_place-requires : goal.set_place-requires
set_place-requires g c =
    frames_again (g.S.Store.storage c.args.store.now).index (g.S.Store.storage c.throw.new.store).index c.args.roots.now.roots c.throw.new.roots.roots
    (ap (λ (view : View). view.roots.frames) c.throw.ensures.behind ∙ ap (λ roots. roots.frames) c.make_room.ensures.collected.roots) c.requires.1.1.1.1.1.1.1.1

pub returns : goal.returns
returns g c = record {
  made = let before = view_in (g.S.Store.storage c.args.store.now) c.args.roots.now.roots in
      let middle = view_in (g.S.Store.storage c.make_room.new.self) c.make_room.new.roots.roots in
      let placed = view_in (g.S.Store.storage c.throw.new.store) c.throw.new.roots.roots in
      let after = view_in (g.S.Store.storage c.throw.new.store) c.set_place.new.self.roots in
      let wants : c.add.new.self ≡ exception_want no_class_definition ∷ [] = c.add.ensures ∙ ap (λ wants. add_want wants (record { site = no_class_definition; words = 6 })) c.clear.ensures in
      let kind : kind_of_site c.args.program.now no_class_definition ≡ c.site_kind.result = ap or_zero c.site_kind.ensures.kind in
      thrown_at g.S.Store.rules (machine_of c.args.program.now c.args.roots.now.limit) (moment_of before g.outside (g.S.Store.storage c.args.store.now).facts)
      (moment_of middle g.outside (g.S.Store.storage c.make_room.new.self).facts) (moment_of after g.outside (g.S.Store.storage c.throw.new.store).facts) no_class_definition c.args.next
      (g.S.Store.storage c.args.store.now).settings.shapes c.requires.1.0 c.requires.1.1.1.0
      (subst (λ (wants : List Want). g.S.Store.rules.makes_room (g.S.Store.storage c.args.store.now).facts before wants (Ok tt)
      (record { facts = (g.S.Store.storage c.make_room.new.self).facts; residents = residents (g.S.Store.storage c.make_room.new.self).kept })) wants c.in_ok-make_room.ensures.ruled)
      c.make_room.ensures.collected
      (ap (λ roots. state_of (record { roots = roots; objects = (g.S.Store.storage c.make_room.new.self).kept }) g.outside) c.make_room.ensures.collected.roots)
      (ap (λ held. state_of (view_in (g.S.Store.storage c.throw.new.store) held.roots) g.outside) c.set_place.ensures
      ∙ ap (λ roots. state_of (record { roots = roots; objects = placed.objects }) g.outside) (reads_placed (g.S.Store.storage c.throw.new.store).index c.throw.new.roots.roots c.args.next)
      ∙ ap (λ (view : View). state_of (at_place view c.args.next) g.outside)
      (c.throw.ensures.behind ∙ ap (λ shapes. thrown shapes no_class_definition c.site_kind.result middle) (same_shapes c.make_room.ensures.settings)
      ∙ ap (λ kind. thrown (g.S.Store.storage c.args.store.now).settings.shapes no_class_definition kind middle) (sym kind)))
      c.throw.ensures.facts;
  refused = search rules;
  counted = search rules;
  limit = search rules;
  settings = search rules;
}

pub returns-in_err-make_room : goal.returns-in_err-make_room
returns-in_err-make_room g c = record {
  made = search rules;
  refused = let before = moment_of (view_in (g.S.Store.storage c.args.store.now) c.args.roots.now.roots) g.outside (g.S.Store.storage c.args.store.now).facts in
      let after = moment_of (view_in (g.S.Store.storage c.make_room.new.self) c.make_room.new.roots.roots) g.outside (g.S.Store.storage c.make_room.new.self).facts in
      let wants : c.add.new.self ≡ exception_want no_class_definition ∷ [] = c.add.ensures ∙ ap (λ wants. add_want wants (record { site = no_class_definition; words = 6 })) c.clear.ensures in
      handed_on (λ (reason : NoRoom). TurnRefused g.S.Store.rules (machine_of c.args.program.now c.args.roots.now.limit) before reason after)
      c.from_residual.result c.in_err-make_room.field-0.0 c.from_residual.ensures
      (asked_refused g.S.Store.rules (machine_of c.args.program.now c.args.roots.now.limit) before after c.in_err-make_room.field-0.0 (throws (machine_of c.args.program.now c.args.roots.now.limit) (with_roots (state_of (view_in (g.S.Store.storage c.args.store.now) c.args.roots.now.roots) g.outside) (placed (view_in (g.S.Store.storage c.args.store.now) c.args.roots.now.roots).roots c.args.next)) no_class_definition) c.add.new.self
      c.requires.1.0 wants (λ none. let both : exception_want no_class_definition ∷ [] ≡ [] = sym wants ∙ none in cc both) c.in_err-make_room.ensures.ruled c.make_room.ensures.collected
      (ap (λ (roots : Roots). state_of (record { roots = roots; objects = (g.S.Store.storage c.make_room.new.self).kept }) g.outside) c.make_room.ensures.collected.roots));
  counted = search rules;
  limit = search rules;
  settings = search rules;
}
