use Rattle.cb_heap.specs.Storage.{view_in}
use Rattle.std.proofs.Common.{arith, length, ◌≡◌, ◌∙◌, ap, sym, subst, [], ◌∷◌, List, rules}
use Rattle.std.specs.declared.result.Result.TheVariants.{Ok}
use Rattle.cb_heap.specs.Kept.{residents}
use Rattle.cb_heap.specs.Reading.{View}
use Rattle.cb_heap.proofs.Laws.{reads_placed, same_shapes}
use Rattle.cb_machine.specs.Machine.{kind_of_site, or_zero}
use Rattle.cb_plain.specs.Requests.{add_want}
use Rattle.cb_plain.specs.declared.want.Want.{Want}
use Rattle.cb_act.specs.Placing.{at_place, made_array}
use Rattle.cb_act.specs.Turning.{machine_of, moment_of, state_of, most_at_once}
use Rattle.cb_interp.proofs.TurnsMaking.{array_turn, asks_so, stack_again, size_want}
use Rattle.cb_interp.proofs.TurnsNeedSerials.{serial_left}
use Rattle.cb_act.specs.Turning.{TurnRefused}
use Rattle.cb_heap.specs.declared.no_room.NoRoom.{NoRoom}
use Rattle.cb_plain.specs.State.{Roots}
use Rattle.cb_interp.proofs.TurnsMade.{asked_refused}
use Rattle.cb_interp.proofs.TurnsMaking.{handed_on}
use Rattle.cb_interp.specs.Making.{makes_array}
use Rattle.cb_interp.proofs.making.make_array_turn.Goals as goal

pub make_array-requires-clause-serials : goal.make_array-requires-clause-serials
make_array-requires-clause-serials g c =
    serial_left g.S.Store.rules.fixed (length (g.S.Store.storage c.args.store.now).kept) (length (g.S.Store.storage c.make_room.new.self).kept) most_at_once _ c.make_room.ensures.collected.count
    (omega arith) c.requires.1.1.1.1.1.1.0 c.in_ok-make_room.ensures.bounded

pub make_array-requires-clause-there : goal.make_array-requires-clause-there
make_array-requires-clause-there g c =
    stack_again (g.S.Store.storage c.args.store.now).index (g.S.Store.storage c.make_room.new.self).index c.args.roots.now.roots c.make_room.new.roots.roots
    c.make_room.ensures.collected.roots c.requires.1.1.1.1.1.1.1.1

pub returns : goal.returns
returns g c = record {
  made = let before = view_in (g.S.Store.storage c.args.store.now) c.args.roots.now.roots in
      let middle = view_in (g.S.Store.storage c.make_room.new.self) c.make_room.new.roots.roots in
      let placed = view_in (g.S.Store.storage c.make_array.new.store) c.make_array.new.roots.roots in
      let after = view_in (g.S.Store.storage c.make_array.new.store) c.set_place.new.self.roots in
      let wants : c.add.new.self ≡ size_want c.args.site c.args.size ∷ [] =
      c.add.ensures ∙ ap (λ wants. add_want wants (record { site = c.args.site; words = c.words_of.result })) c.clear.ensures
      ∙ ap (λ words. add_want [] (record { site = c.args.site; words = words })) c.words_of.ensures in
      let kind : kind_of_site c.args.program.now c.args.site ≡ c.site_kind.result = ap or_zero c.site_kind.ensures.kind in
      array_turn g.S.Store.rules (machine_of c.args.program.now c.args.roots.now.limit) (moment_of before g.outside (g.S.Store.storage c.args.store.now).facts)
      (moment_of middle g.outside (g.S.Store.storage c.make_room.new.self).facts) (moment_of after g.outside (g.S.Store.storage c.make_array.new.store).facts) c.args.site c.args.size c.args.pc
      (g.S.Store.storage c.args.store.now).settings.shapes
      (subst (λ (wants : List Want). g.S.Store.rules.makes_room (g.S.Store.storage c.args.store.now).facts before wants (Ok tt)
      (record { facts = (g.S.Store.storage c.make_room.new.self).facts; residents = residents (g.S.Store.storage c.make_room.new.self).kept })) wants c.in_ok-make_room.ensures.ruled)
      c.make_room.ensures.collected
      (ap (λ roots. state_of (record { roots = roots; objects = (g.S.Store.storage c.make_room.new.self).kept }) g.outside) c.make_room.ensures.collected.roots)
      c.make_array.ensures.facts c.requires.1.0 c.requires.1.1.1.0
      (ap (λ held. state_of (view_in (g.S.Store.storage c.make_array.new.store) held.roots) g.outside) c.set_place.ensures
      ∙ ap (λ roots. state_of (record { roots = roots; objects = placed.objects }) g.outside) (reads_placed (g.S.Store.storage c.make_array.new.store).index c.make_array.new.roots.roots c.args.pc)
      ∙ ap (λ (view : View). state_of (at_place view c.args.pc) g.outside)
      (c.make_array.ensures.behind ∙ ap (λ shapes. made_array shapes c.args.site c.site_kind.result c.args.size middle) (same_shapes c.make_room.ensures.settings)
      ∙ ap (λ kind. made_array (g.S.Store.storage c.args.store.now).settings.shapes c.args.site kind c.args.size middle) (sym kind)));
  refused = search rules;
  counted = search rules;
  limit = search rules;
  settings = search rules;
}

pub returns-in_err-make_room : goal.returns-in_err-make_room
returns-in_err-make_room g c = record {
  made = search rules;
  refused = let before = moment_of (view_in (g.S.Store.storage c.args.store.now) c.args.roots.now.roots) g.outside (g.S.Store.storage c.args.store.now).facts in
      let after = moment_of (view_in (g.S.Store.storage c.make_room.new.self) c.make_room.new.roots.roots) g.outside (g.S.Store.storage c.make_room.new.self).facts in
      let wants : c.add.new.self ≡ size_want c.args.site c.args.size ∷ [] =
      c.add.ensures ∙ ap (λ wants. add_want wants (record { site = c.args.site; words = c.words_of.result })) c.clear.ensures
      ∙ ap (λ words. add_want [] (record { site = c.args.site; words = words })) c.words_of.ensures in
      handed_on (λ (reason : NoRoom). TurnRefused g.S.Store.rules (machine_of c.args.program.now c.args.roots.now.limit) before reason after)
      c.from_residual.result c.in_err-make_room.field-0.0 c.from_residual.ensures
      (asked_refused g.S.Store.rules (machine_of c.args.program.now c.args.roots.now.limit) before after c.in_err-make_room.field-0.0 (makes_array (machine_of c.args.program.now c.args.roots.now.limit) (state_of (view_in (g.S.Store.storage c.args.store.now) c.args.roots.now.roots) g.outside) c.args.site c.args.size c.args.pc) c.add.new.self
      c.requires.1.0 (wants ∙ sym (asks_so c.args.site c.args.size)) (λ none. let both : size_want c.args.site c.args.size ∷ [] ≡ [] = sym wants ∙ none in cc both) c.in_err-make_room.ensures.ruled c.make_room.ensures.collected
      (ap (λ (roots : Roots). state_of (record { roots = roots; objects = (g.S.Store.storage c.make_room.new.self).kept }) g.outside) c.make_room.ensures.collected.roots));
  counted = search rules;
  limit = search rules;
  settings = search rules;
}
