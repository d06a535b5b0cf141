use Rattle.cb_heap.proofs.Laws.{same_shapes, same_allows}
use Rattle.cb_heap.specs.Storage.{view_in}
use Rattle.std.proofs.Common.{◌≡◌, ◌∙◌, ◌≤◌, ap, arith, refl, sym, subst, [], ◌∷◌, length, List, Some, true, rules}
use Rattle.std.specs.List.{AllByRecursion}
use Rattle.std.specs.Prelude.{IsTrue, slice_get}
use Rattle.std.specs.declared.result.Result.TheVariants.{Err, Ok}
use Rattle.cb_heap.specs.Kept.{residents}
use Rattle.cb_heap.specs.declared.no_room.NoRoom.{NoRoom}
use Rattle.cb_machine.specs.Machine.{kind_of_site}
use Rattle.cb_machine.specs.Sites.{exception_in_initializer}
use Rattle.cb_plain.specs.Requests.{add_want, words_at}
use Rattle.cb_plain.specs.State.{words_of}
use Rattle.cb_plain.specs.declared.shape.Shape.{Shape}
use Rattle.cb_plain.specs.declared.shape.Shape.TheVariants.{Fields}
use Rattle.cb_plain.specs.declared.want.Want.{Want}
use Rattle.cb_safety.proofs.Laws.{linked_sound, typed_states_are_closed}
use Rattle.cb_unwind.specs.Unwound.{exception_size, unwound}
use Rattle.cb_act.specs.Turning.{TurnRefused, machine_of, moment_of, state_of}
use Rattle.cb_interp.proofs.Allowed.{allowed_collected}
use Rattle.cb_interp.proofs.TurnsNeedSerials.{few_on, serials_all}
use Rattle.cb_interp.proofs.TurnsFrame.{class_held, may_catch, method_below, pending_kind, pending_there, serial_some}
use Rattle.cb_interp.proofs.TurnsFrameWrapped.{pending_again, thrown_shape, typed_again, wrapped_pair, wrapped_refused, wrapped_turn, wraps_at}
use Rattle.cb_interp.proofs.TurnsMaking.{handed_on}
use Rattle.cb_interp.proofs.TurnsThrown.{exception_want}
use Rattle.cb_interp.proofs.wrapped_turns.wrapped_turn.Goals as goal

pub make_room-requires-clause-closed : goal.make_room-requires-clause-closed
make_room-requires-clause-closed g c =
    typed_states_are_closed c.args.program.now (state_of (view_in (g.S.Store.storage c.args.store.now) c.args.roots.now.roots) g.outside) c.requires.1.0.typed

pub make_room-requires-clause-sites : goal.make_room-requires-clause-sites
make_room-requires-clause-sites g c =
    let wants : c.add.new.self ≡ exception_want exception_in_initializer ∷ [] = c.add.ensures ∙ ap (λ wants. add_want wants (record { site = exception_in_initializer; words = 6 })) c.clear.ensures in
    subst (λ (wants : List Want). AllByRecursion (λ (want : Want). IsTrue ((g.S.Store.storage c.args.store.now).settings.knows want.site)) wants) (sym wants)
    (c.requires.1.0.sites exception_in_initializer (c.linked_programs_fit.ensures.thrown c.args.program.now (g.S.Store.storage c.args.store.now).settings.shapes c.requires.1.0.linked c.requires.1.0.fits c.requires.1.0.shaped exception_in_initializer (7, omega arith, refl)).there, tt)

pub unwind_step-requires-clause-there : goal.unwind_step-requires-clause-there
unwind_step-requires-clause-there g c =
    pending_there c.args.program.now (g.S.Store.storage c.make_room.new.self).index (g.S.Store.storage c.make_room.new.self).kept c.make_room.new.roots.roots g.outside
    (typed_again g.S.Store.rules (machine_of c.args.program.now c.args.roots.now.limit) (moment_of (view_in (g.S.Store.storage c.args.store.now) c.args.roots.now.roots) g.outside (g.S.Store.storage c.args.store.now).facts) (moment_of (view_in (g.S.Store.storage c.make_room.new.self) c.make_room.new.roots.roots) g.outside (g.S.Store.storage c.make_room.new.self).facts) c.requires.1.0.typed c.make_room.ensures.collected (ap (λ roots. state_of (record { roots = roots; objects = (g.S.Store.storage c.make_room.new.self).kept }) g.outside) c.make_room.ensures.collected.roots))
    (pending_again (g.S.Store.storage c.args.store.now).index (g.S.Store.storage c.make_room.new.self).index c.args.roots.now.roots c.make_room.new.roots.roots c.make_room.ensures.collected.roots (serial_some (g.S.Store.storage c.args.store.now).index c.args.roots.now.roots.pending c.requires.1.1.0))

pub unwind_step-requires-clause-kind : goal.unwind_step-requires-clause-kind
unwind_step-requires-clause-kind g c =
    pending_kind c.args.program.now (g.S.Store.storage c.make_room.new.self).index (g.S.Store.storage c.make_room.new.self).kept c.make_room.new.roots.roots g.outside
    (typed_again g.S.Store.rules (machine_of c.args.program.now c.args.roots.now.limit) (moment_of (view_in (g.S.Store.storage c.args.store.now) c.args.roots.now.roots) g.outside (g.S.Store.storage c.args.store.now).facts) (moment_of (view_in (g.S.Store.storage c.make_room.new.self) c.make_room.new.roots.roots) g.outside (g.S.Store.storage c.make_room.new.self).facts) c.requires.1.0.typed c.make_room.ensures.collected (ap (λ roots. state_of (record { roots = roots; objects = (g.S.Store.storage c.make_room.new.self).kept }) g.outside) c.make_room.ensures.collected.roots))

pub unwind_step-requires-clause-error : goal.unwind_step-requires-clause-error
unwind_step-requires-clause-error g c = c.linked_frames.ensures.error c.args.program.now c.requires.1.0.linked

pub unwind_step-requires-clause-method : goal.unwind_step-requires-clause-method
unwind_step-requires-clause-method g c =
    method_below c.args.program.now (g.S.Store.storage c.make_room.new.self).index (g.S.Store.storage c.make_room.new.self).kept c.make_room.new.roots.roots g.outside
    (typed_again g.S.Store.rules (machine_of c.args.program.now c.args.roots.now.limit) (moment_of (view_in (g.S.Store.storage c.args.store.now) c.args.roots.now.roots) g.outside (g.S.Store.storage c.args.store.now).facts) (moment_of (view_in (g.S.Store.storage c.make_room.new.self) c.make_room.new.roots.roots) g.outside (g.S.Store.storage c.make_room.new.self).facts) c.requires.1.0.typed c.make_room.ensures.collected (ap (λ roots. state_of (record { roots = roots; objects = (g.S.Store.storage c.make_room.new.self).kept }) g.outside) c.make_room.ensures.collected.roots)) c.requires.1.0.linked c.requires.1.0.fits

pub unwind_step-requires-clause-catches : goal.unwind_step-requires-clause-catches
unwind_step-requires-clause-catches g c =
    may_catch c.args.program.now (g.S.Store.storage c.make_room.new.self).index (g.S.Store.storage c.make_room.new.self).kept c.make_room.new.roots.roots g.outside
    (typed_again g.S.Store.rules (machine_of c.args.program.now c.args.roots.now.limit) (moment_of (view_in (g.S.Store.storage c.args.store.now) c.args.roots.now.roots) g.outside (g.S.Store.storage c.args.store.now).facts) (moment_of (view_in (g.S.Store.storage c.make_room.new.self) c.make_room.new.roots.roots) g.outside (g.S.Store.storage c.make_room.new.self).facts) c.requires.1.0.typed c.make_room.ensures.collected (ap (λ roots. state_of (record { roots = roots; objects = (g.S.Store.storage c.make_room.new.self).kept }) g.outside) c.make_room.ensures.collected.roots)) c.requires.1.0.linked c.requires.1.0.fits

pub unwind_step-requires-clause-class : goal.unwind_step-requires-clause-class
unwind_step-requires-clause-class g c =
    class_held c.args.program.now (g.S.Store.storage c.make_room.new.self).index (g.S.Store.storage c.make_room.new.self).kept c.make_room.new.roots.roots g.outside
    (typed_again g.S.Store.rules (machine_of c.args.program.now c.args.roots.now.limit) (moment_of (view_in (g.S.Store.storage c.args.store.now) c.args.roots.now.roots) g.outside (g.S.Store.storage c.args.store.now).facts) (moment_of (view_in (g.S.Store.storage c.make_room.new.self) c.make_room.new.roots.roots) g.outside (g.S.Store.storage c.make_room.new.self).facts) c.requires.1.0.typed c.make_room.ensures.collected (ap (λ roots. state_of (record { roots = roots; objects = (g.S.Store.storage c.make_room.new.self).kept }) g.outside) c.make_room.ensures.collected.roots))

pub unwind_step-requires-clause-may : goal.unwind_step-requires-clause-may
unwind_step-requires-clause-may g c = λ wrapping.
    let wants : c.add.new.self ≡ exception_want exception_in_initializer ∷ [] = c.add.ensures ∙ ap (λ wants. add_want wants (record { site = exception_in_initializer; words = 6 })) c.clear.ensures in
    let fits = c.linked_programs_fit.ensures.thrown c.args.program.now (g.S.Store.storage c.args.store.now).settings.shapes c.requires.1.0.linked c.requires.1.0.fits c.requires.1.0.shaped exception_in_initializer (7, omega arith, refl) in
    let bounded = c.in_ok-make_room.ensures.bounded in
    let serials = serials_all g.S.Store.rules.fixed (length (g.S.Store.storage c.make_room.new.self).kept) c.add.new.self (few_on g.S.Store.rules.fixed (length (g.S.Store.storage c.args.store.now).kept) (length (g.S.Store.storage c.make_room.new.self).kept) c.make_room.ensures.collected.count c.requires.1.0.few) bounded in
    record {
      granted = subst (λ (room : List Want). words_of exception_size ≤ words_at room exception_in_initializer) (sym (c.in_ok-make_room.ensures.granted ∙ wants)) (omega arith);
      site = fits.there;
      shape = subst (λ (shapes : List Shape). slice_get shapes (kind_of_site c.args.program.now exception_in_initializer) ≡ Some (Fields (true ∷ true ∷ true ∷ [])))
          (sym (same_shapes c.make_room.ensures.settings))
          (thrown_shape c.args.program.now (g.S.Store.storage c.args.store.now).settings.shapes exception_in_initializer (kind_of_site c.args.program.now exception_in_initializer) c.requires.1.0.shaped
          ((linked_sound c.args.program.now c.requires.1.0.linked c.requires.1.0.fits).thrown exception_in_initializer (7, omega arith, refl)) fits.placed.shaped);
      serials = omega (arith, serials);
      closed = c.make_room.ensures.collected.closed;
      allowed = λ object is.
          let before = (moment_of (view_in (g.S.Store.storage c.args.store.now) c.args.roots.now.roots) g.outside (g.S.Store.storage c.args.store.now).facts) in
          let middle = (moment_of (view_in (g.S.Store.storage c.make_room.new.self) c.make_room.new.roots.roots) g.outside (g.S.Store.storage c.make_room.new.self).facts) in
          let machine = machine_of c.args.program.now c.args.roots.now.limit in
          let allows = (g.S.Store.storage c.args.store.now).settings.allows in
          ap (λ allows. allows exception_in_initializer object.site) (same_allows c.make_room.ensures.settings)
          ∙ wrapped_pair machine middle.state allows
          (allowed_collected g.S.Store.rules machine allows before middle c.requires.1.0.follows c.make_room.ensures.collected
          (ap (λ roots. state_of (record { roots = roots; objects = (g.S.Store.storage c.make_room.new.self).kept }) g.outside) c.make_room.ensures.collected.roots))
          refl (wraps_at machine middle.state wrapping) object is;
    }

pub returns : goal.returns
returns g c = record {
  made = let wants : c.add.new.self ≡ exception_want exception_in_initializer ∷ [] = c.add.ensures ∙ ap (λ wants. add_want wants (record { site = exception_in_initializer; words = 6 })) c.clear.ensures in
      let before = (moment_of (view_in (g.S.Store.storage c.args.store.now) c.args.roots.now.roots) g.outside (g.S.Store.storage c.args.store.now).facts) in
      let middle = (moment_of (view_in (g.S.Store.storage c.make_room.new.self) c.make_room.new.roots.roots) g.outside (g.S.Store.storage c.make_room.new.self).facts) in
      let left = view_in (g.S.Store.storage c.unwind_step.new.store) c.unwind_step.new.roots.roots in
      let after = moment_of left g.outside (g.S.Store.storage c.unwind_step.new.store).facts in
      let fits = c.linked_programs_fit.ensures.thrown c.args.program.now (g.S.Store.storage c.args.store.now).settings.shapes c.requires.1.0.linked c.requires.1.0.fits c.requires.1.0.shaped exception_in_initializer (7, omega arith, refl) in
      wrapped_turn g.S.Store.rules (machine_of c.args.program.now c.args.roots.now.limit) before middle after (g.S.Store.storage c.args.store.now).settings.shapes
      (wraps_at (machine_of c.args.program.now c.args.roots.now.limit) (state_of (view_in (g.S.Store.storage c.args.store.now) c.args.roots.now.roots) g.outside) c.requires.1.1.1) refl refl
      (pending_there c.args.program.now (g.S.Store.storage c.args.store.now).index (g.S.Store.storage c.args.store.now).kept c.args.roots.now.roots g.outside c.requires.1.0.typed c.requires.1.1.0)
      (pending_there c.args.program.now (g.S.Store.storage c.make_room.new.self).index (g.S.Store.storage c.make_room.new.self).kept c.make_room.new.roots.roots g.outside
      (typed_again g.S.Store.rules (machine_of c.args.program.now c.args.roots.now.limit) (moment_of (view_in (g.S.Store.storage c.args.store.now) c.args.roots.now.roots) g.outside (g.S.Store.storage c.args.store.now).facts) (moment_of (view_in (g.S.Store.storage c.make_room.new.self) c.make_room.new.roots.roots) g.outside (g.S.Store.storage c.make_room.new.self).facts) c.requires.1.0.typed c.make_room.ensures.collected (ap (λ roots. state_of (record { roots = roots; objects = (g.S.Store.storage c.make_room.new.self).kept }) g.outside) c.make_room.ensures.collected.roots))
      (pending_again (g.S.Store.storage c.args.store.now).index (g.S.Store.storage c.make_room.new.self).index c.args.roots.now.roots c.make_room.new.roots.roots c.make_room.ensures.collected.roots (serial_some (g.S.Store.storage c.args.store.now).index c.args.roots.now.roots.pending c.requires.1.1.0)))
      c.make_room.ensures.collected (ap (λ roots. state_of (record { roots = roots; objects = (g.S.Store.storage c.make_room.new.self).kept }) g.outside) c.make_room.ensures.collected.roots)
      c.unwind_step.result left
      (subst (λ (wants : List Want). g.S.Store.rules.makes_room (g.S.Store.storage c.args.store.now).facts (view_in (g.S.Store.storage c.args.store.now) c.args.roots.now.roots) wants (Ok tt)
      (record { facts = (g.S.Store.storage c.make_room.new.self).facts; residents = residents (g.S.Store.storage c.make_room.new.self).kept })) wants c.in_ok-make_room.ensures.ruled)
      fits.placed.shaped
      (ap (λ (shapes : List Shape). unwound c.args.program.now shapes (view_in (g.S.Store.storage c.make_room.new.self) c.make_room.new.roots.roots)) (sym (same_shapes c.make_room.ensures.settings)) ∙ c.unwind_step.ensures.behind)
      refl c.unwind_step.ensures.facts;
  refused = search rules;
  counted = search rules;
  limit = search rules;
  settings = search rules;
}

pub returns-in_err-make_room : goal.returns-in_err-make_room
returns-in_err-make_room g c = record {
  made = search rules;
  refused = let wants : c.add.new.self ≡ exception_want exception_in_initializer ∷ [] = c.add.ensures ∙ ap (λ wants. add_want wants (record { site = exception_in_initializer; words = 6 })) c.clear.ensures in
      let before = (moment_of (view_in (g.S.Store.storage c.args.store.now) c.args.roots.now.roots) g.outside (g.S.Store.storage c.args.store.now).facts) in
      let after = (moment_of (view_in (g.S.Store.storage c.make_room.new.self) c.make_room.new.roots.roots) g.outside (g.S.Store.storage c.make_room.new.self).facts) in
      handed_on (λ (reason : NoRoom). TurnRefused g.S.Store.rules (machine_of c.args.program.now c.args.roots.now.limit) before reason after) c.from_residual.result c.in_err-make_room.field-0.0 c.from_residual.ensures
      (wrapped_refused g.S.Store.rules (machine_of c.args.program.now c.args.roots.now.limit) before after c.in_err-make_room.field-0.0
      (wraps_at (machine_of c.args.program.now c.args.roots.now.limit) (state_of (view_in (g.S.Store.storage c.args.store.now) c.args.roots.now.roots) g.outside) c.requires.1.1.1) refl
      (pending_there c.args.program.now (g.S.Store.storage c.args.store.now).index (g.S.Store.storage c.args.store.now).kept c.args.roots.now.roots g.outside c.requires.1.0.typed c.requires.1.1.0)
      (subst (λ (wants : List Want). g.S.Store.rules.makes_room (g.S.Store.storage c.args.store.now).facts (view_in (g.S.Store.storage c.args.store.now) c.args.roots.now.roots) wants (Err c.in_err-make_room.field-0.0)
      (record { facts = (g.S.Store.storage c.make_room.new.self).facts; residents = residents (g.S.Store.storage c.make_room.new.self).kept })) wants c.in_err-make_room.ensures.ruled)
      c.make_room.ensures.collected (ap (λ roots. state_of (record { roots = roots; objects = (g.S.Store.storage c.make_room.new.self).kept }) g.outside) c.make_room.ensures.collected.roots));
  counted = search rules;
  limit = search rules;
  settings = search rules;
}
