use Rattle.cb_heap.proofs.Laws.{same_allows, same_shapes}
use Rattle.cb_heap.specs.Storage.{view_in}
use Rattle.std.proofs.Common.{◌≡◌, ◌∙◌, [], IsTrue, List, ap, subst, subst₂, sym, ℕ, rules}
use Rattle.std.specs.declared.result.Result.TheVariants.{Err, Ok}
use Rattle.cb_heap.specs.Kept.{residents}
use Rattle.cb_heap.specs.Reading.{View, serial_of}
use Rattle.cb_heap.specs.Shaped.{has_size, new_object}
use Rattle.cb_heap.specs.declared.no_room.NoRoom.{NoRoom}
use Rattle.cb_machine.specs.Machine.{kind_of_site, or_zero}
use Rattle.cb_machine.specs.Plans.{object_of}
use Rattle.cb_machine.specs.Sites.{arithmetic}
use Rattle.cb_machine.specs.Throwing.{exception_contents}
use Rattle.cb_plain.specs.Requests.{add_want}
use Rattle.cb_plain.specs.declared.shape.Shape.{Shape}
use Rattle.cb_plain.specs.declared.want.Want.{Want}
use Rattle.cb_safety.proofs.Laws.{typed_states_are_closed}
use Rattle.cb_interp.specs.Dividing.{thrown_with}
use Rattle.cb_act.specs.Placing.{exception_size}
use Rattle.cb_act.specs.Turning.{TurnRefused, machine_of, moment_of, state_of}
use Rattle.cb_interp.proofs.TurnsMaking.{handed_on}
use Rattle.cb_interp.proofs.TurnsNeedDivides.{asks_known, divided_made, divided_message, divided_refused, divided_turn, exception_wants, known_constant, knows_known, message_kept}
use Rattle.cb_interp.proofs.TurnsNeedThrown.{arithmetic_thrown}
use Rattle.cb_interp.proofs.TurnsNeedLoads.{known_from, new_again}
use Rattle.cb_interp.proofs.divide_turns.divide_known.Goals as goal

pub make_room-requires-clause-closed : goal.make_room-requires-clause-closed
make_room-requires-clause-closed g c =
    typed_states_are_closed c.args.program.now (state_of (view_in (g.S.Store.storage c.args.store.now) c.args.roots.now.roots) g.outside) c.requires.1.0.typed

pub throw_message-requires-clause-sized : goal.throw_message-requires-clause-sized
throw_message-requires-clause-sized g c =
    subst₂ (λ (shapes : List Shape) (kind : ℕ). IsTrue (has_size shapes kind exception_size)) (sym ((same_shapes c.make_room.ensures.settings))) (ap or_zero c.site_kind.ensures.kind)
    (c.linked_programs_fit.ensures.thrown c.args.program.now (g.S.Store.storage c.args.store.now).settings.shapes c.requires.1.0.linked c.requires.1.0.fits c.requires.1.0.shaped arithmetic arithmetic_thrown).placed.sized

pub throw_message-requires-clause-shaped : goal.throw_message-requires-clause-shaped
throw_message-requires-clause-shaped g c =
    subst₂ (λ (shapes : List Shape) (kind : ℕ). new_object shapes arithmetic kind exception_size ≡ object_of arithmetic kind (exception_contents 0 0))
    (sym ((same_shapes c.make_room.ensures.settings))) (ap or_zero c.site_kind.ensures.kind)
    (c.linked_programs_fit.ensures.thrown c.args.program.now (g.S.Store.storage c.args.store.now).settings.shapes c.requires.1.0.linked c.requires.1.0.fits c.requires.1.0.shaped arithmetic arithmetic_thrown).placed.shaped

pub throw_message-requires-clause-there : goal.throw_message-requires-clause-there
throw_message-requires-clause-there g c =
    message_kept (g.S.Store.storage c.make_room.new.self).index (g.S.Store.storage c.make_room.new.self).kept c.make_room.new.roots.roots 0 c.table-message.result c.make_room.ensures.collected.closed c.table-message.ensures
    (λ new. c.requires.1.1.1.1.1 (new_again (g.S.Store.storage c.make_room.new.self).index (g.S.Store.storage c.args.store.now).index c.make_room.new.roots.roots c.args.roots.now.roots 0 (sym c.make_room.ensures.collected.roots) new))

pub throw_message-requires-clause-allowed : goal.throw_message-requires-clause-allowed
throw_message-requires-clause-allowed g c = λ object is.
    ap (λ allows. allows arithmetic object.site) (same_allows c.make_room.ensures.settings)
    ∙ divided_message g.S.Store.rules (machine_of c.args.program.now c.args.roots.now.limit)
    (moment_of (view_in (g.S.Store.storage c.args.store.now) c.args.roots.now.roots) g.outside (g.S.Store.storage c.args.store.now).facts) c.requires.1.1.0
    (g.S.Store.storage c.args.store.now).settings.allows
    (moment_of (view_in (g.S.Store.storage c.make_room.new.self) c.make_room.new.roots.roots) g.outside (g.S.Store.storage c.make_room.new.self).facts) c.requires.1.0.follows
    c.make_room.ensures.collected
    (ap (λ roots. state_of (record { roots = roots; objects = (g.S.Store.storage c.make_room.new.self).kept }) g.outside) c.make_room.ensures.collected.roots) (
      serial_of (g.S.Store.storage c.make_room.new.self).index c.table-message.result,
      view_in (g.S.Store.storage c.make_room.new.self) c.make_room.new.roots.roots,
    )
    (known_constant (g.S.Store.storage c.make_room.new.self).index (g.S.Store.storage c.make_room.new.self).kept c.make_room.new.roots.roots 0 c.table-message.result c.make_room.ensures.collected.closed c.table-message.ensures
    (λ new. c.requires.1.1.1.1.1 (new_again (g.S.Store.storage c.make_room.new.self).index (g.S.Store.storage c.args.store.now).index c.make_room.new.roots.roots c.args.roots.now.roots 0 (sym c.make_room.ensures.collected.roots) new)) c.args.program.now)
    object is

pub returns : goal.returns
returns g c = record {
  made = let wants : c.add.new.self ≡ exception_wants =
      c.add.ensures ∙ ap (λ wants. add_want wants (record { site = arithmetic; words = 6 })) c.clear.ensures in
      let before = view_in (g.S.Store.storage c.args.store.now) c.args.roots.now.roots in
      let middle = view_in (g.S.Store.storage c.make_room.new.self) c.make_room.new.roots.roots in
      let after = view_in (g.S.Store.storage c.throw_message.new.store) c.throw_message.new.roots.roots in
      let found = known_from (g.S.Store.storage c.make_room.new.self).index c.make_room.new.roots.roots 0 (λ new. c.requires.1.1.1.1.1 (new_again (g.S.Store.storage c.make_room.new.self).index (g.S.Store.storage c.args.store.now).index c.make_room.new.roots.roots c.args.roots.now.roots 0 (sym c.make_room.ensures.collected.roots) new)) in
      divided_turn g.S.Store.rules (machine_of c.args.program.now c.args.roots.now.limit) (moment_of before g.outside (g.S.Store.storage c.args.store.now).facts)
      (moment_of after g.outside (g.S.Store.storage c.throw_message.new.store).facts) (record { site = arithmetic; words = 6 }) [] c.requires.1.1.0 (asks_known (machine_of c.args.program.now c.args.roots.now.limit) (state_of before g.outside) (known_from (g.S.Store.storage c.args.store.now).index c.args.roots.now.roots 0 c.requires.1.1.1.1.1).0 (known_from (g.S.Store.storage c.args.store.now).index c.args.roots.now.roots 0 c.requires.1.1.1.1.1).1)
      (moment_of middle g.outside (g.S.Store.storage c.make_room.new.self).facts)
      (subst (λ (wants : List Want). g.S.Store.rules.makes_room (g.S.Store.storage c.args.store.now).facts before wants (Ok tt)
      (record { facts = (g.S.Store.storage c.make_room.new.self).facts; residents = residents (g.S.Store.storage c.make_room.new.self).kept })) wants c.in_ok-make_room.ensures.ruled)
      c.make_room.ensures.collected
      (ap (λ roots. state_of (record { roots = roots; objects = (g.S.Store.storage c.make_room.new.self).kept }) g.outside) c.make_room.ensures.collected.roots)
      (ap (λ (view : View). state_of view g.outside)
      (c.throw_message.ensures.behind
      ∙ ap (λ (kind : ℕ). thrown_with arithmetic kind (serial_of (g.S.Store.storage c.make_room.new.self).index c.table-message.result) middle) (sym (ap or_zero c.site_kind.ensures.kind))
      ∙ ap (λ (found : ℕ × View). thrown_with arithmetic (kind_of_site c.args.program.now arithmetic) found.0 found.1)
      (sym (known_constant (g.S.Store.storage c.make_room.new.self).index (g.S.Store.storage c.make_room.new.self).kept c.make_room.new.roots.roots 0 c.table-message.result c.make_room.ensures.collected.closed c.table-message.ensures
      (λ new. c.requires.1.1.1.1.1 (new_again (g.S.Store.storage c.make_room.new.self).index (g.S.Store.storage c.args.store.now).index c.make_room.new.roots.roots c.args.roots.now.roots 0 (sym c.make_room.ensures.collected.roots) new)) c.args.program.now)))
      ∙ sym (divided_made (machine_of c.args.program.now c.args.roots.now.limit) (state_of middle g.outside)))
      (c.throw_message.ensures.facts ∙ sym (knows_known (machine_of c.args.program.now c.args.roots.now.limit) (state_of middle g.outside) g.S.Store.rules (g.S.Store.storage c.make_room.new.self).facts found.0 found.1));
  refused = search rules;
  counted = search rules;
  limit = search rules;
  settings = search rules;
}

pub returns-in_err-make_room : goal.returns-in_err-make_room
returns-in_err-make_room g c = record {
  made = search rules;
  refused = let wants : c.add.new.self ≡ exception_wants =
      c.add.ensures ∙ ap (λ wants. add_want wants (record { site = arithmetic; words = 6 })) c.clear.ensures in
      let before = view_in (g.S.Store.storage c.args.store.now) c.args.roots.now.roots in
      let after = view_in (g.S.Store.storage c.make_room.new.self) c.make_room.new.roots.roots in
      handed_on (λ (reason : NoRoom). TurnRefused g.S.Store.rules (machine_of c.args.program.now c.args.roots.now.limit) (moment_of before g.outside (g.S.Store.storage c.args.store.now).facts) reason
      (moment_of after g.outside (g.S.Store.storage c.make_room.new.self).facts)) c.from_residual.result c.in_err-make_room.field-0.0 c.from_residual.ensures
      (divided_refused g.S.Store.rules (machine_of c.args.program.now c.args.roots.now.limit) (moment_of before g.outside (g.S.Store.storage c.args.store.now).facts) (moment_of after g.outside (g.S.Store.storage c.make_room.new.self).facts)
      (record { site = arithmetic; words = 6 }) [] c.requires.1.1.0 (asks_known (machine_of c.args.program.now c.args.roots.now.limit) (state_of before g.outside) (known_from (g.S.Store.storage c.args.store.now).index c.args.roots.now.roots 0 c.requires.1.1.1.1.1).0 (known_from (g.S.Store.storage c.args.store.now).index c.args.roots.now.roots 0 c.requires.1.1.1.1.1).1) c.in_err-make_room.field-0.0
      (subst (λ (wants : List Want). g.S.Store.rules.makes_room (g.S.Store.storage c.args.store.now).facts before wants (Err c.in_err-make_room.field-0.0)
      (record { facts = (g.S.Store.storage c.make_room.new.self).facts; residents = residents (g.S.Store.storage c.make_room.new.self).kept })) wants c.in_err-make_room.ensures.ruled)
      c.make_room.ensures.collected
      (ap (λ roots. state_of (record { roots = roots; objects = (g.S.Store.storage c.make_room.new.self).kept }) g.outside) c.make_room.ensures.collected.roots));
  counted = search rules;
  limit = search rules;
  settings = search rules;
}
