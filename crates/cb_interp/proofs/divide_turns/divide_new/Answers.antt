use Rattle.cb_heap.proofs.Laws.{same_shapes, same_allows}
use Rattle.cb_heap.specs.Storage.{view_in}
use Rattle.std.proofs.Common.{◌≡◌, ◌∙◌, ◌+◌, ◌<◌, ◌^◌, ◌∷◌, [], IsTrue, List, Some, ap, length, min, slice_get, subst, subst₂, sym, ℕ, rules}
use Rattle.std.specs.List.{list_all}
use Rattle.std.specs.declared.result.Result.TheVariants.{Err, Ok}
use Rattle.cb_heap.specs.Kept.{is_held, is_kept, residents}
use Rattle.cb_heap.specs.Reading.{View, serial_of}
use Rattle.cb_heap.specs.Shaped.{has_size, new_object}
use Rattle.cb_heap.specs.declared.no_room.NoRoom.{NoRoom}
use Rattle.cb_machine.specs.Machine.{kind_of_site, or_zero}
use Rattle.cb_machine.specs.Plans.{object_of}
use Rattle.cb_machine.specs.Sites.{arithmetic, constant_characters, constant_strings}
use Rattle.cb_machine.specs.Throwing.{exception_contents}
use Rattle.cb_plain.specs.Reach.{root_references}
use Rattle.cb_plain.specs.Requests.{add_want, most_words}
use Rattle.cb_plain.specs.State.{words_of}
use Rattle.cb_plain.specs.declared.shape.Shape.{Shape}
use Rattle.cb_plain.specs.declared.want.Want.{Want}
use Rattle.cb_safety.proofs.Laws.{typed_states_are_closed}
use Rattle.cb_unwind.specs.Strings.{units_of}
use Rattle.cb_interp.specs.Dividing.{thrown_with}
use Rattle.cb_act.specs.Placing.{exception_size}
use Rattle.cb_act.specs.Turning.{TurnRefused, machine_of, moment_of, state_of}
use Rattle.cb_interp.proofs.TurnsNeedSerials.{few_on}
use Rattle.cb_interp.proofs.TurnsMaking.{handed_on}
use Rattle.cb_interp.proofs.TurnsNeedDivides.{asks_text, divide_granted, divide_wants, divided_made, divided_message, divided_refused, divided_text, divided_turn, exception_granted, knows_text, text_count, text_stands}
use Rattle.cb_interp.proofs.TurnsNeedThrown.{arithmetic_thrown}
use Rattle.cb_interp.proofs.TurnsNeedLoads.{new_again, new_read, told}
use Rattle.cb_interp.proofs.divide_turns.divide_new.Goals as goal

pub make_room-requires-clause-closed : goal.make_room-requires-clause-closed
make_room-requires-clause-closed g c =
    typed_states_are_closed c.args.program.now (state_of (view_in (g.S.Store.storage c.args.store.now) c.args.roots.now.roots) g.outside) c.requires.1.0.typed

pub throw_message-requires-clause-sized : goal.throw_message-requires-clause-sized
throw_message-requires-clause-sized g c =
    subst₂ (λ (shapes : List Shape) (kind : ℕ). IsTrue (has_size shapes kind exception_size)) (sym ((same_shapes c.constant_string-message.ensures.settings) ∙ (same_shapes c.make_room.ensures.settings))) (ap or_zero c.site_kind.ensures.kind)
    (c.linked_programs_fit.ensures.thrown c.args.program.now (g.S.Store.storage c.args.store.now).settings.shapes c.requires.1.0.linked c.requires.1.0.fits c.requires.1.0.shaped arithmetic arithmetic_thrown).placed.sized

pub throw_message-requires-clause-shaped : goal.throw_message-requires-clause-shaped
throw_message-requires-clause-shaped g c =
    subst₂ (λ (shapes : List Shape) (kind : ℕ). new_object shapes arithmetic kind exception_size ≡ object_of arithmetic kind (exception_contents 0 0))
    (sym ((same_shapes c.constant_string-message.ensures.settings) ∙ (same_shapes c.make_room.ensures.settings))) (ap or_zero c.site_kind.ensures.kind)
    (c.linked_programs_fit.ensures.thrown c.args.program.now (g.S.Store.storage c.args.store.now).settings.shapes c.requires.1.0.linked c.requires.1.0.fits c.requires.1.0.shaped arithmetic arithmetic_thrown).placed.shaped

pub constant_string-message-requires-clause-may : goal.constant_string-message-requires-clause-may
constant_string-message-requires-clause-may g c = λ fresh.
    let wants : c.add-3.new.self ≡ divide_wants c.args.program.now =
    c.add-3.ensures ∙ ap (λ wants. add_want wants (record { site = arithmetic; words = 6 }))
    (c.add-2.ensures ∙ ap (λ wants. add_want wants (record { site = constant_strings; words = 4 }))
    (c.add.ensures ∙ ap (λ wants. add_want wants (record { site = constant_characters; words = c.text_words-words.result })) c.clear.ensures
    ∙ ap (λ words. add_want [] (record { site = constant_characters; words = words })) c.text_words-words.ensures)) in
    let may = c.requires.1.1.1.1.1.1 in
    let granted =
    (divide_granted c.args.program.now (length (g.S.Store.storage c.make_room.new.self).kept) g.S.Store.rules.fixed (g.S.Store.storage c.make_room.new.self).granted c.add-3.new.self (few_on g.S.Store.rules.fixed (length (g.S.Store.storage c.args.store.now).kept) (length (g.S.Store.storage c.make_room.new.self).kept) c.make_room.ensures.collected.count c.requires.1.0.few)
    c.in_ok-make_room.ensures.granted wants c.requires.1.1.1.1.1.1.few c.in_ok-make_room.ensures.bounded).0 in
    record {
      sites = may.sites;
      array = granted.0;
      string = granted.1.0;
      elements = ap (λ shapes. slice_get shapes (kind_of_site c.args.program.now constant_characters)) (same_shapes c.make_room.ensures.settings)
          ∙ c.requires.1.0.shaped (kind_of_site c.args.program.now constant_characters) may.characters ∙ ap Some may.elements;
      field = ap (λ shapes. slice_get shapes (kind_of_site c.args.program.now constant_strings)) (same_shapes c.make_room.ensures.settings)
          ∙ c.requires.1.0.shaped (kind_of_site c.args.program.now constant_strings) may.strings ∙ ap Some may.field;
      serials = granted.1.1;
      few = may.few;
      closed = c.make_room.ensures.collected.closed;
      allowed =
          ap (λ allows. allows constant_strings constant_characters) (same_allows c.make_room.ensures.settings)
          ∙ divided_text g.S.Store.rules (machine_of c.args.program.now c.args.roots.now.limit)
          (moment_of (view_in (g.S.Store.storage c.args.store.now) c.args.roots.now.roots) g.outside (g.S.Store.storage c.args.store.now).facts) c.requires.1.1.0
          (g.S.Store.storage c.args.store.now).settings.allows
          (moment_of (view_in (g.S.Store.storage c.make_room.new.self) c.make_room.new.roots.roots) g.outside (g.S.Store.storage c.make_room.new.self).facts) c.requires.1.0.follows
          c.make_room.ensures.collected
          (ap (λ roots. state_of (record { roots = roots; objects = (g.S.Store.storage c.make_room.new.self).kept }) g.outside) c.make_room.ensures.collected.roots)
          (new_read (g.S.Store.storage c.make_room.new.self).index c.make_room.new.roots.roots 0 fresh);
    }

pub throw_message-requires-clause-granted : goal.throw_message-requires-clause-granted
throw_message-requires-clause-granted g c =
    let wants : c.add-3.new.self ≡ divide_wants c.args.program.now =
    c.add-3.ensures ∙ ap (λ wants. add_want wants (record { site = arithmetic; words = 6 }))
    (c.add-2.ensures ∙ ap (λ wants. add_want wants (record { site = constant_strings; words = 4 }))
    (c.add.ensures ∙ ap (λ wants. add_want wants (record { site = constant_characters; words = c.text_words-words.result })) c.clear.ensures
    ∙ ap (λ words. add_want [] (record { site = constant_characters; words = words })) c.text_words-words.ensures)) in
    exception_granted c.args.program.now (g.S.Store.storage c.make_room.new.self).granted (g.S.Store.storage c.constant_string-message.new.store).granted
    (c.in_ok-make_room.ensures.granted ∙ wants) (c.constant_string-message.ensures.granted (new_again (g.S.Store.storage c.args.store.now).index (g.S.Store.storage c.make_room.new.self).index c.args.roots.now.roots c.make_room.new.roots.roots 0 c.make_room.ensures.collected.roots c.requires.1.1.1.1.1.0))

pub throw_message-requires-clause-allowed : goal.throw_message-requires-clause-allowed
throw_message-requires-clause-allowed g c = λ object is.
    ap (λ allows. allows arithmetic object.site) (same_allows c.constant_string-message.ensures.settings ∙ same_allows c.make_room.ensures.settings)
    ∙ divided_message g.S.Store.rules (machine_of c.args.program.now c.args.roots.now.limit)
    (moment_of (view_in (g.S.Store.storage c.args.store.now) c.args.roots.now.roots) g.outside (g.S.Store.storage c.args.store.now).facts) c.requires.1.1.0
    (g.S.Store.storage c.args.store.now).settings.allows
    (moment_of (view_in (g.S.Store.storage c.make_room.new.self) c.make_room.new.roots.roots) g.outside (g.S.Store.storage c.make_room.new.self).facts) c.requires.1.0.follows
    c.make_room.ensures.collected
    (ap (λ roots. state_of (record { roots = roots; objects = (g.S.Store.storage c.make_room.new.self).kept }) g.outside) c.make_room.ensures.collected.roots) (
      serial_of (g.S.Store.storage c.constant_string-message.new.store).index c.constant_string-message.result,
      view_in (g.S.Store.storage c.constant_string-message.new.store) c.constant_string-message.new.roots.roots,
    )
    c.constant_string-message.ensures.behind object is

pub throw_message-requires-clause-serials : goal.throw_message-requires-clause-serials
throw_message-requires-clause-serials g c =
    let wants : c.add-3.new.self ≡ divide_wants c.args.program.now =
    c.add-3.ensures ∙ ap (λ wants. add_want wants (record { site = arithmetic; words = 6 }))
    (c.add-2.ensures ∙ ap (λ wants. add_want wants (record { site = constant_strings; words = 4 }))
    (c.add.ensures ∙ ap (λ wants. add_want wants (record { site = constant_characters; words = c.text_words-words.result })) c.clear.ensures
    ∙ ap (λ words. add_want [] (record { site = constant_characters; words = words })) c.text_words-words.ensures)) in
    let count : length (g.S.Store.storage c.constant_string-message.new.store).kept ≡ length (g.S.Store.storage c.make_room.new.self).kept + 2 =
    ap (λ (found : ℕ × View). length found.1.objects) (told c.args.program.now 0 (g.S.Store.storage c.args.store.now).index (g.S.Store.storage c.make_room.new.self).index (g.S.Store.storage c.constant_string-message.new.store).index (g.S.Store.storage c.make_room.new.self).kept (g.S.Store.storage c.constant_string-message.new.store).kept c.args.roots.now.roots c.make_room.new.roots.roots c.constant_string-message.new.roots.roots c.constant_string-message.result
    c.make_room.ensures.collected.roots c.requires.1.1.1.1.1.0 c.constant_string-message.ensures.behind)
    ∙ text_count c.args.program.now 0 (view_in (g.S.Store.storage c.make_room.new.self) c.make_room.new.roots.roots) in
    subst (λ (count : ℕ). count + 1 < 2 ^ 63) (sym count)
    (divide_granted c.args.program.now (length (g.S.Store.storage c.make_room.new.self).kept) g.S.Store.rules.fixed (g.S.Store.storage c.make_room.new.self).granted c.add-3.new.self (few_on g.S.Store.rules.fixed (length (g.S.Store.storage c.args.store.now).kept) (length (g.S.Store.storage c.make_room.new.self).kept) c.make_room.ensures.collected.count c.requires.1.0.few)
    c.in_ok-make_room.ensures.granted wants c.requires.1.1.1.1.1.1.few c.in_ok-make_room.ensures.bounded).1

pub throw_message-requires-clause-held : goal.throw_message-requires-clause-held
throw_message-requires-clause-held g c =
    (subst (λ (found : ℕ × View). IsTrue (list_all (is_held found.1.objects) (root_references found.1.roots)) × IsTrue (is_kept found.1.objects found.0))
    (sym (told c.args.program.now 0 (g.S.Store.storage c.args.store.now).index (g.S.Store.storage c.make_room.new.self).index (g.S.Store.storage c.constant_string-message.new.store).index (g.S.Store.storage c.make_room.new.self).kept (g.S.Store.storage c.constant_string-message.new.store).kept c.args.roots.now.roots c.make_room.new.roots.roots c.constant_string-message.new.roots.roots c.constant_string-message.result
    c.make_room.ensures.collected.roots c.requires.1.1.1.1.1.0 c.constant_string-message.ensures.behind))
    (text_stands c.args.program.now 0 (view_in (g.S.Store.storage c.make_room.new.self) c.make_room.new.roots.roots) c.make_room.ensures.collected.closed)).0

pub throw_message-requires-clause-there : goal.throw_message-requires-clause-there
throw_message-requires-clause-there g c =
    (subst (λ (found : ℕ × View). IsTrue (list_all (is_held found.1.objects) (root_references found.1.roots)) × IsTrue (is_kept found.1.objects found.0))
    (sym (told c.args.program.now 0 (g.S.Store.storage c.args.store.now).index (g.S.Store.storage c.make_room.new.self).index (g.S.Store.storage c.constant_string-message.new.store).index (g.S.Store.storage c.make_room.new.self).kept (g.S.Store.storage c.constant_string-message.new.store).kept c.args.roots.now.roots c.make_room.new.roots.roots c.constant_string-message.new.roots.roots c.constant_string-message.result
    c.make_room.ensures.collected.roots c.requires.1.1.1.1.1.0 c.constant_string-message.ensures.behind))
    (text_stands c.args.program.now 0 (view_in (g.S.Store.storage c.make_room.new.self) c.make_room.new.roots.roots) c.make_room.ensures.collected.closed)).1

pub returns : goal.returns
returns g c = record {
  made = let wants : c.add-3.new.self ≡ divide_wants c.args.program.now =
      c.add-3.ensures ∙ ap (λ wants. add_want wants (record { site = arithmetic; words = 6 }))
      (c.add-2.ensures ∙ ap (λ wants. add_want wants (record { site = constant_strings; words = 4 }))
      (c.add.ensures ∙ ap (λ wants. add_want wants (record { site = constant_characters; words = c.text_words-words.result })) c.clear.ensures
      ∙ ap (λ words. add_want [] (record { site = constant_characters; words = words })) c.text_words-words.ensures)) in
      let before = view_in (g.S.Store.storage c.args.store.now) c.args.roots.now.roots in
      let middle = view_in (g.S.Store.storage c.make_room.new.self) c.make_room.new.roots.roots in
      let after = view_in (g.S.Store.storage c.throw_message.new.store) c.throw_message.new.roots.roots in
      divided_turn g.S.Store.rules (machine_of c.args.program.now c.args.roots.now.limit) (moment_of before g.outside (g.S.Store.storage c.args.store.now).facts)
      (moment_of after g.outside (g.S.Store.storage c.throw_message.new.store).facts)
      (record { site = constant_characters; words = min (words_of (length (units_of c.args.program.now 0))) most_words })
      (record { site = constant_strings; words = 4 } ∷ record { site = arithmetic; words = 6 } ∷ []) c.requires.1.1.0 (asks_text (machine_of c.args.program.now c.args.roots.now.limit) (state_of before g.outside) (new_read (g.S.Store.storage c.args.store.now).index c.args.roots.now.roots 0 c.requires.1.1.1.1.1.0))
      (moment_of middle g.outside (g.S.Store.storage c.make_room.new.self).facts)
      (subst (λ (wants : List Want). g.S.Store.rules.makes_room (g.S.Store.storage c.args.store.now).facts before wants (Ok tt)
      (record { facts = (g.S.Store.storage c.make_room.new.self).facts; residents = residents (g.S.Store.storage c.make_room.new.self).kept })) wants c.in_ok-make_room.ensures.ruled)
      c.make_room.ensures.collected
      (ap (λ roots. state_of (record { roots = roots; objects = (g.S.Store.storage c.make_room.new.self).kept }) g.outside) c.make_room.ensures.collected.roots)
      (ap (λ (view : View). state_of view g.outside)
      (c.throw_message.ensures.behind
      ∙ ap (λ (kind : ℕ). thrown_with arithmetic kind (serial_of (g.S.Store.storage c.constant_string-message.new.store).index c.constant_string-message.result) (view_in (g.S.Store.storage c.constant_string-message.new.store) c.constant_string-message.new.roots.roots)) (sym (ap or_zero c.site_kind.ensures.kind))
      ∙ ap (λ (found : ℕ × View). thrown_with arithmetic (kind_of_site c.args.program.now arithmetic) found.0 found.1) (sym c.constant_string-message.ensures.behind))
      ∙ sym (divided_made (machine_of c.args.program.now c.args.roots.now.limit) (state_of middle g.outside)))
      (c.throw_message.ensures.facts
      ∙ ap (λ facts. g.S.Store.rules.placed facts arithmetic exception_size) (c.constant_string-message.ensures.facts (new_again (g.S.Store.storage c.args.store.now).index (g.S.Store.storage c.make_room.new.self).index c.args.roots.now.roots c.make_room.new.roots.roots 0 c.make_room.ensures.collected.roots c.requires.1.1.1.1.1.0))
      ∙ sym (knows_text (machine_of c.args.program.now c.args.roots.now.limit) (state_of middle g.outside) g.S.Store.rules (g.S.Store.storage c.make_room.new.self).facts (new_read (g.S.Store.storage c.make_room.new.self).index c.make_room.new.roots.roots 0 (new_again (g.S.Store.storage c.args.store.now).index (g.S.Store.storage c.make_room.new.self).index c.args.roots.now.roots c.make_room.new.roots.roots 0 c.make_room.ensures.collected.roots c.requires.1.1.1.1.1.0))));
  refused = search rules;
  counted = search rules;
  limit = search rules;
  settings = search rules;
}

pub returns-in_err-make_room : goal.returns-in_err-make_room
returns-in_err-make_room g c = record {
  made = search rules;
  refused = let wants : c.add-3.new.self ≡ divide_wants c.args.program.now =
      c.add-3.ensures ∙ ap (λ wants. add_want wants (record { site = arithmetic; words = 6 }))
      (c.add-2.ensures ∙ ap (λ wants. add_want wants (record { site = constant_strings; words = 4 }))
      (c.add.ensures ∙ ap (λ wants. add_want wants (record { site = constant_characters; words = c.text_words-words.result })) c.clear.ensures
      ∙ ap (λ words. add_want [] (record { site = constant_characters; words = words })) c.text_words-words.ensures)) in
      let before = view_in (g.S.Store.storage c.args.store.now) c.args.roots.now.roots in
      let after = view_in (g.S.Store.storage c.make_room.new.self) c.make_room.new.roots.roots in
      handed_on (λ (reason : NoRoom). TurnRefused g.S.Store.rules (machine_of c.args.program.now c.args.roots.now.limit) (moment_of before g.outside (g.S.Store.storage c.args.store.now).facts) reason
      (moment_of after g.outside (g.S.Store.storage c.make_room.new.self).facts)) c.from_residual.result c.in_err-make_room.field-0.0 c.from_residual.ensures
      (divided_refused g.S.Store.rules (machine_of c.args.program.now c.args.roots.now.limit) (moment_of before g.outside (g.S.Store.storage c.args.store.now).facts) (moment_of after g.outside (g.S.Store.storage c.make_room.new.self).facts)
      (record { site = constant_characters; words = min (words_of (length (units_of c.args.program.now 0))) most_words })
      (record { site = constant_strings; words = 4 } ∷ record { site = arithmetic; words = 6 } ∷ []) c.requires.1.1.0 (asks_text (machine_of c.args.program.now c.args.roots.now.limit) (state_of before g.outside) (new_read (g.S.Store.storage c.args.store.now).index c.args.roots.now.roots 0 c.requires.1.1.1.1.1.0)) c.in_err-make_room.field-0.0
      (subst (λ (wants : List Want). g.S.Store.rules.makes_room (g.S.Store.storage c.args.store.now).facts before wants (Err c.in_err-make_room.field-0.0)
      (record { facts = (g.S.Store.storage c.make_room.new.self).facts; residents = residents (g.S.Store.storage c.make_room.new.self).kept })) wants c.in_err-make_room.ensures.ruled)
      c.make_room.ensures.collected
      (ap (λ roots. state_of (record { roots = roots; objects = (g.S.Store.storage c.make_room.new.self).kept }) g.outside) c.make_room.ensures.collected.roots));
  counted = search rules;
  limit = search rules;
  settings = search rules;
}
