use Rattle.cb_heap.proofs.Laws.{same_shapes, same_allows}
use Rattle.cb_heap.specs.Storage.{view_in}
use Rattle.std.proofs.Common.{◌≡◌, ◌∙◌, ◌<◌, [], List, Some, ap, length, slice_get, subst, sym, rules}
use Rattle.std.specs.declared.result.Result.TheVariants.{Err, Ok}
use Rattle.cb_frames.specs.Limited.{Limited}
use Rattle.cb_frames.specs.Tops.{placed}
use Rattle.cb_heap.specs.Kept.{residents}
use Rattle.cb_heap.specs.Reading.{View}
use Rattle.cb_heap.specs.declared.no_room.NoRoom.{NoRoom}
use Rattle.cb_machine.specs.Machine.{kind_of_site}
use Rattle.cb_machine.specs.Sites.{constant_characters, constant_strings}
use Rattle.cb_machine.specs.Steps.{plan}
use Rattle.cb_plain.specs.Requests.{add_want}
use Rattle.cb_plain.specs.State.{Roots}
use Rattle.cb_plain.specs.declared.value.Value.TheVariants.{Ref}
use Rattle.cb_plain.specs.declared.want.Want.{Want}
use Rattle.cb_safety.proofs.Laws.{typed_states_are_closed}
use Rattle.cb_interp.specs.Loading.{loads_new}
use Rattle.cb_act.specs.Turning.{TurnRefused, machine_of, moment_of, state_of}
use Rattle.cb_interp.proofs.TurnsNeedSerials.{few_on}
use Rattle.cb_interp.proofs.TurnsMaking.{handed_on}
use Rattle.cb_interp.proofs.TurnsNeedLoads.{left_behind, new_again, new_made, new_pair, new_refused, new_turn, room_behind, some_frames, text_granted, text_wants}
use Rattle.cb_interp.proofs.load_turns.load_new.Goals as goal

pub make_room-requires-clause-closed : goal.make_room-requires-clause-closed
make_room-requires-clause-closed g c =
    typed_states_are_closed c.args.program.now (state_of (view_in (g.S.Store.storage c.args.store.now) c.args.roots.now.roots) g.outside) c.requires.1.0.typed

pub constant_string-at-requires-clause-may : goal.constant_string-at-requires-clause-may
constant_string-at-requires-clause-may g c = λ fresh.
    let wants : c.add-2.new.self ≡ text_wants c.args.program.now c.args.text =
    c.add-2.ensures ∙ ap (λ wants. add_want wants (record { site = constant_strings; words = 4 }))
    (c.add.ensures ∙ ap (λ wants. add_want wants (record { site = constant_characters; words = c.text_words-words.result })) c.clear.ensures
    ∙ ap (λ words. add_want [] (record { site = constant_characters; words = words })) c.text_words-words.ensures) in
    let may = c.requires.1.1.1.1.1.1.0 in
    let granted =
    text_granted c.args.program.now c.args.text (length (g.S.Store.storage c.make_room.new.self).kept) g.S.Store.rules.fixed (g.S.Store.storage c.make_room.new.self).granted c.add-2.new.self (few_on g.S.Store.rules.fixed (length (g.S.Store.storage c.args.store.now).kept) (length (g.S.Store.storage c.make_room.new.self).kept) c.make_room.ensures.collected.count c.requires.1.0.few)
    c.in_ok-make_room.ensures.granted wants may.few c.in_ok-make_room.ensures.bounded in
    record {
      sites = may.sites;
      array = granted.0;
      string = granted.1.0;
      elements = ap (λ shapes. slice_get shapes (kind_of_site c.args.program.now constant_characters)) (same_shapes c.make_room.ensures.settings)
          ∙ c.requires.1.0.shaped (kind_of_site c.args.program.now constant_characters) may.characters ∙ ap Some may.elements;
      field = ap (λ shapes. slice_get shapes (kind_of_site c.args.program.now constant_strings)) (same_shapes c.make_room.ensures.settings)
          ∙ c.requires.1.0.shaped (kind_of_site c.args.program.now constant_strings) may.strings ∙ ap Some may.field;
      serials = granted.1.1;
      few = may.few;
      closed = c.make_room.ensures.collected.closed;
      allowed =
          let before = view_in (g.S.Store.storage c.args.store.now) c.args.roots.now.roots in
          let middle = view_in (g.S.Store.storage c.make_room.new.self) c.make_room.new.roots.roots in
          ap (λ allows. allows constant_strings constant_characters) (same_allows c.make_room.ensures.settings)
          ∙ new_pair g.S.Store.rules (machine_of c.args.program.now c.args.roots.now.limit) (moment_of before g.outside (g.S.Store.storage c.args.store.now).facts) c.args.text c.args.next
          (g.S.Store.storage c.args.store.now).settings.allows (moment_of middle g.outside (g.S.Store.storage c.make_room.new.self).facts) c.requires.1.0.follows
          c.make_room.ensures.collected
          (ap (λ roots. state_of (record { roots = roots; objects = (g.S.Store.storage c.make_room.new.self).kept }) g.outside) c.make_room.ensures.collected.roots)
          (subst (λ (roots : Roots). plan (machine_of c.args.program.now c.args.roots.now.limit) (state_of (record { roots = roots; objects = (g.S.Store.storage c.make_room.new.self).kept }) g.outside)
          ≡ Some (loads_new (machine_of c.args.program.now c.args.roots.now.limit) (state_of (record { roots = roots; objects = (g.S.Store.storage c.make_room.new.self).kept }) g.outside) c.args.text c.args.next))
          (sym c.make_room.ensures.collected.roots) (c.requires.1.1.0 (g.S.Store.storage c.make_room.new.self).kept));
    }

pub lay_reference-requires : goal.lay_reference-requires
lay_reference-requires g c =
    room_behind c.args.program.now c.args.text (g.S.Store.storage c.args.store.now).index (g.S.Store.storage c.make_room.new.self).index (g.S.Store.storage c.constant_string-at.new.store).index (g.S.Store.storage c.make_room.new.self).kept (g.S.Store.storage c.constant_string-at.new.store).kept c.args.roots.now.roots c.make_room.new.roots.roots c.constant_string-at.new.roots.roots c.constant_string-at.result
    c.make_room.ensures.collected.roots c.requires.1.1.1.1.1.0 c.constant_string-at.ensures.behind
    c.requires.1.1.1.1.1.1.1

pub returns : goal.returns
returns g c = record {
  made = let wants : c.add-2.new.self ≡ text_wants c.args.program.now c.args.text =
      c.add-2.ensures ∙ ap (λ wants. add_want wants (record { site = constant_strings; words = 4 }))
      (c.add.ensures ∙ ap (λ wants. add_want wants (record { site = constant_characters; words = c.text_words-words.result })) c.clear.ensures
      ∙ ap (λ words. add_want [] (record { site = constant_characters; words = words })) c.text_words-words.ensures) in
      let before = view_in (g.S.Store.storage c.args.store.now) c.args.roots.now.roots in
      let middle = view_in (g.S.Store.storage c.make_room.new.self) c.make_room.new.roots.roots in
      let after = view_in (g.S.Store.storage c.constant_string-at.new.store) c.lay_reference.new.roots.roots in
      new_turn g.S.Store.rules (machine_of c.args.program.now c.args.roots.now.limit) (moment_of before g.outside (g.S.Store.storage c.args.store.now).facts)
      (moment_of after g.outside (g.S.Store.storage c.constant_string-at.new.store).facts) c.args.text c.args.next (c.requires.1.1.0 (g.S.Store.storage c.args.store.now).kept)
      (moment_of middle g.outside (g.S.Store.storage c.make_room.new.self).facts)
      (subst (λ (wants : List Want). g.S.Store.rules.makes_room (g.S.Store.storage c.args.store.now).facts before wants (Ok tt)
      (record { facts = (g.S.Store.storage c.make_room.new.self).facts; residents = residents (g.S.Store.storage c.make_room.new.self).kept })) wants c.in_ok-make_room.ensures.ruled)
      c.make_room.ensures.collected
      (ap (λ roots. state_of (record { roots = roots; objects = (g.S.Store.storage c.make_room.new.self).kept }) g.outside) c.make_room.ensures.collected.roots)
      (subst (λ (roots : Roots). plan (machine_of c.args.program.now c.args.roots.now.limit) (state_of (record { roots = roots; objects = (g.S.Store.storage c.make_room.new.self).kept }) g.outside)
      ≡ Some (loads_new (machine_of c.args.program.now c.args.roots.now.limit) (state_of (record { roots = roots; objects = (g.S.Store.storage c.make_room.new.self).kept }) g.outside) c.args.text c.args.next))
      (sym c.make_room.ensures.collected.roots) (c.requires.1.1.0 (g.S.Store.storage c.make_room.new.self).kept))
      (ap (λ (view : View). state_of view g.outside)
      (left_behind c.args.program.now c.args.text (g.S.Store.storage c.args.store.now).index (g.S.Store.storage c.make_room.new.self).index (g.S.Store.storage c.constant_string-at.new.store).index (g.S.Store.storage c.make_room.new.self).kept (g.S.Store.storage c.constant_string-at.new.store).kept c.args.roots.now.roots c.make_room.new.roots.roots c.constant_string-at.new.roots.roots c.constant_string-at.result
      c.make_room.ensures.collected.roots c.requires.1.1.1.1.1.0 c.constant_string-at.ensures.behind
      c.lay_reference.new.roots.roots c.args.next
      (ap (λ (held : Limited). held.roots) c.lay_reference.ensures))
      ∙ sym (new_made (machine_of c.args.program.now c.args.roots.now.limit) (state_of middle g.outside) c.args.text c.args.next))
      (c.constant_string-at.ensures.facts (new_again (g.S.Store.storage c.args.store.now).index (g.S.Store.storage c.make_room.new.self).index c.args.roots.now.roots c.make_room.new.roots.roots c.args.text c.make_room.ensures.collected.roots c.requires.1.1.1.1.1.0));
  refused = search rules;
  counted = search rules;
  limit = search rules;
  settings = search rules;
}

pub returns-in_err-make_room : goal.returns-in_err-make_room
returns-in_err-make_room g c = record {
  made = search rules;
  refused = let wants : c.add-2.new.self ≡ text_wants c.args.program.now c.args.text =
      c.add-2.ensures ∙ ap (λ wants. add_want wants (record { site = constant_strings; words = 4 }))
      (c.add.ensures ∙ ap (λ wants. add_want wants (record { site = constant_characters; words = c.text_words-words.result })) c.clear.ensures
      ∙ ap (λ words. add_want [] (record { site = constant_characters; words = words })) c.text_words-words.ensures) in
      let before = view_in (g.S.Store.storage c.args.store.now) c.args.roots.now.roots in
      let after = view_in (g.S.Store.storage c.make_room.new.self) c.make_room.new.roots.roots in
      handed_on (λ (reason : NoRoom). TurnRefused g.S.Store.rules (machine_of c.args.program.now c.args.roots.now.limit) (moment_of before g.outside (g.S.Store.storage c.args.store.now).facts) reason
      (moment_of after g.outside (g.S.Store.storage c.make_room.new.self).facts)) c.from_residual.result c.in_err-make_room.field-0.0 c.from_residual.ensures
      (new_refused g.S.Store.rules (machine_of c.args.program.now c.args.roots.now.limit) (moment_of before g.outside (g.S.Store.storage c.args.store.now).facts) (moment_of after g.outside (g.S.Store.storage c.make_room.new.self).facts)
      c.args.text c.args.next (c.requires.1.1.0 (g.S.Store.storage c.args.store.now).kept) c.in_err-make_room.field-0.0
      (subst (λ (wants : List Want). g.S.Store.rules.makes_room (g.S.Store.storage c.args.store.now).facts before wants (Err c.in_err-make_room.field-0.0)
      (record { facts = (g.S.Store.storage c.make_room.new.self).facts; residents = residents (g.S.Store.storage c.make_room.new.self).kept })) wants c.in_err-make_room.ensures.ruled)
      c.make_room.ensures.collected
      (ap (λ roots. state_of (record { roots = roots; objects = (g.S.Store.storage c.make_room.new.self).kept }) g.outside) c.make_room.ensures.collected.roots));
  counted = search rules;
  limit = search rules;
  settings = search rules;
}
