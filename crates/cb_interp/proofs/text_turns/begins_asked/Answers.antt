use Rattle.cb_heap.specs.Storage.{view_in}
use Rattle.std.proofs.Common.{◌≡◌, ◌∙◌, ap, arith, subst, sym, Bool, IsTrue, length, true, ℕ, rules}
use Rattle.std.proofs.lemmas.Bool.{false≢true}
use Rattle.cb_heap.proofs.Laws.{reads_room, same_allows, same_shapes}
use Rattle.cb_heap.specs.Follows.{Follows}
use Rattle.cb_heap.specs.Reading.{read_roots, seen}
use Rattle.cb_link.specs.Slots.{statics}
use Rattle.cb_machine.specs.Initialising.{begun_upon, own_statics}
use Rattle.cb_machine.specs.Plans.{made}
use Rattle.cb_machine.specs.Sites.{constant_characters, constant_strings}
use Rattle.cb_plain.specs.Depth.{has_room}
use Rattle.cb_plain.specs.State.{Roots}
use Rattle.cb_safety.proofs.Laws.{typed_states_are_closed}
use Rattle.cb_interp.specs.Arguments.{Covers}
use Rattle.cb_interp.specs.Fit.{ShapesOf}
use Rattle.cb_interp.specs.TextStatics.{HasSerials, first_plan, wants_behind}
use Rattle.cb_act.specs.Turning.{facts_behind, machine_of, moment_of, state_of}
use Rattle.cb_interp.proofs.Allowed.{allowed_next}
use Rattle.cb_interp.proofs.TurnsNeedSerials.{few_on}
use Rattle.cb_interp.proofs.TurnsNeedBegun.{class_there, statics_there}
use Rattle.cb_interp.proofs.TurnsTextBegun.{asks_again, begun_follows, quiet_texts, sites_known, texts_turn}
use Rattle.cb_interp.proofs.TurnsTextTurn.{class_again, covers_made, covers_quiet, frame_again, serials_made, serials_quiet, statics_again, texts_again, texts_typed}
use Rattle.cb_act.specs.Turning.{TurnRefused}
use Rattle.cb_heap.specs.declared.no_room.NoRoom.{NoRoom}
use Rattle.cb_interp.proofs.TurnsMade.{asked_refused}
use Rattle.cb_interp.proofs.TurnsMaking.{handed_on}
use Rattle.cb_interp.proofs.text_turns.begins_asked.Goals as goal

pub begin_placed-requires : goal.begin_placed-requires
begin_placed-requires g c κs lives =
    let runs = c.requires.1.0 in
    let room = reads_room (g.S.Store.storage c.args.store.now).index c.args.roots.now.roots c.args.roots.now.limit 0 ∙ c.requires.1.1.1.1.1.1 in
    let none = sym c.ask_own.ensures.asks ∙ c.is_empty.ensures.0 c.if-is_empty.true in (
      lives,
      (
        class_there c.args.program.now (g.S.Store.storage c.args.store.now).index (g.S.Store.storage c.args.store.now).kept c.args.roots.now.roots g.outside runs.typed c.args.class c.requires.1.1.1.0,
        (
          c.requires.1.1.1.1.1.1,
          (
            c.requires.1.1.1.1.1.0,
            (
              runs.shaped,
              (
                allowed_next (g.S.Store.storage c.args.store.now).settings.allows (machine_of c.args.program.now c.args.roots.now.limit)
                    (state_of (view_in (g.S.Store.storage c.args.store.now) c.args.roots.now.roots) g.outside)
                    (begun_upon (machine_of c.args.program.now c.args.roots.now.limit) (state_of (view_in (g.S.Store.storage c.args.store.now) c.args.roots.now.roots) g.outside)
                    (read_roots (g.S.Store.storage c.args.store.now).index c.args.roots.now.roots).frames c.args.class)
                    runs.follows c.requires.1.1.0,
                (
                  typed_states_are_closed c.args.program.now (state_of (view_in (g.S.Store.storage c.args.store.now) c.args.roots.now.roots) g.outside) runs.typed,
                  (
                    statics_there c.args.program.now (g.S.Store.storage c.args.store.now).index (g.S.Store.storage c.args.store.now).kept c.args.roots.now.roots g.outside runs.typed runs.linked,
                    (
                      texts_typed c.args.program.now (g.S.Store.storage c.args.store.now).index (g.S.Store.storage c.args.store.now).kept c.args.roots.now.roots g.outside runs.typed,
                      (
                        covers_quiet c.args.program.now c.args.roots.now.limit c.args.class
                            (state_of (view_in (g.S.Store.storage c.args.store.now) c.args.roots.now.roots) g.outside)
                            (read_roots (g.S.Store.storage c.args.store.now).index c.args.roots.now.roots).frames room (g.S.Store.storage c.args.store.now).granted none,
                        serials_quiet c.args.program.now c.args.roots.now.limit c.args.class
                            (state_of (view_in (g.S.Store.storage c.args.store.now) c.args.roots.now.roots) g.outside)
                            (read_roots (g.S.Store.storage c.args.store.now).index c.args.roots.now.roots).frames room (length (g.S.Store.storage c.args.store.now).kept)
                            (g.S.Store.storage c.args.store.now).granted none,
                      ),
                    ),
                  ),
                ),
              ),
            ),
          ),
        ),
      ),
    )

pub returns-then-is_empty : goal.returns-then-is_empty
returns-then-is_empty g c = record {
  made = quiet_texts g.S.Store.rules (machine_of c.args.program.now c.args.roots.now.limit)
      (moment_of (view_in (g.S.Store.storage c.args.store.now) c.args.roots.now.roots) g.outside (g.S.Store.storage c.args.store.now).facts) c.args.class (λ (roots : Roots). roots.frames) c.requires.1.1.0
      (moment_of (view_in (g.S.Store.storage c.begin_placed.new.store) c.begin_placed.new.roots.roots) g.outside (g.S.Store.storage c.begin_placed.new.store).facts)
      (sym c.ask_own.ensures.asks ∙ c.is_empty.ensures.0 c.if-is_empty.true) c.begin_placed.ensures.begun c.begin_placed.ensures.facts;
  refused = search rules;
  counted = search rules;
  limit = search rules;
  settings = search rules;
}

pub make_room-requires-clause-closed : goal.make_room-requires-clause-closed
make_room-requires-clause-closed g c =
    typed_states_are_closed c.args.program.now (state_of (view_in (g.S.Store.storage c.args.store.now) c.args.roots.now.roots) g.outside) c.requires.1.0.typed

pub make_room-requires-clause-sites : goal.make_room-requires-clause-sites
make_room-requires-clause-sites g c =
    let low = c.requires.1.1.1.1.0 in
    sites_known (λ site. IsTrue ((g.S.Store.storage c.args.store.now).settings.knows site)) c.ask_own.new.request c.ask_own.ensures.sites
    (c.requires.1.0.sites constant_characters low) (c.requires.1.0.sites constant_strings (omega (arith, low)))

pub begin_placed-requires-2 : goal.begin_placed-requires-2
begin_placed-requires-2 g c κs lives =
    let runs = c.requires.1.0 in
    let program = c.args.program.now in
    let index = (g.S.Store.storage c.args.store.now).index in
    let now = (g.S.Store.storage c.make_room.new.self).index in
    let held = c.args.roots.now.roots in
    let after = c.make_room.new.roots.roots in
    let limit = c.args.roots.now.limit in
    let same = c.make_room.ensures.collected.roots in
    let before = moment_of (seen index (g.S.Store.storage c.args.store.now).kept held) g.outside (g.S.Store.storage c.args.store.now).facts in
    let middle = moment_of (seen now (g.S.Store.storage c.make_room.new.self).kept after) g.outside (g.S.Store.storage c.make_room.new.self).facts in
    let again =
    ap (λ (roots : Roots). state_of (record { roots = roots; objects = (g.S.Store.storage c.make_room.new.self).kept }) g.outside) same in
    let asks = c.ask_own.ensures.asks ∙ sym (asks_again g.S.Store.rules (machine_of program limit) before c.args.class (λ (roots : Roots). roots.frames) c.requires.1.1.0 middle c.make_room.ensures.collected again) in
    let room = frame_again index now held after same limit c.requires.1.1.1.1.1.1 in
    let read = reads_room now after limit 0 ∙ room in (
      lives,
      (
        class_again index now held after same c.args.class
            (class_there program index (g.S.Store.storage c.args.store.now).kept held g.outside runs.typed c.args.class c.requires.1.1.1.0),
        (
          subst (λ (limit : ℕ). has_room limit after.frames 0 ≡ true) (sym c.make_room.ensures.limit) room,
          (
            c.requires.1.1.1.1.1.0,
            (
              subst (ShapesOf program) (sym (same_shapes c.make_room.ensures.settings)) runs.shaped,
              (
                subst (λ (allows : ℕ → ℕ → Bool). Follows allows (made (begun_upon (machine_of program c.make_room.new.roots.limit) middle.state middle.state.roots.frames c.args.class)).objects)
                    (sym (same_allows c.make_room.ensures.settings))
                    (subst (λ (limit : ℕ). Follows (g.S.Store.storage c.args.store.now).settings.allows (made (begun_upon (machine_of program limit) middle.state middle.state.roots.frames c.args.class)).objects)
                    (sym c.make_room.ensures.limit)
                    (begun_follows g.S.Store.rules (machine_of program limit) before c.args.class (λ (roots : Roots). roots.frames) c.requires.1.1.0 middle c.make_room.ensures.collected again
                    (g.S.Store.storage c.args.store.now).settings.allows runs.follows)),
                (
                  c.make_room.ensures.collected.closed,
                  (
                    statics_again index now held after same (length (statics program.classes))
                        (statics_there program index (g.S.Store.storage c.args.store.now).kept held g.outside runs.typed runs.linked),
                    (
                      texts_again index now held after same (length program.constants)
                          (texts_typed program index (g.S.Store.storage c.args.store.now).kept held g.outside runs.typed),
                      (
                        subst (λ (limit : ℕ). Covers (g.S.Store.storage c.make_room.new.self).granted
                            (wants_behind (machine_of program limit) (first_plan middle.state middle.state.roots.frames c.args.class) (own_statics program c.args.class)))
                            (sym c.make_room.ensures.limit)
                            (covers_made program limit c.args.class middle.state middle.state.roots.frames read (g.S.Store.storage c.make_room.new.self).granted c.ask_own.new.request g.S.Store.rules.fixed
                            (length (g.S.Store.storage c.make_room.new.self).kept) c.in_ok-make_room.ensures.granted asks c.in_ok-make_room.ensures.bounded),
                        subst (λ (limit : ℕ). HasSerials (length (g.S.Store.storage c.make_room.new.self).kept) (g.S.Store.storage c.make_room.new.self).granted
                            (wants_behind (machine_of program limit) (first_plan middle.state middle.state.roots.frames c.args.class) (own_statics program c.args.class)))
                            (sym c.make_room.ensures.limit)
                            (serials_made program limit c.args.class middle.state middle.state.roots.frames read (g.S.Store.storage c.make_room.new.self).granted c.ask_own.new.request g.S.Store.rules.fixed
                            (length (g.S.Store.storage c.make_room.new.self).kept) c.in_ok-make_room.ensures.granted asks c.in_ok-make_room.ensures.bounded (few_on g.S.Store.rules.fixed (length (g.S.Store.storage c.args.store.now).kept) (length (g.S.Store.storage c.make_room.new.self).kept) c.make_room.ensures.collected.count c.requires.1.0.few)),
                      ),
                    ),
                  ),
                ),
              ),
            ),
          ),
        ),
      ),
    )

pub returns : goal.returns
returns g c = record {
  made = let index = (g.S.Store.storage c.args.store.now).index in
      let now = (g.S.Store.storage c.make_room.new.self).index in
      let before = moment_of (seen index (g.S.Store.storage c.args.store.now).kept c.args.roots.now.roots) g.outside (g.S.Store.storage c.args.store.now).facts in
      let middle = moment_of (seen now (g.S.Store.storage c.make_room.new.self).kept c.make_room.new.roots.roots) g.outside (g.S.Store.storage c.make_room.new.self).facts in
      let after =
      moment_of (view_in (g.S.Store.storage c.begin_placed-2.new.store) c.begin_placed-2.new.roots.roots) g.outside
      (g.S.Store.storage c.begin_placed-2.new.store).facts in
      let limit : c.make_room.new.roots.limit ≡ c.args.roots.now.limit = c.make_room.ensures.limit in
      texts_turn g.S.Store.rules (machine_of c.args.program.now c.args.roots.now.limit) before c.args.class (λ (roots : Roots). roots.frames) c.requires.1.1.0 middle c.make_room.ensures.collected
      (ap (λ (roots : Roots). state_of (record { roots = roots; objects = (g.S.Store.storage c.make_room.new.self).kept }) g.outside) c.make_room.ensures.collected.roots)
      after c.ask_own.new.request c.ask_own.ensures.asks
      (λ none. false≢true (sym c.if-is_empty.false ∙ c.is_empty.ensures.1 none)) c.in_ok-make_room.ensures.ruled
      (c.begin_placed-2.ensures.begun ∙ ap (λ (limit : ℕ). made (begun_upon (machine_of c.args.program.now limit) middle.state middle.state.roots.frames c.args.class)) limit)
      (c.begin_placed-2.ensures.facts
      ∙ ap (λ (limit : ℕ). facts_behind g.S.Store.rules middle.facts (begun_upon (machine_of c.args.program.now limit) middle.state middle.state.roots.frames c.args.class).placed) limit);
  refused = search rules;
  counted = search rules;
  limit = search rules;
  settings = search rules;
}

pub returns-in_err-make_room : goal.returns-in_err-make_room
returns-in_err-make_room g c = record {
  made = search rules;
  refused = let before = moment_of (view_in (g.S.Store.storage c.args.store.now) c.args.roots.now.roots) g.outside (g.S.Store.storage c.args.store.now).facts in
      let after = moment_of (view_in (g.S.Store.storage c.make_room.new.self) c.make_room.new.roots.roots) g.outside (g.S.Store.storage c.make_room.new.self).facts in
      handed_on (λ (reason : NoRoom). TurnRefused g.S.Store.rules (machine_of c.args.program.now c.args.roots.now.limit) before reason after)
      c.from_residual.result c.in_err-make_room.field-0.0 c.from_residual.ensures
      (asked_refused g.S.Store.rules (machine_of c.args.program.now c.args.roots.now.limit) before after c.in_err-make_room.field-0.0 (begun_upon (machine_of c.args.program.now c.args.roots.now.limit) (state_of (view_in (g.S.Store.storage c.args.store.now) c.args.roots.now.roots) g.outside) (view_in (g.S.Store.storage c.args.store.now) c.args.roots.now.roots).roots.frames c.args.class) c.ask_own.new.request
      c.requires.1.1.0 c.ask_own.ensures.asks (λ none. false≢true (sym c.if-is_empty.false ∙ c.is_empty.ensures.1 none)) c.in_err-make_room.ensures.ruled c.make_room.ensures.collected
      (ap (λ (roots : Roots). state_of (record { roots = roots; objects = (g.S.Store.storage c.make_room.new.self).kept }) g.outside) c.make_room.ensures.collected.roots));
  counted = search rules;
  limit = search rules;
  settings = search rules;
}
