use Rattle.cb_heap.proofs.Laws.{same_shapes, same_allows}
use Rattle.cb_heap.specs.Storage.{view_in}
use Rattle.std.proofs.Common.{◌≡◌, ◌∙◌, ◌≤◌, ◌<◌, ◌∷◌, [], ap, arith, rules, sym, subst, ℕ, IsTrue, List, Ok, length}
use Rattle.std.specs.List.{AllByRecursion}
use Rattle.cb_heap.specs.Closed.{IsClosed}
use Rattle.cb_heap.specs.Follows.{Follows}
use Rattle.cb_heap.specs.Reading.{read_roots, seen}
use Rattle.cb_heap.specs.Shaped.{has_size}
use Rattle.cb_heap.specs.Store.{IsFault}
use Rattle.cb_heap.specs.declared.no_room.NoRoom.{NoRoom}
use Rattle.cb_io.specs.Faults.{CountsFaults}
use Rattle.cb_library.specs.declared.native.Native.TheVariants as natives
use Rattle.cb_link.specs.Having.{site_kinds}
use Rattle.cb_link.specs.Named.{IsThere}
use Rattle.cb_link.specs.declared.decoded.Decoded.{Decoded}
use Rattle.cb_machine.specs.Machine.{kind_of_site, or_zero}
use Rattle.cb_natives.specs.ArrayRanges.{copied_by}
use Rattle.cb_natives.specs.Exceptions.{site_of}
use Rattle.cb_plain.specs.Requests.{add_want, words_at}
use Rattle.cb_plain.specs.State.{words_of}
use Rattle.cb_plain.specs.declared.want.Want.{Want}
use Rattle.cb_safety.proofs.Laws.{typed_states_are_closed}
use Rattle.cb_act.specs.Placing.{exception_size, thrown}
use Rattle.cb_act.specs.Turning.{TurnMade, TurnRefused, machine_of, moment_in, moment_of, state_of}
use Rattle.std.specs.Prelude.{OnOk}
use Rattle.std.specs.declared.result.Result.{Result}
use Rattle.cb_interp.proofs.TurnsStarting.{handed_same}
use Rattle.cb_interp.proofs.NativesAnswered.{few_there, low_site, thrown_site}
use Rattle.cb_interp.proofs.NativesCopied.{failed_follows, failed_so, granted_one, refuses_so, some_wanted}
use Rattle.cb_interp.proofs.NativesMade.{enough_still, kinds_there, laid_still, sorts_still, typed_still}
use Rattle.cb_interp.proofs.TurnsMaking.{handed_on}
use Rattle.cb_interp.proofs.TurnsThrown.{exception_want}
use Rattle.cb_interp.proofs.copy_turns.failing_copy.Goals as goal

pub room_for-requires : goal.room_for-requires
room_for-requires g c κs within =
    let wants = (c.add.ensures ∙ ap (λ wants. add_want wants (record { site = c.site-site.result; words = 6 })) c.clear.ensures ∙ ap (λ (site : ℕ). exception_want site ∷ []) c.site-site.ensures) in
    let own = (c.linked_programs_fit.ensures.placed c.args.program.now (g.S.Store.storage c.args.store.now).settings.shapes c.requires.1.0.linked c.requires.1.0.fits c.requires.1.0.shaped (site_of c.args.exception) (low_site c.args.exception) (thrown_site c.args.program.now (c.linked_has_natives.ensures c.args.program.now c.requires.1.0.linked c.requires.1.0.fits) c.args.exception)) in (
      search rules,
      (
        typed_states_are_closed c.args.program.now (state_of (view_in (g.S.Store.storage c.args.store.now) c.args.roots.now.roots) g.outside) c.requires.1.0.typed,
        (
          subst (AllByRecursion (λ (want : Want). IsTrue ((g.S.Store.storage c.args.store.now).settings.knows want.site))) (sym wants) (c.requires.1.0.sites (site_of c.args.exception) own.there, tt),
          (c.requires.1.0.few, subst (AllByRecursion (λ (want : Want). 3 ≤ want.words)) (sym wants) (omega arith, tt)),
        ),
      ),
    )

pub returns-in_err-room_for : goal.returns-in_err-room_for
returns-in_err-room_for g c = record {
  made = subst (λ (result : Result (Unit {0}) NoRoom). OnOk result (TurnMade g.S.Store.rules (machine_of c.args.program.now c.args.roots.now.limit) (moment_in (g.S.Store.storage c.args.store.now) c.args.roots.now.roots g.outside) (moment_in (g.S.Store.storage c.room_for.new.store) c.room_for.new.roots.roots g.outside)))
      (sym (handed_same c.from_residual.result c.in_err-room_for.field-0.0 c.from_residual.ensures)) tt;
  refused = let before = (view_in (g.S.Store.storage c.args.store.now) c.args.roots.now.roots) in
      let after = (view_in (g.S.Store.storage c.room_for.new.store) c.room_for.new.roots.roots) in
      handed_on (λ (reason : NoRoom). TurnRefused g.S.Store.rules (machine_of c.args.program.now c.args.roots.now.limit) (moment_of before g.outside (g.S.Store.storage c.args.store.now).facts) reason
      (moment_of after g.outside (g.S.Store.storage c.room_for.new.store).facts)) c.from_residual.result c.in_err-room_for.field-0.0 c.from_residual.ensures
      (refuses_so c.args.program.now (g.S.Store.storage c.args.store.now).index (g.S.Store.storage c.args.store.now).kept c.args.roots.now.limit c.args.roots.now.roots g.outside c.args.decoded.now c.requires.1.1.1.0.method
      c.requires.1.1.0 c.requires.1.1.1.0.asked c.requires.1.1.1.0.is c.args.exception c.requires.1.1.1.1 g.S.Store.rules (g.S.Store.storage c.args.store.now).facts (g.S.Store.storage c.room_for.new.store).facts after c.add.new.self c.in_err-room_for.field-0.0
      (c.add.ensures ∙ ap (λ wants. add_want wants (record { site = c.site-site.result; words = 6 })) c.clear.ensures ∙ ap (λ (site : ℕ). exception_want site ∷ []) c.site-site.ensures) c.in_err-room_for.ensures.refused);
  counted = subst (λ (result : Result (Unit {0}) NoRoom). CountsFaults (g.S.Store.storage c.args.store.now).faults (g.S.Store.storage c.room_for.new.store).faults (IsFault result))
      (sym (handed_same c.from_residual.result c.in_err-room_for.field-0.0 c.from_residual.ensures)) c.in_err-room_for.ensures.counted;
  limit = search rules;
  settings = search rules;
}

pub plan_here-plan-requires-clause-parameters : goal.plan_here-plan-requires-clause-parameters
plan_here-plan-requires-clause-parameters g c = c.linked_programs_fit.ensures.few c.args.program.now c.requires.1.0.linked

pub plan_here-plan-requires-clause-named : goal.plan_here-plan-requires-clause-named
plan_here-plan-requires-clause-named g c =
    subst (λ (decoded : Decoded). IsThere c.args.program.now decoded.named) (sym c.requires.1.1.0.is)
    (c.linked_constants.ensures.there c.args.program.now c.requires.1.0.linked c.requires.1.1.0.frame.method c.requires.1.1.0.frame.pc)

pub plan_here-plan-requires-clause-few : goal.plan_here-plan-requires-clause-few
plan_here-plan-requires-clause-few g c =
    few_there c.args.program.now (g.S.Store.storage c.args.store.now).index (g.S.Store.storage c.args.store.now).kept c.args.roots.now.limit c.args.roots.now.roots g.outside c.args.decoded.now c.requires.1.1.1.0.method
    c.requires.1.1.0 c.requires.1.1.1.0.asked natives.SystemArraycopy c.requires.1.1.1.0.is c.requires.1.0.linked c.requires.1.0.fits c.requires.1.0.typed (c.linked_has_natives.ensures c.args.program.now c.requires.1.0.linked c.requires.1.0.fits)

pub plan_here-plan-requires-clause-there : goal.plan_here-plan-requires-clause-there
plan_here-plan-requires-clause-there g c =
    enough_still c.args.program.now (g.S.Store.storage c.args.store.now).index (g.S.Store.storage c.args.store.now).kept c.args.roots.now.limit c.args.roots.now.roots g.outside c.args.decoded.now c.requires.1.1.1.0.method
    c.requires.1.1.0 c.requires.1.1.1.0.asked natives.SystemArraycopy c.requires.1.1.1.0.is
    (g.S.Store.storage c.room_for.new.store).index (g.S.Store.storage c.room_for.new.store).kept c.room_for.new.roots.roots c.in_ok-room_for.ensures.collected

pub plan_here-plan-requires-clause-sorts : goal.plan_here-plan-requires-clause-sorts
plan_here-plan-requires-clause-sorts g c =
    sorts_still c.args.program.now (g.S.Store.storage c.args.store.now).index (g.S.Store.storage c.args.store.now).kept c.args.roots.now.limit c.args.roots.now.roots g.outside c.args.decoded.now c.requires.1.1.1.0.method
    c.requires.1.1.0 c.requires.1.1.1.0.asked natives.SystemArraycopy c.requires.1.1.1.0.is
    (g.S.Store.storage c.room_for.new.store).index (g.S.Store.storage c.room_for.new.store).kept c.room_for.new.roots.roots c.in_ok-room_for.ensures.collected c.requires.1.0.linked c.requires.1.0.fits c.requires.1.0.typed (c.linked_has_natives.ensures c.args.program.now c.requires.1.0.linked c.requires.1.0.fits)

pub plan_here-plan-requires-clause-laid : goal.plan_here-plan-requires-clause-laid
plan_here-plan-requires-clause-laid g c =
    laid_still c.args.program.now (g.S.Store.storage c.args.store.now).index (g.S.Store.storage c.args.store.now).kept c.args.roots.now.limit c.args.roots.now.roots g.outside c.args.decoded.now c.requires.1.1.1.0.method
    c.requires.1.1.0 c.requires.1.1.1.0.asked natives.SystemArraycopy c.requires.1.1.1.0.is
    (g.S.Store.storage c.room_for.new.store).index (g.S.Store.storage c.room_for.new.store).kept c.room_for.new.roots.roots c.in_ok-room_for.ensures.collected c.requires.1.0.linked c.requires.1.0.fits c.requires.1.0.typed (c.linked_has_natives.ensures c.args.program.now c.requires.1.0.linked c.requires.1.0.fits)
    (c.linked_programs.ensures.whole c.args.program.now c.requires.1.0.linked) (g.S.Store.storage c.args.store.now).settings.shapes c.requires.1.0.shaped

pub plan_here-plan-requires-clause-kinds : goal.plan_here-plan-requires-clause-kinds
plan_here-plan-requires-clause-kinds g c =
    kinds_there c.args.program.now (view_in (g.S.Store.storage c.room_for.new.store) c.room_for.new.roots.roots) g.outside
    (typed_still c.args.program.now (g.S.Store.storage c.args.store.now).index (g.S.Store.storage c.args.store.now).kept c.args.roots.now.limit c.args.roots.now.roots g.outside c.args.decoded.now c.requires.1.1.1.0.method
    c.requires.1.1.0 c.requires.1.1.1.0.asked natives.SystemArraycopy c.requires.1.1.1.0.is
    (g.S.Store.storage c.room_for.new.store).index (g.S.Store.storage c.room_for.new.store).kept c.room_for.new.roots.roots c.in_ok-room_for.ensures.collected c.requires.1.0.typed)

pub copy_planned-requires-clause-follows : goal.copy_planned-requires-clause-follows
copy_planned-requires-clause-follows g c =
    subst (λ allows. Follows allows (copied_by (g.S.Store.storage c.room_for.new.store).kept (g.S.Store.storage c.room_for.new.store).index c.plan_here-plan.result.ranges)) (sym (same_allows c.room_for.ensures.settings))
    (failed_follows c.args.program.now (g.S.Store.storage c.args.store.now).index (g.S.Store.storage c.args.store.now).kept c.args.roots.now.limit c.args.roots.now.roots g.outside c.args.decoded.now c.requires.1.1.1.0.method
    c.requires.1.1.0 c.requires.1.1.1.0.asked c.requires.1.1.1.0.is c.args.exception c.requires.1.1.1.1 (g.S.Store.storage c.room_for.new.store).index (g.S.Store.storage c.room_for.new.store).kept c.room_for.new.roots.roots c.in_ok-room_for.ensures.collected c.plan_here-plan.result c.plan_here-plan.ensures
    g.S.Store.rules (g.S.Store.storage c.args.store.now).facts (g.S.Store.storage c.room_for.new.store).facts (g.S.Store.storage c.args.store.now).settings.allows c.requires.1.0.follows)

pub site_kind-requires : goal.site_kind-requires
site_kind-requires g c =
    let own = (c.linked_programs_fit.ensures.placed c.args.program.now (g.S.Store.storage c.args.store.now).settings.shapes c.requires.1.0.linked c.requires.1.0.fits c.requires.1.0.shaped (site_of c.args.exception) (low_site c.args.exception) (thrown_site c.args.program.now (c.linked_has_natives.ensures c.args.program.now c.requires.1.0.linked c.requires.1.0.fits) c.args.exception)) in
    subst (λ (site : ℕ). site < length (site_kinds c.args.program.now)) (sym c.site-site.ensures) own.there

pub throw-requires-clause-granted : goal.throw-requires-clause-granted
throw-requires-clause-granted g c =
    let site = site_of c.args.exception in
    let wants = (c.add.ensures ∙ ap (λ wants. add_want wants (record { site = c.site-site.result; words = 6 })) c.clear.ensures ∙ ap (λ (site : ℕ). exception_want site ∷ []) c.site-site.ensures) in
    let room = c.in_ok-room_for.ensures.room (some_wanted site c.add.new.self wants) in
    subst (λ (room : List Want). words_of exception_size ≤ words_at room c.site-site.result) (sym (c.copy_planned.ensures.granted ∙ room.granted ∙ wants))
    (subst (λ (own : ℕ). words_of exception_size ≤ words_at (exception_want site ∷ []) own) (sym c.site-site.ensures) (granted_one site))

pub throw-requires-clause-sized : goal.throw-requires-clause-sized
throw-requires-clause-sized g c =
    let own = (c.linked_programs_fit.ensures.placed c.args.program.now (g.S.Store.storage c.args.store.now).settings.shapes c.requires.1.0.linked c.requires.1.0.fits c.requires.1.0.shaped (site_of c.args.exception) (low_site c.args.exception) (thrown_site c.args.program.now (c.linked_has_natives.ensures c.args.program.now c.requires.1.0.linked c.requires.1.0.fits) c.args.exception)) in
    let kind : kind_of_site c.args.program.now (site_of c.args.exception) ≡ c.site_kind.result = ap (kind_of_site c.args.program.now) (sym c.site-site.ensures) ∙ ap or_zero c.site_kind.ensures.kind in
    ap (λ shapes. has_size shapes c.site_kind.result exception_size) ((same_shapes c.copy_planned.ensures.settings) ∙ (same_shapes c.room_for.ensures.settings))
    ∙ ap (λ (kind : ℕ). has_size (g.S.Store.storage c.args.store.now).settings.shapes kind exception_size) (sym kind) ∙ own.placed.sized

pub throw-requires-clause-closed : goal.throw-requires-clause-closed
throw-requires-clause-closed g c =
    subst (λ index. IsClosed (seen index (g.S.Store.storage c.copy_planned.new.store).kept c.room_for.new.roots.roots)) (sym c.copy_planned.ensures.places)
    (c.copy_planned.ensures.closed (read_roots (g.S.Store.storage c.room_for.new.store).index c.room_for.new.roots.roots) c.in_ok-room_for.ensures.collected.closed)

pub throw-requires-clause-serials : goal.throw-requires-clause-serials
throw-requires-clause-serials g c =
    let serials = (c.in_ok-room_for.ensures.room (some_wanted (site_of c.args.exception) c.add.new.self (c.add.ensures ∙ ap (λ wants. add_want wants (record { site = c.site-site.result; words = 6 })) c.clear.ensures ∙ ap (λ (site : ℕ). exception_want site ∷ []) c.site-site.ensures))).serials in
    omega (arith, serials, c.copy_planned.ensures.count)

pub returns : goal.returns
returns g c = record {
  made = let own = (c.linked_programs_fit.ensures.placed c.args.program.now (g.S.Store.storage c.args.store.now).settings.shapes c.requires.1.0.linked c.requires.1.0.fits c.requires.1.0.shaped (site_of c.args.exception) (low_site c.args.exception) (thrown_site c.args.program.now (c.linked_has_natives.ensures c.args.program.now c.requires.1.0.linked c.requires.1.0.fits) c.args.exception)) in
      let program = c.args.program.now in
      let site = site_of c.args.exception in
      let shapes = (same_shapes c.copy_planned.ensures.settings) ∙ (same_shapes c.room_for.ensures.settings) in
      let kind : kind_of_site program site ≡ c.site_kind.result = ap (kind_of_site program) (sym c.site-site.ensures) ∙ ap or_zero c.site_kind.ensures.kind in
      failed_so c.args.program.now (g.S.Store.storage c.args.store.now).index (g.S.Store.storage c.args.store.now).kept c.args.roots.now.limit c.args.roots.now.roots g.outside c.args.decoded.now c.requires.1.1.1.0.method
      c.requires.1.1.0 c.requires.1.1.1.0.asked c.requires.1.1.1.0.is c.args.exception c.requires.1.1.1.1 (g.S.Store.storage c.room_for.new.store).index (g.S.Store.storage c.room_for.new.store).kept c.room_for.new.roots.roots c.in_ok-room_for.ensures.collected c.plan_here-plan.result c.plan_here-plan.ensures
      g.S.Store.rules (g.S.Store.storage c.args.store.now).facts (g.S.Store.storage c.room_for.new.store).facts (g.S.Store.storage c.throw.new.store).facts
      (view_in (g.S.Store.storage c.throw.new.store) c.throw.new.roots.roots) (g.S.Store.storage c.args.store.now).settings.shapes c.add.new.self
      (c.add.ensures ∙ ap (λ wants. add_want wants (record { site = c.site-site.result; words = 6 })) c.clear.ensures ∙ ap (λ (site : ℕ). exception_want site ∷ []) c.site-site.ensures) own.placed.shaped c.in_ok-room_for.ensures.made
      (c.throw.ensures.behind
      ∙ ap (λ shapes. thrown shapes c.site-site.result c.site_kind.result (view_in (g.S.Store.storage c.copy_planned.new.store) c.room_for.new.roots.roots)) shapes
      ∙ ap (λ (kind : ℕ). thrown (g.S.Store.storage c.args.store.now).settings.shapes c.site-site.result kind (view_in (g.S.Store.storage c.copy_planned.new.store) c.room_for.new.roots.roots)) (sym kind)
      ∙ ap (λ (site : ℕ). thrown (g.S.Store.storage c.args.store.now).settings.shapes site (kind_of_site program (site_of c.args.exception)) (view_in (g.S.Store.storage c.copy_planned.new.store) c.room_for.new.roots.roots)) c.site-site.ensures
      ∙ ap (λ index. thrown (g.S.Store.storage c.args.store.now).settings.shapes site (kind_of_site program site) (seen index (g.S.Store.storage c.copy_planned.new.store).kept c.room_for.new.roots.roots)) c.copy_planned.ensures.places
      ∙ ap (λ kept. thrown (g.S.Store.storage c.args.store.now).settings.shapes site (kind_of_site program site) (seen (g.S.Store.storage c.room_for.new.store).index kept c.room_for.new.roots.roots)) c.copy_planned.ensures.kept)
      (c.throw.ensures.facts ∙ ap (λ facts. g.S.Store.rules.placed facts c.site-site.result exception_size) c.copy_planned.ensures.facts
      ∙ ap (λ (site : ℕ). g.S.Store.rules.placed (g.S.Store.storage c.room_for.new.store).facts site exception_size) c.site-site.ensures);
  refused = search rules;
  counted = subst (λ (count : ℕ). CountsFaults (g.S.Store.storage c.args.store.now).faults count (IsFault (Ok tt))) (sym (c.throw.ensures.faults ∙ c.copy_planned.ensures.faults)) c.in_ok-room_for.ensures.counted;
  limit = search rules;
  settings = search rules;
}
