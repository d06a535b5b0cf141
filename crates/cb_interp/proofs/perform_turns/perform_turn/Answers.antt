use Rattle.cb_heap.specs.Storage.{view_in}
use Rattle.std.proofs.Common.{◌≡◌, ◌∙◌, ◌<◌, ◌≤◌, ap, refl, subst, sym, true, ℕ, List, Some, length, map, reverse, take}
use Rattle.cb_frames.specs.Tops.{top_stack}
use Rattle.cb_heap.specs.Reading.{read_value}
use Rattle.cb_machine.specs.Machine.{kind_of_site}
use Rattle.cb_machine.specs.Throwing.{throws}
use Rattle.cb_natives.specs.Given.{AreGiven, have_sorts, roles, sorts_of}
use Rattle.cb_natives.specs.Making.{Asks, Throws}
use Rattle.cb_natives.specs.MakingArrays.{AreLaid}
use Rattle.cb_plain.specs.declared.value.Value.{Value}
use Rattle.cb_safety.specs.Throwing.{IsThrown}
use Rattle.cb_act.specs.Turning.{machine_of, state_of}
use Rattle.cb_interp.proofs.NativesAnswered.{enough, few_there, given_there, low_site, sorts_there, standing_size, taken_there, thrown_site}
use Rattle.cb_interp.proofs.NativesMade.{kinds_there, laid_there, throws_so}
use Rattle.cb_interp.proofs.TurnsNeed.{ends_as}
use Rattle.cb_interp.proofs.perform_turns.perform_turn.Goals as goal

pub arguments_on-arguments-requires-clause-few : goal.arguments_on-arguments-requires-clause-few
arguments_on-arguments-requires-clause-few g c =
    subst (λ (count : ℕ). count ≤ 5) (sym c.argument_count-count.ensures)
    (few_there c.args.program.now (g.S.Store.storage c.args.store.now).index (g.S.Store.storage c.args.store.now).kept c.args.roots.now.limit c.args.roots.now.roots g.outside c.args.decoded.now c.requires.1.1.1.0.method
    c.requires.1.1.0 c.requires.1.1.1.0.asked c.args.native c.requires.1.1.1.0.is c.requires.1.0.linked c.requires.1.0.fits c.requires.1.0.typed
    (c.linked_has_natives.ensures c.args.program.now c.requires.1.0.linked c.requires.1.0.fits))

pub arguments_on-arguments-requires-clause-there : goal.arguments_on-arguments-requires-clause-there
arguments_on-arguments-requires-clause-there g c =
    subst (λ (count : ℕ). count ≤ length (top_stack c.args.roots.now.roots)) (sym c.argument_count-count.ensures)
    (enough c.args.program.now (g.S.Store.storage c.args.store.now).index (g.S.Store.storage c.args.store.now).kept c.args.roots.now.limit c.args.roots.now.roots g.outside c.args.decoded.now c.requires.1.1.1.0.method
    c.requires.1.1.0 c.requires.1.1.1.0.asked)

pub slice_bounds-arguments-end : goal.slice_bounds-arguments-end
slice_bounds-arguments-end g c =
    taken_there c.argument_count-count.result c.arguments_on-arguments.result
    (ap (λ (held : List Value). length held) (c.arguments_on-arguments.ensures ∙ ap (λ (count : ℕ). reverse (take count (top_stack c.args.roots.now.roots))) c.argument_count-count.ensures)
    ∙ standing_size c.args.program.now (g.S.Store.storage c.args.store.now).index (g.S.Store.storage c.args.store.now).kept c.args.roots.now.limit c.args.roots.now.roots g.outside c.args.decoded.now c.requires.1.1.1.0.method
    c.requires.1.1.0 c.requires.1.1.1.0.asked ∙ sym c.argument_count-count.ensures)

pub slice_bounds-plan_native-end : goal.slice_bounds-plan_native-end
slice_bounds-plan_native-end g c =
    sym
    (ap (λ (held : List Value). length held) (c.arguments_on-arguments.ensures ∙ ap (λ (count : ℕ). reverse (take count (top_stack c.args.roots.now.roots))) c.argument_count-count.ensures)
    ∙ standing_size c.args.program.now (g.S.Store.storage c.args.store.now).index (g.S.Store.storage c.args.store.now).kept c.args.roots.now.limit c.args.roots.now.roots g.outside c.args.decoded.now c.requires.1.1.1.0.method
    c.requires.1.1.0 c.requires.1.1.1.0.asked ∙ sym c.argument_count-count.ensures)

pub plan_native-requires-clause-sorts : goal.plan_native-requires-clause-sorts
plan_native-requires-clause-sorts g c =
    subst (λ (held : List Value). have_sorts (sorts_of c.args.native) held ≡ true) (sym (c.arguments_on-arguments.ensures ∙ ap (λ (count : ℕ). reverse (take count (top_stack c.args.roots.now.roots))) c.argument_count-count.ensures))
    (sorts_there c.args.program.now (g.S.Store.storage c.args.store.now).index (g.S.Store.storage c.args.store.now).kept c.args.roots.now.limit c.args.roots.now.roots g.outside c.args.decoded.now c.requires.1.1.1.0.method
    c.requires.1.1.0 c.requires.1.1.1.0.asked c.args.native c.requires.1.1.1.0.is c.requires.1.0.linked c.requires.1.0.fits c.requires.1.0.typed
    (c.linked_has_natives.ensures c.args.program.now c.requires.1.0.linked c.requires.1.0.fits))

pub plan_native-requires-clause-given : goal.plan_native-requires-clause-given
plan_native-requires-clause-given g c =
    subst (λ (held : List Value). AreGiven (g.S.Store.storage c.args.store.now).kept (roles c.args.native) (map (read_value (g.S.Store.storage c.args.store.now).index) held)) (sym (c.arguments_on-arguments.ensures ∙ ap (λ (count : ℕ). reverse (take count (top_stack c.args.roots.now.roots))) c.argument_count-count.ensures))
    (given_there c.args.program.now (g.S.Store.storage c.args.store.now).index (g.S.Store.storage c.args.store.now).kept c.args.roots.now.limit c.args.roots.now.roots g.outside c.args.decoded.now c.requires.1.1.1.0.method
    c.requires.1.1.0 c.requires.1.1.1.0.asked c.args.native c.requires.1.1.1.0.is c.requires.1.0.linked c.requires.1.0.fits c.requires.1.0.typed
    (c.linked_has_natives.ensures c.args.program.now c.requires.1.0.linked c.requires.1.0.fits))

pub plan_native-requires-clause-known : goal.plan_native-requires-clause-known
plan_native-requires-clause-known g c =
    (c.linked_makes.ensures.makes c.args.program.now (g.S.Store.storage c.args.store.now).settings.shapes c.requires.1.0.linked c.requires.1.0.fits c.requires.1.0.shaped).sites

pub plan_native-requires-clause-laid : goal.plan_native-requires-clause-laid
plan_native-requires-clause-laid g c =
    subst (λ (held : List Value). AreLaid c.args.program.now (g.S.Store.storage c.args.store.now).kept c.args.native (map (read_value (g.S.Store.storage c.args.store.now).index) held)) (sym (c.arguments_on-arguments.ensures ∙ ap (λ (count : ℕ). reverse (take count (top_stack c.args.roots.now.roots))) c.argument_count-count.ensures))
    (laid_there c.args.program.now (g.S.Store.storage c.args.store.now).index (g.S.Store.storage c.args.store.now).kept c.args.roots.now.limit c.args.roots.now.roots g.outside c.args.decoded.now c.requires.1.1.1.0.method
    c.requires.1.1.0 c.requires.1.1.1.0.asked c.args.native c.requires.1.1.1.0.is c.requires.1.0.linked c.requires.1.0.fits c.requires.1.0.typed
    (c.linked_has_natives.ensures c.args.program.now c.requires.1.0.linked c.requires.1.0.fits) (c.linked_programs.ensures.whole c.args.program.now c.requires.1.0.linked)
    (g.S.Store.storage c.args.store.now).settings.shapes c.requires.1.0.shaped)

pub plan_native-requires-clause-kinds : goal.plan_native-requires-clause-kinds
plan_native-requires-clause-kinds g c = kinds_there c.args.program.now (view_in (g.S.Store.storage c.args.store.now) c.args.roots.now.roots) g.outside c.requires.1.0.typed

pub planned_turn-requires : goal.planned_turn-requires
planned_turn-requires g c = λ κs lives. (
  lives,
  (
    c.requires.1.0,
    (
      c.requires.1.1.0,
      (
        c.requires.1.1.1.0,
        (
          c.requires.1.1.1.1,
          (
            subst (λ (held : List Value). Asks c.args.program.now (view_in (g.S.Store.storage c.args.store.now) c.args.roots.now.roots) c.args.native (map (read_value (g.S.Store.storage c.args.store.now).index) held) c.plan_native.new.request) (c.arguments_on-arguments.ensures ∙ ap (λ (count : ℕ). reverse (take count (top_stack c.args.roots.now.roots))) c.argument_count-count.ensures)
                c.in-Ok.ensures.planned,
            (refl, c.in-Ok.ensures.sites),
          ),
        ),
      ),
    ),
  ),
)

pub throw_of-requires : goal.throw_of-requires
throw_of-requires g c = λ κs lives. (
  lives,
  (
    c.requires.1.0,
    (
      subst (λ (site : ℕ). site < 32) (sym c.site.ensures) (low_site c.in-Err.exception),
      (
        subst (λ (site : ℕ). IsThrown c.args.program.now (kind_of_site c.args.program.now site)) (sym c.site.ensures)
            (thrown_site c.args.program.now (c.linked_has_natives.ensures c.args.program.now c.requires.1.0.linked c.requires.1.0.fits) c.in-Err.exception),
        throws_so c.args.program.now (g.S.Store.storage c.args.store.now).index (g.S.Store.storage c.args.store.now).kept c.args.roots.now.limit c.args.roots.now.roots g.outside c.args.decoded.now c.requires.1.1.1.0.method
            c.requires.1.1.0 c.requires.1.1.1.0.asked c.args.native c.requires.1.1.1.0.is c.in-Err.exception
            (subst (λ (held : List Value). Throws c.args.program.now (view_in (g.S.Store.storage c.args.store.now) c.args.roots.now.roots) c.args.native (map (read_value (g.S.Store.storage c.args.store.now).index) held) c.in-Err.exception) (c.arguments_on-arguments.ensures ∙ ap (λ (count : ℕ). reverse (take count (top_stack c.args.roots.now.roots))) c.argument_count-count.ensures)
            c.in-Err.ensures.planned)
            ∙ ap (λ (site : ℕ). Some (throws (machine_of c.args.program.now c.args.roots.now.limit) (state_of (view_in (g.S.Store.storage c.args.store.now) c.args.roots.now.roots) g.outside) site)) (sym c.site.ensures),
      ),
    ),
  ),
)

pub returns-in-Ok : goal.returns-in-Ok
returns-in-Ok g c = ends_as c.planned_turn.result c.stopped.result c.stopped.ensures c.planned_turn.ensures
